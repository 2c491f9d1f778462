-- What becomes of arrays of links that are rings, as the code writes them.
use Rattle.std.proofs.Common.{◌≡◌, ◌≢◌, ℕ, ◌+◌, ◌<◌, ◌≤◌, List, [], ◌∷◌, ◌++◌, length, true, false, Some, None}
use Rattle.std.proofs.Common.{replicate, refl, ◌∙◌, sym, subst, arith, ap, Bool, not, nat_eq}
use Rattle.std.specs.Prelude.{slice_set}
use Rattle.std.proofs.Math.ListN.{length-set}
use Rattle.std.proofs.lemmas.List.{get_or-set_same, get_or-set_other, length-map, length-replicate, get_or-replicate}
use Rattle.fmp_base.specs.Links.{link_at}
use Rattle.std.specs.List.{range_with_len}
use Rattle.std.proofs.lemmas.List.FromFn.{length-range_with_len, get_or-range_with_len}
use Rattle.fmp_ring.specs.Chains.{Chain, AreChains, walks, lists_of, AreRings, AreMarked}
use Rattle.fmp_ring.specs.Orders.{IsOrder}
use Rattle.fmp_ring.specs.RingLists.{RingLists, is_in, is_linked, list_at, with_before, without_node, inserted_before}
use Rattle.fmp_ring.specs.RingLists.{behind, behind_first, follower}
use Rattle.fmp_base.specs.Queues.{first_of}
use Rattle.fmp_base.specs.States.{without}
use Rattle.fmp_ring.proofs.ChainLemmas.{Meets, Chain-before, Chain-last, Chain-end, Chain-behind, Chain-some}
use Rattle.fmp_ring.proofs.ChainLemmas.{Chain-none}
use Rattle.fmp_ring.proofs.ChangeLemmas.{IsUnlinked, IsLinkedIn}
use Rattle.fmp_ring.specs.OrderLaws.{nat_same, nat_apart}
use Rattle.fmp_ring.specs.WalkLaws.{without-absent}
use Rattle.fmp_ring.proofs.ListLemmas.{inserted-absent}
use Rattle.fmp_ring.proofs.RingLemmas.{AreChains-walks, length-walks, AreChains-node, AreChains-meets}
use Rattle.fmp_ring.proofs.RingLemmas.{AreChains-without, AreChains-before, AreChains-pushed, AreChains-one}
use Rattle.fmp_ring.proofs.RingLemmas.{AreChains-popped, AreChains-order, AreChains-moves, AreMarked-without}
use Rattle.fmp_ring.proofs.RingLemmas.{AreMarked-before, AreMarked-pushed}
use Rattle.fmp_ring.specs.LinkedLaws.{is_linked-none, is_linked-some, head-there}

-- rows that are rings for some lists stand for these
pub AreRings-from_chains : (n heads : ℕ) (next previous : List ℕ) (lists : List (List ℕ)) → length next ≡ n + heads
    → length previous ≡ n + heads → length lists ≡ heads → AreChains n (link_at next) (link_at previous) lists
    → AreMarked n (link_at next) lists → (lists_of n heads next ≡ lists) × AreRings n heads next previous
unfolding lists_of
AreRings-from_chains n heads next previous lists rows rows_back count chains marked =
    let found : walks (link_at next) n n (length lists) ≡ lists = AreChains-walks n (link_at next)
    (link_at previous) lists chains in
    let e : walks (link_at next) n n heads ≡ lists = rw count at found in
    (e, record { next_count = rows; previous_count = rows_back; chains = rw e chains; marked = rw e marked })

pub length-lists_of : (n heads : ℕ) (next : List ℕ) → length (lists_of n heads next) ≡ heads
unfolding lists_of
length-lists_of n heads next = length-walks (link_at next) n n heads

-- a place with its links
pub AreRings-meets : (n heads : ℕ) (next previous : List ℕ) (x : ℕ) → AreRings n heads next previous
    → is_linked x (lists_of n heads next) ≡ true
    → Meets (n + heads) (link_at next) (link_at previous) x
AreRings-meets n heads next previous x r there =
    subst (λ (m : ℕ). Meets (n + m) (link_at next) (link_at previous) x) (length-lists_of n heads next)
    (AreChains-meets n (link_at next) (link_at previous) (lists_of n heads next) x r.chains there)

pub AreRings-node : (n heads : ℕ) (next previous : List ℕ) (x : ℕ) → AreRings n heads next previous
    → is_linked x (lists_of n heads next) ≡ true → x < n
AreRings-node n heads next previous x r there = AreChains-node n (link_at next) (link_at previous)
    (lists_of n heads next) x r.chains there

link-set : (row : List ℕ) (p q link : ℕ) → p < length row → q ≡ p → link_at (slice_set row p link) q ≡ link
link-set row p q link low e = subst (λ (i : ℕ). link_at (slice_set row p link) i ≡ link) (sym e)
    (get_or-set_same row p link 0 low)

link-else : (row : List ℕ) (p q link : ℕ) → q ≢ p → link_at (slice_set row p link) q ≡ link_at row q
link-else row p q link e = get_or-set_other row p q link 0 e

-- the places beside x are linked, and x to itself
pub unlinked-rows : (m : ℕ) (next previous : List ℕ) (x : ℕ) → length next ≡ m → length previous ≡ m → x < m
    → link_at next x ≢ x
    → Meets m (link_at next) (link_at previous) x
    → IsUnlinked (link_at next) (link_at previous) (link_at (slice_set (slice_set next x x) (link_at previous x)
    (link_at next x)))
    (link_at (slice_set previous (link_at next x) (link_at previous x))) x
unlinked-rows m next previous x e f low_x moves k =
    let low : link_at previous x < m = k.before in
    let low_after : link_at next x < m = k.after in
    let e2 : length (slice_set next x x) ≡ m = length-set next x x ∙ e in
    let low_row : link_at previous x < length (slice_set next x x) = omega arith in
    let low_next : x < length next = omega arith in
    let low_previous : link_at next x < length previous = omega arith in
    record {
      forward = k.forward;
      back = k.back;
      next_there = link-set (slice_set next x x) (link_at previous x) (link_at previous x)
          (link_at next x) low_row refl;
      previous_there = link-set previous (link_at next x) (link_at next x) (link_at previous x) low_previous refl;
      marked = link-else (slice_set next x x) (link_at previous x) x (link_at next x)
          (λ r. moves (ap (link_at next) r ∙ k.forward)) ∙ link-set next x x x low_next refl;
      next_else = λ q r s. link-else (slice_set next x x) (link_at previous x) q (link_at next x) r
          ∙ link-else next x q x s;
      previous_else = λ q r. link-else previous (link_at next x) q (link_at previous x) r;
    }

-- x is linked in before b
pub linked_in-rows : (m : ℕ) (next previous : List ℕ) (x b : ℕ) → length next ≡ m → length previous ≡ m → x < m
    → b < m → link_at previous b < m
    → link_at next (link_at previous b) ≡ b → x ≢ b → link_at previous b ≢ x
    → IsLinkedIn (link_at next) (link_at previous) (link_at (slice_set (slice_set next (link_at previous b) x) x b))
    (link_at (slice_set (slice_set previous x (link_at previous b)) b x)) x b
linked_in-rows m next previous x b e f low lowb lowa forward xb ax =
    let a = link_at previous b in
    let e2 : length (slice_set next a x) ≡ m = length-set next a x ∙ e in
    let f2 : length (slice_set previous x a) ≡ m = length-set previous x a ∙ f in
    let low1 : x < length (slice_set next a x) = omega arith in
    let low2 : b < length (slice_set previous x a) = omega arith in
    let low3 : a < length next = omega arith in
    let low4 : x < length previous = omega arith in
    record {
      forward = forward;
      next_before = link-else (slice_set next a x) x a b ax ∙ link-set next a a x low3 refl;
      next_here = link-set (slice_set next a x) x x b low1 refl;
      previous_here = link-else (slice_set previous x a) b x x xb ∙ link-set previous x x a low4 refl;
      previous_behind = link-set (slice_set previous x a) b b x low2 refl;
      next_else = λ q r s. link-else (slice_set next a x) x q b s ∙ link-else next a q x r;
      previous_else = λ q r s. link-else (slice_set previous x a) b q x r ∙ link-else previous x q a s;
    }

-- the rows after x is taken out
pub AreRings-without : (n heads : ℕ) (next previous : List ℕ) (x : ℕ) → AreRings n heads next previous
    → is_linked x (lists_of n heads next) ≡ true
    → (lists_of n heads (slice_set (slice_set next x x) (link_at previous x) (link_at next x))
    ≡ without_node x (lists_of n heads next))
    × AreRings n heads (slice_set (slice_set next x x) (link_at previous x) (link_at next x))
    (slice_set previous (link_at next x) (link_at previous x))
AreRings-without n heads next previous x r there =
    let k = AreRings-meets n heads next previous x r there in
    let low = AreRings-node n heads next previous x r there in
    let moves = AreChains-moves n (link_at next) (link_at previous) (lists_of n heads next) x r.chains there in
    let u = unlinked-rows (n + heads) next previous x r.next_count r.previous_count (omega arith) moves k in
    AreRings-from_chains n heads (slice_set (slice_set next x x) (link_at previous x) (link_at next x))
    (slice_set previous (link_at next x) (link_at previous x))
    (without_node x (lists_of n heads next)) (length-set (slice_set next x x) (link_at previous x) (link_at next x)
    ∙ (length-set next x x ∙ r.next_count))
    (length-set previous (link_at next x) (link_at previous x) ∙ r.previous_count)
    (length-map (lists_of n heads next) (λ q. without q x) ∙ length-lists_of n heads next)
    (AreChains-without n (link_at next) (link_at previous) _ _ (lists_of n heads next) x r.chains low u)
    (AreMarked-without n (link_at next) (link_at previous) _ _ (lists_of n heads next) x r.marked moves u)

-- the place before one that stands in a list is another than x, which stands in none
before-apart : (n heads : ℕ) (next previous : List ℕ) (x b : ℕ) → AreRings n heads next previous → x < n
    → is_linked x (lists_of n heads next) ≡ false
    → is_linked b (lists_of n heads next) ≡ true → link_at previous b ≢ x
before-apart n heads next previous x b r low free there =
    let s = is_linked-some b (lists_of n heads next) there in
    let apart : n + s.0 ≢ x = omega arith in
    Chain-before n (link_at next) (link_at previous) x b (n + s.0) (list_at (lists_of n heads next) s.0) (n + s.0) apart
    (is_linked-none x (lists_of n heads next) free s.0) s.2 (r.chains.each s.0 s.1)

nodes-apart : (x b : ℕ) (lists : List (List ℕ)) → is_linked x lists ≡ false → is_linked b lists ≡ true → x ≢ b
nodes-apart x b lists free there e = let k : is_linked b lists
    ≡ false = subst (λ (q : ℕ). is_linked q lists ≡ false) e free in cc

-- the rows after x is put before b
pub AreRings-before : (n heads : ℕ) (next previous : List ℕ) (x b : ℕ) → AreRings n heads next previous → x < n
    → is_linked x (lists_of n heads next) ≡ false → is_linked b (lists_of n heads next) ≡ true
    → (lists_of n heads (slice_set (slice_set next (link_at previous b) x) x b)
    ≡ with_before b x (lists_of n heads next))
    × AreRings n heads (slice_set (slice_set next (link_at previous b) x) x b)
    (slice_set (slice_set previous x (link_at previous b)) b x)
AreRings-before n heads next previous x b r low free there =
    let k = AreRings-meets n heads next previous b r there in
    let lowb = AreRings-node n heads next previous b r there in
    let a = link_at previous b in
    let u = linked_in-rows (n + heads) next previous x b r.next_count r.previous_count (omega arith)
    (omega arith) k.before k.forward
    (nodes-apart x b (lists_of n heads next) free there) (before-apart n heads next previous x b r low free there) in
    AreRings-from_chains n heads (slice_set (slice_set next a x) x b) (slice_set (slice_set previous x a) b x)
    (with_before b x (lists_of n heads next))
    (length-set (slice_set next a x) x b ∙ (length-set next a x ∙ r.next_count))
    (length-set (slice_set previous x a) b x ∙ (length-set previous x a ∙ r.previous_count))
    (length-map (lists_of n heads next) (inserted_before b x) ∙ length-lists_of n heads next)
    (AreChains-before n (link_at next) (link_at previous) _ _ (lists_of n heads next) x b r.chains low lowb free u)
    (AreMarked-before n (link_at next) (link_at previous) _ _ (lists_of n heads next) x b r.marked there u)

-- the last place of a ring
pub AreRings-end : (n heads : ℕ) (next previous : List ℕ) (h : ℕ) → AreRings n heads next previous → h < heads
    → (link_at next (link_at previous (n + h)) ≡ n + h) × (link_at previous (n + h) < n + heads)
AreRings-end n heads next previous h r low =
    let l : h < length (lists_of n heads next) = rw (length-lists_of n heads next) low in
    Chain-end n (link_at next) (link_at previous) (n + heads) (n + h) (list_at (lists_of n heads next) h) (n + h)
    (omega arith) (omega arith) (r.chains.each h l)

-- the rows after x is put last
pub AreRings-pushed : (n heads : ℕ) (next previous : List ℕ) (h x : ℕ) → AreRings n heads next previous → x < n
    → h < heads
    → is_linked x (lists_of n heads next) ≡ false
    → (lists_of n heads (slice_set (slice_set next (link_at previous (n + h)) x) x (n + h))
    ≡ slice_set (lists_of n heads next) h (list_at (lists_of n heads next) h ++ x ∷ []))
    × AreRings n heads (slice_set (slice_set next (link_at previous (n + h)) x) x (n + h))
    (slice_set (slice_set previous x (link_at previous (n + h))) (n + h) x)
AreRings-pushed n heads next previous h x r low lowh free =
    let l : h < length (lists_of n heads next) = rw (length-lists_of n heads next) lowh in
    let k = AreRings-end n heads next previous h r lowh in
    let b = n + h in
    let a = link_at previous (n + h) in
    let apart : n + h ≢ x = omega arith in
    let apart_back : x ≢ n + h = omega arith in
    let last = Chain-last n (link_at next) (link_at previous) x (n + h) (list_at (lists_of n heads next) h)
    (n + h) apart (is_linked-none x (lists_of n heads next) free h) (r.chains.each h l) in
    let u = linked_in-rows (n + heads) next previous x (n + h) r.next_count r.previous_count (omega arith)
    (omega arith) k.1 k.0 apart_back last in
    AreRings-from_chains n heads (slice_set (slice_set next a x) x b) (slice_set (slice_set previous x a) b x)
    (slice_set (lists_of n heads next) h (list_at (lists_of n heads next) h ++ x ∷ []))
    (length-set (slice_set next a x) x b ∙ (length-set next a x ∙ r.next_count))
    (length-set (slice_set previous x a) b x ∙ (length-set previous x a ∙ r.previous_count))
    (length-set (lists_of n heads next) h (list_at (lists_of n heads next) h ++ x ∷ []) ∙ length-lists_of n heads next)
    (AreChains-pushed n (link_at next) (link_at previous) _ _ (lists_of n heads next) h x r.chains low l free u)
    (AreMarked-pushed n (link_at next) (link_at previous) _ _ (lists_of n heads next) h x r.marked l u)

-- lists of n nodes
abbrev pub lists_for : ℕ → List (List ℕ) → RingLists
lists_for n lists = record { nodes = n; lists = lists }

-- what the link of a head leads to
pub AreRings-some : (n heads : ℕ) (next previous : List ℕ) (h : ℕ) → AreRings n heads next previous → h < heads
    → link_at next (n + h) < n → Some (link_at next (n + h)) ≡ first_of (list_at (lists_of n heads next) h)
AreRings-some n heads next previous h r low k =
    let l : h < length (lists_of n heads next) = rw (length-lists_of n heads next) low in
    Chain-some n (link_at next) (link_at previous) (n + h) (list_at (lists_of n heads next) h) (n + h) (omega arith)
    (r.chains.each h l) k

pub AreRings-none : (n heads : ℕ) (next previous : List ℕ) (h : ℕ) → AreRings n heads next previous → h < heads
    → n ≤ link_at next (n + h) → None ≡ first_of (list_at (lists_of n heads next) h)
AreRings-none n heads next previous h r low k =
    let l : h < length (lists_of n heads next) = rw (length-lists_of n heads next) low in
    Chain-none n (link_at next) (link_at previous) (n + h) (list_at (lists_of n heads next) h) (n + h)
    (r.chains.each h l) k

-- what the link of a node leads to
pub AreRings-follower : (n heads : ℕ) (next previous : List ℕ) (x h : ℕ) → AreRings n heads next previous
    → is_in x (list_at (lists_of n heads next) h) ≡ true → link_at next x < n → Some (link_at next x)
    ≡ follower x (list_at (lists_of n heads next) h)
AreRings-follower n heads next previous x h r there k =
    let l = head-there x (lists_of n heads next) h there in
    Chain-some n (link_at next) (link_at previous) x (behind x (list_at (lists_of n heads next) h)) (n + h)
    (omega arith)
    (Chain-behind n (link_at next) (link_at previous) x (n + h) (list_at (lists_of n heads next) h) (n + h) there
    (r.chains.each h l)) k

pub AreRings-no_follower : (n heads : ℕ) (next previous : List ℕ) (x h : ℕ) → AreRings n heads next previous
    → is_in x (list_at (lists_of n heads next) h) ≡ true → n ≤ link_at next x → None
    ≡ follower x (list_at (lists_of n heads next) h)
AreRings-no_follower n heads next previous x h r there k =
    let l = head-there x (lists_of n heads next) h there in
    Chain-none n (link_at next) (link_at previous) x (behind x (list_at (lists_of n heads next) h)) (n + h)
    (Chain-behind n (link_at next) (link_at previous) x (n + h) (list_at (lists_of n heads next) h) (n + h) there
    (r.chains.each h l)) k

pub AreRings-popped : (n heads : ℕ) (next previous : List ℕ) (h x : ℕ) → AreRings n heads next previous
    → h < length (lists_of n heads next)
    → Some x ≡ first_of (list_at (lists_of n heads next) h)
    → without_node x (lists_of n heads next) ≡ slice_set (lists_of n heads next) h
    (behind_first (list_at (lists_of n heads next) h))
AreRings-popped n heads next previous h x r low first =
    AreChains-popped n (link_at next) (link_at previous) (lists_of n heads next) h x r.chains low first

-- in the beginning each place links to itself
link-own : (m q : ℕ) → q < m → link_at (range_with_len 0 m) q ≡ q
link-own m q l = get_or-range_with_len 0 m q 0 l ∙ omega arith

-- so the rings are empty
pub AreRings-new : (n heads : ℕ)
    → (lists_of n heads (range_with_len 0 (n + heads)) ≡ replicate heads [])
    × AreRings n heads (range_with_len 0 (n + heads)) (range_with_len 0 (n + heads))
AreRings-new n heads =
    let own = range_with_len 0 (n + heads) in
    let row : length own ≡ n + heads = length-range_with_len 0 (n + heads) in
    AreRings-from_chains n heads own own (replicate heads []) row row (length-replicate heads [])
    (record { each = at_head })
    (record { each = λ y low free. link-own (n + heads) y (omega arith) }) where
      at_head : (h : ℕ) → h < length (replicate {A = List ℕ} heads [])
          → Chain n (link_at (range_with_len 0 (n + heads))) (link_at (range_with_len 0 (n + heads))) (n + h)
          (list_at (replicate heads []) h) (n + h)
      at_head h l =
          let low : h < heads = rw length-replicate at l in
          let own : link_at (range_with_len 0 (n + heads)) (n + h) ≡ n
          + h = link-own (n + heads) (n + h) (omega arith) in
          let none : list_at (replicate heads []) h ≡ [] = get_or-replicate heads h [] [] low in
          subst (λ (q : List ℕ). Chain n (link_at (range_with_len 0 (n + heads)))
          (link_at (range_with_len 0 (n + heads))) (n + h) q (n + h)) (sym none) (own, own)

-- a node leaves the one list in which it stands
pub AreRings-leaves : (n heads : ℕ) (next previous : List ℕ) (h x : ℕ) → AreRings n heads next previous
    → is_in x (list_at (lists_of n heads next) h) ≡ true
    → without_node x (lists_of n heads next) ≡ slice_set (lists_of n heads next) h
    (without (list_at (lists_of n heads next) h) x)
AreRings-leaves n heads next previous h x r there =
    AreChains-one n (link_at next) (link_at previous) (lists_of n heads next) (λ l. without l x) h x r.chains
    (without-absent x) there

-- a node joins the one list in which b stands
pub AreRings-joins : (n heads : ℕ) (next previous : List ℕ) (h x b : ℕ) → AreRings n heads next previous
    → is_in b (list_at (lists_of n heads next) h) ≡ true
    → with_before b x (lists_of n heads next) ≡ slice_set (lists_of n heads next) h
    (inserted_before b x (list_at (lists_of n heads next) h))
AreRings-joins n heads next previous h x b r there =
    AreChains-one n (link_at next) (link_at previous) (lists_of n heads next) (inserted_before b x) h b r.chains
    (inserted-absent b x) there

pub AreRings-order : (n heads : ℕ) (next previous : List ℕ) (h : ℕ) → AreRings n heads next previous
    → h < length (lists_of n heads next)
    → IsOrder n (list_at (lists_of n heads next) h)
AreRings-order n heads next previous h r low = AreChains-order n (link_at next) (link_at previous)
    (lists_of n heads next) h r.chains low

-- a node stands in a list exactly where it does not link to itself
pub AreRings-is_linked : (n heads : ℕ) (next previous : List ℕ) (x : ℕ) → AreRings n heads next previous → x < n
    → not (nat_eq (link_at next x) x) ≡ is_linked x (lists_of n heads next)
AreRings-is_linked n heads next previous x r low = decide (is_linked x (lists_of n heads next)) refl
    (nat_eq (link_at next x) x) refl where
      decide : (b : Bool) → is_linked x (lists_of n heads next) ≡ b → (c : Bool) → nat_eq (link_at next x) x ≡ c → not c ≡ b
      decide true e false f = refl
      decide false e true f = refl
      decide false e false f = absurd (nat_apart (link_at next x) x f (r.marked.each x low e))
      decide true e true f = absurd (AreChains-moves n (link_at next) (link_at previous)
          (lists_of n heads next) x r.chains e (nat_same (link_at next x) x f))

-- and a number that is none of a node stands in no list
pub AreRings-outside : (n heads : ℕ) (next previous : List ℕ) (x : ℕ) → AreRings n heads next previous → n ≤ x
    → false ≡ is_linked x (lists_of n heads next)
AreRings-outside n heads next previous x r past = decide (is_linked x (lists_of n heads next)) refl where
  decide : (b : Bool) → is_linked x (lists_of n heads next) ≡ b → false ≡ b
  decide false e = refl
  decide true e =
      let low : x < n = AreChains-node n (link_at next) (link_at previous) (lists_of n heads next) x r.chains e in
      absurd (omega arith)
