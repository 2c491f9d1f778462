-- The rings as a whole: what links stand for, and what becomes of it when a node leaves or joins.
use Rattle.std.proofs.Common.{◌≡◌, ◌≢◌, ℕ, zero, suc, ◌+◌, ◌<◌, ◌≤◌, List, [], ◌∷◌, ◌++◌, length, Bool, true, false}
use Rattle.std.proofs.Common.{cond, nat_eq, ◌||◌, ◌&&◌, map, Some, refl, ap, ◌∙◌, sym, subst, arith}
use Rattle.std.specs.Prelude.{slice_set}
use Rattle.std.proofs.Math.ListN.{length-set}
use Rattle.std.proofs.lemmas.List.{get_or-set_same, get_or-set_other, get_or-map, length-map, ext_get_or, set-set}
use Rattle.fmp_base.specs.Queues.{first_of}
use Rattle.fmp_base.specs.States.{without}
use Rattle.fmp_ring.specs.Chains.{Chain, AreChains, AreMarked, walk, walks}
use Rattle.fmp_ring.specs.Orders.{IsOrder}
use Rattle.fmp_ring.specs.RingLists.{is_in, is_linked, list_at, inserted_before, with_before, without_node, behind}
use Rattle.fmp_ring.specs.RingLists.{behind_first, rotated}
use Rattle.fmp_ring.specs.OrderLaws.{nat_same, nat_apart, IsOrder-below, IsOrder-length}
use Rattle.fmp_ring.specs.WalkLaws.{without-absent}
use Rattle.fmp_ring.proofs.ListLemmas.{without-first, first-in}
use Rattle.fmp_ring.proofs.ChainLemmas.{Chain-ends, Chain-behind, IsOrder-from_chain, walk-chain, Meets, Chain-meets}
use Rattle.fmp_ring.proofs.ChainLemmas.{Chain-moves}
use Rattle.fmp_ring.proofs.ChangeLemmas.{IsUnlinked, IsLinkedIn, Chain-stays, Chain-without, Chain-pushed}
use Rattle.fmp_ring.proofs.ChangeLemmas.{Chain-inserted, KeepsOthers-linked_in}
use Rattle.fmp_ring.specs.LinkedLaws.{is_linked-none, is_linked-some, head-there, is_linked-others, is_linked-before}
use Rattle.fmp_ring.specs.LinkedLaws.{is_linked-pushed}
use Rattle.std.proofs.lemmas.Bool.{or_parts}

-- walks find the lists of rings
walks-chains : (n : ℕ) (next previous : ℕ → ℕ) (p : ℕ) (lists : List (List ℕ)) → n ≤ p
    → ((h : ℕ) → h < length lists → Chain n next previous (p + h) (list_at lists h) (p + h))
    → walks next n p (length lists) ≡ lists
walks-chains n next previous p [] f each = refl
walks-chains n next previous p (l ∷ ls) f each =
    let e : p + 0 ≡ p = omega arith in
    let first : Chain n next previous p l p = subst (λ (q : ℕ). Chain n next previous q l q) e (each 0 (omega arith)) in
    let fits : length l ≤ n = IsOrder-length n l (IsOrder-from_chain n next previous p l p f first) in
    let found : walk next n n (next p) ≡ l = walk-chain n next previous p l p n f fits first in
    let rest : walks next n (p + 1) (length ls) ≡ ls = walks-chains n next previous (p + 1) ls (omega arith)
    (λ h k. shifted h (each (suc h) (omega arith))) in
    cc (found, rest) where
      shifted : (h : ℕ) → Chain n next previous (p + suc h) (list_at ls h) (p + suc h)
          → Chain n next previous (p + 1 + h) (list_at ls h) (p + 1 + h)
      shifted h c = let e : p + suc h ≡ p + 1 + h = omega arith in subst
          (λ (q : ℕ). Chain n next previous q (list_at ls h) q) e c

pub AreChains-walks : (n : ℕ) (next previous : ℕ → ℕ) (lists : List (List ℕ)) → AreChains n next previous lists
    → walks next n n (length lists) ≡ lists
AreChains-walks n next previous lists k = walks-chains n next previous n lists (omega arith) k.each

pub length-walks : (next : ℕ → ℕ) (n p heads : ℕ) → length (walks next n p heads) ≡ heads
length-walks next n p zero = refl
length-walks next n p (suc heads) = ap suc (length-walks next n (p + 1) heads)

pub AreChains-order : (n : ℕ) (next previous : ℕ → ℕ) (lists : List (List ℕ)) (h : ℕ)
    → AreChains n next previous lists → h < length lists
    → IsOrder n (list_at lists h)
AreChains-order n next previous lists h k l = IsOrder-from_chain n next previous (n + h) (list_at lists h) (n + h)
    (omega arith) (k.each h l)

-- no node stands in two lists
pub AreChains-apart : (n : ℕ) (next previous : ℕ → ℕ) (lists : List (List ℕ)) (x g h : ℕ)
    → AreChains n next previous lists
    → is_in x (list_at lists g) ≡ true → is_in x (list_at lists h) ≡ true → g ≡ h
AreChains-apart n next previous lists x g h k at_g at_h =
    let cg = Chain-behind n next previous x (n + g) (list_at lists g) (n + g) at_g
    (k.each g (head-there x lists g at_g)) in
    let ch = Chain-behind n next previous x (n + h) (list_at lists h) (n + h) at_h
    (k.each h (head-there x lists h at_h)) in
    let e : n + g ≡ n + h = (Chain-ends n next previous x (behind x (list_at lists g)) (behind x (list_at lists h))
    (n + g) (n + h) (omega arith) (omega arith) cg ch).1 in
    omega arith

-- a node that stands in a list is a node, linked both ways
pub AreChains-node : (n : ℕ) (next previous : ℕ → ℕ) (lists : List (List ℕ)) (x : ℕ) → AreChains n next previous lists
    → is_linked x lists ≡ true → x < n
AreChains-node n next previous lists x k there =
    let s = is_linked-some x lists there in
    IsOrder-below n (list_at lists s.0) (AreChains-order n next previous lists s.0 k s.1) x s.2

pub AreChains-meets : (n : ℕ) (next previous : ℕ → ℕ) (lists : List (List ℕ)) (x : ℕ)
    → AreChains n next previous lists → is_linked x lists ≡ true
    → Meets (n + length lists) next previous x
AreChains-meets n next previous lists x k there =
    let s = is_linked-some x lists there in
    let low : s.0 < length lists = s.1 in
    Chain-meets n next previous (n + length lists) x (n + s.0) (list_at lists s.0) (n + s.0) (omega arith)
    (omega arith) (omega arith) s.2 (k.each s.0 low)

list_at-map : (f : List ℕ → List ℕ) (lists : List (List ℕ)) (h : ℕ) → h < length lists → list_at (map f lists) h
    ≡ f (list_at lists h)
list_at-map f lists h l = get_or-map f lists h [] [] l

pub AreChains-without : (n : ℕ) (next previous next_new previous_new : ℕ → ℕ) (lists : List (List ℕ)) (x : ℕ)
    → AreChains n next previous lists
    → x < n → IsUnlinked next previous next_new previous_new x
    → AreChains n next_new previous_new (without_node x lists)
AreChains-without n next previous next_new previous_new lists x k low u = record {
  each = λ h l. at_head h (simp length-map at l);
} where
  at_head : (h : ℕ) → h < length lists → Chain n next_new previous_new (n + h) (list_at (without_node x lists) h)
      (n + h)
  at_head h l =
      let apart : n + h ≢ x = omega arith in
      subst (λ (q : List ℕ). Chain n next_new previous_new (n + h) q (n + h))
      (sym (list_at-map (λ q. without q x) lists h l))
      (Chain-without n next previous next_new previous_new x (n + h) (list_at lists h) (n + h) u
      (AreChains-order n next previous lists h k l) apart apart (k.each h l))

pub AreChains-before : (n : ℕ) (next previous next_new previous_new : ℕ → ℕ) (lists : List (List ℕ)) (x b : ℕ)
    → AreChains n next previous lists
    → x < n → b < n → is_linked x lists ≡ false → IsLinkedIn next previous next_new previous_new x b
    → AreChains n next_new previous_new (with_before b x lists)
AreChains-before n next previous next_new previous_new lists x b k low lowb free u =
    record { each = λ h l. at_head h (simp length-map at l) } where
      at_head : (h : ℕ) → h < length lists → Chain n next_new previous_new (n + h) (list_at (with_before b x lists) h)
          (n + h)
      at_head h l =
          let apart : n + h ≢ x = omega arith in
          let apart_b : n + h ≢ b = omega arith in
          subst (λ (q : List ℕ). Chain n next_new previous_new (n + h) q (n + h))
          (sym (list_at-map (inserted_before b x) lists h l))
          (Chain-inserted n next previous next_new previous_new x b (n + h) (list_at lists h) (n + h) u
          (AreChains-order n next previous lists h k l) low apart apart apart_b (is_linked-none x lists free h)
          (k.each h l))

-- one list becomes another
pub list_at-set : (lists : List (List ℕ)) (h g : ℕ) (l : List ℕ) → h < length lists → list_at (slice_set lists h l) g
    ≡ cond (nat_eq g h) l (list_at lists g)
list_at-set lists h g l low = by_test (nat_eq g h) refl where
  by_test : (b : Bool) → nat_eq g h ≡ b → list_at (slice_set lists h l) g ≡ cond b l (list_at lists g)
  by_test true e = subst (λ (i : ℕ). list_at (slice_set lists h l) i ≡ l) (sym (nat_same g h e))
      (get_or-set_same lists h l [] low)
  by_test false e = get_or-set_other lists h g l [] (nat_apart g h e)

pub AreChains-pushed : (n : ℕ) (next previous next_new previous_new : ℕ → ℕ) (lists : List (List ℕ)) (h x : ℕ)
    → AreChains n next previous lists
    → x < n → h < length lists → is_linked x lists ≡ false → IsLinkedIn next previous next_new previous_new x (n + h)
    → AreChains n next_new previous_new (slice_set lists h (list_at lists h ++ x ∷ []))
AreChains-pushed n next previous next_new previous_new lists h x k low there free u =
    record { each = λ g l. at_head g (simp length-set at l) } where
      no_head : (g : ℕ) → g < length lists → is_in (n + h) (list_at lists g) ≡ false
      no_head g l = decide (is_in (n + h) (list_at lists g)) refl where
        decide : (b : Bool) → is_in (n + h) (list_at lists g) ≡ b → is_in (n + h) (list_at lists g) ≡ false
        decide false e = e
        decide true e = let far : n + h < n = IsOrder-below n (list_at lists g)
            (AreChains-order n next previous lists g k l) (n + h) e in absurd (omega arith)

      by_test : (g : ℕ) → g < length lists → (b : Bool) → nat_eq g h ≡ b
          → Chain n next_new previous_new (n + g) (cond b (list_at lists h ++ x ∷ []) (list_at lists g)) (n + g)
      by_test g l true e =
          let apart : n + h ≢ x = omega arith in
          subst (λ (i : ℕ). Chain n next_new previous_new (n + i) (list_at lists h ++ x ∷ []) (n + i))
          (sym (nat_same g h e))
          (Chain-pushed n next previous next_new previous_new x (n + h) (list_at lists h) (n + h) u low
          (omega arith) apart (is_linked-none x lists free h) (k.each h there))
      by_test g l false e =
          let apart : n + g ≢ x = omega arith in
          let other : g ≢ h = nat_apart g h e in
          let elsewhere : n + g ≢ n + h = omega arith in
          Chain-stays n next previous next_new previous_new x (n + h) (n + g) (list_at lists g) (n + g)
          (KeepsOthers-linked_in next previous next_new previous_new x (n + h) u) apart apart elsewhere
          (is_linked-none x lists free g) (no_head g l) (k.each g l)

      at_head : (g : ℕ) → g < length lists → Chain n next_new previous_new (n + g)
          (list_at (slice_set lists h (list_at lists h ++ x ∷ [])) g) (n + g)
      at_head g l =
          subst (λ (q : List ℕ). Chain n next_new previous_new (n + g) q (n + g))
          (sym (list_at-set lists h g (list_at lists h ++ x ∷ []) there)) (by_test g l (nat_eq g h) refl)

-- what changes only a list with x in it changes one list
pub AreChains-one : (n : ℕ) (next previous : ℕ → ℕ) (lists : List (List ℕ)) (f : List ℕ → List ℕ) (h x : ℕ)
    → AreChains n next previous lists
    → ((l : List ℕ) → is_in x l ≡ false → f l ≡ l) → is_in x (list_at lists h) ≡ true → map f lists
    ≡ slice_set lists h (f (list_at lists h))
AreChains-one n next previous lists f h x k stays there =
    ext_get_or [] (map f lists) (slice_set lists h (f (list_at lists h)))
    (length-map lists f ∙ sym (length-set lists h (f (list_at lists h))))
    (λ g l. at_head g (simp length-map at l)) where
      by_test : (g : ℕ) (b : Bool) → nat_eq g h ≡ b → f (list_at lists g)
          ≡ cond b (f (list_at lists h)) (list_at lists g)
      by_test g true e = ap (λ (i : ℕ). f (list_at lists i)) (nat_same g h e)
      by_test g false e = elsewhere (is_in x (list_at lists g)) refl where
        elsewhere : (b : Bool) → is_in x (list_at lists g) ≡ b → f (list_at lists g) ≡ list_at lists g
        elsewhere false d = stays (list_at lists g) d
        elsewhere true d = absurd (nat_apart g h e (AreChains-apart n next previous lists x g h k d there))

      at_head : (g : ℕ) → g < length lists → list_at (map f lists) g
          ≡ list_at (slice_set lists h (f (list_at lists h))) g
      at_head g l =
          list_at-map f lists g l ∙ (by_test g (nat_eq g h) refl
          ∙ sym (list_at-set lists h g (f (list_at lists h)) (head-there x lists h there)))

-- to take out the first of a list is to leave the others
pub AreChains-popped : (n : ℕ) (next previous : ℕ → ℕ) (lists : List (List ℕ)) (h x : ℕ)
    → AreChains n next previous lists → h < length lists
    → Some x ≡ first_of (list_at lists h) → without_node x lists ≡ slice_set lists h (behind_first (list_at lists h))
AreChains-popped n next previous lists h x k there first =
    AreChains-one n next previous lists (λ l. without l x) h x k (without-absent x) (first-in x (list_at lists h) first)
    ∙ ap (slice_set lists h) (without-first n x (list_at lists h) (AreChains-order n next previous lists h k there)
    first)

-- the first taken out and put last
pub popped-pushed : (lists : List (List ℕ)) (h x : ℕ) → h < length lists → Some x ≡ first_of (list_at lists h)
    → slice_set (slice_set lists h (behind_first (list_at lists h))) h (list_at
    (slice_set lists h (behind_first (list_at lists h))) h ++ x ∷ [])
    ≡ slice_set lists h (rotated (list_at lists h))
popped-pushed lists h x there first =
    set-set lists h (behind_first (list_at lists h)) _ ∙ ap (slice_set lists h)
    (ap (λ (q : List ℕ). q ++ x ∷ []) (get_or-set_same lists h (behind_first (list_at lists h)) [] there)
    ∙ turned (list_at lists h) first) where
      turned : (l : List ℕ) → Some x ≡ first_of l → behind_first l ++ x ∷ [] ≡ rotated l
      turned [] e = cc
      turned (t ∷ ts) e = let same : x ≡ t = cc in ap (λ (q : ℕ). ts ++ q ∷ []) same

-- a node that stands in a list does not link to itself
pub AreChains-moves : (n : ℕ) (next previous : ℕ → ℕ) (lists : List (List ℕ)) (x : ℕ)
    → AreChains n next previous lists → is_linked x lists ≡ true → next x ≢ x
AreChains-moves n next previous lists x k there =
    let s = is_linked-some x lists there in
    Chain-moves n next previous x (behind x (list_at lists s.0)) (n + s.0)
    (AreChains-node n next previous lists x k there) (omega arith)
    (Chain-behind n next previous x (n + s.0) (list_at lists s.0) (n + s.0) s.2 (k.each s.0 s.1))

pub AreMarked-without : (n : ℕ) (next previous next_new previous_new : ℕ → ℕ) (lists : List (List ℕ)) (x : ℕ)
    → AreMarked n next lists
    → next x ≢ x → IsUnlinked next previous next_new previous_new x → AreMarked n next_new (without_node x lists)
AreMarked-without n next previous next_new previous_new lists x k moves u = record {
  each = λ y low free. by_test y low free (nat_eq y x) refl;
} where
  by_test : (y : ℕ) → y < n → is_linked y (without_node x lists) ≡ false → (b : Bool) → nat_eq y x ≡ b → next_new y ≡ y
  by_test y low free true e = subst (λ (q : ℕ). next_new q ≡ q) (sym (nat_same y x e)) u.marked
  by_test y low free false e =
      let yx : y ≢ x = nat_apart y x e in
      let own : next y ≡ y = k.each y low (sym (is_linked-others y x lists e) ∙ free) in
      u.next_else y (λ r. yx (elsewhere y own r)) yx ∙ own where
        elsewhere : (y : ℕ) → next y ≡ y → y ≡ previous x → y ≡ x
        elsewhere y own r = let f : next (previous x) ≡ x = u.forward in cc

AreMarked-in : (n : ℕ) (next previous next_new previous_new : ℕ → ℕ) (lists after : List (List ℕ)) (x b : ℕ)
    → AreMarked n next lists
    → ((y : ℕ) → y < n → is_linked y after ≡ false → (is_linked y lists ≡ false) × (nat_eq y x ≡ false) × (y ≢ b))
    → IsLinkedIn next previous next_new previous_new x b → AreMarked n next_new after
AreMarked-in n next previous next_new previous_new lists after x b k parts u = record {
  each = λ y low free. at_node y low (parts y low free);
} where
  elsewhere : (y : ℕ) → next y ≡ y → y ≡ previous b → y ≡ b
  elsewhere y own r = let f : next (previous b) ≡ b = u.forward in cc

  at_node : (y : ℕ) → y < n → (is_linked y lists ≡ false) × (nat_eq y x ≡ false) × (y ≢ b) → next_new y ≡ y
  at_node y low p =
      let own : next y ≡ y = k.each y low p.0 in
      u.next_else y (λ r. p.2 (elsewhere y own r)) (nat_apart y x p.1) ∙ own

pub AreMarked-before : (n : ℕ) (next previous next_new previous_new : ℕ → ℕ) (lists : List (List ℕ)) (x b : ℕ)
    → AreMarked n next lists
    → is_linked b lists ≡ true → IsLinkedIn next previous next_new previous_new x b
    → AreMarked n next_new (with_before b x lists)
AreMarked-before n next previous next_new previous_new lists x b k there u =
    AreMarked-in n next previous next_new previous_new lists (with_before b x lists) x b k
    (λ y low free. parts y (sym (is_linked-before y b x lists) ∙ free)) u where
      parts : (y : ℕ) → (is_linked y lists || (is_linked b lists && nat_eq y x)) ≡ false → (is_linked y lists ≡ false)
          × (nat_eq y x ≡ false) × (y ≢ b)
      parts y h =
          let p = or_parts (is_linked y lists) (is_linked b lists && nat_eq y x) h in (
            p.0,
            rw there at p.1,
            λ e. let s : is_linked b lists
                ≡ false = subst (λ (q : ℕ). is_linked q lists ≡ false) e p.0 in cc,
          )

pub AreMarked-pushed : (n : ℕ) (next previous next_new previous_new : ℕ → ℕ) (lists : List (List ℕ)) (h x : ℕ)
    → AreMarked n next lists
    → h < length lists → IsLinkedIn next previous next_new previous_new x (n + h)
    → AreMarked n next_new (slice_set lists h (list_at lists h ++ x ∷ []))
AreMarked-pushed n next previous next_new previous_new lists h x k there u =
    AreMarked-in n next previous next_new previous_new lists (slice_set lists h (list_at lists h ++ x ∷ [])) x (n + h) k
    (λ y low free. let p = or_parts (is_linked y lists) (nat_eq y x) (sym (is_linked-pushed y x lists h there) ∙ free)
    in let far : y ≢ n + h = omega arith in (p.0, p.1, far)) u
