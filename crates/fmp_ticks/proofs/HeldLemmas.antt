-- The rows of a heap while a task is held.
use Rattle.std.proofs.Common.{◌≡◌, ◌≢◌, ℕ, ◌+◌, ◌*◌, ◌<◌, ◌≤◌, List, Option, length, get_or, set, refl, sym, ap, ◌∙◌}
use Rattle.std.proofs.Common.{subst, arith, length-set, get_or-set_other, get_or-set_same}
use Rattle.std.proofs.lemmas.List.{set-set, set_comm, set-get_or}
use Rattle.fmp_ticks.specs.Ranks.{rank_in, AreRanked, AreRowsFor, IsFirstChild, IsHeap, IsOpenAt, IsHeapBelow}
use Rattle.fmp_ticks.specs.Slots.{Slots, AreInverse, exchanged, rows_of, held_at}
use Rattle.fmp_ticks.proofs.HeapLemmas.{Exchanged}
use Rattle.fmp_ticks.proofs.RankLemmas.{list-exchanged, AreRanked-moved}
use Rattle.fmp_ticks.proofs.SlotLemmas.{cases, same_or_not, AreInverse-exchange, AreInverse-numbering}

-- at first the task that is held stands where it was
pub rows_at_start : (tasks ranks positions : List ℕ) (i : ℕ) → AreInverse tasks positions → length ranks
    ≡ length tasks → i < length tasks
    → AreRowsFor (rows_of tasks ranks) tasks ranks positions i (get_or tasks i 0) (get_or ranks i 0)
rows_at_start tasks ranks positions i h long l =
    let same : set tasks i (get_or tasks i 0) ≡ tasks = set-get_or tasks i 0 in
    let place : get_or positions (get_or tasks i 0) 0 ≡ i = h.position i l in
    let there : set positions (get_or tasks i 0) i ≡ positions =
    ap (set positions (get_or tasks i 0)) (sym place) ∙ set-get_or positions (get_or tasks i 0) 0 in
    record {
      long = refl;
      ranks_long = long;
      inverse = rw (same, there) h;
      kept = λ times r. rw (same, set-get_or ranks i 0) r;
    }

-- what stands at slot j goes to slot i, where x was to stand, and x is to stand at slot j
pub exchanged_held : (xs : List ℕ) (i j x : ℕ) → i < length xs → j ≢ i → exchanged (set xs i x) i j
    ≡ set (set xs i (get_or xs j 0)) j x
exchanged_held xs i j x l n =
    let here : get_or (set xs i x) i 0 ≡ x = get_or-set_same xs i x 0 l in
    let there : get_or (set xs i x) j 0 ≡ get_or xs j 0 = get_or-set_other xs i j x 0 n in
    let over : set (set xs i x) i (get_or xs j 0) ≡ set xs i (get_or xs j 0) = set-set xs i x (get_or xs j 0) in
    rw (here, there, over) refl

-- it does not matter which of two slots is named first
pub exchanged_twice : (xs : List ℕ) (i j : ℕ) → exchanged xs i j ≡ exchanged xs j i
exchanged_twice xs i j = cases (same_or_not i j)
    (λ (e : i ≡ j). (λ k. exchanged xs (e k) (sym e k)))
    (λ n. set_comm xs i j (get_or xs j 0) (get_or xs i 0) n)

-- and their ranks change places
pub held_moved : (ranks : List ℕ) (i j rank : ℕ) → i < length ranks → j < length ranks → j ≢ i
    → Exchanged (λ k. get_or (set ranks i rank) k 0) (λ k. get_or (set (set ranks i (get_or ranks j 0)) j rank) k 0) i j
held_moved ranks i j rank l m n =
    let wide : (k : ℕ) → k < length ranks → k < length (set ranks i rank) = λ k a. subst (λ (c : ℕ). k < c)
    (sym (length-set ranks i rank)) a in
    subst (λ (t : List ℕ). Exchanged (λ k. get_or (set ranks i rank) k 0) (λ k. get_or t k 0) i j)
    (exchanged_held ranks i j rank l n)
    (list-exchanged (set ranks i rank) i j (wide i l) (wide j m))

module _ (before : Slots) (tasks ranks positions : List ℕ) (i j task rank : ℕ)
    (h : AreRowsFor before tasks ranks positions i task rank) (l : i < length tasks) (m : j < length tasks)
    (n : j ≢ i) where
  in_tasks : (k : ℕ) → k < length tasks → k < length (set tasks i task)
  in_tasks k a = subst (λ (c : ℕ). k < c) (sym (length-set tasks i task)) a

  in_ranks : (k : ℕ) → k < length tasks → k < length ranks
  in_ranks k a = subst (λ (c : ℕ). k < c) (sym h.ranks_long) a

  held_here : get_or (set tasks i task) i 0 ≡ task
  held_here = get_or-set_same tasks i task 0 l

  other_there : get_or (set tasks i task) j 0 ≡ get_or tasks j 0
  other_there = get_or-set_other tasks i j task 0 n

  pub another : task ≢ get_or tasks j 0
  another e = n (sym ((AreInverse-numbering _ _ h.inverse).once i j (in_tasks i l) (in_tasks j m)
      (held_here ∙ e ∙ sym other_there)))

  pub in_positions : get_or tasks j 0 < length positions
  in_positions =
      let a = h.inverse.task j (in_tasks j m) in
      let b = h.inverse.long in
      let c : length (set positions task i) ≡ length positions = length-set positions task i in
      let d : get_or (set tasks i task) j 0 ≡ get_or tasks j 0 = other_there in
      omega (arith, a, b, c, d)

  inverse_moved : AreInverse (set (set tasks i (get_or tasks j 0)) j task)
      (set (set positions (get_or tasks j 0) i) task j)
  inverse_moved =
      let x = AreInverse-exchange (set tasks i task) (set positions task i) i j task (get_or tasks j 0) h.inverse
      (in_tasks i l) (in_tasks j m) (sym held_here) (sym other_there) in
      let a : set (set tasks i task) i (get_or tasks j 0) ≡ set tasks i (get_or tasks j 0) = set-set tasks i task
      (get_or tasks j 0) in
      let b : set (set positions task i) task j ≡ set positions task j = set-set positions task i j in
      let c : set (set positions task j) (get_or tasks j 0) i
      ≡ set (set positions (get_or tasks j 0) i) task j = set_comm positions task (get_or tasks j 0) j i another in
      subst (λ (p : List ℕ). AreInverse (set (set tasks i (get_or tasks j 0)) j task) p) c
      (subst (λ (p : List ℕ). AreInverse (set (set tasks i (get_or tasks j 0)) j task) (set p (get_or tasks j 0) i)) b
      (subst (λ (t : List ℕ). AreInverse (set t j task) (set (set (set positions task i) task j)
      (get_or tasks j 0) i)) a x))

  pub rows_moved : AreRowsFor before (set tasks i (get_or tasks j 0)) (set ranks i (get_or ranks j 0))
      (set positions (get_or tasks j 0) i) j task rank
  rows_moved = record {
    long = length-set tasks i (get_or tasks j 0) ∙ h.long;
    ranks_long = length-set ranks i (get_or ranks j 0) ∙ h.ranks_long ∙ sym (length-set tasks i (get_or tasks j 0));
    inverse = inverse_moved;
    kept = λ times r.
        subst (λ (t : List ℕ). AreRanked times (rows_of t (set (set ranks i (get_or ranks j 0)) j rank)))
        (exchanged_held tasks i j task l n)
        (subst (λ (t : List ℕ). AreRanked times (rows_of (exchanged (set tasks i task) i j) t))
        (exchanged_held ranks i j rank (in_ranks i l) n)
        (AreRanked-moved times (held_at tasks ranks i task rank) (h.kept times r) i j (in_tasks i l) (in_tasks j m)));
  }

  pub ranks_moved : Exchanged (rank_in (held_at tasks ranks i task rank))
      (rank_in (held_at (set tasks i (get_or tasks j 0)) (set ranks i (get_or ranks j 0)) j task rank)) i j
  ranks_moved = held_moved ranks i j rank (in_ranks i l) (in_ranks j m) n

pub Exchanged-sym : (f g : ℕ → ℕ) (i j : ℕ) → Exchanged f g i j → Exchanged f g j i
Exchanged-sym f g i j x = record { first = x.second; second = x.first; other = λ k n m. x.other k m n }

-- the first child of a slot, whatever stands at the slot itself
pub first_whatever : (ranks : List ℕ) (n j c rank : ℕ) → IsFirstChild (λ k. get_or ranks k 0) n j c
    → IsFirstChild (λ k. get_or (set ranks j rank) k 0) n j c
first_whatever ranks n j c rank h = record {
  low = h.low;
  high = h.high;
  there = h.there;
  first = λ k a b d.
      let e : get_or (set ranks j rank) k 0 ≡ get_or ranks k 0 = get_or-set_other ranks j k rank 0
      (λ (z : k ≡ j). absurd (omega (arith, a, z))) in
      let f : get_or (set ranks j rank) c 0 ≡ get_or ranks c 0 = get_or-set_other ranks j c rank 0
      (λ (z : c ≡ j). absurd (omega (arith, h.low, z))) in
      omega (arith, h.first k a b d, e, f);
}

-- of two children the one that comes after neither
pub first_of_two : (f : ℕ → ℕ) (n j c : ℕ) → j * 2 + 1 ≤ c → c ≤ j * 2 + 2 → j * 2 + 2 < n → f c ≤ f (j * 2 + 1)
    → f c ≤ f (j * 2 + 2) → IsFirstChild f n j c
first_of_two f n j c low high within left right = record {
  low = low;
  high = high;
  there = omega (arith, high, within);
  first = λ k a b d. cases (same_or_not k (j * 2 + 1))
      (λ (z : k ≡ j * 2 + 1). subst (λ (i : ℕ). f c ≤ f i) (sym z) left)
      (λ u. let z : k ≡ j * 2 + 2 = omega (arith, a, b, u) in subst (λ (i : ℕ). f c ≤ f i) (sym z) right);
}

-- a child that has no other beside it
pub only_child : (f : ℕ → ℕ) (n j : ℕ) → j * 2 + 1 < n → n ≤ j * 2 + 2 → IsFirstChild f n j (j * 2 + 1)
only_child f n j there few = record {
  low = omega arith;
  high = omega arith;
  there = there;
  first = λ k a b d.
      let z : j * 2 + 1 ≡ k = omega (arith, a, d, few) in
      let e : f (j * 2 + 1) ≡ f k = ap f z in
      omega (arith, e);
}

-- how many are in the heap does not matter to the ranks
pub recount : (times : List (Option ℕ)) (s t : Slots) → s.tasks ≡ t.tasks → s.ranks ≡ t.ranks → AreRanked times s
    → AreRanked times t
recount times s t a b r =
    let x = subst (λ (l : List ℕ). AreRanked times (rows_of l s.ranks)) a (record { long = r.long; each = r.each }) in
    let y = subst (λ (l : List ℕ). AreRanked times (rows_of t.tasks l)) b x in
    record { long = y.long; each = y.each }

-- without children the slot is only below its parent
pub only_below : (f : ℕ → ℕ) (n total j : ℕ) → n ≤ j * 2 + 1 → 1 ≤ f j → IsOpenAt f n total j → IsHeapBelow f n total j
only_below f n total j childless one h = record {
  here = h.here;
  within = h.within;
  order = λ p k a b c d. h.order p k a b c (λ (z : p ≡ j). absurd (omega (arith, a, c, childless, z))) d;
  over = λ p k a b c d e. absurd (omega (arith, c, e, childless));
  inside = λ k l. cases (same_or_not k j) (λ (z : k ≡ j). subst (λ (i : ℕ). 1 ≤ f i) (sym z) one) (λ z. h.inside k l z);
  outside = h.outside;
}

-- below no parent, or below one that it does not come before, it is where it belongs
pub settles : (f : ℕ → ℕ) (n total j : ℕ) → ((p : ℕ) → p * 2 + 1 ≤ j → j ≤ p * 2 + 2 → f p ≤ f j)
    → IsHeapBelow f n total j → IsHeap f n total
settles f n total j above h = record {
  within = h.within;
  order = λ p k a b c. cases (same_or_not k j)
      (λ (z : k ≡ j). subst (λ (i : ℕ). f p ≤ f i) (sym z) (above p (omega (arith, a, z)) (omega (arith, b, z))))
      (λ z. h.order p k a b c z);
  inside = h.inside;
  outside = h.outside;
}
