-- A walk over all nodes of a list, which counts them.
use Rattle.std.proofs.Common.{◌≡◌, ℕ, ◌+◌, ◌<◌, ◌≤◌, List, [], ◌∷◌, ◌++◌, Option, Some, None, length, true, ap, ◌∙◌}
use Rattle.std.proofs.Common.{sym, arith, append_assoc, refl}
use Rattle.std.proofs.lemmas.List.{length-append}
use Rattle.fmp_base.specs.Queues.{first_of}
use Rattle.fmp_ring.specs.Orders.{IsOrder}
use Rattle.fmp_ring.specs.OrderLaws.{IsOrder-length}
use Rattle.fmp_ring.specs.RingLists.{is_in, behind, follower, from_node}
use Rattle.fmp_ring.specs.WalkLaws.{from_first, in-split, follower-rest}

-- the number of nodes before the one that a walk reached
pub record Past (l : List ℕ) (at : Option ℕ) (count : ℕ) : Type 0 where
  pub past : List ℕ
  pub split : l ≡ past ++ from_node at l
  pub counted : count ≡ length past

pub past-none : (l : List ℕ) (at : Option ℕ) → at ≡ first_of l → Past l at 0
past-none l at e =
    record { past = []; split = sym (ap (λ (o : Option ℕ). from_node o l) e ∙ from_first l); counted = refl }

-- what is left from the next node on
rest-from : (n u : ℕ) (l : List ℕ) (at : Option ℕ) (count : ℕ) → IsOrder n l → Past l (Some u) count → at ≡ follower u l
    → from_node at l ≡ behind u l
rest-from n u l at count o w e = ap (λ (q : Option ℕ). from_node q l) e ∙ follower-rest n u l w.past o w.split

pub past-one-more : (n u : ℕ) (l : List ℕ) (at : Option ℕ) (count : ℕ) → IsOrder n l → Past l (Some u) count → at
    ≡ follower u l
    → Past l at (count + 1)
past-one-more n u l at count o w e =
    record {
      past = w.past ++ u ∷ [];
      split = w.split ∙ (sym (append_assoc w.past (u ∷ []) (behind u l))
          ∙ ap (λ (q : List ℕ). (w.past ++ u ∷ []) ++ q) (sym (rest-from n u l at count o w e)));
      counted = ap (λ (k : ℕ). k + 1) w.counted ∙ sym (length-append w.past (u ∷ []));
    }

-- each step leaves less
pub past-shorter : (n u : ℕ) (l : List ℕ) (at : Option ℕ) (count : ℕ) → IsOrder n l → Past l (Some u) count → at
    ≡ follower u l
    → length (from_node at l) < length (from_node (Some u) l)
past-shorter n u l at count o w e = rw (rest-from n u l at count o w e) (omega arith)

pub past-in : (u : ℕ) (l : List ℕ) (count : ℕ) → Past l (Some u) count → is_in u l ≡ true
past-in u l count w = rw w.split (in-split u w.past (behind u l))

-- before a node fewer stand than there are nodes
pub past-few : (n u : ℕ) (l : List ℕ) (count : ℕ) → IsOrder n l → Past l (Some u) count → count < n
past-few n u l count o w =
    let most : length l ≤ n = IsOrder-length n l o in
    let all : length l ≡ length w.past + length (u ∷ behind u l) = ap (λ (q : List ℕ). length q) w.split
    ∙ length-append w.past (u ∷ behind u l) in
    let here : count ≡ length w.past = w.counted in
    omega arith

pub past-all : (l : List ℕ) (count : ℕ) → Past l None count → count ≡ length l
past-all l count w =
    let all : length l ≡ length w.past + 0 = ap (λ (q : List ℕ). length q) w.split ∙ length-append w.past [] in
    let here : count ≡ length w.past = w.counted in
    omega arith
