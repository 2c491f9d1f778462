-- A walk from the front of a list to the place of a node in priority order.
use Rattle.std.specs.Prelude.{◌≡◌, ℕ, ◌<◌, ◌≤◌, List, [], ◌∷◌, ◌++◌, Option, Some, None, length, true}
use Rattle.std.proofs.Common.{ap, ◌∙◌, sym, subst, arith, append_assoc, append-nil, refl}
use Rattle.std.proofs.lemmas.Bool.{lt-ltb, le-ltb}
use Rattle.fmp_base.specs.MailboxCalls.{behind_equals}
use Rattle.fmp_base.specs.Queues.{first_of}
use Rattle.fmp_ring.specs.Orders.{IsOrder}
use Rattle.fmp_ring.specs.Places.{IsPlace, Walked}
use Rattle.fmp_ring.specs.RingLists.{is_in, inserted_before, behind, follower, from_node}
use Rattle.fmp_ring.specs.WalkLaws.{from_first, in-split, inserted-split, follower-rest}

pub Walked-start : (f : ℕ → ℕ) (x : ℕ) (l : List ℕ) (at : Option ℕ) → at ≡ first_of l → Walked f x l at
Walked-start f x l at e =
    let whole : from_node at l ≡ l = ap (λ (o : Option ℕ). from_node o l) e ∙ from_first l in
    record { past = []; split = sym whole; rest = ap (behind_equals f x) (sym whole) }

pub Walked-step : (n : ℕ) (f : ℕ → ℕ) (x u : ℕ) (l : List ℕ) (at : Option ℕ) → IsOrder n l → Walked f x l (Some u)
    → f u ≤ f x → at ≡ follower u l
    → Walked f x l at
Walked-step n f x u l at o w low e =
    let whole : from_node at l ≡ behind u l = ap (λ (q : Option ℕ). from_node q l) e
    ∙ follower-rest n u l w.past o w.split in
    let later : behind_equals f x (u ∷ behind u l) ≡ u ∷ behind_equals f x (behind u l) = rw
    (le-ltb (f x) (f u) low) refl in
    record {
      past = w.past ++ u ∷ [];
      split = w.split ∙ (sym (append_assoc w.past (u ∷ []) (behind u l))
          ∙ ap (λ (q : List ℕ). (w.past ++ u ∷ []) ++ q) (sym whole));
      rest = w.rest ∙ (ap (λ (q : List ℕ). w.past ++ q) later
          ∙ (sym (append_assoc w.past (u ∷ []) (behind_equals f x (behind u l)))
          ∙ ap (λ (q : List ℕ). (w.past ++ u ∷ []) ++ behind_equals f x q) (sym whole)));
    }

-- each step leaves less
pub Walked-shorter : (n : ℕ) (f : ℕ → ℕ) (x u : ℕ) (l : List ℕ) (at : Option ℕ) → IsOrder n l → Walked f x l (Some u)
    → at ≡ follower u l
    → length (from_node at l) < length (from_node (Some u) l)
Walked-shorter n f x u l at o w e =
    let whole : from_node at l ≡ behind u l = ap (λ (q : Option ℕ). from_node q l) e
    ∙ follower-rest n u l w.past o w.split in
    rw whole (omega arith)

pub Walked-in : (f : ℕ → ℕ) (x u : ℕ) (l : List ℕ) → Walked f x l (Some u) → is_in u l ≡ true
Walked-in f x u l w = rw w.split (in-split u w.past (behind u l))

pub Walked-stop : (n : ℕ) (f : ℕ → ℕ) (x u : ℕ) (l : List ℕ) → IsOrder n l → Walked f x l (Some u) → f x < f u
    → IsPlace f x l (Some u)
Walked-stop n f x u l o w less =
    let order : IsOrder n (w.past ++ u ∷ behind u l) = subst (λ (q : List ℕ). IsOrder n q) w.split o in
    let now : behind_equals f x (u ∷ behind u l) ≡ x ∷ u ∷ behind u l = rw (lt-ltb (f x) (f u) less) refl in (
      Walked-in f x u l w,
      ap (inserted_before u x) w.split ∙
          (inserted-split n u x w.past (behind u l) order ∙ sym (w.rest ∙ ap (λ (q : List ℕ). w.past ++ q) now)),
    )

pub Walked-end : (f : ℕ → ℕ) (x : ℕ) (l : List ℕ) → Walked f x l None → IsPlace f x l None
Walked-end f x l w = ap (λ (q : List ℕ). q ++ x ∷ []) (w.split ∙ append-nil w.past) ∙ sym w.rest
