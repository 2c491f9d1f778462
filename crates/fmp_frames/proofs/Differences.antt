-- Lists that are the same at each place are the same; and texts of which one part more stands.
use Rattle.std.proofs.Common.{◌≡◌, ℕ, zero, suc, ◌+◌, ◌-◌, ◌<◌, ◌≤◌, List, [], ◌∷◌, ◌++◌, append_assoc, length, refl}
use Rattle.std.proofs.Common.{sym, subst, ap, ◌∙◌, arith, ⊎_elim}
use Rattle.std.specs.Prelude.{slice_get}
use Rattle.std.proofs.lemmas.Bool.{cases_lt}
use Rattle.std.proofs.lemmas.Option.{slice_get_past}
use Rattle.std.specs.Prelude.{codes}
use Rattle.fmp_frames.specs.declared.comparing.ToldRun.{ToldRun}
use Rattle.fmp_frames.specs.Compares.{beside, event_shown, events_shown, state_line, states_beside}

-- what is so of all places below one, and of that one
pub further : (P : ℕ → Type 0) (n : ℕ) → ((i : ℕ) → i < n → P i) → P n → (i : ℕ) → i < n + 1 → P i
further P n before here i lt =
    ⊎_elim (λ (below : i < n). before i below)
    (λ (past : n ≤ i). let same : n ≡ i = omega (arith, lt, past) in subst P same here) (cases_lt i n)

lists-same : {X : Type 0} (xs ys : List X) → ((i : ℕ) → slice_get xs i ≡ slice_get ys i) → xs ≡ ys
lists-same [] [] h = refl
lists-same [] (y ∷ ys) h = cc (h zero)
lists-same (x ∷ xs) [] h = cc (h zero)
lists-same (x ∷ xs) (y ∷ ys) h =
    let first : x ≡ y = cc (h zero) in
    ap (λ z. z ∷ xs) first ∙ ap (λ zs. y ∷ zs) (lists-same xs ys (λ i. h (suc i)))

-- lists that are the same at the places of the longer one are the same
pub same-throughout :
    {X : Type 0} (xs ys : List X) (n : ℕ) → length xs ≤ n → length ys ≤ n →
    ((i : ℕ) → i < n → slice_get xs i ≡ slice_get ys i) → xs ≡ ys
same-throughout xs ys n short also h =
    lists-same xs ys (λ i.
    ⊎_elim (λ (below : i < n). h i below)
    (λ (past : n ≤ i). slice_get_past xs i (omega (arith, short, past))
    ∙ sym (slice_get_past ys i (omega (arith, also, past))))
    (cases_lt i n))

-- one part of what is to be appended stands
pub appended : (old new part rest all whole : List ℕ) → new ≡ old ++ part → all ≡ part ++ rest → old ++ all ≡ whole
    → new ++ rest ≡ whole
appended old new part rest all whole one parts h =
    ap (λ xs. xs ++ rest) one ∙ append_assoc old part rest ∙ ap (λ xs. old ++ xs) (sym parts) ∙ h

one-less : (n i : ℕ) → i < n → n - i ≡ suc (n - (i + 1))
one-less n i lt = omega (arith, lt)

-- one event more
pub events-more : (x : ToldRun) (n i : ℕ) → i < n
    → events_shown x i (n - i) ≡ event_shown (codes "  ") x i ++ events_shown x (i + 1) (n - (i + 1))
events-more x n i lt = ap (λ (k : ℕ). events_shown x i k) (one-less n i lt)

-- one task more
pub beside-more : (a b : ToldRun) (n t : ℕ) → t < n
    → states_beside a b t (n - t) ≡ beside (state_line a t) (state_line b t) ++ states_beside a b (t + 1) (n - (t + 1))
beside-more a b n t lt = ap (λ (k : ℕ). states_beside a b t k) (one-less n t lt)
