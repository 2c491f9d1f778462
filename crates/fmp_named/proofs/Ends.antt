-- Tables that end before others.
use Rattle.std.proofs.Common.{◌≡◌, ◌∙◌, ℕ, ◌<◌, List, [], ◌∷◌, ◌++◌, length, ap, sym, refl, arith}
use Rattle.std.proofs.lemmas.List.{append-nil}
use Rattle.fmp_base.specs.declared.events.TaskState.{TaskState}
use Rattle.fmp_base.specs.declared.states.TaskBlock.{TaskBlock}
use Rattle.fmp_base.specs.Systems.{SystemTables}
use Rattle.fmp_named.specs.Records.{state_records}
use Rattle.fmp_named.specs.States.{named_states}

-- nothing is left to append
pub nothing_left : (out rest whole : List ℕ) → rest ≡ [] → out ++ rest ≡ whole → out ≡ whole
nothing_left out rest whole none h = sym (append-nil out) ∙ ap (λ r. out ++ r) (sym none) ∙ h

pub no_states : (sys : SystemTables) (t : ℕ) (xs : List TaskState) (bs : List TaskBlock) → length bs < 1
    → named_states sys t xs bs ≡ []
no_states sys t [] bs h = refl
no_states sys t (x ∷ xs) [] h = refl
no_states sys t (x ∷ xs) (b ∷ bs) h = absurd (omega (arith, h))

pub no_records : (sys : SystemTables) (t : ℕ) (xs : List TaskState) (bs : List TaskBlock) → length bs < 1
    → state_records sys t xs bs ≡ []
no_records sys t [] bs h = refl
no_records sys t (x ∷ xs) [] h = refl
no_records sys t (x ∷ xs) (b ∷ bs) h = absurd (omega (arith, h))
