-- What was written stays in front of what is.
use Rattle.std.proofs.Common.{◌≡◌, List, ◌++◌, OnOk, ap, ◌∙◌, append_assoc}
use Rattle.std.proofs.lemmas.Result.{on_ok_weaker}
use Rattle.std.specs.Prelude.{Result}
use Rattle.json.specs.Token.{Token}
use Rattle.fmp_slices.specs.Contents.{BeginsWith, Keeps}

pub kept_by : (front old new text : List Token) → new ≡ old ++ text → BeginsWith front old → BeginsWith front new
kept_by front old new text wrote there =
    record {
      more = there.more ++ text;
      whole = wrote ∙ ap (λ (ts : List Token). ts ++ text) there.whole ∙ append_assoc front there.more text;
    }

-- as long as more is written
pub keeps_by : (old new text : List Token) → new ≡ old ++ text → Keeps old new
keeps_by old new text wrote = λ front there. kept_by front old new text wrote there

-- what was written stays in front of a list that was begun, written and ended
pub list_kept : {E : Type 0} (r : Result (Unit {0}) E) (old begun written new begin end : List Token)
    → begun ≡ old ++ begin → Keeps begun written → OnOk r (new ≡ written ++ end) → OnOk r (Keeps old new)
list_kept r old begun written new begin end first between last =
    on_ok_weaker r
    (λ (ends : new ≡ written ++ end). λ front there.
    kept_by front written new end ends (between front (kept_by front old begun begin first there)))
    last

pub keeps_then : (a b c : List Token) → Keeps a b → Keeps b c → Keeps a c
keeps_then a b c first second = λ front there. second front (first front there)
