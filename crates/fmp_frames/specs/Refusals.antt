-- Calls that are refused: always, or by a code that says that they are used wrongly.
use Rattle.std.specs.Prelude.{List, [], ◌∷◌, Option, Some, None, Bool, true, false, if◌then◌else◌}
use Rattle.std.specs.Prelude.{length, nat_eq}
use Rattle.std.specs.List.{flat_map, list_any}
use Rattle.fmp_base.specs.declared.codes.Er.{Er}
use Rattle.fmp_base.specs.declared.codes.Er.TheVariants as er
use Rattle.fmp_base.specs.declared.services.Service.{Service}
use Rattle.fmp_instructions.specs.Instructions.{BodyTables}
use Rattle.fmp_frames.specs.declared.answers.SiteAnswer.{SiteAnswer}
use Rattle.fmp_frames.specs.declared.refusals.Refusal.{Refusal}
use Rattle.fmp_frames.specs.declared.refusals.Refusal.TheVariants as refusal
use Rattle.fmp_frames.specs.declared.refusals.RefusedCall.{RefusedCall}
use Rattle.fmp_frames.specs.declared.sites.CallSite.{CallSite}
use Rattle.fmp_frames.specs.declared.sites.SiteCall.{SiteCall}
use Rattle.fmp_frames.specs.Answers.{codes_at}
use Rattle.fmp_frames.specs.Sites.{call_at, call_sites}

-- the call is done
abbrev pub is_ok : Er → Bool
is_ok er.Ok = true
is_ok _ = false

-- the call is used wrongly: a parameter, an object's number, or where it is called
abbrev pub is_misuse : Er → Bool
is_misuse er.Par = true
is_misuse er.Id = true
is_misuse er.Ctx = true
is_misuse _ = false

-- a call that got these codes was refused each time, or was not
abbrev pub refusal_of : (answers : List Er) → Refusal
refusal_of answers = if list_any is_ok answers then refusal.Sometimes else refusal.Always

-- a code, if it says that a call is used wrongly
abbrev pub misuse : Er → List Er
misuse c = if is_misuse c then c ∷ [] else []

-- of the codes that a call got those that are told: all if it was refused each time; else those that say that it is used
-- wrongly, unless its body tests what it is answered
abbrev pub told_codes : Refusal → (is_tested : Bool) → (answers : List Er) → List Er
told_codes refusal.Always tested answers = answers
told_codes refusal.Sometimes true answers = []
told_codes refusal.Sometimes false answers = flat_map misuse answers

-- a call that is refused: where it is in the code, which call it is, how often it was refused, and by which codes
pub record Refused : Type 0 where
  pub site : CallSite
  pub service : Service
  pub refusal : Refusal
  pub answers : List Er

abbrev pub refused_of : RefusedCall → Refused
refused_of r = record { site = r.site; service = r.service; refusal = r.refusal; answers = r.codes.items }

-- the same if some codes are told
abbrev pub refused_by : CallSite → Service → Refusal → (told : List Er) → List Refused
refused_by s service how told =
    if nat_eq (length told) 0
    then []
    else record { site = s; service = service; refusal = how; answers = told } ∷ []

-- a call that got these codes, if it is one that is told
abbrev pub refused_call : CallSite → Option SiteCall → (answers : List Er) → List Refused
refused_call s None answers = []
refused_call s (Some call) answers =
    refused_by s call.service (refusal_of answers) (told_codes (refusal_of answers) call.is_tested answers)

-- the same of the call of a code at a position
abbrev pub refused_at : List BodyTables → CallSite → (answers : List Er) → List Refused
refused_at code s answers = refused_call s (call_at code s) answers

-- the calls of a code that are told, where calls got these answers
abbrev pub refused_calls : List BodyTables → List SiteAnswer → List Refused
refused_calls code answers = flat_map (λ s. refused_at code s (codes_at answers s)) (call_sites code)
