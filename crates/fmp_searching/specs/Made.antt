-- The calls of a code, and what a search saw of them: which were never made, and what the others were answered.
use Rattle.std.specs.Prelude.{ℕ, ◌≡◌, List, [], ◌∷◌, Bool, Option, Some, None, map, if◌then◌else◌}
use Rattle.std.specs.List.{flat_map}
use Rattle.fmp_base.specs.declared.codes.Er.{Er}
use Rattle.fmp_frames.specs.CallPositions.{position_of}
use Rattle.fmp_frames.specs.Sites.{call_sites}
use Rattle.fmp_frames.specs.declared.answers.SiteAnswer.{SiteAnswer}
use Rattle.fmp_frames.specs.declared.call_positions.CallPosition.{CallPosition}
use Rattle.fmp_frames.specs.declared.sites.CallSite as frames
use Rattle.fmp_image_bytes.specs.Images.{ImageTables}
use Rattle.fmp_instructions.specs.Instructions.{BodyTables}
use Rattle.fmp_question.specs.declared.site.CallSite.{CallSite}
use Rattle.fmp_witness.specs.Calls.{answers_at, was_made}
use Rattle.fmp_witness.specs.declared.coverage.Coverage.{Coverage}
use Rattle.fmp_searching.specs.declared.answers.Answered.{Answered}
use Rattle.fmp_searching.specs.declared.made.SeenCalls.{SeenCalls}

-- the same position, as a question has it
abbrev pub asked_site : frames.CallSite → CallSite
asked_site site = record { body = site.body; pc = site.pc }

-- a call, if it was never made
abbrev pub unmade_here : Coverage → frames.CallSite → List CallSite
unmade_here c site = if was_made c (asked_site site) then [] else asked_site site ∷ []

-- the calls of a code that were never made
abbrev pub unmade_calls : Coverage → List BodyTables → List CallSite
unmade_calls c code = flat_map (λ site. unmade_here c site) (call_sites code)

-- the answers of a call that was made
abbrev pub answers_here : Coverage → frames.CallSite → List Er
answers_here c site = if was_made c (asked_site site) then answers_at c (asked_site site) else []

abbrev pub answers_of_site : frames.CallSite → List Er → List SiteAnswer
answers_of_site site codes = map (λ code. record { site = site; code = code }) codes

-- the answers that the calls of a code got
abbrev pub answers_of_calls : Coverage → List BodyTables → List SiteAnswer
answers_of_calls c code = flat_map (λ site. answers_of_site site (answers_here c site)) (call_sites code)

-- a call that was made, by its line and column, and what it was answered
pub record AnsweredCall : Type 0 where
  pub line : ℕ
  pub column : ℕ
  pub answers : List Er

abbrev pub answered_call : Answered → AnsweredCall
answered_call a = record { line = a.line; column = a.column; answers = a.answers.items }

abbrev pub answered_at : Option CallPosition → List Er → List AnsweredCall
answered_at None codes = []
answered_at (Some p) codes = record { line = p.line; column = p.column; answers = codes } ∷ []

abbrev pub answered_here : Coverage → List BodyTables → List (List CallPosition) → frames.CallSite → List AnsweredCall
answered_here c code positions site =
    if was_made c (asked_site site)
    then answered_at (position_of code positions site.body site.pc) (answers_at c (asked_site site))
    else []

-- the calls of a code that were made and stand in its text
abbrev pub answered_calls : Coverage → List BodyTables → List (List CallPosition) → List AnsweredCall
answered_calls c code positions = flat_map (λ site. answered_here c code positions site) (call_sites code)

-- the calls of an image's bodies
abbrev pub sites_of : ImageTables → List frames.CallSite
sites_of i = call_sites i.code

-- this is what a search saw of the calls of a code
pub record AreSeen (c : Coverage) (code : List BodyTables) (positions : List (List CallPosition)) (seen : SeenCalls) :
    Type 0 where
  pub unmade : seen.unmade.items ≡ unmade_calls c code
  pub answered : map answered_call seen.answered.items ≡ answered_calls c code positions
  pub answers : seen.answers.items ≡ answers_of_calls c code
