-- What running the code of a text prints.
use Rattle.std.specs.Prelude.{◌≡◌, ℕ, List}
use Rattle.fmp_base.specs.declared.events.Effect.{Effect}
use Rattle.fmp_base.specs.declared.events.Event.{Event}
use Rattle.fmp_base.specs.KeptRuns.{IsFinished}
use Rattle.fmp_base.specs.Runs.{Trace, done_events, effects, run}
use Rattle.fmp_base.specs.Setups.{setup}
use Rattle.fmp_base.specs.Systems.{SystemTables}
use Rattle.fmp_base.specs.Texts.{trace_text, whole_text}
use Rattle.fmp_tasklang.specs.Contexts.{TextContext}
use Rattle.fmp_tasklang.specs.Texts.{text_meaning}
use Rattle.fmp_tasklang.specs.Trees.{BodyTree}
use Rattle.fmp_instructions.specs.Instructions.{BodyTables}
use Rattle.fmp_instructions.specs.Machine.{code_meaning}
use Rattle.fmp_codegen.specs.Tie.{longest}

-- The code, run over q events within n instructions a stretch, prints what the texts mean, at n * q turns of loops,
-- over the events that it did, line by line. One that it answers Nothing does nothing in the texts either at that
-- point, at any number of turns. One that it answers Kept keeps the place of its actor once more: a stretch that the
-- texts end within t turns is kept j times only with n * j < (t + 1) * L, L being the instructions of the longest body.
pub record PrintsText (sys : SystemTables) (bodies : List BodyTree) (code : List BodyTables) (n : ℕ) (es : List Event) :
    Type 0 where
  pub finished : List Event
  pub are_done :
      let machine = code_meaning code in
      finished ≡ done_events sys machine n (setup sys machine).world es
  pub answers : List Effect
  pub are_answers :
      let machine = code_meaning code in
      answers ≡ effects sys machine n (setup sys machine).world es
  pub trace : Trace TextContext
  pub finishes : IsFinished sys (text_meaning sys bodies) n (longest code) es answers finished trace
  pub text : whole_text sys (code_meaning code) n es ≡ trace_text sys (setup sys (text_meaning sys bodies)).lines trace
  pub first_lines : (setup sys (code_meaning code)).lines ≡ (setup sys (text_meaning sys bodies)).lines
  pub lines :
      let machine = code_meaning code in
      (run sys machine n (setup sys machine).world es).events ≡ trace.events
