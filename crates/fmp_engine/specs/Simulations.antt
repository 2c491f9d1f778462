-- What a simulation of an image over a steps text prints, or why it prints nothing.
use Rattle.std.specs.Prelude.{◌≡◌, ◌++◌, ℕ, List, [], Ok, Err}
use Rattle.fmp_base.specs.declared.events.Effect.{Effect}
use Rattle.fmp_base.specs.declared.events.Event.{Event}
use Rattle.fmp_base.specs.KeptRuns.{IsFinished}
use Rattle.fmp_base.specs.Runs.{Trace, done_events, effects}
use Rattle.fmp_base.specs.Setups.{setup}
use Rattle.fmp_base.specs.Texts.{trace_text, whole_text}
use Rattle.fmp_instructions.specs.Machine.{code_meaning}
use Rattle.fmp_codegen.specs.Tie.{longest}
use Rattle.fmp_image_bytes.specs.declared.fault.LoadFault.TheVariants as load
use Rattle.fmp_image_bytes.specs.Images.{ImageTables, Spells, image_at}
use Rattle.fmp_tasklang.specs.Contexts.{TextContext}
use Rattle.fmp_tasklang.specs.Texts.{text_meaning}
use Rattle.fmp_tasklang.specs.Trees.{BodyTree}
use Rattle.fmp_trace.specs.declared.faults.StepsFault.{StepsFault}
use Rattle.fmp_trace.specs.Steps.{steps_of}
use Rattle.fmp_engine.specs.declared.fault.SimCut.{SimCut}
use Rattle.fmp_engine.specs.declared.fault.SimCut.TheVariants as cut
use Rattle.fmp_engine.specs.declared.fault.SimFault.{SimFault}
use Rattle.fmp_engine.specs.declared.fault.SimFault.TheVariants as fault
use Rattle.fmp_engine.specs.Outlets.{Given}

-- The bytes spell an image, and the steps read as events. The text that was appended is all that the image prints over
-- these events, within n instructions a stretch.
pub record Simulates (image steps : List ℕ) (n : ℕ) (before after : List ℕ) : Type 0 where
  pub loaded : ImageTables
  pub spelled : Spells loaded image
  pub events : List Event
  pub read : steps_of loaded.system.processors steps ≡ Ok events
  pub text : after ≡ before ++ whole_text loaded.system (code_meaning loaded.code) n events

-- The steps read as q events, and what was appended is what the bodies of a task text mean, at n * q turns of loops,
-- over those of them that the run of their image did, within n instructions a stretch. An event that the run answers
-- Nothing does nothing in the text either at that point, at any number of turns. One that it answers Kept keeps the
-- place of its actor once more: a stretch that the text ends within t turns is kept j times only with n * j < (t + 1) *
-- L, L being the instructions of the longest body.
pub record PrintsTexts (i : ImageTables) (bodies : List BodyTree) (steps : List ℕ) (n : ℕ) (before after : List ℕ) :
    Type 0 where
  pub events : List Event
  pub read : steps_of i.system.processors steps ≡ Ok events
  pub finished : List Event
  pub are_done :
      let machine = code_meaning i.code in
      finished ≡ done_events i.system machine n (setup i.system machine).world events
  pub answers : List Effect
  pub are_answers :
      let machine = code_meaning i.code in
      answers ≡ effects i.system machine n (setup i.system machine).world events
  pub trace : Trace TextContext
  pub finishes :
      let text = text_meaning i.system bodies in
      IsFinished i.system text n (longest i.code) events answers finished trace
  pub text : after ≡ before ++ trace_text i.system (setup i.system (text_meaning i.system bodies)).lines trace

-- the bytes spell an image, and this is the first fault of the steps
pub record IsWhySteps (f : StepsFault) (image steps : List ℕ) : Type 0 where
  pub loaded : ImageTables
  pub spelled : Spells loaded image
  pub fault : steps_of loaded.system.processors steps ≡ Err f

-- Why a simulation is refused: the first fault of the image, else the first fault of the steps. Or memory ran out,
-- which is a fault of neither.
abbrev pub IsWhySim : SimFault → (image steps : List ℕ) → Type 0
IsWhySim (fault.Load (load.Image f)) image steps = image_at image ≡ Err f
IsWhySim (fault.Load load.Memory) image steps = ⊥
IsWhySim (fault.Steps f) image steps = IsWhySteps f image steps
IsWhySim fault.Memory image steps = Unit {0}

-- An outlet was given the front of what a simulation of an image over a steps text prints, and this is left of it.
pub record SimulatesInto {T : Type 0} (gave : T → T → List ℕ → Type 0) (image steps : List ℕ) (n : ℕ) (from to : T)
    (left : List ℕ) : Type 0 where
  pub text : List ℕ
  pub simulated : Simulates image steps n [] text
  pub given : Given gave from to left text

-- why an outlet was not given all that a simulation prints: it was refused, or the outlet took no more
abbrev pub IsWhySimCut : {T : Type 0} → (gave stopped : T → T → List ℕ → Type 0) → (image steps : List ℕ) → (n : ℕ)
    → (from to : T) → SimCut → Type 0
IsWhySimCut gave stopped image steps n from to (cut.Refused f) = IsWhySim f image steps × gave from to []
IsWhySimCut gave stopped image steps n from to cut.Stopped =
    (left : List ℕ) × SimulatesInto stopped image steps n from to left
