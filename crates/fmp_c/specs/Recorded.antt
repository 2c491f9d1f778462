-- What a recording has of the last event that was done, and would have of what a text does next.
use Rattle.std.specs.Prelude.{ℕ, List, [], ◌∷◌, Option, Some, None}
use Rattle.fmp_checked.specs.Checking.{TextKernel}
use Rattle.fmp_foreign.specs.Following.{act_on}
use Rattle.fmp_instructions.specs.Machine.{code_meaning}
use Rattle.fmp_outside.specs.declared.given.Act.{Act}
use Rattle.fmp_outside.specs.declared.given.Given.{Given}
use Rattle.fmp_outside.specs.declared.given.Given.TheVariants as given
use Rattle.fmp_recording.specs.Recordings.{recording_text}

-- the line of what came with it, or nothing
abbrev pub recorded : Option Given → List ℕ
recorded None = []
recorded (Some g) = recording_text (g ∷ [])

-- what comes from the processor of this number, if its actor does this
abbrev pub given_by : ℕ → Option Act → Option Given
given_by p None = None
given_by p (Some a) = Some (given.Act p a)

-- what comes from the processor of this number, if there is a text, and its actor does what its text does next
abbrev pub next_given : Option TextKernel → ℕ → Option Given
next_given None p = None
next_given (Some t) p = given_by p (act_on code_meaning t p)
