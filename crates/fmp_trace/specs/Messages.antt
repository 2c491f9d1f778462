-- What is said of the faults of a steps text.
use Rattle.std.specs.Prelude.{ℕ, List, ◌++◌, codes, decimal}
use Rattle.fmp_trace.specs.declared.faults.StepsFault.{StepsFault}
use Rattle.fmp_trace.specs.declared.faults.StepsFault.TheVariants.{Line, Range, TooMany, Memory}

-- the number of the line, and the code of the fault
abbrev pub steps_message : StepsFault → List ℕ
steps_message (Line line) = codes "steps:" ++ (decimal line ++ codes ": S1")
steps_message (Range line) = codes "steps:" ++ (decimal line ++ codes ": S2")
steps_message (TooMany line) = codes "steps:" ++ (decimal line ++ codes ": S3")
steps_message Memory = codes "memory"
