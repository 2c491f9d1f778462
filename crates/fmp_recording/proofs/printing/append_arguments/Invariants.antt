use Rattle.std.proofs.Common.{◌≡◌, ◌++◌, drop}
use Rattle.fmp_trace.specs.Fronts.{Begins}
use Rattle.fmp_recording.specs.Recordings.{arguments_text}
use Rattle.fmp_recording.proofs.printing.append_arguments.Given as goal

abbrev pub invariant-loop-argument : goal.invariant-loop-argument
invariant-loop-argument l = record {
  text :
      l.out.items ++ arguments_text (drop l.argument-index l.arguments)
      ≡ l.initial.out.items ++ arguments_text l.arguments;
  kept : Begins l.initial.out.items l.out.items;
}
