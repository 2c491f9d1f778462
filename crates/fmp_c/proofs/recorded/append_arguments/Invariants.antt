use Rattle.std.proofs.Common.{◌≡◌, ◌≤◌, ◌+◌, ◌*◌, ◌++◌, drop, take}
use Rattle.fmp_recording.specs.Recordings.{arguments_text}
use Rattle.fmp_c.proofs.recorded.append_arguments.Given as goal

abbrev pub invariant-loop-argument : goal.invariant-loop-argument
invariant-loop-argument l = record {
  text :
      take l.end l.line ++ arguments_text (drop l.argument-index l.arguments)
      ≡ take l.fn.end l.initial.line ++ arguments_text l.arguments;
  short : l.end ≤ l.fn.end + 41 * l.argument-index;
}
