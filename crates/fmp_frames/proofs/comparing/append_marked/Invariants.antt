use Rattle.std.proofs.Common.{◌≡◌, ◌++◌, drop}
use Rattle.fmp_frames.specs.Compares.{marked, marked_from}
use Rattle.fmp_frames.proofs.comparing.append_marked.Given as goal

abbrev pub invariant-loop-byte : goal.invariant-loop-byte
invariant-loop-byte l =
    l.out.items ++ marked_from l.begins l.mark (drop l.byte-index l.lines) ≡ l.initial.out.items
    ++ marked l.mark l.lines
