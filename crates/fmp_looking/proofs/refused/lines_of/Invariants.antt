use Rattle.std.proofs.Common.{◌≡◌, ◌++◌, drop, map}
use Rattle.fmp_instructions.specs.Instructions.{code_tables}
use Rattle.fmp_frames.specs.Refusals.{refused_of}
use Rattle.fmp_looking.specs.Refused.{refused_lines}
use Rattle.fmp_looking.proofs.refused.lines_of.Given as goal

abbrev pub invariant-loop-call : goal.invariant-loop-call
invariant-loop-call l =
    l.out.items
    ++ refused_lines l.form l.file (code_tables l.text.code.now) l.text.positions.now
    (map refused_of (drop l.call-index l.refused))
    ≡ refused_lines l.form l.file (code_tables l.text.code.now) l.text.positions.now (map refused_of l.refused)
