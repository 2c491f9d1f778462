use Rattle.std.proofs.Common.{◌≡◌, ◌++◌, drop}
use Rattle.fmp_base.specs.Systems.{tables_of}
use Rattle.fmp_named.specs.Lines.{arguments_text}
use Rattle.fmp_named.proofs.lines.append_arguments.Given as goal

abbrev pub invariant-loop-parameter : goal.invariant-loop-parameter
invariant-loop-parameter l =
    l.out.items ++ arguments_text (tables_of l.sys) (drop l.parameter-index l.parameters) l.rest
    ≡ l.initial.out.items ++ arguments_text (tables_of l.sys) l.parameters l.numbers
