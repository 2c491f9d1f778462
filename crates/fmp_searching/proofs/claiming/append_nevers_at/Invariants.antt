use Rattle.std.proofs.Common.{◌≡◌, ◌++◌, drop}
use Rattle.std.specs.List.{flat_map}
use Rattle.fmp_instructions.specs.Instructions.{code_tables}
use Rattle.fmp_base.specs.Systems.{tables_of}
use Rattle.fmp_searching.specs.Claims.{never_at_text}
use Rattle.fmp_searching.proofs.claiming.append_nevers_at.Given as goal

abbrev pub invariant-loop-never : goal.invariant-loop-never
invariant-loop-never l =
    l.out.items
    ++ flat_map (λ n. never_at_text (tables_of l.sys) (code_tables l.code) l.lines n) (drop l.never-index l.nevers)
    ≡ l.initial.out.items ++ flat_map (λ n. never_at_text (tables_of l.sys) (code_tables l.code) l.lines n) l.nevers
