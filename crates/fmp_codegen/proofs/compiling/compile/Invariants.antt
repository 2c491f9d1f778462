use Rattle.std.proofs.Common.{◌≡◌, ◌++◌, [], drop, take, map}
use Rattle.fmp_base.specs.Systems.{tables_of}
use Rattle.fmp_tasklang.specs.Views.{body_view}
use Rattle.fmp_instructions.specs.Instructions.{body_tables}
use Rattle.fmp_codegen.specs.Compiling.{bodies_offence, compiled}
use Rattle.fmp_codegen.proofs.compiling.compile.Given as goal

abbrev pub invariant-loop-i : goal.invariant-loop-i
invariant-loop-i l =
    let tables = tables_of l.system in
    let bodies = l.program.bodies.items in
    record {
      rest :
          bodies_offence tables (map (λ b. b.name.name) (take l.i bodies)) (map body_view (drop l.i bodies)) ≡
          bodies_offence tables [] (map body_view bodies);
      code :
          map body_tables l.bodies.items ++ compiled tables (map body_view (drop l.i bodies)) ≡
          compiled tables (map body_view bodies);
    }
