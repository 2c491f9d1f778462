use Rattle.std.proofs.Common.{rules, ◌≡◌, ◌∙◌, ◌∷◌, [], Some, ◌<◌, ◌≤◌, length, map, ap, arith}
use Rattle.fmp_base.specs.Systems.{tables_of}
use Rattle.fmp_tasklang.specs.Views.{body_view, program_view}
use Rattle.fmp_instructions.specs.Instructions.{body_tables}
use Rattle.fmp_codegen.specs.Compiling.{bodies_offence}
use Rattle.fmp_codegen.proofs.Judging.{compiled-on, compiled-stopped, judged-here, judged-on, map-append, code-tied}
use Rattle.fmp_codegen.proofs.Judging.{code-verified, all-accepted, all-compiled}
use Rattle.fmp_codegen.proofs.Limits.{few-viewed, low-bodies}
use Rattle.fmp_codegen.proofs.compiling.compile.Goals as goal

pub returns-in-Err-clause-compiled : goal.returns-in-Err-clause-compiled
returns-in-Err-clause-compiled c =
    let tables = tables_of c.args.system.now in
    let items = c.args.program.now.bodies.items in
    let bodies = program_view c.args.program.now in
    let within : c.loop-i.i < length items = omega (arith, c.loop-i-test.true, c.len-i-end.ensures) in
    let first : bodies_offence tables [] bodies ≡ Some c.in-Err.offence =
    judged-here tables items c.loop-i.i c.index-body.result.now within (search rules)
    (bodies_offence tables [] bodies) c.in-Err.offence
    (search rules) c.loop-i.invariant.rest in
    compiled-stopped tables c.args.tokens.now bodies c.in-Err.offence c.source_fault.result c.source_fault.ensures first

pub returns-clause-tied : goal.returns-clause-tied
returns-clause-tied c =
    let tables = tables_of c.args.system.now in
    let bodies = c.args.program.now.bodies.items in
    let last : length bodies ≤ c.loop-i.i = omega (arith, c.loop-i-test.false) in
    code-tied tables (map body_view bodies) (map body_tables c.loop-i.bodies.items)
    (all-accepted tables bodies c.loop-i.i last c.loop-i.invariant.rest)
    (all-compiled tables bodies c.loop-i.i last (map body_tables c.loop-i.bodies.items) c.loop-i.invariant.code)

pub returns-clause-verified : goal.returns-clause-verified
returns-clause-verified c = λ fits.
    let tables = tables_of c.args.system.now in
    let bodies = c.args.program.now.bodies.items in
    let last : length bodies ≤ c.loop-i.i = omega (arith, c.loop-i-test.false) in
    code-verified tables (map body_view bodies) (map body_tables c.loop-i.bodies.items)
    (all-accepted tables bodies c.loop-i.i last c.loop-i.invariant.rest)
    (all-compiled tables bodies c.loop-i.i last (map body_tables c.loop-i.bodies.items) c.loop-i.invariant.code) fits

pub returns-clause-few : goal.returns-clause-few
returns-clause-few c =
    let tables = tables_of c.args.system.now in
    let bodies = c.args.program.now.bodies.items in
    let last : length bodies ≤ c.loop-i.i = omega (arith, c.loop-i-test.false) in
    few-viewed tables bodies (all-accepted tables bodies c.loop-i.i last c.loop-i.invariant.rest)

pub returns-clause-low : goal.returns-clause-low
returns-clause-low c =
    let tables = tables_of c.args.system.now in
    let bodies = c.args.program.now.bodies.items in
    let last : length bodies ≤ c.loop-i.i = omega (arith, c.loop-i-test.false) in
    low-bodies tables bodies (all-accepted tables bodies c.loop-i.i last c.loop-i.invariant.rest)

pub returns-clause-compiled : goal.returns-clause-compiled
returns-clause-compiled c =
    let tables = tables_of c.args.system.now in
    let bodies = c.args.program.now.bodies.items in
    let last : length bodies ≤ c.loop-i.i = omega (arith, c.loop-i-test.false) in (
      all-accepted tables bodies c.loop-i.i last c.loop-i.invariant.rest,
      all-compiled tables bodies c.loop-i.i last (map body_tables c.loop-i.bodies.items) c.loop-i.invariant.code,
    )

pub loop-i-preserved : goal.loop-i-preserved
loop-i-preserved c =
    let tables = tables_of c.args.system.now in
    let items = c.args.program.now.bodies.items in
    let bodies = program_view c.args.program.now in
    let code = c.in_ok-code-in-Ok.code in
    let within : c.loop-i.i < length items = omega (arith, c.loop-i-test.true, c.len-i-end.ensures) in
    let grows = ap (map body_tables) c.in_ok-append-in-Ok.ensures
    ∙ map-append body_tables c.loop-i.bodies.items (code ∷ []) in
    record {
      rest = judged-on tables items c.loop-i.i c.index-body.result.now within (search rules)
          (bodies_offence tables [] bodies) (search rules) c.loop-i.invariant.rest;
      code = compiled-on tables items c.loop-i.i c.index-body.result.now within (search rules)
          (map body_tables c.loop-i.bodies.items) _ (body_tables code) _ grows
          c.in_ok-code-in-Ok.ensures c.loop-i.invariant.code;
    }
