use Rattle.std.proofs.Common.{rules, ◌≡◌, ◌+◌, ◌++◌, length, refl, ap, sym, ◌∙◌, arith}
use Rattle.fmp_tasklang.specs.declared.trees.Statement.{the_lemmas}
use Rattle.fmp_tasklang.specs.Views.{expression_view, block_view}
use Rattle.fmp_scopes.specs.Depths.{statement_depth}
use Rattle.fmp_scopes.specs.DepthTables.{statement_depths, block_depths}
use Rattle.fmp_scopes.specs.Scheme.{statement_code}
use Rattle.fmp_scopes.specs.Scopes.{scope_view}
use Rattle.fmp_scopes.specs.Sizes.{expression_size, statement_size, block_size}
use Rattle.fmp_emission.specs.Breaks.{statement_breaks, block_breaks}
use Rattle.fmp_emission.proofs.Arms.{if-emitted, while-emitted, else-emitted, if-deep, while-deep, else-deep}
use Rattle.fmp_emission.proofs.Arms.{both-noted}
use Rattle.fmp_scopes.proofs.ViewTrees.{view-If, view-IfElse, view-While}
use Rattle.fmp_emission.proofs.emission.+statement_emission.Goals as goal

pub emit_statement-emit_test-requires-clause-room : goal.emit_statement-emit_test-requires-clause-room
emit_statement-emit_test-requires-clause-room t c =
    let view = view-If c.args.s.now c.in-If.condition c.in-If.then c.in-If.then.items c.in-If.is refl in
    let size = ap statement_size view in
    omega (arith, size, c.requires.room)

pub emit_statement-emit_block-requires : goal.emit_statement-emit_block-requires
emit_statement-emit_block-requires t c =
    let view = view-If c.args.s.now c.in-If.condition c.in-If.then c.deref-in-If.result.now c.in-If.is
    c.deref-in-If.ensures.value in
    let size = ap statement_size view in
    let depth = ap statement_depth view in (
      search (rules, the_lemmas),
      (
        c.requires.held,
        (
          omega (
            arith,
            size,
            c.in_ok-emit_test-in-If.ensures.len,
            c.requires.room,
          ),
          omega (arith, depth, c.requires.low),
        ),
      ),
    )

pub emit_statement-emit_test-requires-in-IfElse-clause-room :
    goal.emit_statement-emit_test-requires-in-IfElse-clause-room
emit_statement-emit_test-requires-in-IfElse-clause-room t c =
    let view =
    view-IfElse c.args.s.now c.in-IfElse.condition c.in-IfElse.then c.in-IfElse.otherwise c.deref-in-IfElse.result.now
    c.in-IfElse.then.items c.in-IfElse.otherwise.items c.in-IfElse.is c.deref-in-IfElse.ensures refl refl in
    let size = ap statement_size view in
    omega (arith, size, c.requires.room)

pub emit_statement-emit_block-requires-in-IfElse : goal.emit_statement-emit_block-requires-in-IfElse
emit_statement-emit_block-requires-in-IfElse t c =
    let view =
    view-IfElse c.args.s.now c.in-IfElse.condition c.in-IfElse.then c.in-IfElse.otherwise c.deref-in-IfElse.result.now
    c.deref-in-IfElse-2.result.now c.in-IfElse.otherwise.items c.in-IfElse.is c.deref-in-IfElse.ensures
    c.deref-in-IfElse-2.ensures.value
    refl in
    let size = ap statement_size view in
    let depth = ap statement_depth view in (
      search (rules, the_lemmas),
      (
        c.requires.held,
        (
          omega (
            arith,
            size,
            c.in_ok-emit_test-in-IfElse.ensures.len,
            c.requires.room,
          ),
          omega (arith, depth, c.requires.low),
        ),
      ),
    )

pub emit_statement-emit_block-requires-in-IfElse-2 : goal.emit_statement-emit_block-requires-in-IfElse-2
emit_statement-emit_block-requires-in-IfElse-2 t c =
    let view =
    view-IfElse c.args.s.now c.in-IfElse.condition c.in-IfElse.then c.in-IfElse.otherwise c.deref-in-IfElse.result.now
    c.deref-in-IfElse-2.result.now c.deref-in-IfElse-3.result.now c.in-IfElse.is c.deref-in-IfElse.ensures
    c.deref-in-IfElse-2.ensures.value c.deref-in-IfElse-3.ensures.value in
    let size = ap statement_size view in
    let depth = ap statement_depth view in (
      search (rules, the_lemmas),
      (
        c.requires.held,
        (
          omega (
            arith,
            size,
            c.in_ok-emit_test-in-IfElse.ensures.len,
            c.in_ok-emit_block-in-IfElse.ensures.len,
            c.in_ok-put-in-IfElse.ensures.len,
            c.end_test-in-IfElse.ensures.len,
            c.requires.room,
          ),
          omega (arith, depth, c.requires.low),
        ),
      ),
    )

pub emit_statement-emit_test-requires-in-While-clause-room :
    goal.emit_statement-emit_test-requires-in-While-clause-room
emit_statement-emit_test-requires-in-While-clause-room t c =
    let view = view-While c.args.s.now c.in-While.condition c.in-While.body c.in-While.body.items c.in-While.is refl in
    let size = ap statement_size view in
    omega (arith, size, c.requires.room)

pub emit_statement-emit_block-requires-in-While : goal.emit_statement-emit_block-requires-in-While
emit_statement-emit_block-requires-in-While t c =
    let view = view-While c.args.s.now c.in-While.condition c.in-While.body c.deref-in-While.result.now c.in-While.is
    c.deref-in-While.ensures.value in
    let size = ap statement_size view in
    let depth = ap statement_depth view in (
      search (rules, the_lemmas),
      (
        c.requires.held,
        (
          omega (
            arith,
            size,
            c.in_ok-emit_test-in-While.ensures.len,
            c.requires.room,
          ),
          omega (arith, depth, c.requires.low),
        ),
      ),
    )

pub emit_statement-returns-in_ok-emit_block-in-If-clause-code :
    goal.emit_statement-returns-in_ok-emit_block-in-If-clause-code
emit_statement-returns-in_ok-emit_block-in-If-clause-code t c =
    let view = view-If c.args.s.now c.in-If.condition c.in-If.then c.deref-in-If.result.now c.in-If.is
    c.deref-in-If.ensures.value in
    let scope = scope_view c.args.names.now in
    let begun = c.args.out.now.instructions.items in
    if-emitted scope (expression_view c.in-If.condition) (block_view c.deref-in-If.result.now) begun
    c.emit_test.new.out.instructions.items
    c.emit_block.new.out.instructions.items 0 c.args.again 0 c.in_ok-emit_test-in-If.ensures.code
    c.in_ok-emit_test-in-If.ensures.len c.in_ok-emit_block-in-If.ensures.code
    c.end_test.new.out.instructions.items c.last_place-test.result c.last_place-test.ensures
    c.in_ok-emit_block-in-If.ensures.len c.end_test.ensures.code
    ∙ ap (λ st. begun ++ statement_code scope st (length begun) c.args.again 0) (sym view)

pub emit_statement-returns-in_ok-emit_block-in-If-clause-len :
    goal.emit_statement-returns-in_ok-emit_block-in-If-clause-len
emit_statement-returns-in_ok-emit_block-in-If-clause-len t c =
    let view = view-If c.args.s.now c.in-If.condition c.in-If.then c.deref-in-If.result.now c.in-If.is
    c.deref-in-If.ensures.value in
    let size = ap statement_size view in
    omega (
      arith,
      size,
      c.in_ok-emit_test-in-If.ensures.len,
      c.in_ok-emit_block-in-If.ensures.len,
      c.end_test.ensures.len,
    )

pub emit_statement-returns-in_ok-emit_block-in-If-clause-depths :
    goal.emit_statement-returns-in_ok-emit_block-in-If-clause-depths
emit_statement-returns-in_ok-emit_block-in-If-clause-depths t c =
    let view = view-If c.args.s.now c.in-If.condition c.in-If.then c.deref-in-If.result.now c.in-If.is
    c.deref-in-If.ensures.value in
    let begun = c.args.out.now.depths.items in
    c.end_test.ensures.depths
    ∙ if-deep (expression_view c.in-If.condition) (block_view c.deref-in-If.result.now) begun
    c.emit_test.new.out.depths.items
    c.emit_block.new.out.depths.items c.in_ok-emit_test-in-If.ensures.depths c.in_ok-emit_block-in-If.ensures.depths
    ∙ ap (λ st. begun ++ statement_depths st) (sym view)

pub emit_statement-returns-in_ok-emit_block-in-IfElse-2-clause-code :
    goal.emit_statement-returns-in_ok-emit_block-in-IfElse-2-clause-code
emit_statement-returns-in_ok-emit_block-in-IfElse-2-clause-code t c =
    let view =
    view-IfElse c.args.s.now c.in-IfElse.condition c.in-IfElse.then c.in-IfElse.otherwise c.deref-in-IfElse.result.now
    c.deref-in-IfElse-2.result.now c.deref-in-IfElse-3.result.now c.in-IfElse.is c.deref-in-IfElse.ensures
    c.deref-in-IfElse-2.ensures.value c.deref-in-IfElse-3.ensures.value in
    let scope = scope_view c.args.names.now in
    let begun = c.args.out.now.instructions.items in
    else-emitted scope (expression_view c.deref-in-IfElse.result.now) (block_view c.deref-in-IfElse-2.result.now) begun
    c.emit_test-in-IfElse.new.out.instructions.items c.emit_block-in-IfElse.new.out.instructions.items
    0 c.args.again 0 c.in_ok-emit_test-in-IfElse.ensures.code
    c.in_ok-emit_test-in-IfElse.ensures.len c.in_ok-emit_block-in-IfElse.ensures.code
    (block_view c.deref-in-IfElse-3.result.now) c.put-in-IfElse.new.out.instructions.items
    c.end_test-in-IfElse.new.out.instructions.items c.emit_block-in-IfElse-2.new.out.instructions.items
    c.end_jump.new.out.instructions.items c.last_place-choice.result c.last_place-jump.result
    c.last_place-choice.ensures c.in_ok-emit_block-in-IfElse.ensures.len c.in_ok-put-in-IfElse.ensures.code
    c.in_ok-put-in-IfElse.ensures.len c.last_place-jump.ensures c.end_test-in-IfElse.ensures.code
    c.end_test-in-IfElse.ensures.len c.in_ok-emit_block-in-IfElse-2.ensures.code
    c.in_ok-emit_block-in-IfElse-2.ensures.len c.end_jump.ensures.code
    ∙ ap (λ st. begun ++ statement_code scope st (length begun) c.args.again 0) (sym view)

pub emit_statement-returns-in_ok-emit_block-in-IfElse-2-clause-len :
    goal.emit_statement-returns-in_ok-emit_block-in-IfElse-2-clause-len
emit_statement-returns-in_ok-emit_block-in-IfElse-2-clause-len t c =
    let view =
    view-IfElse c.args.s.now c.in-IfElse.condition c.in-IfElse.then c.in-IfElse.otherwise c.deref-in-IfElse.result.now
    c.deref-in-IfElse-2.result.now c.deref-in-IfElse-3.result.now c.in-IfElse.is c.deref-in-IfElse.ensures
    c.deref-in-IfElse-2.ensures.value c.deref-in-IfElse-3.ensures.value in
    let size = ap statement_size view in
    omega (
      arith,
      size,
      c.in_ok-emit_test-in-IfElse.ensures.len,
      c.in_ok-emit_block-in-IfElse.ensures.len,
      c.in_ok-put-in-IfElse.ensures.len,
      c.in_ok-emit_block-in-IfElse-2.ensures.len,
      c.end_test-in-IfElse.ensures.len,
      c.end_jump.ensures.len,
    )

pub emit_statement-returns-in_ok-emit_block-in-IfElse-2-clause-depths :
    goal.emit_statement-returns-in_ok-emit_block-in-IfElse-2-clause-depths
emit_statement-returns-in_ok-emit_block-in-IfElse-2-clause-depths t c =
    let view =
    view-IfElse c.args.s.now c.in-IfElse.condition c.in-IfElse.then c.in-IfElse.otherwise c.deref-in-IfElse.result.now
    c.deref-in-IfElse-2.result.now c.deref-in-IfElse-3.result.now c.in-IfElse.is c.deref-in-IfElse.ensures
    c.deref-in-IfElse-2.ensures.value c.deref-in-IfElse-3.ensures.value in
    let begun = c.args.out.now.depths.items in
    c.end_jump.ensures.depths
    ∙ else-deep (expression_view c.deref-in-IfElse.result.now) (block_view c.deref-in-IfElse-2.result.now) begun
    c.emit_test-in-IfElse.new.out.depths.items c.emit_block-in-IfElse.new.out.depths.items
    c.in_ok-emit_test-in-IfElse.ensures.depths c.in_ok-emit_block-in-IfElse.ensures.depths
    (block_view c.deref-in-IfElse-3.result.now) c.put-in-IfElse.new.out.depths.items
    c.emit_block-in-IfElse-2.new.out.depths.items
    c.in_ok-put-in-IfElse.ensures.depths
    (c.in_ok-emit_block-in-IfElse-2.ensures.depths
    ∙ ap (λ ds. ds ++ block_depths (block_view c.deref-in-IfElse-3.result.now)) c.end_test-in-IfElse.ensures.depths)
    ∙ ap (λ st. begun ++ statement_depths st) (sym view)

pub emit_statement-returns-in_ok-put-in-While-clause-code :
    goal.emit_statement-returns-in_ok-put-in-While-clause-code
emit_statement-returns-in_ok-put-in-While-clause-code t c =
    let view = view-While c.args.s.now c.in-While.condition c.in-While.body c.deref-in-While.result.now c.in-While.is
    c.deref-in-While.ensures.value in
    let scope = scope_view c.args.names.now in
    let begun = c.args.out.now.instructions.items in
    let start = c.args.out.now.instructions.ok.0 in
    while-emitted scope (expression_view c.in-While.condition) (block_view c.deref-in-While.result.now) begun
    c.emit_test-in-While.new.out.instructions.items c.emit_block-in-While.new.out.instructions.items
    0 c.place-start.result 0 c.in_ok-emit_test-in-While.ensures.code
    c.in_ok-emit_test-in-While.ensures.len c.in_ok-emit_block-in-While.ensures.code refl
    c.put-in-While.new.out.instructions.items c.end_test-in-While.new.out.instructions.items
    c.end_breaks.new.out.instructions.items c.last_place-test-in-While.result c.len-outer.result
    c.args.breaks.now.items c.emit_block-in-While.new.breaks.items
    c.last_place-test-in-While.ensures c.in_ok-emit_block-in-While.ensures.len
    (omega (arith, start, c.place-start.ensures, c.len.ensures)) c.in_ok-put-in-While.ensures.code
    c.in_ok-put-in-While.ensures.len c.end_test-in-While.ensures.code c.end_test-in-While.ensures.len
    (omega (arith, c.len-outer.ensures, c.args.breaks.now.ok.0)) c.in_ok-emit_block-in-While.ensures.breaks
    c.end_breaks.ensures.code c.args.again 0
    ∙ ap (λ st. begun ++ statement_code scope st (length begun) c.args.again 0) (sym view)

pub emit_statement-returns-in_ok-put-in-While-clause-len :
    goal.emit_statement-returns-in_ok-put-in-While-clause-len
emit_statement-returns-in_ok-put-in-While-clause-len t c =
    let view = view-While c.args.s.now c.in-While.condition c.in-While.body c.deref-in-While.result.now c.in-While.is
    c.deref-in-While.ensures.value in
    let size = ap statement_size view in
    omega (
      arith,
      size,
      c.in_ok-emit_test-in-While.ensures.len,
      c.in_ok-emit_block-in-While.ensures.len,
      c.in_ok-put-in-While.ensures.len,
      c.end_test-in-While.ensures.len,
      c.end_breaks.ensures.len,
    )

pub emit_statement-returns-in_ok-put-in-While-clause-depths :
    goal.emit_statement-returns-in_ok-put-in-While-clause-depths
emit_statement-returns-in_ok-put-in-While-clause-depths t c =
    let view = view-While c.args.s.now c.in-While.condition c.in-While.body c.deref-in-While.result.now c.in-While.is
    c.deref-in-While.ensures.value in
    let begun = c.args.out.now.depths.items in
    c.end_breaks.ensures.depths ∙ c.end_test-in-While.ensures.depths
    ∙ while-deep (expression_view c.in-While.condition) (block_view c.deref-in-While.result.now) begun
    c.emit_test-in-While.new.out.depths.items c.emit_block-in-While.new.out.depths.items
    c.in_ok-emit_test-in-While.ensures.depths c.in_ok-emit_block-in-While.ensures.depths
    c.put-in-While.new.out.depths.items
    c.in_ok-put-in-While.ensures.depths
    ∙ ap (λ st. begun ++ statement_depths st) (sym view)

pub emit_statement-end_test-requires-clause-room : goal.emit_statement-end_test-requires-clause-room
emit_statement-end_test-requires-clause-room t c =
    let view = view-If c.args.s.now c.in-If.condition c.in-If.then c.deref-in-If.result.now c.in-If.is
    c.deref-in-If.ensures.value in
    let size = ap statement_size view in
    omega (arith, size, c.in_ok-emit_test-in-If.ensures.len, c.in_ok-emit_block-in-If.ensures.len, c.requires.room)

pub emit_statement-end_test-requires-in-IfElse-clause-room : goal.emit_statement-end_test-requires-in-IfElse-clause-room
emit_statement-end_test-requires-in-IfElse-clause-room t c =
    let view =
    view-IfElse c.args.s.now c.in-IfElse.condition c.in-IfElse.then c.in-IfElse.otherwise c.deref-in-IfElse.result.now
    c.deref-in-IfElse-2.result.now c.in-IfElse.otherwise.items c.in-IfElse.is c.deref-in-IfElse.ensures
    c.deref-in-IfElse-2.ensures.value
    refl in
    let size = ap statement_size view in
    omega (
      arith,
      size,
      c.in_ok-emit_test-in-IfElse.ensures.len,
      c.in_ok-emit_block-in-IfElse.ensures.len,
      c.in_ok-put-in-IfElse.ensures.len,
      c.requires.room,
    )

pub emit_statement-end_jump-requires-clause-room : goal.emit_statement-end_jump-requires-clause-room
emit_statement-end_jump-requires-clause-room t c =
    let view =
    view-IfElse c.args.s.now c.in-IfElse.condition c.in-IfElse.then c.in-IfElse.otherwise c.deref-in-IfElse.result.now
    c.deref-in-IfElse-2.result.now c.deref-in-IfElse-3.result.now c.in-IfElse.is c.deref-in-IfElse.ensures
    c.deref-in-IfElse-2.ensures.value c.deref-in-IfElse-3.ensures.value in
    let size = ap statement_size view in
    omega (
      arith,
      size,
      c.in_ok-emit_test-in-IfElse.ensures.len,
      c.in_ok-emit_block-in-IfElse.ensures.len,
      c.in_ok-put-in-IfElse.ensures.len,
      c.end_test-in-IfElse.ensures.len,
      c.in_ok-emit_block-in-IfElse-2.ensures.len,
      c.requires.room,
    )

pub emit_statement-end_test-requires-in-While-clause-room : goal.emit_statement-end_test-requires-in-While-clause-room
emit_statement-end_test-requires-in-While-clause-room t c =
    let view = view-While c.args.s.now c.in-While.condition c.in-While.body c.deref-in-While.result.now c.in-While.is
    c.deref-in-While.ensures.value in
    let size = ap statement_size view in
    omega (
      arith,
      size,
      c.in_ok-emit_test-in-While.ensures.len,
      c.in_ok-emit_block-in-While.ensures.len,
      c.in_ok-put-in-While.ensures.len,
      c.requires.room,
    )

pub emit_statement-end_breaks-requires : goal.emit_statement-end_breaks-requires
emit_statement-end_breaks-requires t c =
    let view = view-While c.args.s.now c.in-While.condition c.in-While.body c.deref-in-While.result.now c.in-While.is
    c.deref-in-While.ensures.value in
    let size = ap statement_size view in
    omega (
      arith,
      size,
      c.in_ok-emit_test-in-While.ensures.len,
      c.in_ok-emit_block-in-While.ensures.len,
      c.in_ok-put-in-While.ensures.len,
      c.end_test-in-While.ensures.len,
      c.requires.room,
    )

pub emit_statement-returns-in_ok-emit_block-in-If-clause-breaks :
    goal.emit_statement-returns-in_ok-emit_block-in-If-clause-breaks
emit_statement-returns-in_ok-emit_block-in-If-clause-breaks t c =
    let view = view-If c.args.s.now c.in-If.condition c.in-If.then c.deref-in-If.result.now c.in-If.is
    c.deref-in-If.ensures.value in
    let begun = c.args.out.now.instructions.items in
    let noted = c.args.breaks.now.items in
    c.in_ok-emit_block-in-If.ensures.breaks
    ∙ ap (λ n. noted ++ block_breaks (block_view c.deref-in-If.result.now) n) c.in_ok-emit_test-in-If.ensures.len
    ∙ ap (λ st. noted ++ statement_breaks st (length begun)) (sym view)

pub emit_statement-returns-in_ok-emit_block-in-IfElse-2-clause-breaks :
    goal.emit_statement-returns-in_ok-emit_block-in-IfElse-2-clause-breaks
emit_statement-returns-in_ok-emit_block-in-IfElse-2-clause-breaks t c =
    let view =
    view-IfElse c.args.s.now c.in-IfElse.condition c.in-IfElse.then c.in-IfElse.otherwise c.deref-in-IfElse.result.now
    c.deref-in-IfElse-2.result.now c.deref-in-IfElse-3.result.now c.in-IfElse.is c.deref-in-IfElse.ensures
    c.deref-in-IfElse-2.ensures.value c.deref-in-IfElse-3.ensures.value in
    let begun = c.args.out.now.instructions.items in
    let noted = c.args.breaks.now.items in
    let first = block_view c.deref-in-IfElse-2.result.now in
    let second = block_view c.deref-in-IfElse-3.result.now in
    let behind : length c.end_test-in-IfElse.new.out.instructions.items ≡
    length begun + expression_size (expression_view c.deref-in-IfElse.result.now) + 1 + block_size first + 1 =
    omega (
      arith,
      c.in_ok-emit_test-in-IfElse.ensures.len,
      c.in_ok-emit_block-in-IfElse.ensures.len,
      c.in_ok-put-in-IfElse.ensures.len,
      c.end_test-in-IfElse.ensures.len,
    ) in
    both-noted noted first second (length begun + expression_size (expression_view c.deref-in-IfElse.result.now) + 1)
    c.emit_block-in-IfElse.new.breaks.items c.emit_block-in-IfElse-2.new.breaks.items
    (length c.emit_test-in-IfElse.new.out.instructions.items) (length c.end_test-in-IfElse.new.out.instructions.items)
    c.in_ok-emit_test-in-IfElse.ensures.len behind c.in_ok-emit_block-in-IfElse.ensures.breaks
    c.in_ok-emit_block-in-IfElse-2.ensures.breaks
    ∙ ap (λ st. noted ++ statement_breaks st (length begun)) (sym view)
