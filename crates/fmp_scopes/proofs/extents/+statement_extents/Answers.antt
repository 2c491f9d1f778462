use Rattle.std.proofs.Common.{ap, ◌∙◌, arith}
use Rattle.fmp_tasklang.specs.Views.{expression_view, statement_view, block_view}
use Rattle.fmp_tasklang.proofs.Views.{statement_view-If, statement_view-IfElse, statement_view-While}
use Rattle.fmp_scopes.specs.Depths.{expression_depth, statement_depth, block_depth}
use Rattle.fmp_scopes.specs.Sizes.{expression_size, statement_size, block_size}
use Rattle.fmp_scopes.proofs.extents.+statement_extents.Goals as goal

pub statement_extent-returns-in-If-clause-size : goal.statement_extent-returns-in-If-clause-size
statement_extent-returns-in-If-clause-size t c =
    let view = ap statement_view c.in-If.is ∙ statement_view-If c.in-If.condition c.in-If.then in
    let whole = ap statement_size view in
    let block = ap (λ xs. block_size (block_view xs)) c.deref-in-If.ensures.value in
    let test = c.expression_extent-test.ensures.size in
    let inner = c.block_extent-inner.ensures.size in
    omega (arith, whole, block, test, inner, c.cut_extent-in-If.ensures.size)

pub statement_extent-returns-in-If-clause-depth : goal.statement_extent-returns-in-If-clause-depth
statement_extent-returns-in-If-clause-depth t c =
    let view = ap statement_view c.in-If.is ∙ statement_view-If c.in-If.condition c.in-If.then in
    let whole = ap statement_depth view in
    let block = ap (λ xs. block_depth (block_view xs)) c.deref-in-If.ensures.value in
    let test = c.expression_extent-test.ensures.depth in
    let inner = c.block_extent-inner.ensures.depth in
    omega (arith, whole, block, test, inner, c.greater-in-If.ensures, c.cut_extent-in-If.ensures.depth)

pub statement_extent-returns-in-IfElse-clause-size : goal.statement_extent-returns-in-IfElse-clause-size
statement_extent-returns-in-IfElse-clause-size t c =
    let view = ap statement_view c.in-IfElse.is
    ∙ statement_view-IfElse c.in-IfElse.condition c.in-IfElse.then c.in-IfElse.otherwise in
    let whole = ap statement_size view in
    let one = ap (λ xs. block_size (block_view xs)) c.deref-in-IfElse-2.ensures.value in
    let two = ap (λ xs. block_size (block_view xs)) c.deref-in-IfElse-3.ensures.value in
    let choice = ap (λ x. expression_size (expression_view x)) c.deref-in-IfElse.ensures in
    let test = c.expression_extent-test-in-IfElse.ensures.size in
    let first = c.block_extent-first.ensures.size in
    let second = c.block_extent-second.ensures.size in
    omega (arith, whole, one, two, choice, test, first, second, c.cut_extent-in-IfElse.ensures.size)

pub statement_extent-returns-in-IfElse-clause-depth : goal.statement_extent-returns-in-IfElse-clause-depth
statement_extent-returns-in-IfElse-clause-depth t c =
    let view = ap statement_view c.in-IfElse.is
    ∙ statement_view-IfElse c.in-IfElse.condition c.in-IfElse.then c.in-IfElse.otherwise in
    let whole = ap statement_depth view in
    let one = ap (λ xs. block_depth (block_view xs)) c.deref-in-IfElse-2.ensures.value in
    let two = ap (λ xs. block_depth (block_view xs)) c.deref-in-IfElse-3.ensures.value in
    let choice = ap (λ x. expression_depth (expression_view x)) c.deref-in-IfElse.ensures in
    let test = c.expression_extent-test-in-IfElse.ensures.depth in
    let first = c.block_extent-first.ensures.depth in
    let second = c.block_extent-second.ensures.depth in
    omega (
      arith,
      whole,
      one,
      two,
      choice,
      test,
      first,
      second,
      c.greater-in-IfElse.ensures,
      c.greater-in-IfElse-2.ensures,
      c.cut_extent-in-IfElse.ensures.depth,
    )

pub statement_extent-returns-in-While-clause-size : goal.statement_extent-returns-in-While-clause-size
statement_extent-returns-in-While-clause-size t c =
    let view = ap statement_view c.in-While.is ∙ statement_view-While c.in-While.condition c.in-While.body in
    let whole = ap statement_size view in
    let block = ap (λ xs. block_size (block_view xs)) c.deref-in-While.ensures.value in
    let test = c.expression_extent-test-in-While.ensures.size in
    let inner = c.block_extent-inner-in-While.ensures.size in
    omega (arith, whole, block, test, inner, c.cut_extent-in-While.ensures.size)

pub statement_extent-returns-in-While-clause-depth : goal.statement_extent-returns-in-While-clause-depth
statement_extent-returns-in-While-clause-depth t c =
    let view = ap statement_view c.in-While.is ∙ statement_view-While c.in-While.condition c.in-While.body in
    let whole = ap statement_depth view in
    let block = ap (λ xs. block_depth (block_view xs)) c.deref-in-While.ensures.value in
    let test = c.expression_extent-test-in-While.ensures.depth in
    let inner = c.block_extent-inner-in-While.ensures.depth in
    omega (arith, whole, block, test, inner, c.greater-in-While.ensures, c.cut_extent-in-While.ensures.depth)
