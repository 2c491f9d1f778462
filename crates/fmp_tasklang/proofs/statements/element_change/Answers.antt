use Rattle.std.proofs.lemmas.Result.{err_from_is_err_and}
use Rattle.fmp_lex.specs.Reading.{kinds_of, found, stopped, RightToken}
use Rattle.fmp_lex.proofs.Answered.{err_as, step_as}
use Rattle.fmp_tasklang.specs.Expressions.{loosest}
use Rattle.fmp_tasklang.specs.Reading.{element_view, RightBracketed, RightExpression, RightElementChange}
use Rattle.fmp_tasklang.specs.Views.{expression_view}
use Rattle.fmp_tasklang.proofs.StatementFrames.{equals, semicolon}
use Rattle.fmp_tasklang.proofs.SimpleStatements.{element_stop, element_equals, element_value_stop, element_open}
use Rattle.fmp_tasklang.proofs.SimpleStatements.{element_found}
use Rattle.fmp_tasklang.proofs.statements.element_change.Goals as goal

pub returns-in_err-index : goal.returns-in_err-index
returns-in_err-index c =
    let ts = kinds_of c.args.tokens.now in
    let d = c.args.depth in
    let i = c.args.at in
    let p = err_from_is_err_and c.from_residual.result c.from_residual.ensures.1 in
    rw (p.1, p.2) (err_as expression_view element_view c.in_err-index.field-0.0 (RightBracketed ts d i)
    (RightElementChange ts d i)
    (λ j why x. element_stop ts d i j why x) c.in_err-index.ensures)

pub returns-in_err-next : goal.returns-in_err-next
returns-in_err-next c =
    let ts = kinds_of c.args.tokens.now in
    let d = c.args.depth in
    let i = c.args.at in
    let p = err_from_is_err_and c.from_residual-in_err-next.result c.from_residual-in_err-next.ensures.1 in
    rw (p.1, p.2) (step_as element_view c.in_err-next.field-0.0 (RightToken ts equals c.in_ok-index.next)
    (RightElementChange ts d i)
    (λ j why x. element_equals ts d i (expression_view c.in_ok-index.index) c.in_ok-index.next c.in_ok-index.ensures j
    why x) c.in_err-next.ensures)

pub returns-in_err-value : goal.returns-in_err-value
returns-in_err-value c =
    let ts = kinds_of c.args.tokens.now in
    let d = c.args.depth in
    let i = c.args.at in
    let p = err_from_is_err_and c.from_residual-in_err-value.result c.from_residual-in_err-value.ensures.1 in
    rw (p.1, p.2) (err_as expression_view element_view c.in_err-value.field-0.0
    (RightExpression ts d loosest c.in_ok-next.next) (RightElementChange ts d i)
    (λ j why x. element_value_stop ts d i (expression_view c.in_ok-index.index) c.in_ok-index.next c.in_ok-index.ensures
    c.in_ok-next.next c.in_ok-next.ensures j why x) c.in_err-value.ensures)

pub returns-in_err-next-2 : goal.returns-in_err-next-2
returns-in_err-next-2 c =
    let ts = kinds_of c.args.tokens.now in
    let d = c.args.depth in
    let i = c.args.at in
    let p = err_from_is_err_and c.from_residual-in_err-next-2.result c.from_residual-in_err-next-2.ensures.1 in
    rw (p.1, p.2) (step_as element_view c.in_err-next-2.field-0.0 (RightToken ts semicolon c.in_ok-value.next)
    (RightElementChange ts d i)
    (λ j why x. element_open ts d i (expression_view c.in_ok-index.index) c.in_ok-index.next c.in_ok-index.ensures
    c.in_ok-next.next c.in_ok-next.ensures (expression_view c.in_ok-value.value) c.in_ok-value.next
    c.in_ok-value.ensures j why x)
    c.in_err-next-2.ensures)

pub returns : goal.returns
returns c =
    let ts = kinds_of c.args.tokens.now in
    let d = c.args.depth in
    let i = c.args.at in
    element_found ts d i (expression_view c.in_ok-index.index) c.in_ok-index.next c.in_ok-index.ensures
    c.in_ok-next.next c.in_ok-next.ensures (expression_view c.in_ok-value.value) c.in_ok-value.next
    c.in_ok-value.ensures
    c.in_ok-next-2.next c.in_ok-next-2.ensures
