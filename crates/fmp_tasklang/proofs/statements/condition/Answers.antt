use Rattle.std.proofs.lemmas.Result.{err_from_is_err_and}
use Rattle.fmp_lex.specs.Reading.{kinds_of, RightToken}
use Rattle.fmp_lex.proofs.Answered.{err_as, step_as}
use Rattle.fmp_tasklang.specs.Expressions.{loosest}
use Rattle.fmp_tasklang.specs.Reading.{RightExpression, RightCondition}
use Rattle.fmp_tasklang.specs.Views.{expression_view}
use Rattle.fmp_tasklang.proofs.Operands.{left, right}
use Rattle.fmp_tasklang.proofs.SimpleStatements.{condition_missing, condition_stop, condition_open, condition_found}
use Rattle.fmp_tasklang.proofs.statements.condition.Goals as goal

pub returns-in_err-next : goal.returns-in_err-next
returns-in_err-next c =
    let ts = kinds_of c.args.tokens.now in
    let d = c.args.depth in
    let i = c.args.at in
    let p = err_from_is_err_and c.from_residual.result c.from_residual.ensures.1 in
    rw (p.1, p.2) (step_as expression_view c.in_err-next.field-0.0 (RightToken ts left i) (RightCondition ts d i)
    (λ j why x. condition_missing ts d i j why x) c.in_err-next.ensures)

pub returns-in_err-condition : goal.returns-in_err-condition
returns-in_err-condition c =
    let ts = kinds_of c.args.tokens.now in
    let d = c.args.depth in
    let i = c.args.at in
    let p = err_from_is_err_and c.from_residual-in_err-condition.result c.from_residual-in_err-condition.ensures.1 in
    rw (p.1, p.2) (err_as expression_view expression_view c.in_err-condition.field-0.0
    (RightExpression ts d loosest c.in_ok-next.next) (RightCondition ts d i)
    (λ j why x. condition_stop ts d i c.in_ok-next.next c.in_ok-next.ensures j why x) c.in_err-condition.ensures)

pub returns-in_err-next-2 : goal.returns-in_err-next-2
returns-in_err-next-2 c =
    let ts = kinds_of c.args.tokens.now in
    let d = c.args.depth in
    let i = c.args.at in
    let p = err_from_is_err_and c.from_residual-in_err-next-2.result c.from_residual-in_err-next-2.ensures.1 in
    rw (p.1, p.2) (step_as expression_view c.in_err-next-2.field-0.0 (RightToken ts right c.in_ok-condition.next)
    (RightCondition ts d i)
    (λ j why x. condition_open ts d i c.in_ok-next.next c.in_ok-next.ensures
    (expression_view c.in_ok-condition.condition) c.in_ok-condition.next c.in_ok-condition.ensures j why x)
    c.in_err-next-2.ensures)

pub returns : goal.returns
returns c =
    let ts = kinds_of c.args.tokens.now in
    let d = c.args.depth in
    let i = c.args.at in
    condition_found ts d i c.in_ok-next.next c.in_ok-next.ensures (expression_view c.in_ok-condition.condition)
    c.in_ok-condition.next c.in_ok-condition.ensures c.in_ok-next-2.next c.in_ok-next-2.ensures
