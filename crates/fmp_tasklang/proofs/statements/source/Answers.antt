use Rattle.std.proofs.Common.{sym}
use Rattle.std.proofs.lemmas.Result.{err_from_is_err_and}
use Rattle.fmp_lex.specs.Reading.{kinds_of, found, stopped}
use Rattle.fmp_lex.proofs.Answered.{err_as}
use Rattle.fmp_tasklang.specs.Expressions.{loosest}
use Rattle.fmp_tasklang.specs.Reading.{called_view, source_view, RightExpression, RightCall, RightSource}
use Rattle.fmp_tasklang.specs.Views.{expression_view}
use Rattle.fmp_tasklang.proofs.SimpleStatements.{source_call, source_value}
use Rattle.fmp_tasklang.proofs.statements.source.Goals as goal

pub returns-in_err-call : goal.returns-in_err-call
returns-in_err-call c =
    let ts = kinds_of c.args.tokens.now in
    let d = c.args.depth in
    let i = c.args.at in
    let p = err_from_is_err_and c.from_residual.result c.from_residual.ensures.1 in
    rw (p.1, p.2) (err_as called_view source_view c.in_err-call.field-0.0 (RightCall ts d i) (RightSource ts d i)
    (λ j why x. source_call ts d i c.in-Some.service (sym c.in-Some.ensures.value) (stopped j why) x)
    c.in_err-call.ensures.reads)

pub returns-in_err-value : goal.returns-in_err-value
returns-in_err-value c =
    let ts = kinds_of c.args.tokens.now in
    let d = c.args.depth in
    let i = c.args.at in
    let p = err_from_is_err_and c.from_residual-in_err-value.result c.from_residual-in_err-value.ensures.1 in
    rw (p.1, p.2) (err_as expression_view source_view c.in_err-value.field-0.0 (RightExpression ts d loosest i)
    (RightSource ts d i)
    (λ j why x. source_value ts d i c.in_default.ensures.value (stopped j why) x) c.in_err-value.ensures)

pub returns-in-Some : goal.returns-in-Some
returns-in-Some c =
    let ts = kinds_of c.args.tokens.now in
    let d = c.args.depth in
    let i = c.args.at in
    source_call ts d i c.in-Some.service (sym c.in-Some.ensures.value)
    (found (called_view c.in_ok-call.call) c.in_ok-call.next) c.in_ok-call.ensures.reads

pub returns : goal.returns
returns c =
    let ts = kinds_of c.args.tokens.now in
    let d = c.args.depth in
    let i = c.args.at in
    source_value ts d i c.in_default.ensures.value (found (expression_view c.in_ok-value.value) c.in_ok-value.next)
    c.in_ok-value.ensures
