use Rattle.std.proofs.lemmas.Result.{err_from_is_err_and}
use Rattle.fmp_lex.specs.Reading.{kinds_of, RightToken}
use Rattle.fmp_lex.proofs.Answered.{err_as, step_as}
use Rattle.fmp_tasklang.specs.Reading.{called_view, RightCall, RightPlainCall}
use Rattle.fmp_tasklang.specs.Views.{statement_view}
use Rattle.fmp_tasklang.proofs.StatementFrames.{semicolon}
use Rattle.fmp_tasklang.proofs.SimpleStatements.{plain_stop, plain_open, plain_found}
use Rattle.fmp_tasklang.proofs.statements.plain_call.Goals as goal

pub returns-in_err-call : goal.returns-in_err-call
returns-in_err-call c =
    let ts = kinds_of c.args.tokens.now in
    let d = c.args.depth in
    let i = c.args.at in
    let p = err_from_is_err_and c.from_residual.result c.from_residual.ensures.1 in
    rw (p.1, p.2) (err_as called_view statement_view c.in_err-call.field-0.0 (RightCall ts d i) (RightPlainCall ts d i)
    (λ j why x. plain_stop ts d i j why x) c.in_err-call.ensures.reads)

pub returns-in_err-next : goal.returns-in_err-next
returns-in_err-next c =
    let ts = kinds_of c.args.tokens.now in
    let d = c.args.depth in
    let i = c.args.at in
    let p = err_from_is_err_and c.from_residual-in_err-next.result c.from_residual-in_err-next.ensures.1 in
    rw (p.1, p.2) (step_as statement_view c.in_err-next.field-0.0 (RightToken ts semicolon c.in_ok-call.next)
    (RightPlainCall ts d i)
    (λ j why x. plain_open ts d i (called_view c.in_ok-call.call) c.in_ok-call.next c.in_ok-call.ensures.reads j why x)
    c.in_err-next.ensures)

pub returns : goal.returns
returns c =
    let ts = kinds_of c.args.tokens.now in
    let d = c.args.depth in
    let i = c.args.at in
    rw c.in_ok-call.ensures.result (plain_found ts d i (called_view c.in_ok-call.call) c.in_ok-call.next
    c.in_ok-call.ensures.reads c.in_ok-next.next c.in_ok-next.ensures)
