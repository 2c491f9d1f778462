use Rattle.std.proofs.lemmas.Result.{err_from_is_err_and}
use Rattle.fmp_lex.specs.Reading.{kinds_of, found, stopped, RightToken}
use Rattle.fmp_lex.proofs.Answered.{err_as, find_as, step_as}
use Rattle.fmp_tasklang.specs.Reading.{source_view, RightSource, RightVariableChange}
use Rattle.fmp_tasklang.proofs.StatementFrames.{equals, semicolon}
use Rattle.fmp_tasklang.proofs.SimpleStatements.{equals_stop, source_stop, source_open, source_found}
use Rattle.fmp_tasklang.proofs.statements.variable_change.Goals as goal

pub returns-in_err-next : goal.returns-in_err-next
returns-in_err-next c =
    let ts = kinds_of c.args.tokens.now in
    let d = c.args.depth in
    let i = c.args.at in
    let p = err_from_is_err_and c.from_residual.result c.from_residual.ensures.1 in
    rw (p.1, p.2) (step_as source_view c.in_err-next.field-0.0 (RightToken ts equals i) (RightVariableChange ts d i)
    (λ j why x. equals_stop ts d i j why x) c.in_err-next.ensures)

pub returns-in_err-source : goal.returns-in_err-source
returns-in_err-source c =
    let ts = kinds_of c.args.tokens.now in
    let d = c.args.depth in
    let i = c.args.at in
    let p = err_from_is_err_and c.from_residual-in_err-source.result c.from_residual-in_err-source.ensures.1 in
    rw (p.1, p.2) (err_as source_view source_view c.in_err-source.field-0.0 (RightSource ts d c.in_ok-next.next)
    (RightVariableChange ts d i)
    (λ j why x. source_stop ts d i c.in_ok-next.next c.in_ok-next.ensures j why x) c.in_err-source.ensures)

pub returns-in_err-next-2 : goal.returns-in_err-next-2
returns-in_err-next-2 c =
    let ts = kinds_of c.args.tokens.now in
    let d = c.args.depth in
    let i = c.args.at in
    let p = err_from_is_err_and c.from_residual-in_err-next-2.result c.from_residual-in_err-next-2.ensures.1 in
    rw (p.1, p.2) (step_as source_view c.in_err-next-2.field-0.0 (RightToken ts semicolon c.in_ok-source.next)
    (RightVariableChange ts d i)
    (λ j why x. source_open ts d i c.in_ok-next.next c.in_ok-next.ensures
    (source_view c.in_ok-source.source) c.in_ok-source.next
    c.in_ok-source.ensures j why x) c.in_err-next-2.ensures)

pub returns : goal.returns
returns c =
    let ts = kinds_of c.args.tokens.now in
    let d = c.args.depth in
    let i = c.args.at in
    source_found ts d i c.in_ok-next.next c.in_ok-next.ensures (source_view c.in_ok-source.source) c.in_ok-source.next
    c.in_ok-source.ensures c.in_ok-next-2.next c.in_ok-next-2.ensures
