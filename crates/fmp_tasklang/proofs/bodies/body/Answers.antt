use Rattle.std.proofs.Common.{◌+◌, false}
use Rattle.std.proofs.lemmas.Result.{err_from_is_err_and}
use Rattle.fmp_lex.specs.Reading.{kinds_of, RightToken}
use Rattle.fmp_lex.proofs.Answered.{err_as, find_as, step_as}
use Rattle.fmp_tasklang.specs.Reading.{itself, declarations_view, statements_view, RightWord, RightStatements}
use Rattle.fmp_tasklang.specs.Reading.{RightVariables, RightBody}
use Rattle.fmp_tasklang.specs.Views.{body_view}
use Rattle.fmp_tasklang.proofs.StatementFrames.{open_brace, close_brace}
use Rattle.fmp_tasklang.proofs.BodyPaths.{body_name, body_open, body_variables, body_statements, body_closed}
use Rattle.fmp_tasklang.proofs.BodyPaths.{body_found}
use Rattle.fmp_tasklang.proofs.Views.{block_view-is}
use Rattle.fmp_tasklang.proofs.bodies.body.Goals as goal

pub returns-in_err-name : goal.returns-in_err-name
returns-in_err-name c =
    let ts = kinds_of c.args.tokens.now in
    let i = c.args.at in
    let p = err_from_is_err_and c.from_residual.result c.from_residual.ensures.1 in
    rw (p.1, p.2) (find_as itself body_view c.in_err-name.field-0.0 (RightWord ts (i + 1)) (RightBody ts i)
    (λ j why x. body_name ts i c.args.kind c.requires.first j why x) c.in_err-name.ensures)

pub returns-in_err-next : goal.returns-in_err-next
returns-in_err-next c =
    let ts = kinds_of c.args.tokens.now in
    let i = c.args.at in
    let p = err_from_is_err_and c.from_residual-in_err-next.result c.from_residual-in_err-next.ensures.1 in
    rw (p.1, p.2) (step_as body_view c.in_err-next.field-0.0 (RightToken ts open_brace c.in_ok-name.next)
    (RightBody ts i)
    (λ j why x. body_open ts i c.args.kind c.requires.first c.in_ok-name.name c.in_ok-name.next c.in_ok-name.ensures j
    why x) c.in_err-next.ensures)

pub returns-in_err-variables : goal.returns-in_err-variables
returns-in_err-variables c =
    let ts = kinds_of c.args.tokens.now in
    let i = c.args.at in
    let p = err_from_is_err_and c.from_residual-in_err-variables.result c.from_residual-in_err-variables.ensures.1 in
    rw (p.1, p.2) (err_as declarations_view body_view c.in_err-variables.field-0.0
    (RightVariables ts c.in_ok-next.next) (RightBody ts i)
    (λ j why x. body_variables ts i c.args.kind c.requires.first c.in_ok-name.name c.in_ok-name.next
    c.in_ok-name.ensures c.in_ok-next.next c.in_ok-next.ensures j why x) c.in_err-variables.ensures)

pub returns-in_err-statements : goal.returns-in_err-statements
returns-in_err-statements c =
    let ts = kinds_of c.args.tokens.now in
    let i = c.args.at in
    let p = err_from_is_err_and c.from_residual-in_err-statements.result c.from_residual-in_err-statements.ensures.1 in
    rw (p.1, p.2) (err_as statements_view body_view c.in_err-statements.field-0.0
    (RightStatements ts 0 false c.in_ok-variables.next) (RightBody ts i)
    (λ j why x. body_statements ts i c.args.kind c.requires.first c.in_ok-name.name c.in_ok-name.next
    c.in_ok-name.ensures c.in_ok-next.next c.in_ok-next.ensures (declarations_view c.in_ok-variables.variables)
    c.in_ok-variables.next c.in_ok-variables.ensures j why x) c.in_err-statements.ensures)

pub returns-in_err-next-2 : goal.returns-in_err-next-2
returns-in_err-next-2 c =
    let ts = kinds_of c.args.tokens.now in
    let i = c.args.at in
    let p = err_from_is_err_and c.from_residual-in_err-next-2.result c.from_residual-in_err-next-2.ensures.1 in
    rw (p.1, p.2) (step_as body_view c.in_err-next-2.field-0.0 (RightToken ts close_brace c.in_ok-statements.next)
    (RightBody ts i)
    (λ j why x. body_closed ts i c.args.kind c.requires.first c.in_ok-name.name c.in_ok-name.next
    c.in_ok-name.ensures c.in_ok-next.next c.in_ok-next.ensures (declarations_view c.in_ok-variables.variables)
    c.in_ok-variables.next c.in_ok-variables.ensures (statements_view c.in_ok-statements.statements)
    c.in_ok-statements.next c.in_ok-statements.ensures j why x) c.in_err-next-2.ensures)

pub returns : goal.returns
returns c =
    let ts = kinds_of c.args.tokens.now in
    let i = c.args.at in
    rw (block_view-is c.in_ok-statements.statements.items) (body_found ts i c.args.kind
    c.requires.first c.in_ok-name.name c.in_ok-name.next c.in_ok-name.ensures c.in_ok-next.next
    c.in_ok-next.ensures (declarations_view c.in_ok-variables.variables) c.in_ok-variables.next
    c.in_ok-variables.ensures (statements_view c.in_ok-statements.statements) c.in_ok-statements.next
    c.in_ok-statements.ensures c.in_ok-next-2.next c.in_ok-next-2.ensures)
