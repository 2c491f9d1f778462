use Rattle.std.proofs.lemmas.Result.{err_from_is_err_and}
use Rattle.fmp_lex.specs.Reading.{kinds_of, RightToken}
use Rattle.fmp_lex.proofs.Answered.{err_as, find_as, step_as}
use Rattle.fmp_tasklang.specs.Reading.{itself, declarations_view, RightWord, RightVariables}
use Rattle.fmp_tasklang.specs.Streaming.{RightHeading, heading_view}
use Rattle.fmp_tasklang.proofs.StatementFrames.{open_brace}
use Rattle.fmp_tasklang.proofs.StreamedBodies.{heading_name, heading_open, heading_variables, heading_found}
use Rattle.fmp_tasklang.proofs.streaming.read_heading.Goals as goal

pub returns-in_err-name : goal.returns-in_err-name
returns-in_err-name c =
    let ts = kinds_of c.args.tokens.now in
    let i = c.args.at in
    let p = err_from_is_err_and c.from_residual.result c.from_residual.ensures.1 in
    rw (p.1, p.2) (find_as itself heading_view c.in_err-name.field-0.0 (RightWord ts i) (RightHeading ts i)
    (λ j why x. heading_name ts i j why x) c.in_err-name.ensures)

pub returns-in_err-next : goal.returns-in_err-next
returns-in_err-next c =
    let ts = kinds_of c.args.tokens.now in
    let i = c.args.at in
    let w = c.in_ok-name in
    let r = c.from_residual-in_err-next in
    let p = err_from_is_err_and r.result r.ensures.1 in
    rw (p.1, p.2) (step_as heading_view c.in_err-next.field-0.0 (RightToken ts open_brace w.next) (RightHeading ts i)
    (λ j why x. heading_open ts i w.name w.next w.ensures j why x) c.in_err-next.ensures)

pub returns-in_err-variables : goal.returns-in_err-variables
returns-in_err-variables c =
    let ts = kinds_of c.args.tokens.now in
    let i = c.args.at in
    let w = c.in_ok-name in
    let n = c.in_ok-next in
    let r = c.from_residual-in_err-variables in
    let p = err_from_is_err_and r.result r.ensures.1 in
    rw (p.1, p.2) (err_as declarations_view heading_view c.in_err-variables.field-0.0 (RightVariables ts n.next)
    (RightHeading ts i) (λ j why x. heading_variables ts i w.name w.next w.ensures n.next n.ensures j why x)
    c.in_err-variables.ensures)

pub returns : goal.returns
returns c =
    let w = c.in_ok-name in
    let n = c.in_ok-next in
    let v = c.in_ok-variables in
    heading_found (kinds_of c.args.tokens.now) c.args.at w.name w.next w.ensures n.next n.ensures
    (declarations_view v.variables) v.next v.ensures
