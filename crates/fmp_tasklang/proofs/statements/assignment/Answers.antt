use Rattle.std.proofs.lemmas.Result.{err_from_is_err_and}
use Rattle.fmp_lex.specs.Reading.{kinds_of, found, stopped}
use Rattle.fmp_lex.proofs.Answered.{err_as, find_as}
use Rattle.fmp_tasklang.specs.Reading.{itself, change_view, RightWord, RightChange, RightAssignment}
use Rattle.fmp_tasklang.specs.Views.{statement_view}
use Rattle.fmp_tasklang.proofs.SimpleStatements.{target_stop, assignment_then}
use Rattle.fmp_tasklang.proofs.statements.assignment.Goals as goal

pub returns-in_err-target : goal.returns-in_err-target
returns-in_err-target c =
    let ts = kinds_of c.args.tokens.now in
    let d = c.args.depth in
    let i = c.args.at in
    let p = err_from_is_err_and c.from_residual.result c.from_residual.ensures.1 in
    rw (p.1, p.2) (find_as itself statement_view c.in_err-target.field-0.0 (RightWord ts i) (RightAssignment ts d i)
    (λ j why x. target_stop ts d i j why x) c.in_err-target.ensures)

pub returns-in_err-change : goal.returns-in_err-change
returns-in_err-change c =
    let ts = kinds_of c.args.tokens.now in
    let d = c.args.depth in
    let i = c.args.at in
    let p = err_from_is_err_and c.from_residual-in_err-change.result c.from_residual-in_err-change.ensures.1 in
    rw (p.1, p.2) (err_as change_view statement_view c.in_err-change.field-0.0 (RightChange ts d c.in_ok-target.next)
    (RightAssignment ts d i)
    (λ j why x. assignment_then ts d i c.in_ok-target.target c.in_ok-target.next c.in_ok-target.ensures
    (stopped j why) x) c.in_err-change.ensures)

pub returns : goal.returns
returns c =
    let ts = kinds_of c.args.tokens.now in
    let d = c.args.depth in
    let i = c.args.at in
    rw c.in_ok-statement.ensures.tree (assignment_then ts d i c.in_ok-target.target c.in_ok-target.next
    c.in_ok-target.ensures
    (found (change_view c.in_ok-change.change) c.in_ok-change.next) c.in_ok-change.ensures)
