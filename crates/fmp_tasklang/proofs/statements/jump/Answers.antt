use Rattle.std.proofs.Common.{◌+◌, ◌<◌, length}
use Rattle.std.proofs.lemmas.List.{length-map}
use Rattle.std.proofs.lemmas.Result.{err_from_is_err_and}
use Rattle.fmp_lex.specs.Reading.{kinds_of, RightToken}
use Rattle.fmp_lex.proofs.Answered.{step_as}
use Rattle.fmp_tasklang.specs.Reading.{RightJump}
use Rattle.fmp_tasklang.specs.Views.{statement_view}
use Rattle.fmp_tasklang.proofs.StatementFrames.{semicolon}
use Rattle.fmp_tasklang.proofs.SimpleStatements.{jump_open, jump_found}
use Rattle.fmp_tasklang.proofs.statements.jump.Goals as goal

pub returns-in_err-next : goal.returns-in_err-next
returns-in_err-next c =
    let ts = kinds_of c.args.tokens.now in
    let i = c.args.at in
    let loop = c.args.looped in
    let s = statement_view c.args.statement in
    let lt : i < length ts = simp length-map c.requires.at in
    let p = err_from_is_err_and c.from_residual.result c.from_residual.ensures.1 in
    rw (p.1, p.2) (step_as statement_view c.in_err-next.field-0.0 (RightToken ts semicolon (i + 1))
    (RightJump ts loop i)
    (λ j why x. jump_open ts loop i s lt c.requires.first j why x) c.in_err-next.ensures)

pub returns : goal.returns
returns c =
    let ts = kinds_of c.args.tokens.now in
    let i = c.args.at in
    let loop = c.args.looped in
    let s = statement_view c.args.statement in
    let lt : i < length ts = simp length-map c.requires.at in
    jump_found ts loop i s lt c.requires.first c.in_ok-next.next c.in_ok-next.ensures
