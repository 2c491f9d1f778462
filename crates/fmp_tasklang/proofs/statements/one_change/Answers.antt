use Rattle.std.proofs.Common.{rules}
use Rattle.std.proofs.lemmas.Result.{err_from_is_err_and}
use Rattle.fmp_lex.specs.Reading.{kinds_of, found, stopped}
use Rattle.fmp_lex.proofs.Answered.{err_as}
use Rattle.fmp_tasklang.specs.Reading.{source_view, element_view, change_view, RightVariableChange, RightElementChange}
use Rattle.fmp_tasklang.specs.Reading.{RightChange}
use Rattle.fmp_tasklang.proofs.SimpleStatements.{change_variable, change_element}
use Rattle.fmp_tasklang.proofs.statements.one_change.Goals as goal

pub returns-in_err-element : goal.returns-in_err-element
returns-in_err-element c =
    let ts = kinds_of c.args.tokens.now in
    let d = c.args.depth in
    let i = c.args.at in
    let is = c.is_symbol_at.ensures.yes (search rules) in
    let p = err_from_is_err_and c.from_residual.result c.from_residual.ensures.1 in
    rw (p.1, p.2) (err_as element_view change_view c.in_err-element.field-0.0 (RightElementChange ts d i)
    (RightChange ts d i)
    (λ j why x. change_element ts d i is (stopped j why) x) c.in_err-element.ensures)

pub returns-then-is_symbol_at : goal.returns-then-is_symbol_at
returns-then-is_symbol_at c =
    let ts = kinds_of c.args.tokens.now in
    let d = c.args.depth in
    let i = c.args.at in
    let is = c.is_symbol_at.ensures.yes (search rules) in
    change_element ts d i is (found (element_view c.in_ok-element.element) c.in_ok-element.next) c.in_ok-element.ensures

pub returns-in_err-source : goal.returns-in_err-source
returns-in_err-source c =
    let ts = kinds_of c.args.tokens.now in
    let d = c.args.depth in
    let i = c.args.at in
    let p = err_from_is_err_and c.from_residual-in_err-source.result c.from_residual-in_err-source.ensures.1 in
    rw (p.1, p.2) (err_as source_view change_view c.in_err-source.field-0.0 (RightVariableChange ts d i)
    (RightChange ts d i)
    (λ j why x. change_variable ts d i (c.is_symbol_at.ensures.no c.if-is_symbol_at.false) (stopped j why) x)
    c.in_err-source.ensures)

pub returns : goal.returns
returns c =
    let ts = kinds_of c.args.tokens.now in
    let d = c.args.depth in
    let i = c.args.at in
    change_variable ts d i (c.is_symbol_at.ensures.no c.if-is_symbol_at.false)
    (found (source_view c.in_ok-source.source) c.in_ok-source.next) c.in_ok-source.ensures
