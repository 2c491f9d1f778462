use Rattle.std.proofs.lemmas.Result.{err_from_is_err_and}
use Rattle.fmp_lex.specs.Reading.{kinds_of, found, stopped, RightToken}
use Rattle.fmp_lex.proofs.Answered.{err_as, find_as, step_as}
use Rattle.fmp_lex.specs.Forms.{mark_kind}
use Rattle.fmp_cfgparse.specs.declared.forms.ApiPart.TheVariants as part
use Rattle.fmp_cfgparse.specs.Reading.{itself, RightName, RightValue, RightPart}
use Rattle.fmp_cfgparse.specs.Trees.{items_view, part_view}
use Rattle.fmp_cfgparse.proofs.Parts.{mark_as, name_as, value_as}
use Rattle.fmp_cfgparse.proofs.syntax.part.Goals as goal

pub returns-in_err-next-in-Mark : goal.returns-in_err-next-in-Mark
returns-in_err-next-in-Mark c =
    let ts = kinds_of c.args.tokens.now in
    let i = c.args.at in
    let m = c.in-Mark.mark in
    let p = err_from_is_err_and c.from_residual.result c.from_residual.ensures.1 in
    rw (p.1, p.2, c.in-Mark.is) (step_as part_view c.in_err-next-in-Mark.field-0.0 (RightToken ts (mark_kind m) i)
    (RightPart (part.Mark m) ts i)
    (λ j why x. mark_as ts i m (stopped j why) x) c.in_err-next-in-Mark.ensures)

pub returns-in_err-name-in-Name : goal.returns-in_err-name-in-Name
returns-in_err-name-in-Name c =
    let ts = kinds_of c.args.tokens.now in
    let i = c.args.at in
    let p = err_from_is_err_and c.from_residual-in_err-name-in-Name.result
    c.from_residual-in_err-name-in-Name.ensures.1 in
    rw (p.1, p.2, c.in-Name.is) (find_as itself part_view c.in_err-name-in-Name.field-0.0 (RightName ts i)
    (RightPart part.Name ts i)
    (λ j why x. name_as ts i (stopped j why) x) c.in_err-name-in-Name.ensures)

pub returns-in_err-items-in-Value : goal.returns-in_err-items-in-Value
returns-in_err-items-in-Value c =
    let ts = kinds_of c.args.tokens.now in
    let i = c.args.at in
    let p = err_from_is_err_and c.from_residual-in_err-items-in-Value.result
    c.from_residual-in_err-items-in-Value.ensures.1 in
    rw (p.1, p.2, c.in-Value.is) (err_as items_view part_view c.in_err-items-in-Value.field-0.0 (RightValue ts i)
    (RightPart part.Value ts i)
    (λ j why x. value_as ts i (stopped j why) x) c.in_err-items-in-Value.ensures)

pub returns-in_ok-next-in-Mark : goal.returns-in_ok-next-in-Mark
returns-in_ok-next-in-Mark c =
    rw (c.in-Mark.is) (mark_as (kinds_of c.args.tokens.now) c.args.at c.in-Mark.mark
    (found tt c.in_ok-next-in-Mark.next) c.in_ok-next-in-Mark.ensures)

pub returns-in_ok-name-in-Name : goal.returns-in_ok-name-in-Name
returns-in_ok-name-in-Name c =
    rw (c.in-Name.is) (name_as (kinds_of c.args.tokens.now) c.args.at (found c.in_ok-name-in-Name.name
    c.in_ok-name-in-Name.next) c.in_ok-name-in-Name.ensures)

pub returns-in_ok-items-in-Value : goal.returns-in_ok-items-in-Value
returns-in_ok-items-in-Value c =
    rw (c.in-Value.is) (value_as (kinds_of c.args.tokens.now) c.args.at
    (found (items_view c.in_ok-items-in-Value.items) c.in_ok-items-in-Value.next) c.in_ok-items-in-Value.ensures)
