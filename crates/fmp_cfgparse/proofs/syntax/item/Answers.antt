use Rattle.std.proofs.Common.{◌<◌, ◌≤◌, length, rules, sym, subst}
use Rattle.std.proofs.lemmas.List.{length-map}
use Rattle.std.proofs.lemmas.Result.{err_from_is_err_and}
use mir.Syntax.{w32}
use mir.Val.{SFits}
use Rattle.std.proofs.lemmas.Int.{to_z-of_z}
use Rattle.fmp_cfgparse.specs.declared.tree.Item.TheVariants as item
use Rattle.fmp_lex.specs.Reading.{kinds_of, found}
use Rattle.fmp_cfgparse.specs.Reading.{RightItem}
use Rattle.fmp_cfgparse.proofs.Items.{minus_found, minus_stopped, plain_found, plain_missing}
use Rattle.fmp_cfgparse.proofs.syntax.item.Goals as goal

pub returns-in_err-number : goal.returns-in_err-number
returns-in_err-number c =
    let ts = kinds_of c.args.tokens.now in
    let i = c.args.at in
    let p = err_from_is_err_and c.from_residual.result c.from_residual.ensures.1 in
    let f = c.in_err-number.field-0.0 in
    rw (p.1, p.2) (minus_stopped ts i (c.is_symbol_at.ensures.yes (search rules)) f.at f.why c.in_err-number.ensures)

pub returns-then-is_symbol_at : goal.returns-then-is_symbol_at
returns-then-is_symbol_at c =
    let ts = kinds_of c.args.tokens.now in
    let i = c.args.at in
    let n = c.in_ok-number.number in
    let j = c.in_ok-number.next in
    let fits : SFits w32 n = search rules in
    let x = minus_found ts i (c.is_symbol_at.ensures.yes (search rules)) n j c.in_ok-number.ensures in
    subst (λ m. RightItem ts i (found (item.Minus m) j)) (sym (to_z-of_z w32 n fits)) x

pub returns-in-Some : goal.returns-in-Some
returns-in-Some c =
    let lt : c.args.at < length (kinds_of c.args.tokens.now) = simp length-map (c.in-Some.ensures.within) in
    plain_found (kinds_of c.args.tokens.now) c.args.at (c.is_symbol_at.ensures.no c.if-is_symbol_at.false)
    c.in-Some.item lt (sym c.in-Some.ensures.value)

pub returns-in-None : goal.returns-in-None
returns-in-None c =
    let within : c.args.at ≤ length (kinds_of c.args.tokens.now) = simp length-map c.requires in
    plain_missing (kinds_of c.args.tokens.now) c.args.at (c.is_symbol_at.ensures.no c.if-is_symbol_at.false)
    c.in-None.ensures.value within
