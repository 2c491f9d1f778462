use Rattle.std.proofs.Common.{Some, None, subst}
use Rattle.fmp_base.specs.Names.{name_text}
use Rattle.fmp_scopes.specs.Scopes.{AreNumbers}
use Rattle.fmp_scopes.proofs.EarlierNames.{named-before}
use Rattle.fmp_scopes.proofs.locals.is_named_before.Goals as goal

pub returns-in-None-numbered_place : goal.returns-in-None-numbered_place
returns-in-None-numbered_place c =
    let vars = c.args.variables.now in
    let are = subst (λ o. AreNumbers o vars) c.in-Some.is c.requires.numbers in
    named-before (name_text c.args.name.now) vars c.args.at None (c.in-None-numbered_place.ensures vars are)

pub returns-in-Some-numbered_place : goal.returns-in-Some-numbered_place
returns-in-Some-numbered_place c =
    let vars = c.args.variables.now in
    let are = subst (λ o. AreNumbers o vars) c.in-Some.is c.requires.numbers in
    named-before (name_text c.args.name.now) vars c.args.at (Some c.in-Some-numbered_place.place)
    (c.in-Some-numbered_place.ensures vars are)
