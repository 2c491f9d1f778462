use Rattle.std.proofs.Common.{◌≡◌, ◌+◌, ◌-◌, sym, ◌∙◌, arith}
use Rattle.fmp_scopes.proofs.Sums.{no_declaration, one_most, places_of_local}
use Rattle.fmp_scopes.proofs.places.places_in.Goals as goal

pub overflow_cast-result : goal.overflow_cast-result
overflow_cast-result c =
    let most = one_most c.args.variables.now (c.from-at.result - 1) no_declaration c.if-at-variables.false in
    omega (arith, most, c.places_of_length.ensures.places, c.requires.few)

pub returns : goal.returns
returns c =
    let at = c.from-at.result - 1 in
    let next : at + 1 ≡ c.args.number = omega (arith, c.from-at.ensures, c.if-number-eq0.false) in
    c.places_of_length.ensures.places
    ∙ sym (places_of_local c.args.variables.now c.args.number at no_declaration next c.if-at-variables.false)
