use Rattle.std.proofs.Common.{◌≡◌, ◌+◌, ◌-◌, sym, ap, ◌∙◌, arith}
use Rattle.fmp_scopes.proofs.Sums.{taken_most, first_there}
use Rattle.fmp_scopes.proofs.places.first_place_in.Goals as goal

pub places_together-requires : goal.places_together-requires
places_together-requires c =
    let most = taken_most c.args.variables.now (c.from-before.result - 1) in
    omega (arith, most, c.requires.few)

pub overflow_cast-result : goal.overflow_cast-result
overflow_cast-result c =
    let most = taken_most c.args.variables.now (c.from-before.result - 1) in
    omega (arith, most, c.places_together.ensures, c.requires.few)

pub overflow_add-result : goal.overflow_add-result
overflow_add-result c =
    let most = taken_most c.args.variables.now (c.from-before.result - 1) in
    omega (arith, most, c.places_together.ensures, c.requires.few)

pub returns : goal.returns
returns c =
    let before = c.from-before.result - 1 in
    let next : before + 1 ≡ c.args.number = omega (arith, c.from-before.ensures, c.if-number-eq0.false) in
    ap (λ n. 1 + n) c.places_together.ensures ∙ sym (first_there c.args.variables.now c.args.number before next)
