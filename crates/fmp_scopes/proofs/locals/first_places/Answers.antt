use Rattle.std.proofs.Common.{◌+◌, length, get_or, sym, ap, ◌∙◌, arith}
use Rattle.std.proofs.lemmas.List.{get_or_default}
use Rattle.fmp_tasklang.specs.Layout.{first_place}
use Rattle.fmp_scopes.specs.Scopes.{locals_with}
use Rattle.fmp_scopes.proofs.FirstPlaces.{first-step, first-most, places-more}
use Rattle.fmp_scopes.proofs.Sums.{no_declaration}
use Rattle.fmp_scopes.proofs.locals.first_places.Goals as goal

pub overflow_cast-next : goal.overflow_cast-next
overflow_cast-next c =
    let vars = c.args.variables.now in
    let i = c.loop-at.at in
    let d = get_or vars i no_declaration in
    let step = first-step vars i d c.loop-at-test.true (get_or_default vars i no_declaration d c.loop-at-test.true) in
    let most = first-most vars (i + 1 + 1) in
    omega (arith, step, most, c.places_of_length.ensures.places, c.requires)

pub overflow_add-next : goal.overflow_add-next
overflow_add-next c =
    let vars = c.args.variables.now in
    let i = c.loop-at.at in
    let d = get_or vars i no_declaration in
    let step = first-step vars i d c.loop-at-test.true (get_or_default vars i no_declaration d c.loop-at-test.true) in
    let most = first-most vars (i + 1 + 1) in
    omega (arith, step, most, c.places_of_length.ensures.places, c.loop-at.invariant.next, c.requires)

pub loop-at-preserved : goal.loop-at-preserved
loop-at-preserved c =
    let vars = c.args.variables.now in
    let i = c.loop-at.at in
    let d = get_or vars i no_declaration in
    let step = first-step vars i d c.loop-at-test.true (get_or_default vars i no_declaration d c.loop-at-test.true) in
    let next = c.loop-at.invariant.next ∙ ap (first_place (locals_with vars)) (sym c.loop-at.invariant.count) in
    record {
      count = omega (arith, c.in_ok-push-2.ensures.len, c.loop-at.invariant.count);
      next = omega (arith, step, c.places_of_length.ensures.places, c.loop-at.invariant.next);
      firsts = places-more vars c.loop-at.places.items c.loop-at.next c.loop-at.invariant.firsts next _
          c.in_ok-push-2.ensures.items;
    }
