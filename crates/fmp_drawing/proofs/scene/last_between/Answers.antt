use Rattle.std.proofs.Common.{◌≡◌, ◌≤ℤ◌, All, subst, sym, true}
use Rattle.std.proofs.lemmas.List.Elements.{All-from_recursion}
use Rattle.fmp_drawing.specs.declared.scene.TakenPixels.{TakenPixels}
use Rattle.fmp_drawing.specs.Places.{latest, stands_between}
use Rattle.fmp_drawing.proofs.Marks.{latest_each, latest_least}
use Rattle.fmp_drawing.proofs.scene.last_between.Goals as goal
use Rattle.fmp_timeline.specs.declared.lengths.Tenths.{Tenths}

pub returns-clause-least : goal.returns-clause-least
returns-clause-least c =
    subst (λ (x : Tenths). c.args.least.0 ≤ℤ x.0) (sym c.latest.ensures)
    (latest_least c.args.left c.args.right c.args.taken.now c.args.least)

pub returns-clause-last : goal.returns-clause-last
returns-clause-last c =
    let left = c.args.left in
    let right = c.args.right in
    let taken = c.args.taken.now in
    subst
    (λ (x : Tenths). All (λ (t : TakenPixels). stands_between left right t ≡ true → t.to.0 ≤ℤ x.0) taken)
    (sym c.latest.ensures)
    (All-from_recursion
    (λ (t : TakenPixels). stands_between left right t ≡ true
    → t.to.0 ≤ℤ (latest left right taken c.args.least).0)
    taken (latest_each left right taken c.args.least))
