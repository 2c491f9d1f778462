use Rattle.std.proofs.Common.{◌≡◌, ◌≤ℤ◌, All, subst, sym, true}
use Rattle.std.proofs.lemmas.List.Elements.{All-from_recursion}
use Rattle.fmp_drawing.specs.declared.scene.TakenPixels.{TakenPixels}
use Rattle.fmp_drawing.specs.Places.{earliest, stands_between}
use Rattle.fmp_drawing.proofs.Marks.{earliest_each, earliest_most}
use Rattle.fmp_drawing.proofs.scene.first_between.Goals as goal
use Rattle.fmp_timeline.specs.declared.lengths.Tenths.{Tenths}

pub returns-clause-most : goal.returns-clause-most
returns-clause-most c =
    subst (λ (x : Tenths). x.0 ≤ℤ c.args.most.0) (sym c.earliest.ensures)
    (earliest_most c.args.left c.args.right c.args.taken.now c.args.most)

pub returns-clause-first : goal.returns-clause-first
returns-clause-first c =
    let left = c.args.left in
    let right = c.args.right in
    let taken = c.args.taken.now in
    subst
    (λ (x : Tenths). All (λ (t : TakenPixels). stands_between left right t ≡ true → x.0 ≤ℤ t.from.0) taken)
    (sym c.earliest.ensures)
    (All-from_recursion
    (λ (t : TakenPixels). stands_between left right t ≡ true
    → (earliest left right taken c.args.most).0 ≤ℤ t.from.0)
    taken (earliest_each left right taken c.args.most))
