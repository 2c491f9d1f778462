use Rattle.std.proofs.Common.{◌≡◌, false, Some, refl, sym, ap, ◌∙◌}
use Rattle.std.proofs.lemmas.Bool.{leb-true}
use Rattle.fmp_instructions.specs.Verify.{depth_is}
use Rattle.fmp_image_bytes.proofs.KeptCode.{low_depths, too_deep, begins_otherwise}
use Rattle.fmp_image_bytes.proofs.bodies.is_depth_table.Goals as goal

pub returns-in-None-clause-refused : goal.returns-in-None-clause-refused
returns-in-None-clause-refused c =
    λ locals code _. begins_otherwise locals code c.args.depths.now (sym
    (ap (λ entry. depth_is entry 0) c.in-None.ensures.value))

pub returns-then-depth-eq0-clause-low : goal.returns-then-depth-eq0-clause-low
returns-then-depth-eq0-clause-low c = λ yes. low_depths c.args.depths.now (rw c.greatest.ensures at (leb-true _ _ yes))

pub returns-then-depth-eq0-clause-refused : goal.returns-then-depth-eq0-clause-refused
returns-then-depth-eq0-clause-refused c = λ locals code deep. too_deep locals code c.args.depths.now
    (rw c.greatest.ensures at deep)

pub returns-else-depth-eq0-clause-refused : goal.returns-else-depth-eq0-clause-refused
returns-else-depth-eq0-clause-refused c =
    λ locals code other.
    let entry : depth_is (Some c.in-Some.depth.now) 0 ≡ false = rw other refl in
    begins_otherwise locals code c.args.depths.now (sym (ap (λ entry. depth_is entry 0) c.in-Some.ensures.value)
    ∙ entry)
