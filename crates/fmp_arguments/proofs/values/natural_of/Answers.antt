use Rattle.std.proofs.Common.{◌≡◌, ◌∙◌, ℕ, ℤ, pos, negsuc, Result, Ok}
use Rattle.std.proofs.Common.{Err, OkIff, FitsSigned, unsigned_abs, refl, ap, subst, Some, arith}
use Rattle.std.proofs.lemmas.Int.{ints}
use Rattle.std.specs.Int.{FitsUnsignedBits, w64}
use mir.Val.{of_z, to_z}
use Rattle.std.specs.Result.{result_ok}
use Rattle.fmp_arguments.specs.Settings.{natural}
use Rattle.fmp_arguments.proofs.values.natural_of.Goals as goal

natural_known : {E : Type 0} (z : ℤ) (r : Result ℕ E) → OkIff r (FitsUnsignedBits 64 z) (unsigned_abs z)
    → FitsSigned w64 z → result_ok r ≡ natural z
natural_known (pos n) (Ok x) h fits = ap Some h.1
natural_known (pos n) (Err e) h fits = absurd (h (omega (arith, ints)))
natural_known (negsuc n) (Ok x) h fits = absurd h.0
natural_known (negsuc n) (Err e) h fits = refl

pub returns : goal.returns
returns c =
    let z = c.args.number in
    let same : to_z w64 (of_z w64 c.args.number) ≡ c.args.number = omega (arith, ints) in
    c.ok.ensures.value
    ∙ natural_known z c.try_from.result
    (subst (λ (y : ℤ). OkIff c.try_from.result (FitsUnsignedBits 64 y) (unsigned_abs y)) same c.try_from.ensures)
    c.ranges.number
