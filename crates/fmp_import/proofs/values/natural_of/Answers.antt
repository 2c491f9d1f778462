use Rattle.std.proofs.Common.{◌≡◌, ℕ, ℤ, pos, negsuc, Option, Result, Ok}
use Rattle.std.proofs.Common.{Err, OkIff, IfSome, unsigned_abs, ap, subst, sym, arith}
use Rattle.std.proofs.lemmas.Int.{ints}
use Rattle.std.specs.Int.{FitsUnsignedBits, w64}
use mir.Val.{of_z, to_z}
use Rattle.std.specs.Result.{result_ok}
use Rattle.fmp_import.proofs.values.natural_of.Goals as goal

natural_known : {E : Type 0} (z : ℤ) (r : Result ℕ E) → OkIff r (FitsUnsignedBits 64 z) (unsigned_abs z)
    → IfSome (result_ok r) (λ n. z ≡ pos n)
natural_known (pos n) (Ok x) h = ap pos (sym h.1)
natural_known (pos n) (Err e) h = tt
natural_known (negsuc n) (Ok x) h = absurd h.0
natural_known (negsuc n) (Err e) h = tt

pub returns : goal.returns
returns c =
    let z = c.args.number in
    let same : to_z w64 (of_z w64 c.args.number) ≡ c.args.number = omega (arith, ints) in
    let known = natural_known z c.try_from.result
    (subst (λ (y : ℤ). OkIff c.try_from.result (FitsUnsignedBits 64 y) (unsigned_abs y)) same c.try_from.ensures) in
    subst (λ (o : Option ℕ). IfSome o (λ n. z ≡ pos n)) (sym c.ok.ensures.value) known
