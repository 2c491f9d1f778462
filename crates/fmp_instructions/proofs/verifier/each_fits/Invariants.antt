use Rattle.std.proofs.Common.{◌≡◌, ℕ, ◌<◌, true, Some}
use Rattle.std.specs.Prelude.{slice_get}
use Rattle.fmp_instructions.specs.declared.instructions.Instruction.{Instruction}
use Rattle.fmp_instructions.specs.Verify.{fits}
use Rattle.fmp_instructions.proofs.verifier.each_fits.Given as goal

abbrev pub invariant-loop-place : goal.invariant-loop-place
invariant-loop-place l =
    (k : ℕ) (i : Instruction) (d : ℕ)
    → k < l.place
    → slice_get l.instructions k ≡ Some i
    → slice_get l.depths k ≡ Some d
    → fits l.locals l.depths k d i ≡ true
