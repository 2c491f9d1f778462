use Rattle.std.proofs.Common.{◌≡◌, ℕ, ◌<◌, Some}
use Rattle.std.specs.Prelude.{slice_get}
use Rattle.fmp_instructions.specs.declared.instructions.BodyCode.{BodyCode}
use Rattle.fmp_instructions.specs.Instructions.{body_tables}
use Rattle.fmp_instructions.specs.Verify.{VerifiedBody}
use Rattle.fmp_instructions.proofs.verifier.verify.Given as goal

abbrev pub invariant-loop-body : goal.invariant-loop-body
invariant-loop-body l =
    (k : ℕ) (body : BodyCode)
    → k < l.body-index
    → slice_get l.body-items k ≡ Some body
    → VerifiedBody (body_tables body)
