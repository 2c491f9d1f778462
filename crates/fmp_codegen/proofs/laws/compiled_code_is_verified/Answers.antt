use Rattle.fmp_codegen.proofs.VerifiedBodies.{is_verified}
use Rattle.fmp_codegen.proofs.laws.compiled_code_is_verified.Goals as goal

pub returns : goal.returns
returns c = λ tables bodies accepted fits. is_verified tables bodies accepted fits
