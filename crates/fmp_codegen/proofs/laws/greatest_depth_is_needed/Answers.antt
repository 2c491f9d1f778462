use Rattle.fmp_codegen.proofs.Greatest.{greatest-body}
use Rattle.fmp_codegen.proofs.laws.greatest_depth_is_needed.Goals as goal

pub returns : goal.returns
returns c = λ body. greatest-body body
