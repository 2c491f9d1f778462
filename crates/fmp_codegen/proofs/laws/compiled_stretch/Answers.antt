use Rattle.fmp_codegen.proofs.Bodies.{does_text}
use Rattle.fmp_codegen.proofs.laws.compiled_stretch.Goals as goal

pub returns : goal.returns
returns c = λ tables bodies accepted. does_text tables bodies accepted
