use Rattle.fmp_codegen.specs.Compiling.{compiled}
use Rattle.fmp_codegen.proofs.Bodies.{does_text}
use Rattle.fmp_codegen.proofs.Printed.{prints_text}
use Rattle.fmp_codegen.proofs.laws.compiled_run.Goals as goal

pub returns : goal.returns
returns c = λ sys bodies n es accepted low. prints_text sys bodies (compiled sys bodies) n es
    (does_text sys bodies accepted) low
