use Rattle.fmp_image.proofs.Built.{built_is_image}
use Rattle.fmp_image.proofs.laws.what_is_built_is_an_image.Goals as goal

pub returns : goal.returns
returns c = built_is_image c.greatest_depth_is_needed.ensures c.compiled_code_is_verified.ensures
