use Rattle.fmp_image_bytes.proofs.ImageLaws.{one_image, no_front}
use Rattle.fmp_image_bytes.proofs.laws.one_spelling.Goals as goal

pub returns-clause-image : goal.returns-clause-image
returns-clause-image c = one_image

pub returns-clause-front : goal.returns-clause-front
returns-clause-front c = no_front
