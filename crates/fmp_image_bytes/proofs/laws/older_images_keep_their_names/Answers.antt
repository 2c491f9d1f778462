use Rattle.fmp_image_bytes.proofs.OlderNames.{same_names}
use Rattle.fmp_image_bytes.proofs.laws.older_images_keep_their_names.Goals as goal

pub returns : goal.returns
returns c = same_names
