use Rattle.fmp_image_bytes.proofs.OlderImages.{older_means_the_same}
use Rattle.fmp_image_bytes.proofs.laws.older_images_mean_the_same.Goals as goal

pub returns : goal.returns
returns c = λ i bytes spells old. older_means_the_same i spells.lawful old
