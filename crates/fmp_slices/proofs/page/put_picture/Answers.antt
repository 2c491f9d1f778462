use Rattle.fmp_slices.proofs.Canvases.{adds_then}
use Rattle.fmp_slices.proofs.page.put_picture.Goals as goal

pub returns : goal.returns
returns c = adds_then _ _ _ _ _ c.raw.ensures (adds_then _ _ _ _ _ c.plain.ensures c.raw-2.ensures)
