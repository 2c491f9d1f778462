use Rattle.fmp_slices.proofs.Canvases.{adds_then, some_added}
use Rattle.fmp_slices.proofs.page.put_script.Goals as goal

pub returns : goal.returns
returns c =
    some_added _ _ _ (adds_then _ _ _ _ _ c.raw.ensures (adds_then _ _ _ _ _ c.raw-2.ensures c.raw-3.ensures))
