use Rattle.fmp_drawing.proofs.Closed.{closed_by}
use Rattle.fmp_drawing.proofs.picture.put_picture.Goals as goal

pub returns : goal.returns
returns c = closed_by _ _ c.raw.ensures
