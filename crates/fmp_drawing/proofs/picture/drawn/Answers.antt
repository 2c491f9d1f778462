use Rattle.fmp_drawing.proofs.Closed.{closed_end}
use Rattle.fmp_drawing.proofs.picture.drawn.Goals as goal

pub returns : goal.returns
returns c =
    closed_end (λ picture. picture.items) c.finish.result c.put_picture.new.out c.in_ok-put_picture.ensures
    c.finish.ensures.whole
    c.finish.ensures.bytes
