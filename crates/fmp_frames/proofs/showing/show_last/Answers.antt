use Rattle.fmp_frames.proofs.showing.show_last.Goals as goal

pub returns : goal.returns
returns g c = rw c.in_ok-frame.ensures at c.show.ensures
