use Rattle.fmp_board.proofs.Visiting.{drawn_later}
use Rattle.fmp_stress.proofs.seat_calls.submitted_after.Goals as goal

pub submit-requires-clause-drawn : goal.submit-requires-clause-drawn
submit-requires-clause-drawn g c = drawn_later _ _ _ _ _ c.requires.drawn c.feed-fed.ensures.visited.grows
