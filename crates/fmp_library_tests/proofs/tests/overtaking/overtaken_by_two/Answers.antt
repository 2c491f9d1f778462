use Rattle.fmp_board.proofs.Visiting.{drawn_later}
use Rattle.fmp_library_tests.proofs.tests.overtaking.overtaken_by_two.Goals as goal

pub submit-answer-requires-clause-drawn : goal.submit-answer-requires-clause-drawn
submit-answer-requires-clause-drawn g c =
    drawn_later _ _ _ _ _ (drawn_later _ _ _ _ _ c.requires.drawn c.feed-first.ensures.visited.grows)
    c.feed-second.ensures.visited.grows
