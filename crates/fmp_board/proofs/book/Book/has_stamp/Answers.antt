use Rattle.std.proofs.Common.{◌≡◌, rules}
use Rattle.fmp_board.proofs.Drawing.{current_test}
use Rattle.fmp_board.proofs.book.Book.has_stamp.Goals as goal

pub returns : goal.returns
returns g c =
    let b = c.self.invariant in
    let was : c.args.self.now.journal ≡ c.self.inside.scribe.journal = search rules in
    rw was (rw (c.is_current.ensures, c.stamp.ensures, c.processor.ensures, c.stamp-2.ensures)
    (current_test _ _ _ _ _ _ c.args.outcome.now.ticket b.3 (rw was at c.requires)))
