use Rattle.std.proofs.Common.{ap, ◌∙◌, subst}
use Rattle.fmp_journal.specs.Seats.{events}
use Rattle.fmp_board.specs.Boards.{BookState, IsJournal}
use Rattle.fmp_board.proofs.desk.Desk.close_all.Goals as goal

pub returns-clause-counted : goal.returns-clause-counted
returns-clause-counted g c =
    let book = c.show_all.ensures.book in
    record {
      journal = c.args.self.book.journal;
      journal_is = subst (λ (b : BookState). IsJournal g.S.Site.image g.S.Site.bound g.S.Site.row_id.capacity
          g.S.Site.row_id.seats b.journal) book c.into_closed.ensures.legal;
      counted = c.show_all.ensures.counted;
      events_are = c.into_closed.ensures.events ∙ ap (λ (b : BookState). events b.journal) book;
    }
