use Rattle.std.proofs.Common.{[], ◌∷◌, ◌++◌, List, sym, ap, ◌∙◌, append_assoc, rules}
use Rattle.std.proofs.lemmas.List.Elements.{All-append, All-cons, All-nil}
use Rattle.fmp_journal.specs.Seats.{SeatState}
use Rattle.fmp_board.specs.Boards.{HasCounted}
use Rattle.fmp_board.proofs.Visiting.{all_counted, counted_by, rest_at}
use Rattle.fmp_board.proofs.desk.Desk.show_all.Goals as goal

pub loop-seat-init : goal.loop-seat-init
loop-seat-init g c =
    record {
      first = [];
      are = search rules;
      counted = All-nil (HasCounted c.args.self.now.book.journal);
      book = search rules;
      at = search rules;
      size = search rules;
    }

pub loop-seat-preserved : goal.loop-seat-preserved
loop-seat-preserved g c =
    let i = c.loop-seat.invariant in
    let step = c.in-Some.ensures.steps in
    let x = c.in-Some.seat in
    let P = HasCounted c.args.self.now.book.journal in
    record {
      first = i.first ++ x ∷ [];
      are = append_assoc i.first (x ∷ []) _ ∙ ap (λ (xs : List SeatState). i.first ++ xs) (sym step.0) ∙ i.are;
      counted = All-append P i.first (x ∷ []) i.counted
          (All-cons P x [] (counted_by _ _ _ x c.show.new.seat _ c.show.ensures.visited c.show.ensures.mine
          (c.show.ensures.seen ∙ ap (λ b. b.journal) (c.show.ensures.book ∙ i.book))) (All-nil P));
      book = search rules;
      at = rest_at _ _ _ _ i.at step.0;
      size = search rules;
    }

pub returns-clause-counted : goal.returns-clause-counted
returns-clause-counted g c =
    let i = c.loop-seat.invariant in
    all_counted (HasCounted c.args.self.now.book.journal) _ _ _ i.are (sym i.size ∙ search rules) i.counted
