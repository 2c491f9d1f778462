use Rattle.std.proofs.Common.{◌≡◌, Some, rules}
use Rattle.fmp_base.specs.declared.events.Event.TheVariants.{Run}
use Rattle.fmp_board.specs.Outcomes.{Drew}
use Rattle.fmp_hostrun.proofs.Working.{added_none, added_submitted, added_turn, did_submitted, turn_refused}
use Rattle.fmp_hostrun.proofs.turns.Host.take_turn.Goals as goal

pub returns-in-Ok-clause-added : goal.returns-in-Ok-clause-added
returns-in-Ok-clause-added g c =
    let processor : c.look.new.workspace.ticket.processor ≡ c.args.p = search rules in
    added_turn _ _ _ _ _ _ _ _ c.look.ensures.visited c.look.ensures.mine processor
    (added_submitted _ _ _ _ _ _ _ c.submit-answer.ensures.visited c.submit-answer.ensures.mine
    c.submit-answer.ensures.submitted)

pub returns-in-Err-Stale-clause-added : goal.returns-in-Err-Stale-clause-added
returns-in-Err-Stale-clause-added g c =
    let processor : c.look.new.workspace.ticket.processor ≡ c.args.p = search rules in
    added_turn _ _ _ _ _ _ _ _ c.look.ensures.visited c.look.ensures.mine processor
    (added_submitted _ _ _ _ _ _ _ c.submit-answer.ensures.visited c.submit-answer.ensures.mine
    c.submit-answer.ensures.submitted)

pub returns-in-Ok-clause-did : goal.returns-in-Ok-clause-did
returns-in-Ok-clause-did g c =
    let drew : Drew g.B.Feed.image g.B.Feed.bound c.look.new.seat.seen c.args.p
    (Some c.look.new.workspace.ticket) = search rules in
    did_submitted _ _ _ _ _ _ _ _ _ c.look.ensures.visited c.look.ensures.mine drew
    c.submit-answer.ensures.visited c.submit-answer.ensures.mine c.submit-answer.ensures.submitted (search rules)

pub returns-in-Err-Stale-clause-did : goal.returns-in-Err-Stale-clause-did
returns-in-Err-Stale-clause-did g c =
    let drew : Drew g.B.Feed.image g.B.Feed.bound c.look.new.seat.seen c.args.p
    (Some c.look.new.workspace.ticket) = search rules in
    did_submitted _ _ _ _ _ _ _ _ _ c.look.ensures.visited c.look.ensures.mine drew
    c.submit-answer.ensures.visited c.submit-answer.ensures.mine c.submit-answer.ensures.submitted (search rules)

pub returns-in-Err : goal.returns-in-Err
returns-in-Err g c =
    let processor : c.look.new.workspace.ticket.processor ≡ c.args.p = search rules in
    record {
      at = c.submit-answer.ensures.at;
      added =
          added_turn _ _ _ _ _ _ _ _ c.look.ensures.visited c.look.ensures.mine processor
          (added_submitted _ _ _ _ _ _ _ c.submit-answer.ensures.visited c.submit-answer.ensures.mine
          c.submit-answer.ensures.submitted);
      did = tt;
      mine = tt;
      stopped =
          turn_refused g.B.Feed.image g.B.Feed.bound g.B.Feed.row_id g.G.Gate.is_open c.args.p
          c.look.new.workspace.ticket c.args.seat.now c.look.new.seat c.submit-answer.new.seat c.in-Err.fault
          c.in-Err.ensures.submitted (search rules) c.look.ensures.mine c.in-Err.ensures.mine;
    }

pub returns-then-not-is_let-clause-added : goal.returns-then-not-is_let-clause-added
returns-then-not-is_let-clause-added g c =
    let feed = g.B.Feed in
    added_none feed.image feed.bound feed.row_id (Run c.args.p) 1 c.args.seat.now c.look.new.seat
    c.look.ensures.visited c.look.ensures.mine
