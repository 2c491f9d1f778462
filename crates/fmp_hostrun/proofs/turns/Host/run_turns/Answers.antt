use Rattle.std.proofs.Common.{rules}
use Rattle.fmp_base.specs.declared.events.Event.TheVariants.{Run}
use Rattle.fmp_hostrun.proofs.Working.{added_more, did_more}
use Rattle.fmp_hostrun.proofs.turns.Host.run_turns.Goals as goal

pub loop-turn-preserved : goal.loop-turn-preserved
loop-turn-preserved g c =
    let i = c.loop-turn.invariant in
    let e = c.in_ok-take_turn.ensures in (
      e.at,
      added_more _ _ _ _ _ _ _ _ _ i.1 e.added,
      did_more g.B.Feed.image g.B.Feed.bound g.B.Feed.row_id (Run c.args.p) _ c.args.seat.now c.loop-turn.seat _ i.2
          e.did,
      search rules,
      search rules,
    )
