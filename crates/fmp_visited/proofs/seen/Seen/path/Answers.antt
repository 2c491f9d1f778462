use Rattle.std.proofs.Common.{sym, arith}
use Rattle.fmp_visited.specs.Links.{path_of}
use Rattle.fmp_visited.proofs.LinkLemmas.{walk-more}
use Rattle.fmp_visited.proofs.seen.Seen.path.Goals as goal

pub loop-event-preserved : goal.loop-event-preserved
loop-event-preserved c =
    let l = c.loop-event in
    let links = c.args.self.now.links in
    walk-more links l._event c.depth-event-end.result l.at c.in-Some.link l.events.items c.push.new.self.items
    (path_of links c.args.i) (omega arith) (sym c.in-Some.ensures) c.in_ok-push.ensures.items l.invariant
