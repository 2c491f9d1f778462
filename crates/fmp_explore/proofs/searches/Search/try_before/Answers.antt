use Rattle.fmp_explore.proofs.TryingLemmas.{fewer_of}
use Rattle.fmp_explore.proofs.searches.Search.try_before.Goals as goal
use Rattle.fmp_witness.specs.Asked.{asked_of}
use Rattle.std.proofs.Common.{arith}

pub returns-then-next-end-clause-tried : goal.returns-then-next-end-clause-tried
returns-then-next-end-clause-tried c =
    fewer_of (asked_of c.args.here.subject.now) c.args.from.now.world _ c.args.self.now c.loop-try.self
    c.loop-try.marks c.loop-try.next c.args.end (omega (arith, c.if-next-end.true)) c.loop-try.invariant.tried

pub returns-clause-tried : goal.returns-clause-tried
returns-clause-tried c =
    fewer_of (asked_of c.args.here.subject.now) c.args.from.now.world _ c.args.self.now c.loop-try.self
    c.loop-try.marks c.loop-try.next c.args.end (omega (arith, c.loop-try.invariant.far)) c.loop-try.invariant.tried
