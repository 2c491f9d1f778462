use Rattle.std.proofs.lemmas.Result.{on_ok_weaker}
use Rattle.fmp_looking.proofs.WayLemmas.{added}
use Rattle.fmp_looking.proofs.ways.BranchWays.add.Goals as goal

pub returns : goal.returns
returns c =
    on_ok_weaker c.add.result
    (λ is. added c.args.self.now.bodies.items c.grow_bodies.new.bodies.items c.args.body c.args.number
    c.index_mut.result.now c.add.new.self c.args.more c.in_ok-grow_bodies.ensures.same
    c.in_ok-grow_bodies.ensures.room c.index_mut.ensures.value is)
    c.add.ensures
