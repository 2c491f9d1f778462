use Rattle.std.proofs.Common.{◌≡◌, ◌∙◌, ◌+◌, ◌==◌, List, ap, arith, get_or, if◌then◌else◌, length, rules, vec_len}
use Rattle.fmp_looking.specs.declared.ways.WayCounts.{WayCounts}
use Rattle.fmp_looking.specs.Ways.{capped, never, times_in, times_of}
use Rattle.fmp_looking.proofs.WayLemmas.{bodies_added, body_added}
use Rattle.fmp_looking.proofs.ways.BranchWays.add_all.Goals as goal

pub loop-body-preserved : goal.loop-body-preserved
loop-body-preserved c =
    let count : vec_len c.args.others.now.bodies ≡ length c.args.others.now.bodies.items = search rules in
    λ b n way. body_added c.args.others.now.bodies.items c.loop-body.body c.index.result.now b n way
    (times_in c.args.self.now b n way) (times_in c.loop-body.self b n way) (times_in c.add_body.new.self b n way)
    (omega arith) c.index.ensures (c.loop-body.invariant b n way)
    (c.in_ok-add_body.ensures b n way
    ∙ ap (λ (ws : List WayCounts). capped (times_in c.loop-body.self b n way
    + (if b == c.loop-body.body then times_of way (get_or ws n never) else 0))) c.deref.ensures.value)

pub returns : goal.returns
returns c =
    let count : vec_len c.args.others.now.bodies ≡ length c.args.others.now.bodies.items = search rules in
    λ b n way. bodies_added c.args.others.now.bodies.items c.loop-body.body b n way
    (times_in c.args.self.now b n way) (times_in c.loop-body.self b n way) (omega arith) (c.loop-body.invariant b n way)
