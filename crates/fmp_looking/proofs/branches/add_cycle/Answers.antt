use Rattle.std.proofs.lemmas.Result.{on_ok_weaker}
use Rattle.fmp_looking.proofs.LapLemmas.{cycle_gone}
use Rattle.fmp_looking.proofs.branches.add_cycle.Goals as goal

pub returns : goal.returns
returns g c =
    on_ok_weaker c.add_laps-2.result
    (λ rest. cycle_gone (g.B.Body.meaning c.args.body.now) c.args.code.number c.args.code.instructions.now
    c.args.ways.now c.add_laps.new.ways c.add_laps-2.new.ways c.args.cycle.length c.args.cycle.n c.args.cycle.from
    c.requires.cycle c.in_ok-add_laps.ensures rest)
    c.add_laps-2.ensures
