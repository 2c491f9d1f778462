use Rattle.std.proofs.lemmas.Result.{IfOk-weaker}
use Rattle.fmp_explore.proofs.TryingLemmas.{all_tried}
use Rattle.fmp_explore.proofs.searches.Search.finish.Goals as goal
use Rattle.fmp_witness.specs.Asked.{asked_of}

pub returns-clause-tried : goal.returns-clause-tried
returns-clause-tried c =
    let asked = asked_of c.args.here.subject.now in
    IfOk-weaker c.look_at.result _ _
    (λ _ look. all_tried asked c.args.from.now.world _ c.args.self.now c.try_last.new.self
    c.look_at.new.self c.in_ok-marks.marks c.keeps_rules.ensures c.in_ok-marks.ensures.tried look)
    c.look_at.ensures
