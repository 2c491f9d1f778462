use Rattle.std.proofs.Common.{List, ap, arith, length}
use Rattle.std.proofs.lemmas.Result.{IfOk-weaker}
use Rattle.fmp_base.specs.declared.events.Event.{Event}
use Rattle.fmp_explore.proofs.TryingLemmas.{tried_out_before}
use Rattle.fmp_explore.proofs.searches.Search.examine_on.Goals as goal
use Rattle.fmp_witness.specs.Asked.{asked_of}

pub finish_busy-requires-clause-last : goal.finish_busy-requires-clause-last
finish_busy-requires-clause-last c =
    omega (arith, ap (λ (es : List Event). length es) c.in_ok-marks.ensures.tried.grows.same.tries)

pub finish-requires-clause-last : goal.finish-requires-clause-last
finish-requires-clause-last c =
    omega (arith, ap (λ (es : List Event). length es) c.in_ok-marks.ensures.tried.grows.same.tries)

pub returns-then-busy-clause-tried : goal.returns-then-busy-clause-tried
returns-then-busy-clause-tried c =
    let asked = asked_of c.args.here.subject.now in
    IfOk-weaker c.finish_busy.result _ _
    (λ _ out. tried_out_before asked c.args.kernels.now.top.world _ c.args.self.now c.try_before.new.self
    c.finish_busy.new.self c.in_ok-marks.ensures.tried.grows out)
    c.finish_busy.ensures.tried

pub returns-clause-tried : goal.returns-clause-tried
returns-clause-tried c =
    let asked = asked_of c.args.here.subject.now in
    IfOk-weaker c.finish.result _ _
    (λ _ out. tried_out_before asked c.args.kernels.now.top.world _ c.args.self.now c.try_before.new.self
    c.finish.new.self
    c.in_ok-marks.ensures.tried.grows out)
    c.finish.ensures.tried

pub returns-then-busy-clause-kernels : goal.returns-then-busy-clause-kernels
returns-then-busy-clause-kernels c =
    record { top = c.finish_busy.ensures.over; work = c.try_before.ensures.over }

pub returns-clause-kernels : goal.returns-clause-kernels
returns-clause-kernels c = record { top = c.requires.ready.over; work = c.finish.ensures.over }
