use Rattle.std.proofs.Common.{IsTrue, List, refl, rules, subst, sym}
use Rattle.std.proofs.lemmas.Result.{IfOk-weaker}
use Rattle.fmp_base.specs.declared.events.Event.{Event}
use Rattle.fmp_base.specs.Setups.{setup}
use Rattle.fmp_instructions.specs.Machine.{code_meaning}
use Rattle.fmp_schedules.specs.declared.monitor.Monitor.{Monitor}
use Rattle.fmp_witness.specs.Followed.{IsFollowed}
use Rattle.fmp_explore.specs.States.{AreMonitorsOf}
use Rattle.fmp_explore.proofs.NextLemmas.{begun_nowhere, begun_of}
use Rattle.fmp_explore.proofs.MonitorLemmas.{held-after, held-self}
use Rattle.fmp_explore.proofs.searches.Search.begin_after.Goals as goal
use Rattle.fmp_witness.specs.Asked.{asked_of}

pub keep_first-requires-clause-live : goal.keep_first-requires-clause-live
keep_first-requires-clause-live c = c.requires.search.table.live

pub keep_first-requires-clause-few : goal.keep_first-requires-clause-few
keep_first-requires-clause-few c = λ _.
    let yes : IsTrue c.can_begin.result = search rules in
    (c.can_begin.ensures.0 yes).few

pub keep_first-requires-clause-held : goal.keep_first-requires-clause-held
keep_first-requires-clause-held c =
    let s = c.args.subject.now in
    subst (λ (ss : List Monitor). AreMonitorsOf s.question.now.monitors.items ss) (sym c.requires.monitors)
    (held-after s.question.now.monitors.items s.question.now.monitors.items
    (setup s.image.now.system (code_meaning s.image.now.code)).lines
    (held-self s.question.now.monitors.items))

pub returns-then-not-can_begin : goal.returns-then-not-can_begin
returns-then-not-can_begin c =
    let asked = asked_of c.args.subject.now in
    begun_nowhere asked c.args.self.now _
    (record {
      same = record { tries = refl; fields = refl; first = refl; outs = refl; live = refl };
      seen = refl;
      sure = λ e. absurd (cc (e));
    })
    c.requires.search refl

pub returns-then-not-follow : goal.returns-then-not-follow
returns-then-not-follow c =
    let asked = asked_of c.args.subject.now in
    begun_nowhere asked c.args.self.now _
    (record {
      same = record { tries = refl; fields = refl; first = refl; outs = refl; live = refl };
      seen = refl;
      sure = λ e. absurd (cc (e));
    })
    c.requires.search refl

pub returns : goal.returns
returns c =
    let asked = asked_of c.args.subject.now in
    let followed = subst (λ (es : List Event). IsFollowed asked.image asked.bound es c.follow.new.kernel)
    c.deref.ensures.value
    (c.follow.ensures c.if-not-follow.false) in
    IfOk-weaker c.keep_first.result _ _
    (λ _ kept. begun_of asked c.args.self.now c.keep_first.new.self c.follow.new.kernel
    c.args.monitors.now c.requires.search c.requires.clean followed c.requires.monitors kept)
    c.keep_first.ensures
