use Rattle.std.proofs.Common.{◌∙◌, Some, ap, sym, subst}
use Rattle.fmp_base.specs.declared.bodies.Held.TheVariants.{Goes}
use Rattle.fmp_base.specs.Meanings.{caller_body, with_context}
use Rattle.fmp_base.specs.Steps.{Done}
use Rattle.fmp_contexts.specs.Contexts.{HasContext}
use Rattle.fmp_kernel.specs.KernelViews.{done_of, stopped_on, with_contexts}
use Rattle.fmp_kernel.proofs.StepLemmas.{same_after}
use Rattle.fmp_kernel.proofs.StopLemmas.{nothing_calls, something_after}
use Rattle.fmp_kernel.proofs.runner.Runner.carry_out_or_spin.Goals as goal

pub go_back-requires-clause-kept : goal.go_back-requires-clause-kept
go_back-requires-clause-kept g c =
    let r = c.args.self.now in
    let M = g.B.Body.meaning r.body in
    let y = stopped_on r.system M r.world c.args.p c.args.who c.args.stop.now in
    let e = c.carry_out_stop.ensures in
    let nothing = sym c.in-Nothing.is ∙ e.effect in
    let same = e.after ∙ same_after y (done_of r) nothing in
    subst (λ (d : Done _). HasContext d.world.contexts c.args.p c.args.who) (sym same)
    (c.requires.kept (nothing_calls r.system M r.world c.args.p c.args.who c.args.stop.now nothing))

pub go_back-requires-clause-context : goal.go_back-requires-clause-context
go_back-requires-clause-context g c =
    let r = c.args.self.now in
    let M = g.B.Body.meaning r.body in
    let y = stopped_on r.system M r.world c.args.p c.args.who c.args.stop.now in
    let e = c.carry_out_stop.ensures in
    let nothing = sym c.in-Nothing.is ∙ e.effect in
    let same = e.after ∙ same_after y (done_of r) nothing in
    let first = c.args.first.now in
    rw (e.bodies.body, e.bodies.system)
    (subst (λ (d : Done _). g.B.Body.is_context r.body (caller_body r.system d.world.contexts c.args.p c.args.who)
    first) (sym same)
    (c.requires.context (nothing_calls r.system M r.world c.args.p c.args.who c.args.stop.now nothing)))

pub returns-in-Nothing : goal.returns-in-Nothing
returns-in-Nothing g c =
    let r = c.args.self.now in
    let M = g.B.Body.meaning r.body in
    let y = stopped_on r.system M r.world c.args.p c.args.who c.args.stop.now in
    let e = c.carry_out_stop.ensures in
    let nothing = sym c.in-Nothing.is ∙ e.effect in
    let same = e.after ∙ same_after y (done_of r) nothing in
    let first = c.args.first.now in
    rw c.go_back.ensures
    (record {
      effect = nothing;
      after = ap (λ (d : Done _). with_contexts d (with_context d.world.contexts c.args.p c.args.who
          (Some (Goes first)))) same
          ∙ sym (same_after y (with_contexts (done_of r) (with_context r.world.contexts c.args.p c.args.who
          (Some (Goes first)))) nothing);
      bodies = record { body = e.bodies.body; bound = e.bodies.bound; system = e.bodies.system };
      clock = e.clock;
    })

pub returns-in-Done : goal.returns-in-Done
returns-in-Done g c =
    let r = c.args.self.now in
    let M = g.B.Body.meaning r.body in
    let e = c.carry_out_stop.ensures in
    let did = sym c.in-Done.is ∙ e.effect in
    record {
      effect = did;
      after = e.after
          ∙ something_after (done_of r) (with_context r.world.contexts c.args.p c.args.who
          (Some (Goes c.args.first.now)))
          (stopped_on r.system M r.world c.args.p c.args.who c.args.stop.now) (λ h. absurd (cc (did, h)));
      bodies = record { body = e.bodies.body; bound = e.bodies.bound; system = e.bodies.system };
      clock = e.clock;
    }

pub returns-in-Kept : goal.returns-in-Kept
returns-in-Kept g c =
    let r = c.args.self.now in
    let M = g.B.Body.meaning r.body in
    let e = c.carry_out_stop.ensures in
    let kept = sym c.in-Kept.is ∙ e.effect in
    record {
      effect = kept;
      after = e.after
          ∙ something_after (done_of r) (with_context r.world.contexts c.args.p c.args.who
          (Some (Goes c.args.first.now)))
          (stopped_on r.system M r.world c.args.p c.args.who c.args.stop.now) (λ h. absurd (cc (kept, h)));
      bodies = record { body = e.bodies.body; bound = e.bodies.bound; system = e.bodies.system };
      clock = e.clock;
    }
