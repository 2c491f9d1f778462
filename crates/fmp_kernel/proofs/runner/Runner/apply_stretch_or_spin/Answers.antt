use Rattle.std.proofs.Common.{ℕ, Some, subst, sym, ◌∙◌, ap}
use Rattle.fmp_base.specs.declared.bodies.Held.TheVariants.{Goes}
use Rattle.fmp_base.specs.Meanings.{context_of, with_context}
use Rattle.fmp_base.specs.Steps.{effect_of}
use Rattle.fmp_base.specs.Stretches.{ending}
use Rattle.fmp_contexts.proofs.ContextLemmas.{going_has}
use Rattle.fmp_kernel.specs.KernelViews.{done_of, done_or, with_contexts, with_stretch}
use Rattle.fmp_kernel.proofs.StopLemmas.{applies_as, call_body, call_there, done_again, ending_hands, stops_so}
use Rattle.fmp_kernel.proofs.runner.Runner.apply_stretch_or_spin.Goals as goal

pub carry_out_or_spin-requires-clause-kept : goal.carry_out_or_spin-requires-clause-kept
carry_out_or_spin-requires-clause-kept g c =
    let r = c.args.self.now in
    let M = g.B.Body.meaning r.body in
    let has = going_has r.world.contexts c.args.p c.args.who c.requires.goes in
    rw (c.take-stop.ensures.kept, c.take-stop.ensures.stop) (call_there M r c.args.p c.args.who
    (ending c.args.stretch) has)

pub carry_out_or_spin-requires-clause-context : goal.carry_out_or_spin-requires-clause-context
carry_out_or_spin-requires-clause-context g c =
    let r = c.args.self.now in
    let M = g.B.Body.meaning r.body in
    let first = c.first_context-first.result in
    let has = going_has r.world.contexts c.args.p c.args.who c.requires.goes in
    rw (c.take-stop.ensures.kept, c.take-stop.ensures.stop)
    (λ e. subst (λ (n : ℕ). g.B.Body.is_context r.body n first) (sym (call_body M r c.args.p c.args.who
    (ending c.args.stretch) has e))
    c.first_context-first.ensures.context)

pub returns : goal.returns
returns g c =
    let r = c.args.self.now in
    let M = g.B.Body.meaning r.body in
    let x = ending c.args.stretch in
    let first = c.first_context-first.result in
    let has = going_has r.world.contexts c.args.p c.args.who c.requires.goes in
    let made = rw (c.take-stop.ensures.kept, c.take-stop.ensures.stop) at c.carry_out_or_spin.ensures in
    record {
      effect = made.effect ∙ ap effect_of (stops_so M r c.args.p c.args.who x (ending_hands c.args.stretch)
          ∙ applies_as r.system M r.world c.args.p c.args.who (context_of r.world.contexts c.args.p c.args.who) x
          c.requires.goes);
      after = made.after ∙ ap (done_or (with_contexts (done_of (with_stretch r c.args.p c.args.who x))
          (with_context (with_stretch r c.args.p c.args.who x).world.contexts c.args.p c.args.who (Some (Goes first)))))
          (stops_so M r c.args.p c.args.who x (ending_hands c.args.stretch))
          ∙ done_again M r c.args.p c.args.who x first (ending_hands c.args.stretch)
          c.first_context-first.ensures.value has
          ∙ ap (done_or (done_of r)) (applies_as r.system M r.world c.args.p c.args.who
          (context_of r.world.contexts c.args.p c.args.who) x c.requires.goes);
      bodies = record { body = made.bodies.body; bound = made.bodies.bound; system = made.bodies.system };
      clock = made.clock;
    }
