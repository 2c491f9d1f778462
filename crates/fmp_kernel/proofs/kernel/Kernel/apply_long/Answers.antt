use Rattle.std.proofs.Common.{◌-◌, ◌∙◌, Some, ap, arith, subst, sym}
use Rattle.fmp_base.specs.States.{processor_at}
use Rattle.fmp_base.specs.Steps.{Done, Reaction, actor_of, effect_of}
use Rattle.fmp_base.specs.Stretches.{ending}
use Rattle.fmp_base.specs.Systems.{SystemTables}
use Rattle.fmp_kernel.specs.KernelViews.{done_of, done_or}
use Rattle.fmp_worlds.specs.Settled.{IsSettledWorld}
use Rattle.fmp_worlds.specs.Stamps.{applied, place_run}
use Rattle.fmp_kernel.proofs.ActorLemmas.{applied-stamps, ran-applied_by}
use Rattle.fmp_kernel.proofs.FrontLemmas.{RanOn}
use Rattle.fmp_kernel.proofs.StampLemmas.{below, kept_is, stamps_after, view_done, view_kept, view_nothing}
use Rattle.fmp_kernel.proofs.StepLemmas.{kept_after_stretch, settled_applied, same_after, by_number}
use Rattle.fmp_kernel.proofs.kernel.Kernel.apply_long.Goals as goal

pub returns-in-Nothing-clause-state : goal.returns-in-Nothing-clause-state
returns-in-Nothing-clause-state g c =
    let k = c.self.inside in
    let r = k.runner in
    let x = applied r.system (g.B.Body.meaning r.body) r.world c.args.p (ending c.args.s) in
    let e = c.apply-effect.ensures in
    let n = by_number r.system (g.B.Body.meaning r.body) r.world c.args.p (ending c.args.s) (omega arith) in
    rw (← c.self.view_is) (view_nothing x r c.apply-effect.new.self k.stamps k.done k.taken
    (sym c.in-Nothing.is ∙ e.effect ∙ ap effect_of n) (e.after ∙ ap (done_or (done_of r)) n) e.bodies)

pub returns-in-Done-clause-state : goal.returns-in-Done-clause-state
returns-in-Done-clause-state g c =
    let k = c.self.inside in
    let r = k.runner in
    let x = applied r.system (g.B.Body.meaning r.body) r.world c.args.p (ending c.args.s) in
    let e = c.apply-effect.ensures in
    let n = by_number r.system (g.B.Body.meaning r.body) r.world c.args.p (ending c.args.s) (omega arith) in
    rw (← c.self.view_is) (view_done x r c.apply-effect.new.self k.stamps c.count.new.self k.done k.taken
    (sym c.in-Done.is ∙ e.effect ∙ ap effect_of n) (e.after ∙ ap (done_or (done_of r)) n) e.bodies
    (applied-stamps r.system (g.B.Body.meaning r.body) (done_of r) (done_of c.apply-effect.new.self) _
    (ending c.args.s) k.stamps c.count.new.self c.self.invariant.1
    (sym c.in-Done.is ∙ e.effect) e.after (rw (← c.lines.ensures.lines) c.count.ensures)))

pub count-requires-clause-few : goal.count-requires-clause-few
count-requires-clause-few g c =
    below _ _ _ c.self.invariant.2 (rw (← c.self.view_is) at c.requires.early)

pub invariant_of-self-in-Done : goal.invariant_of-self-in-Done
invariant_of-self-in-Done g c =
    let k = c.self.inside in
    let r = k.runner in
    let (early, settled, stamps) = c.self.invariant in
    let few = rw (← c.self.view_is) at c.requires.early in
    let e = c.apply-effect.ensures in
    let n = by_number r.system (g.B.Body.meaning r.body) r.world c.args.p (ending c.args.s) (omega arith) in
    let sys : SystemTables = r.system in (
      record { time = omega (arith, early.time, e.clock); few = omega (arith, early.few); early = omega (arith, few) },
      rw e.bodies.system (settled_applied sys (g.B.Body.meaning r.body) (done_of r)
          (done_of c.apply-effect.new.self) _ (ending c.args.s) settled
          (rw (← e.bodies.system) c.world_is_whole.ensures) e.after),
      rw e.bodies.system (stamps_after k.stamps c.count.new.self sys.processors k.taken
          (place_run c.apply-effect.new.self.lines) r.world.state c.apply-effect.new.self.world.state stamps
          (applied-stamps r.system (g.B.Body.meaning r.body) (done_of r) (done_of c.apply-effect.new.self) _
          (ending c.args.s) k.stamps c.count.new.self c.self.invariant.1
          (sym c.in-Done.is ∙ e.effect) e.after (rw (← c.lines.ensures.lines) c.count.ensures))),
    )

pub invariant_of-self : goal.invariant_of-self
invariant_of-self g c =
    let k = c.self.inside in
    let r = k.runner in
    let (early, settled, stamps) = c.self.invariant in
    let e = c.apply-effect.ensures in
    let sys : SystemTables = r.system in
    let same = e.after ∙ same_after _ (done_of r) (sym c.in-Nothing.is ∙ e.effect) in (
      record { time = omega (arith, early.time, e.clock); few = early.few; early = early.early },
      rw e.bodies.system (subst (λ (d : Done _). IsSettledWorld sys d.world) (sym same) settled),
      rw e.bodies.system stamps,
    )

pub returns-in-Kept-clause-state : goal.returns-in-Kept-clause-state
returns-in-Kept-clause-state g c =
    let k = c.self.inside in
    let r = k.runner in
    let M = g.B.Body.meaning r.body in
    let x = applied r.system M r.world c.args.p (ending c.args.s) in
    let e = c.apply-effect.ensures in
    let n = by_number r.system M r.world c.args.p (ending c.args.s) (omega arith) in
    let ran = Some (c.args.p - 1) in
    rw (← c.self.view_is) (view_kept x r c.apply-effect.new.self k.stamps c.count_kept.new.self k.done k.taken ran
    (sym c.in-Kept.is ∙ e.effect ∙ ap effect_of n)
    (subst (λ (y : Reaction _). RanOn ran y) n
    (ran-applied_by r.system M r.world (c.args.p - 1) (actor_of (processor_at r.world.state (c.args.p - 1)))
    (ending c.args.s)))
    (e.after ∙ ap (done_or (done_of r)) n) e.bodies
    (kept_is k.stamps c.count_kept.new.self ran r.world.state c.apply-effect.new.self.world.state
    (kept_after_stretch r.system (g.B.Body.meaning r.body) (done_of r) (done_of c.apply-effect.new.self) _
    (ending c.args.s)
    (sym c.in-Kept.is ∙ e.effect) e.after) c.count_kept.ensures))

pub count_kept-requires : goal.count_kept-requires
count_kept-requires g c =
    below _ _ _ c.self.invariant.2 (rw (← c.self.view_is) at c.requires.early)

pub invariant_of-self-in-Kept : goal.invariant_of-self-in-Kept
invariant_of-self-in-Kept g c =
    let k = c.self.inside in
    let r = k.runner in
    let (early, settled, stamps) = c.self.invariant in
    let few = rw (← c.self.view_is) at c.requires.early in
    let e = c.apply-effect.ensures in
    let sys : SystemTables = r.system in (
      record { time = omega (arith, early.time, e.clock); few = omega (arith, early.few); early = omega (arith, few) },
      rw e.bodies.system (settled_applied sys (g.B.Body.meaning r.body) (done_of r)
          (done_of c.apply-effect.new.self) _ (ending c.args.s) settled
          (rw (← e.bodies.system) c.world_is_whole.ensures) e.after),
      rw e.bodies.system (stamps_after k.stamps c.count_kept.new.self sys.processors k.taken
          (Some (c.args.p - 1)) r.world.state c.apply-effect.new.self.world.state stamps
          (kept_is k.stamps c.count_kept.new.self (Some (c.args.p - 1)) r.world.state
          c.apply-effect.new.self.world.state
          (kept_after_stretch r.system (g.B.Body.meaning r.body) (done_of r) (done_of c.apply-effect.new.self) _
          (ending c.args.s)
          (sym c.in-Kept.is ∙ e.effect) e.after) c.count_kept.ensures)),
    )
