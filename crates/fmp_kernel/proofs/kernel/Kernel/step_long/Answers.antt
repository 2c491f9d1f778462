use Rattle.std.proofs.Common.{◌∙◌, ap, arith, sym}
use Rattle.fmp_base.specs.Steps.{step}
use Rattle.fmp_base.specs.Systems.{SystemTables}
use Rattle.fmp_kernel.specs.KernelViews.{done_of}
use Rattle.fmp_worlds.specs.Stamps.{place_run, run_place}
use Rattle.fmp_kernel.proofs.ActorLemmas.{step-stamps}
use Rattle.fmp_kernel.proofs.FrontLemmas.{ran-step}
use Rattle.fmp_kernel.proofs.StampLemmas.{below, kept_is, stamps_after, view_done, view_kept, view_nothing}
use Rattle.fmp_kernel.proofs.StepLemmas.{kept_after_step, settled_after}
use Rattle.fmp_kernel.proofs.kernel.Kernel.step_long.Goals as goal

pub returns-in-Nothing-clause-state : goal.returns-in-Nothing-clause-state
returns-in-Nothing-clause-state g c =
    let k = c.self.inside in
    let r = k.runner in
    let x = step r.system (g.B.Body.meaning r.body) r.bound r.world c.args.e in
    let e = c.react-effect.ensures in
    rw (← c.self.view_is) (view_nothing x r c.react-effect.new.self k.stamps k.done k.taken
    (sym c.in-Nothing.is ∙ e.effect) e.after e.bodies)

pub returns-in-Done-clause-state : goal.returns-in-Done-clause-state
returns-in-Done-clause-state g c =
    let k = c.self.inside in
    let r = k.runner in
    let x = step r.system (g.B.Body.meaning r.body) r.bound r.world c.args.e in
    let e = c.react-effect.ensures in
    rw (← c.self.view_is) (view_done x r c.react-effect.new.self k.stamps c.count.new.self k.done k.taken
    (sym c.in-Done.is ∙ e.effect) e.after e.bodies
    (step-stamps r.system (g.B.Body.meaning r.body) r.bound (done_of r)
    (done_of c.react-effect.new.self) c.args.e k.stamps c.count.new.self c.self.invariant.1
    (sym c.in-Done.is ∙ e.effect) e.after (rw (← c.run_place-in-Done.ensures, ← c.lines.ensures.lines)
    c.count.ensures)))

pub count-requires-clause-few : goal.count-requires-clause-few
count-requires-clause-few g c =
    below _ _ _ c.self.invariant.2 (rw (← c.self.view_is) at c.requires)

pub invariant_of-self-in-Done : goal.invariant_of-self-in-Done
invariant_of-self-in-Done g c =
    let k = c.self.inside in
    let r = k.runner in
    let (early, settled, stamps) = c.self.invariant in
    let few = rw (← c.self.view_is) at c.requires in
    let e = c.react-effect.ensures in
    let sys : SystemTables = r.system in (
      record { time = omega (arith, early.time, e.clock); few = omega (arith, early.few); early = omega (arith, few) },
      rw e.bodies.system (settled_after sys (g.B.Body.meaning r.body) r.bound (done_of r)
          (done_of c.react-effect.new.self) c.args.e settled
          (rw (← e.bodies.system) c.world_is_whole.ensures) e.after),
      rw e.bodies.system (stamps_after k.stamps c.count.new.self sys.processors k.taken
          (place_run c.react-effect.new.self.lines) r.world.state c.react-effect.new.self.world.state stamps
          (step-stamps r.system (g.B.Body.meaning r.body) r.bound (done_of r)
          (done_of c.react-effect.new.self) c.args.e k.stamps c.count.new.self c.self.invariant.1
          (sym c.in-Done.is ∙ e.effect) e.after (rw (← c.run_place-in-Done.ensures, ← c.lines.ensures.lines)
          c.count.ensures))),
    )

pub returns-in-Kept-clause-state : goal.returns-in-Kept-clause-state
returns-in-Kept-clause-state g c =
    let k = c.self.inside in
    let r = k.runner in
    let x = step r.system (g.B.Body.meaning r.body) r.bound r.world c.args.e in
    let e = c.react-effect.ensures in
    let ran = run_place c.args.e in
    rw (← c.self.view_is) (view_kept x r c.react-effect.new.self k.stamps c.count_kept.new.self k.done k.taken ran
    (sym c.in-Kept.is ∙ e.effect) (ran-step r.system (g.B.Body.meaning r.body) r.bound r.world c.args.e) e.after
    e.bodies
    (kept_is k.stamps c.count_kept.new.self ran r.world.state c.react-effect.new.self.world.state
    (kept_after_step r.system (g.B.Body.meaning r.body) r.bound (done_of r) (done_of c.react-effect.new.self) c.args.e
    (sym c.in-Kept.is ∙ e.effect) e.after) (rw (← c.run_place.ensures) c.count_kept.ensures)))

pub count_kept-requires : goal.count_kept-requires
count_kept-requires g c =
    below _ _ _ c.self.invariant.2 (rw (← c.self.view_is) at c.requires)

pub invariant_of-self-in-Kept : goal.invariant_of-self-in-Kept
invariant_of-self-in-Kept g c =
    let k = c.self.inside in
    let r = k.runner in
    let (early, settled, stamps) = c.self.invariant in
    let few = rw (← c.self.view_is) at c.requires in
    let e = c.react-effect.ensures in
    let sys : SystemTables = r.system in (
      record { time = omega (arith, early.time, e.clock); few = omega (arith, early.few); early = omega (arith, few) },
      rw e.bodies.system (settled_after sys (g.B.Body.meaning r.body) r.bound (done_of r)
          (done_of c.react-effect.new.self) c.args.e settled
          (rw (← e.bodies.system) c.world_is_whole.ensures) e.after),
      rw e.bodies.system (stamps_after k.stamps c.count_kept.new.self sys.processors k.taken
          (run_place c.args.e) r.world.state c.react-effect.new.self.world.state stamps
          (kept_is k.stamps c.count_kept.new.self (run_place c.args.e) r.world.state c.react-effect.new.self.world.state
          (kept_after_step r.system (g.B.Body.meaning r.body) r.bound (done_of r)
          (done_of c.react-effect.new.self) c.args.e
          (sym c.in-Kept.is ∙ e.effect) e.after) (rw (← c.run_place.ensures) c.count_kept.ensures))),
    )
