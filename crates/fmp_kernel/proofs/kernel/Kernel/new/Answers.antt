use Rattle.std.proofs.Common.{ℕ, ap, arith, replicate, sym, subst, ◌≡◌, ◌∙◌}
use Rattle.fmp_base.specs.Meanings.{World}
use Rattle.fmp_base.specs.Steps.{Done}
use Rattle.fmp_base.specs.Systems.{SystemTables}
use Rattle.fmp_kernel.specs.KernelViews.{RunnerView}
use Rattle.fmp_worlds.specs.Settled.{IsSettledWorld}
use Rattle.fmp_worlds.proofs.Awaiting.{setup-settled_world}
use Rattle.fmp_kernel.proofs.StampLemmas.{stamps_begin}
use Rattle.fmp_kernel.proofs.kernel.Kernel.new.Goals as goal

pub invariant_of-result : goal.invariant_of-result
invariant_of-result g c =
    let r = c.in_ok-runner.runner in
    let M = g.B.Body.meaning r.body in
    let world = ap (λ (d : Done _). d.world) c.set_up.ensures.after in
    let whole = rw (world, c.set_up.ensures.bodies.system) at c.world_is_whole.ensures in
    let settled = subst (λ (w : World _). IsSettledWorld r.system w) (sym world)
    (setup-settled_world r.system M whole) in
    let now = c.set_up.new.self in
    let same : now.system.processors ≡ c.args.sys.now.processors =
    ap (λ (s : SystemTables). s.processors) c.set_up.ensures.bodies.system
    ∙ ap (λ (v : RunnerView _ _). v.system.processors) c.in_ok-runner.ensures in
    let counts = c.in_ok-stamps.ensures ∙ ap (λ (n : ℕ). replicate n 0) (sym same) in (
      record { time = omega (arith, c.set_up.ensures.clock); few = omega arith; early = omega arith },
      rw c.set_up.ensures.bodies.system settled,
      stamps_begin c.in_ok-stamps.stamps _ counts,
    )

pub new-requires-2-clause-entries : goal.new-requires-2-clause-entries
new-requires-2-clause-entries g c = c.requires.entries

pub new-requires-2-clause-range : goal.new-requires-2-clause-range
new-requires-2-clause-range g c = c.requires.range
