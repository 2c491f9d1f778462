use Rattle.std.proofs.Common.{ℕ, ap, arith, refl, replicate, ◌∙◌}
use Rattle.fmp_kernel.proofs.RestartLemmas.{alike_restarted, settled_world_restarted}
use Rattle.fmp_kernel.proofs.StampLemmas.{stamps_begin}
use Rattle.fmp_kernel.proofs.kernel.Kernel.restart_count.Goals as goal

pub invariant_of-self : goal.invariant_of-self
invariant_of-self g c =
    let (early, settled, stamps) = c.self.invariant in
    let counts = c.restart.ensures ∙ ap (λ (n : ℕ). replicate n 0) stamps.many in
    rw c.restart_clock.ensures.state (
      record { time = omega arith; few = omega arith; early = omega arith },
      settled_world_restarted _ _ settled,
      stamps_begin c.restart.new.self _ counts,
    )

pub returns-clause-state : goal.returns-clause-state
returns-clause-state g c =
    let many = c.self.invariant.2.many in
    rw (c.restart_clock.ensures.state, c.restart.ensures, many, ← c.self.view_is) refl

pub returns-clause-alike : goal.returns-clause-alike
returns-clause-alike g c =
    let e = c.restart_clock.ensures in
    rw (e.state, ← c.self.view_is) (alike_restarted _ _ c.self.invariant.1 e.deadlines e.due_times)
