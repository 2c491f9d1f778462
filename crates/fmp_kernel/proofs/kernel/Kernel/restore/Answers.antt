use Rattle.std.proofs.Common.{ℕ, ap, arith, refl, replicate, sym, ◌∙◌}
use Rattle.fmp_base.specs.Systems.{SystemTables}
use Rattle.fmp_kernel.proofs.StampLemmas.{stamps_begin}
use Rattle.fmp_kernel.proofs.kernel.Kernel.restore.Goals as goal

pub invariant_of-self : goal.invariant_of-self
invariant_of-self g c =
    let (early, settled, stamps) = c.self.invariant in
    let e = c.restore.ensures in
    let counts = c.restart.ensures
    ∙ ap (λ (n : ℕ). replicate n 0) (stamps.many ∙ ap (λ (s : SystemTables). s.processors) (sym e.bodies.system)) in (
      record { time = omega (arith, e.clock); few = omega arith; early = omega arith },
      e.settled c.if-restore.true,
      stamps_begin c.restart.new.self _ counts,
    )

pub returns-then-restore-clause-begun : goal.returns-then-restore-clause-begun
returns-then-restore-clause-begun g c =
    let stamps = c.self.invariant.2 in
    let e = c.restore.ensures in
    λ h. record {
      clock = e.clock;
      done = refl {a = 0};
      taken = refl {a = 0};
      stamps = c.restart.ensures
          ∙ ap (λ (n : ℕ). replicate n 0) (stamps.many ∙ ap (λ (s : SystemTables). s.processors) (sym e.bodies.system));
      lines = e.lines;
    }
