use Rattle.std.proofs.Common.{◌≡◌, ◌+◌, ℕ, suc, subst, arith}
use Rattle.fmp_base.specs.declared.events.Event.TheVariants.{Run}
use Rattle.fmp_base.specs.Steps.{step}
use Rattle.fmp_worlds.specs.Stamps.{applied}
use Rattle.fmp_worlds.proofs.StampLaws.{applied-runs}
use Rattle.fmp_worlds.proofs.laws.applying_is_running.Goals as goal

pub returns : goal.returns
returns g c = λ sys M n w p x h.
    let e : suc p ≡ p + 1 = omega arith in
    subst (λ (k : ℕ). applied sys M w k x ≡ step sys M n w (Run k)) e (applied-runs sys M n w p x h)
