-- A processor that changes, but runs what it ran.
use Rattle.std.proofs.Common.{◌≡◌, ℕ, zero, suc, List, [], ◌∷◌, refl}
use Rattle.std.specs.Prelude.{slice_set}
use Rattle.fmp_base.specs.declared.states.Processor.{Processor}
use Rattle.fmp_spin.specs.Processors.{processor_in}

-- all processors run what they ran, where one becomes another that runs the same
pub run_kept : (cpus : List Processor) (p q : ℕ) (x : Processor) → x.run ≡ (processor_in cpus p).run
    → (processor_in (slice_set cpus p x) q).run ≡ (processor_in cpus q).run
run_kept [] p q x e = refl
run_kept (y ∷ ys) zero zero x e = e
run_kept (y ∷ ys) zero (suc q) x e = refl
run_kept (y ∷ ys) (suc p) zero x e = refl
run_kept (y ∷ ys) (suc p) (suc q) x e = run_kept ys p q x e
