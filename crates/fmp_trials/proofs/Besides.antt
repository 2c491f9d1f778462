-- Kernels of the same bodies, bound and system.
use Rattle.std.proofs.Common.{◌≡◌, ◌∙◌, ℕ, ◌+◌, ◌≤◌, ◌^◌, List, [], ◌∷◌, ap, arith, refl, subst, sym}
use Rattle.fmp_base.specs.Steps.{Reaction}
use Rattle.fmp_kernel.specs.Comings.{view_after_each}
use Rattle.fmp_kernel.proofs.Comings.{body-step, bound-step, system-step, taken-step}
use Rattle.fmp_kernel.specs.KernelViews.{KernelView, view_after}
use Rattle.fmp_trials.specs.Verdicts.{IsBeside}

module _ {B C : Type 0} where
  pub beside_itself : (k : KernelView B C) → IsBeside k k
  beside_itself k = record { body = refl; bound = refl; system = refl }

  pub beside_both : (a b c : KernelView B C) → IsBeside a b → IsBeside b c → IsBeside a c
  beside_both a b c first second =
      record {
        body = second.body ∙ first.body;
        bound = second.bound ∙ first.bound;
        system = second.system ∙ first.system;
      }

  pub beside_back : (a b : KernelView B C) → IsBeside a b → IsBeside b a
  beside_back a b h = record { body = sym h.body; bound = sym h.bound; system = sym h.system }

  pub beside_after : (k k' : KernelView B C) (o : Reaction C) → k' ≡ view_after k o → IsBeside k k'
  beside_after k k' o h =
      record { body = body-step k k' o h; bound = bound-step k k' o h; system = system-step k k' o h }

  pub beside_same : (a b c : KernelView B C) → IsBeside a b → c ≡ b → IsBeside a c
  beside_same a b c h e = subst (λ (v : KernelView B C). IsBeside a v) (sym e) h

  pub taken_after : (k k' : KernelView B C) (o : Reaction C) → k' ≡ view_after k o → k'.taken ≤ k.taken + 1
  taken_after k k' o h = taken-step k k' o h

pub beside_each : {B C X : Type 0} (reaction : KernelView B C → X → Reaction C) (k : KernelView B C) (xs : List X)
    → IsBeside k (view_after_each reaction k xs)
beside_each reaction k [] = beside_itself k
beside_each reaction k (x ∷ xs) =
    let next = view_after k (reaction k x) in
    beside_both k next (view_after_each reaction next xs) (beside_after k next (reaction k x) refl)
    (beside_each reaction next xs)

module _ {B C : Type 0} where
  -- room on a kernel that was put back
  pub put_room : (k start : KernelView B C) (n : ℕ) → k ≡ start → start.taken ≡ 0 → n ≤ 2 ^ 31 → k.taken + n ≤ 2 ^ 31
  put_room k start n same fresh few =
      subst (λ (v : KernelView B C). v.taken + n ≤ 2 ^ 31) (sym same) (omega (arith, fresh, few))

  pub put_fresh : (k start : KernelView B C) → k ≡ start → start.taken ≡ 0 → k.taken ≡ 0
  put_fresh k start same fresh = ap (λ (v : KernelView B C). v.taken) same ∙ fresh

  pub put_beside : (k start after : KernelView B C) → k ≡ start → IsBeside k after → IsBeside start after
  put_beside k start after same h = subst (λ (v : KernelView B C). IsBeside v after) same h
