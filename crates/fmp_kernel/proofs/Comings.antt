-- One more that comes to a kernel, between those that came and those that are left.
use Rattle.std.proofs.Common.{◌≡◌, ◌∙◌, ℕ, ◌+◌, ◌<◌, ◌≤◌, List, [], ◌∷◌, length, drop, get_or, add-one, refl, ap, sym}
use Rattle.std.proofs.Common.{subst, arith}
use Rattle.std.proofs.Math.Seq.{drop-cons}
use Rattle.fmp_base.specs.declared.events.Event.{Event}
use Rattle.fmp_base.specs.Meanings.{Meaning}
use Rattle.fmp_base.specs.Steps.{Reaction, Nothing, Did, Kept}
use Rattle.fmp_kernel.specs.Comings.{reaction_of, view_after_each}
use Rattle.fmp_kernel.specs.KernelViews.{KernelView, view_after, view_after_all}

-- a list from the place of this item on
pub cut : {X : Type 0} (xs : List X) (i : ℕ) (x : X) → i < length xs → x ≡ get_or xs i x → drop i xs ≡ x
    ∷ drop (i + 1) xs
cut xs i x h is = rw add-one (drop-cons xs i x h) ∙ ap (λ y. y ∷ drop (i + 1) xs) (sym is)

module _ {B C : Type 0} where
  system_here : (k : KernelView B C) (o : Reaction C) → (view_after k o).system ≡ k.system
  system_here k Nothing = refl
  system_here k (Did d) = refl
  system_here k (Kept p v) = refl

  body_here : (k : KernelView B C) (o : Reaction C) → (view_after k o).body ≡ k.body
  body_here k Nothing = refl
  body_here k (Did d) = refl
  body_here k (Kept p v) = refl

  bound_here : (k : KernelView B C) (o : Reaction C) → (view_after k o).bound ≡ k.bound
  bound_here k Nothing = refl
  bound_here k (Did d) = refl
  bound_here k (Kept p v) = refl

  one_more : (k : KernelView B C) (o : Reaction C) → (view_after k o).taken ≤ k.taken + 1
  one_more k Nothing = omega arith
  one_more k (Did d) = omega arith
  one_more k (Kept p v) = omega arith

  pub system-step : (k k' : KernelView B C) (o : Reaction C) → k' ≡ view_after k o → k'.system ≡ k.system
  system-step k k' o h = ap (λ (v : KernelView B C). v.system) h ∙ system_here k o

  pub body-step : (k k' : KernelView B C) (o : Reaction C) → k' ≡ view_after k o → k'.body ≡ k.body
  body-step k k' o h = ap (λ (v : KernelView B C). v.body) h ∙ body_here k o

  pub bound-step : (k k' : KernelView B C) (o : Reaction C) → k' ≡ view_after k o → k'.bound ≡ k.bound
  bound-step k k' o h = ap (λ (v : KernelView B C). v.bound) h ∙ bound_here k o

  pub taken-step : (k k' : KernelView B C) (o : Reaction C) → k' ≡ view_after k o → k'.taken ≤ k.taken + 1
  taken-step k k' o h = subst (λ (v : KernelView B C). v.taken ≤ k.taken + 1) (sym h) (one_more k o)

-- what stands at the end, one more on
pub after-step : {B C X : Type 0} (reaction : KernelView B C → X → Reaction C) (k k' end : KernelView B C)
    (xs : List X) (i : ℕ) (x : X)
    → i < length xs → x ≡ get_or xs i x → k' ≡ view_after k (reaction k x) → view_after_each reaction k (drop i xs)
    ≡ end
    → view_after_each reaction k' (drop (i + 1) xs) ≡ end
after-step {B} {C} {X} reaction k k' end xs i x lt is h so_far =
    ap (λ (v : KernelView B C). view_after_each reaction v (drop (i + 1) xs)) h
    ∙ sym (ap (λ (ys : List X). view_after_each reaction k ys) (cut xs i x lt is)) ∙ so_far

-- events come as steps
pub steps_here : {B C : Type 0} (meaning : B → Meaning C) (k : KernelView B C) (es : List Event)
    → view_after_each (reaction_of meaning) k es ≡ view_after_all meaning k es
steps_here meaning k [] = refl
steps_here meaning k (e ∷ es) = steps_here meaning (view_after k (reaction_of meaning k e)) es
