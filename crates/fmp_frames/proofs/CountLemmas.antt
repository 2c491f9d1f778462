-- One more that comes to a kernel on the way up to an event.
use Rattle.std.proofs.Common.{◌≡◌, ◌∙◌, ℕ, ◌+◌, ◌<◌, List, [], ◌∷◌, ◌++◌, ap, length, refl, subst, sym, take, get_or}
use Rattle.std.proofs.lemmas.List.{take_more}
use Rattle.fmp_base.specs.Steps.{Reaction}
use Rattle.fmp_kernel.specs.Comings.{view_after_each}
use Rattle.fmp_kernel.specs.KernelViews.{KernelView, view_after}
use Rattle.fmp_frames.specs.Watches.{after_first}

module _ {B C X : Type 0} (reaction : KernelView B C → X → Reaction C) where
  -- the last of several comes after the others
  view_last : (k : KernelView B C) (xs : List X) (x : X)
      → view_after_each reaction k (xs ++ x ∷ [])
      ≡ view_after (view_after_each reaction k xs) (reaction (view_after_each reaction k xs) x)
  view_last k [] x = refl
  view_last k (y ∷ xs) x = view_last (view_after k (reaction k y)) xs x

  pub first-more : (k k1 k2 : KernelView B C) (xs : List X) (i : ℕ) (x : X)
      → i < length xs → x ≡ get_or xs i x → k1 ≡ after_first reaction k xs i
      → k2 ≡ view_after k1 (reaction k1 x) → k2 ≡ after_first reaction k xs (i + 1)
  first-more k k1 k2 xs i x lt is here step =
      step ∙ ap (λ (v : KernelView B C). view_after v (reaction v x)) here
      ∙ sym (view_last k (take i xs) x)
      ∙ ap (λ (y : X). view_after_each reaction k (take i xs ++ y ∷ [])) is
      ∙ ap (λ (ys : List X). view_after_each reaction k ys) (sym (take_more xs i x lt))

  -- what a kernel has done is what is done after these
  pub done-here : (k now : KernelView B C) (xs : List X) (i n done : ℕ)
      → now ≡ after_first reaction k xs i → done ≡ now.done → done < n → (after_first reaction k xs i).done < n
  done-here k now xs i n done here same lt =
      subst (λ (v : KernelView B C). v.done < n) here (subst (λ (d : ℕ). d < n) same lt)
