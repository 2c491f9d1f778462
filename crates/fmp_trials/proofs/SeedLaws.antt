-- Choices make one random run.
use Rattle.std.proofs.Common.{◌≡◌, ◌∙◌, ℕ, ◌<◌, ◌≤◌, ◌^◌, List, [], ◌∷◌, None, ap, arith, inl, inr}
use Rattle.std.proofs.Common.{length, min, refl, subst, sym, take}
use Rattle.std.proofs.lemmas.Bool.{cases_order}
use Rattle.fmp_base.specs.declared.events.Event.{Event}
use Rattle.fmp_base.specs.Meanings.{Meaning}
use Rattle.fmp_expect.specs.declared.expectation.Expected.{Expected}
use Rattle.fmp_kernel.specs.Comings.{reaction_of}
use Rattle.fmp_kernel.specs.KernelViews.{KernelView, view_after}
use Rattle.fmp_trials.specs.declared.choices.Choices.{Choices}
use Rattle.fmp_trials.specs.Choices.{AreDrawn, next_of}
use Rattle.fmp_trials.specs.Drawn.{IsRandomRun, broken_so_far}

module _ {B C : Type 0} (meaning : B → Meaning C) where
  -- of two lists of events that come next, the one that is not longer begins the other
  begins : (k : KernelView B C) (c : Choices) (es fs : List Event) → AreDrawn meaning k c es → AreDrawn meaning k c fs
      → length es ≤ length fs → es ≡ take (length es) fs
  begins k c [] fs a b few = refl
  begins k c (e ∷ es) [] a b few = absurd (omega (arith, few))
  begins k c (e ∷ es) (f ∷ fs) a b few =
      let same : e ≡ f = a.0 ∙ sym b.0 in
      let there : AreDrawn meaning (view_after k (reaction_of meaning k e)) (next_of meaning k c).1 fs =
      subst (λ (x : Event). AreDrawn meaning (view_after k (reaction_of meaning k x)) (next_of meaning k c).1 fs)
      (sym same) b.1 in
      ap (λ (x : Event). x ∷ es) same
      ∙ ap (λ (xs : List Event). f ∷ xs)
      (begins (view_after k (reaction_of meaning k e)) (next_of meaning k c).1 es fs a.1 there (omega (arith, few)))

  all_of : (es : List Event) → take (length es) es ≡ es
  all_of [] = refl
  all_of (e ∷ es) = ap (λ (xs : List Event). e ∷ xs) (all_of es)

  module _ (start : KernelView B C) (xs : List Expected) (c : Choices) where
    -- the shorter of two runs is not shorter
    not_shorter : (es fs : List Event) → IsRandomRun meaning start xs c es → IsRandomRun meaning start xs c fs
        → length es < length fs → ⊥
    not_shorter es fs a b shorter =
        let there : es ≡ take (length es) fs = begins start c es fs a.drawn b.drawn (omega (arith, shorter)) in
        let quiet : broken_so_far meaning start xs es ≡ None =
        ap (λ (ys : List Event). broken_so_far meaning start xs ys) there ∙ b.unbroken (length es) shorter in
        let whole : length es ≡ min c.plan.events (2 ^ 20) = a.whole quiet in
        let few : length fs ≤ min c.plan.events (2 ^ 20) = b.few in
        omega (arith, whole, few, shorter)

    pub one_run : (es fs : List Event) → IsRandomRun meaning start xs c es → IsRandomRun meaning start xs c fs → es ≡ fs
    one_run es fs a b = elim (cases_order (length es) (length fs)) [
      | inl same ↦ begins start c es fs a.drawn b.drawn (omega (arith, same))
          ∙ ap (λ (n : ℕ). take n fs) same ∙ all_of fs
      | inr o ↦ elim o [
        | inl below ↦ absurd (not_shorter es fs a b below)
        | inr above ↦ absurd (not_shorter fs es b a above)
      ]
    ]
