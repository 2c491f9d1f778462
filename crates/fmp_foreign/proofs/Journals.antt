-- A journal that the text has followed up to a place.
use Rattle.std.proofs.Common.{◌≡◌, ◌≢◌, ◌≤◌, ◌+◌, ◌^◌, ℕ, zero, suc, List, [], ◌∷◌, ◌++◌, Some, length, take, add-one}
use Rattle.std.proofs.Common.{refl, ap, subst, sym, ◌∙◌}
use Rattle.std.specs.Prelude.{slice_get}
use Rattle.std.proofs.Math.Seq.{take-length}
use Rattle.fmp_base.specs.Meanings.{Meaning}
use Rattle.fmp_kernel.specs.KernelViews.{KernelView}
use Rattle.fmp_outside.specs.declared.given.Given.{Given}
use Rattle.fmp_foreign.specs.declared.shadow.BodyVerdict.{BodyVerdict}
use Rattle.fmp_foreign.specs.declared.shadow.BodyVerdict.TheVariants as verdict
use Rattle.fmp_foreign.specs.Following.{Departs, DoesOtherwise, HasFollowed}
use Rattle.fmp_foreign.proofs.Following.{and_then}

next_more : (gs : List Given) (i : ℕ) (g : Given) → slice_get gs i ≡ Some g → take (suc i) gs ≡ take i gs ++ g ∷ []
next_more [] i g e = cc
next_more (h ∷ gs) zero g e = let q : h ≡ g = cc in ap (λ (x : Given). x ∷ []) q
next_more (h ∷ gs) (suc i) g e = ap (λ (xs : List Given). h ∷ xs) (next_more gs i g e)

one_more : (gs : List Given) (i : ℕ) (g : Given) → slice_get gs i ≡ Some g → take (i + 1) gs ≡ take i gs ++ g ∷ []
one_more gs i g e = ap (λ (n : ℕ). take n gs) (add-one i) ∙ next_more gs i g e

and_none : (gs : List Given) → gs ++ [] ≡ gs
and_none [] = refl
and_none (g ∷ gs) = ap (λ (xs : List Given). g ∷ xs) (and_none gs)

module _ {B C : Type 0} (meaning : B → Meaning C) (old mid new : KernelView B C) (gs : List Given) where
  pub further : (i : ℕ) (g : Given) → slice_get gs i ≡ Some g → HasFollowed meaning old (take i gs) mid
      → HasFollowed meaning mid (g ∷ []) new → HasFollowed meaning old (take (i + 1) gs) new
  further i g e a b =
      subst (λ (xs : List Given). HasFollowed meaning old xs new) (sym (one_more gs i g e))
      (and_then meaning old mid new (take i gs) (g ∷ []) a b)

  pub all_followed : HasFollowed meaning old (take (length gs) gs) mid → HasFollowed meaning old gs mid
  all_followed h = subst (λ (xs : List Given). HasFollowed meaning old xs mid) (take-length gs) h

  pub departs : (at : ℕ) (why : BodyVerdict) (g : Given) → slice_get gs at ≡ Some g
      → HasFollowed meaning old (take at gs) mid
      → HasFollowed meaning mid [] new → why ≢ verdict.Follows → (why ≡ verdict.Differs → DoesOtherwise meaning new g)
      → (turns : ℕ) → (why ≡ verdict.Long → new.taken ≡ mid.taken + turns) → (why ≡ verdict.Full → 2 ^ 31 ≤ new.taken)
      → Departs meaning old gs new turns (record { at = at; why = why })
  departs at why g e a b n d turns l f =
      record {
        next = g;
        there = e;
        before = subst (λ (xs : List Given). HasFollowed meaning old xs new) (and_none (take at gs))
            (and_then meaning old mid new (take at gs) [] a b);
        not_followed = n;
        differs = d;
        long = λ h. record { first = mid; followed = a; within = b; turns = l h };
        full = f;
      }
