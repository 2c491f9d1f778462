-- What a run breaks, one after the other that comes.
use Rattle.std.proofs.Common.{◌≡◌, ◌∙◌, ℕ, ◌+◌, ◌<◌, List, [], ◌∷◌, Option, Some, None, length, drop, get_or, refl}
use Rattle.std.proofs.Common.{ap, sym}
use Rattle.std.specs.Prelude.{option_map}
use Rattle.fmp_base.specs.declared.events.Effect.TheVariants as effect
use Rattle.fmp_base.specs.declared.events.Line.{Line}
use Rattle.fmp_base.specs.Steps.{Reaction, Nothing, Did, Kept, effect_of}
use Rattle.fmp_kernel.specs.KernelViews.{KernelView, view_after}
use Rattle.fmp_kernel.proofs.Comings.{cut}
use Rattle.fmp_expect.specs.declared.checker.BrokenExpectation.{BrokenExpectation}
use Rattle.fmp_expect.specs.Judges.{broken_after, broken_along, broken_here, first_by}
use Rattle.fmp_expect.specs.Parts.{or_else}

or_assoc : {A : Type 0} (a b c : Option A) → or_else (or_else a b) c ≡ or_else a (or_else b c)
or_assoc None b c = refl
or_assoc (Some x) b c = refl

pub or_none : {A : Type 0} (a : Option A) → or_else a None ≡ a
or_none None = refl
or_none (Some x) = refl

module _ {B C : Type 0} (breaks : KernelView B C → Line → Option ℕ) where
  -- what an event breaks that was done, and what one that was not
  pub here_done : (k : KernelView B C) (o : Reaction C) → effect.Done ≡ effect_of o
      → broken_here breaks (view_after k o) ≡ broken_after breaks k o
  here_done k Nothing h = absurd (cc)
  here_done k (Did d) h = refl
  here_done k (Kept p w) h = absurd (cc)

  pub none_kept : (k : KernelView B C) (o : Reaction C) → effect.Kept ≡ effect_of o → None ≡ broken_after breaks k o
  none_kept k Nothing h = absurd (cc)
  none_kept k (Did d) h = absurd (cc)
  none_kept k (Kept p w) h = refl

  pub none_undone : (k : KernelView B C) (o : Reaction C) → effect.Nothing ≡ effect_of o
      → None ≡ broken_after breaks k o
  none_undone k Nothing h = refl
  none_undone k (Did d) h = absurd (cc)
  none_undone k (Kept p w) h = absurd (cc)

  -- the one at a place
  pub broken_step : {X : Type 0} (reaction : KernelView B C → X → Reaction C) (k k' : KernelView B C) (xs : List X)
      (i : ℕ) (x : X) (before now all : Option BrokenExpectation) → i < length xs → x ≡ get_or xs i x
      → k' ≡ view_after k (reaction k x) → now ≡ broken_after breaks k (reaction k x)
      → or_else before (broken_along breaks reaction k (drop i xs)) ≡ all
      → or_else (or_else before now) (broken_along breaks reaction k' (drop (i + 1) xs)) ≡ all
  broken_step {X} reaction k k' xs i x before now all h is e breaks_now so_far =
      let rest : List X = drop (i + 1) xs in
      or_assoc before now (broken_along breaks reaction k' rest)
      ∙ ap (λ (o : Option BrokenExpectation). or_else before (or_else o (broken_along breaks reaction k' rest)))
      breaks_now
      ∙ ap
      (λ (v : KernelView B C). or_else before
      (or_else (broken_after breaks k (reaction k x)) (broken_along breaks reaction v rest))) e
      ∙ ap (λ (ys : List X). or_else before (broken_along breaks reaction k ys)) (sym (cut xs i x h is)) ∙ so_far

  -- where no line breaks anything
  module _ (idle : (k : KernelView B C) → (l : Line) → breaks k l ≡ None) where
    idle_first : (k : KernelView B C) (ls : List Line) → first_by (breaks k) ls ≡ None
    idle_first k [] = refl
    idle_first k (l ∷ ls) = ap (λ (o : Option ℕ). or_else o (first_by (breaks k) ls)) (idle k l) ∙ idle_first k ls

    idle_after : (k : KernelView B C) (o : Reaction C) → broken_after breaks k o ≡ None
    idle_after k Nothing = refl
    idle_after k (Did d) =
        let after : KernelView B C = view_after k (Did d) in
        ap (λ (o : Option ℕ). option_map (λ n. record { line = n; event = after.done }) o)
        (idle_first after after.lines)
    idle_after k (Kept p w) = refl

    pub idle_along : {X : Type 0} (reaction : KernelView B C → X → Reaction C) (k : KernelView B C) (xs : List X)
        → broken_along breaks reaction k xs ≡ None
    idle_along reaction k [] = refl
    idle_along reaction k (x ∷ xs) =
        ap
        (λ (o : Option BrokenExpectation). or_else o (broken_along breaks reaction (view_after k (reaction k x)) xs))
        (idle_after k (reaction k x))
        ∙ idle_along reaction (view_after k (reaction k x)) xs
