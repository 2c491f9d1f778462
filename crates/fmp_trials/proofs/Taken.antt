-- A kernel that takes events, and one more.
use Rattle.std.proofs.Common.{◌≡◌, ◌∙◌, List, [], ◌∷◌, ◌++◌, ap, refl, subst}
use Rattle.fmp_base.specs.declared.events.Effect.TheVariants as effect
use Rattle.fmp_base.specs.declared.events.Event.{Event}
use Rattle.fmp_base.specs.Meanings.{Meaning, World}
use Rattle.fmp_base.specs.Runs.{taken_events, taken_on}
use Rattle.fmp_base.specs.Steps.{Reaction, Nothing, Did, Kept, IsTaken, effect_of}
use Rattle.fmp_kernel.specs.Comings.{reaction_of, view_after_each}
use Rattle.fmp_kernel.specs.KernelViews.{KernelView, view_after}
use Rattle.fmp_trials.specs.Taking.{TakesAll}

module _ {C : Type 0} where
  -- what an effect tells of what an event does
  pub taken_done : (o : Reaction C) → effect.Done ≡ effect_of o → IsTaken o
  taken_done Nothing h = absurd (cc)
  taken_done (Did d) h = tt
  taken_done (Kept p w) h = tt

  pub taken_kept : (o : Reaction C) → effect.Kept ≡ effect_of o → IsTaken o
  taken_kept Nothing h = absurd (cc)
  taken_kept (Did d) h = tt
  taken_kept (Kept p w) h = tt

module _ {B C : Type 0} (meaning : B → Meaning C) where
  abbrev taken_of : KernelView B C → List Event → List Event
  taken_of k es = taken_events k.system (meaning k.body) k.bound k.world es

  abbrev after_all : KernelView B C → List Event → KernelView B C
  after_all = view_after_each (reaction_of meaning)

  one_taken : (k : KernelView B C) (e : Event) (r : Reaction C) → IsTaken r
      → taken_on k.world e r (λ (w : World C). taken_events k.system (meaning k.body) k.bound w []) ≡ e ∷ []
  one_taken k e Nothing t = absurd t
  one_taken k e (Did d) t = refl
  one_taken k e (Kept p w) t = refl

  taken_more : (k : KernelView B C) (es : List Event) (e : Event)
      → taken_of k (es ++ e ∷ []) ≡ taken_of k es ++ taken_of (after_all k es) (e ∷ [])
  taken_more k [] e = refl
  taken_more k (x ∷ es) e = by_reaction (reaction_of meaning k x) (λ v. taken_more v es e) where
    by_reaction : (r : Reaction C)
        → ((v : KernelView B C)
        → taken_of v (es ++ e ∷ []) ≡ taken_of v es ++ taken_of (after_all v es) (e ∷ []))
        → taken_on k.world x r
        (λ (w : World C). taken_events k.system (meaning k.body) k.bound w (es ++ e ∷ []))
        ≡ taken_on k.world x r (λ (w : World C). taken_events k.system (meaning k.body) k.bound w es)
        ++ taken_of (after_all (view_after k r) es) (e ∷ [])
    by_reaction Nothing h = h k
    by_reaction (Did d) h = ap (λ (xs : List Event). x ∷ xs) (h (view_after k (Did d)))
    by_reaction (Kept p w) h = ap (λ (xs : List Event). x ∷ xs) (h (view_after k (Kept p w)))

  -- one event more is taken
  pub all_more : (start k : KernelView B C) (es : List Event) (e : Event)
      → k ≡ view_after_each (reaction_of meaning) start es → TakesAll meaning start es
      → IsTaken (reaction_of meaning k e) → TakesAll meaning start (es ++ e ∷ [])
  all_more start k es e along all taken =
      let last : KernelView B C = after_all start es in
      let there : IsTaken (reaction_of meaning last e) =
      subst (λ (v : KernelView B C). IsTaken (reaction_of meaning v e)) along taken in
      taken_more start es e ∙ ap (λ (xs : List Event). xs ++ taken_of last (e ∷ [])) all
      ∙ ap (λ (xs : List Event). es ++ xs) (one_taken last e (reaction_of meaning last e) there)
