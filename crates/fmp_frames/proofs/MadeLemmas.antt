-- One event of a run, between the calls that are placed and those still to come.
use Rattle.std.proofs.Common.{◌≡◌, refl, ℕ, Option, ◌+◌, ◌<◌, List, [], ◌∷◌, ◌++◌, sym, ap, ◌∙◌, append_assoc, get_or}
use Rattle.std.proofs.Common.{add-one, drop, length}
use Rattle.std.proofs.Math.Seq.{drop-cons}
use Rattle.fmp_base.specs.declared.events.Effect.TheVariants as effect
use Rattle.fmp_base.specs.declared.events.Event.{Event}
use Rattle.fmp_base.specs.Meanings.{Meaning}
use Rattle.fmp_base.specs.Steps.{Reaction, Nothing, Did, Kept, effect_of}
use Rattle.fmp_kernel.specs.Comings.{reaction_of}
use Rattle.fmp_instructions.specs.declared.instructions.MachineContext.{MachineContext}
use Rattle.fmp_instructions.specs.Instructions.{BodyTables}
use Rattle.fmp_kernel.specs.KernelViews.{KernelView, view_after}
use Rattle.fmp_frames.specs.declared.call_positions.CallPosition.{CallPosition}
use Rattle.fmp_frames.specs.Made.{event_position, in_front, positions_made}

-- a list of events from the place of this one on
cut : (es : List Event) (i : ℕ) (e d : Event) → i < length es → e ≡ get_or es i d → drop i es ≡ e ∷ drop (i + 1) es
cut es i e d h is = rw add-one (drop-cons es i d h) ∙ ap (λ y. y ∷ drop (i + 1) es) (sym is)

module _ {B : Type 0} (meaning : B → Meaning MachineContext) (code : List BodyTables)
    (bodies : List (List CallPosition)) where
  abbrev positions_of : KernelView B MachineContext → List Event → List (Option CallPosition)
  positions_of k es = positions_made meaning code bodies k es

  done_here : (x : Option CallPosition) (rest : List (Option CallPosition)) (o : Reaction MachineContext) → effect.Done
      ≡ effect_of o → in_front meaning code bodies x o rest ≡ x ∷ rest
  done_here x rest Nothing h = absurd (cc)
  done_here x rest (Did d) h = refl
  done_here x rest (Kept p v) h = absurd (cc)

  kept_here : (x : Option CallPosition) (rest : List (Option CallPosition)) (o : Reaction MachineContext) → effect.Kept
      ≡ effect_of o → in_front meaning code bodies x o rest ≡ rest
  kept_here x rest Nothing h = absurd (cc)
  kept_here x rest (Did d) h = absurd (cc)
  kept_here x rest (Kept p v) h = refl

  nothing_here : (x : Option CallPosition) (rest : List (Option CallPosition)) (o : Reaction MachineContext)
      → effect.Nothing
      ≡ effect_of o → in_front meaning code bodies x o rest ≡ rest
  nothing_here x rest Nothing h = refl
  nothing_here x rest (Did d) h = absurd (cc)
  nothing_here x rest (Kept p v) h = absurd (cc)

  here : (k k' : KernelView B MachineContext) (es : List Event) (i : ℕ) (e d : Event) → i < length es
      → e ≡ get_or es i d
      → k' ≡ view_after k (reaction_of meaning k e)
      → positions_of k (drop i es)
      ≡ in_front meaning code bodies (event_position meaning code bodies k e) (reaction_of meaning k e)
      (positions_of k' (drop (i + 1) es))
  here k k' es i e d lt is h =
      ap (λ (ys : List Event). positions_of k ys) (cut es i e d lt is)
      ∙ ap
      (λ (v : KernelView B MachineContext).
      in_front meaning code bodies (event_position meaning code bodies k e) (reaction_of meaning k e)
      (positions_of v (drop (i + 1) es)))
      (sym h)

  -- one that is done
  pub made-done : (k k' : KernelView B MachineContext) (es : List Event) (i : ℕ) (e d : Event)
      (made more total : List (Option CallPosition))
      → i < length es → e ≡ get_or es i d → effect.Done ≡ effect_of (reaction_of meaning k e)
      → k' ≡ view_after k (reaction_of meaning k e)
      → more ≡ made ++ event_position meaning code bodies k e ∷ [] → made ++ positions_of k (drop i es) ≡ total
      → more ++ positions_of k' (drop (i + 1) es) ≡ total
  made-done k k' es i e d made more total lt is did h m so_far =
      let x : Option CallPosition = event_position meaning code bodies k e in
      let rest : List (Option CallPosition) = positions_of k' (drop (i + 1) es) in
      ap (λ (q : List (Option CallPosition)). q ++ rest) m
      ∙ append_assoc made (x ∷ []) rest
      ∙ ap (λ (q : List (Option CallPosition)). made ++ q)
      (sym (here k k' es i e d lt is h ∙ done_here x rest (reaction_of meaning k e) did))
      ∙ so_far

  -- one that kept a place
  pub made-kept : (k k' : KernelView B MachineContext) (es : List Event) (i : ℕ) (e d : Event)
      (made total : List (Option CallPosition))
      → i < length es → e ≡ get_or es i d → effect.Kept ≡ effect_of (reaction_of meaning k e)
      → k' ≡ view_after k (reaction_of meaning k e)
      → made ++ positions_of k (drop i es) ≡ total → made ++ positions_of k' (drop (i + 1) es) ≡ total
  made-kept k k' es i e d made total lt is did h so_far =
      let rest : List (Option CallPosition) = positions_of k' (drop (i + 1) es) in
      ap (λ (q : List (Option CallPosition)). made ++ q)
      (sym (here k k' es i e d lt is h
      ∙ kept_here (event_position meaning code bodies k e) rest (reaction_of meaning k e) did))
      ∙ so_far

  -- one that did nothing
  pub made-nothing : (k k' : KernelView B MachineContext) (es : List Event) (i : ℕ) (e d : Event)
      (made total : List (Option CallPosition))
      → i < length es → e ≡ get_or es i d → effect.Nothing ≡ effect_of (reaction_of meaning k e)
      → k' ≡ view_after k (reaction_of meaning k e)
      → made ++ positions_of k (drop i es) ≡ total → made ++ positions_of k' (drop (i + 1) es) ≡ total
  made-nothing k k' es i e d made total lt is did h so_far =
      let rest : List (Option CallPosition) = positions_of k' (drop (i + 1) es) in
      ap (λ (q : List (Option CallPosition)). made ++ q)
      (sym (here k k' es i e d lt is h
      ∙ nothing_here (event_position meaning code bodies k e) rest (reaction_of meaning k e) did))
      ∙ so_far
