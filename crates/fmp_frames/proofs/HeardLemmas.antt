-- One event of a run, between the answers that are known and those still to come.
use Rattle.std.proofs.Common.{◌≡◌, refl, ℕ, Option, ◌+◌, ◌<◌, List, ◌∷◌, sym, ap, ◌∙◌, get_or}
use Rattle.std.proofs.Common.{add-one, drop, length}
use Rattle.std.proofs.Math.Seq.{drop-cons}
use Rattle.fmp_base.specs.declared.events.Effect.TheVariants as effect
use Rattle.fmp_base.specs.declared.events.Event.{Event}
use Rattle.fmp_base.specs.declared.events.Line.{Line}
use Rattle.fmp_base.specs.Meanings.{Meaning}
use Rattle.fmp_base.specs.Steps.{Reaction, Nothing, Did, Kept, effect_of}
use Rattle.fmp_kernel.specs.Comings.{reaction_of}
use Rattle.fmp_instructions.specs.declared.instructions.MachineContext.{MachineContext}
use Rattle.fmp_kernel.specs.KernelViews.{KernelView, view_after}
use Rattle.fmp_frames.specs.declared.sites.CallSite.{CallSite}
use Rattle.fmp_frames.specs.Answers.{Heard, heard_in, heard_lines, heard_reaction}
use Rattle.fmp_frames.specs.Made.{event_site}

-- a list of events from the place of this one on
cut : (es : List Event) (i : ℕ) (e d : Event) → i < length es → e ≡ get_or es i d → drop i es ≡ e ∷ drop (i + 1) es
cut es i e d h is = rw add-one (drop-cons es i d h) ∙ ap (λ y. y ∷ drop (i + 1) es) (sym is)

module _ {B : Type 0} where
  done_lines : (h : Heard) (s : Option CallSite) (k : KernelView B MachineContext) (o : Reaction MachineContext)
      → effect.Done ≡ effect_of o → heard_reaction h s o ≡ heard_lines h s (view_after k o).lines
  done_lines h s k Nothing is = absurd (cc)
  done_lines h s k (Did d) is = refl
  done_lines h s k (Kept p v) is = absurd (cc)

  -- one that is done: its lines stand in the kernel
  pub heard-done : (h h' : Heard) (s s' : Option CallSite) (ls : List Line) (k k' : KernelView B MachineContext)
      (o : Reaction MachineContext) → effect.Done ≡ effect_of o → k' ≡ view_after k o → ls ≡ k'.lines → s' ≡ s
      → h' ≡ heard_lines h s' ls → h' ≡ heard_reaction h s o
  heard-done h h' s s' ls k k' o is after told same one =
      one
      ∙ ap (λ (x : Option CallSite). heard_lines h x ls) same
      ∙ ap (λ (ys : List Line). heard_lines h s ys) told
      ∙ ap (λ (v : KernelView B MachineContext). heard_lines h s v.lines) after
      ∙ sym (done_lines h s k o is)

-- one that kept a place
pub heard-kept : (h : Heard) (s : Option CallSite) (o : Reaction MachineContext) → effect.Kept ≡ effect_of o
    → h ≡ heard_reaction h s o
heard-kept h s Nothing is = absurd (cc)
heard-kept h s (Did d) is = absurd (cc)
heard-kept h s (Kept p v) is = refl

-- one that did nothing
pub heard-nothing : (h : Heard) (s : Option CallSite) (o : Reaction MachineContext) → effect.Nothing ≡ effect_of o
    → h ≡ heard_reaction h s o
heard-nothing h s Nothing is = refl
heard-nothing h s (Did d) is = absurd (cc)
heard-nothing h s (Kept p v) is = absurd (cc)

-- what is known at the end, from after this event on
pub heard-step : {B : Type 0} (meaning : B → Meaning MachineContext) (k k' : KernelView B MachineContext)
    (es : List Event) (i : ℕ) (e d : Event) (h h' end : Heard)
    → i < length es → e ≡ get_or es i d → k' ≡ view_after k (reaction_of meaning k e)
    → h' ≡ heard_reaction h (event_site meaning k e) (reaction_of meaning k e)
    → heard_in meaning k (drop i es) h ≡ end → heard_in meaning k' (drop (i + 1) es) h' ≡ end
heard-step {B} meaning k k' es i e d h h' end lt is after one so_far =
    let rest : List Event = drop (i + 1) es in
    ap (λ (v : KernelView B MachineContext). heard_in meaning v rest h') after
    ∙ ap (λ (x : Heard). heard_in meaning (view_after k (reaction_of meaning k e)) rest x) one
    ∙ sym (ap (λ (ys : List Event). heard_in meaning k ys h) (cut es i e d lt is))
    ∙ so_far
