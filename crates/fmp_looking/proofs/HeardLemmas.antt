-- One event of a run, between the calls that are known and those still to come.
use Rattle.std.proofs.Common.{◌≡◌, ℕ, Option, ◌+◌, ◌<◌, List, ◌∷◌, sym, ap, ◌∙◌, get_or}
use Rattle.std.proofs.Common.{add-one, drop, length}
use Rattle.std.proofs.Math.Seq.{drop-cons}
use Rattle.fmp_base.specs.declared.events.Effect.{Effect}
use Rattle.fmp_base.specs.declared.events.Event.{Event}
use Rattle.fmp_base.specs.declared.events.Line.{Line}
use Rattle.fmp_base.specs.Meanings.{Meaning}
use Rattle.fmp_base.specs.Steps.{effect_of}
use Rattle.fmp_kernel.specs.Comings.{reaction_of}
use Rattle.fmp_kernel.specs.KernelViews.{KernelView, view_after}
use Rattle.fmp_instructions.specs.declared.instructions.MachineContext.{MachineContext}
use Rattle.fmp_instructions.specs.Instructions.{BodyTables}
use Rattle.fmp_frames.specs.declared.call_positions.CallPosition.{CallPosition}
use Rattle.fmp_frames.specs.Made.{event_position}
use Rattle.fmp_looking.specs.Observed.{Heard, heard_event, heard_in}

-- a list of events from the place of this one on
cut : (es : List Event) (i : ℕ) (e d : Event) → i < length es → e ≡ get_or es i d → drop i es ≡ e ∷ drop (i + 1) es
cut es i e d h is = rw add-one (drop-cons es i d h) ∙ ap (λ y. y ∷ drop (i + 1) es) (sym is)

-- what is known at the end, from the event after this one on
pub heard-step : {B : Type 0} (meaning : B → Meaning MachineContext) (code : List BodyTables)
    (bodies : List (List CallPosition)) (k k' : KernelView B MachineContext)
    (es : List Event) (i : ℕ) (e d : Event) (does : Effect) (position : Option CallPosition) (ls : List Line)
    (h h' end : Heard)
    → i < length es → e ≡ get_or es i d → k' ≡ view_after k (reaction_of meaning k e)
    → does ≡ effect_of (reaction_of meaning k e) → position ≡ event_position meaning code bodies k e → ls ≡ k'.lines
    → h' ≡ heard_event h position does ls
    → heard_in meaning code bodies k (drop i es) h ≡ end
    → heard_in meaning code bodies k' (drop (i + 1) es) h' ≡ end
heard-step {B} meaning code bodies k k' es i e d does position ls h h' end lt is after did same told one so_far =
    let rest : List Event = drop (i + 1) es in
    let next : KernelView B MachineContext = view_after k (reaction_of meaning k e) in
    ap (λ (v : KernelView B MachineContext). heard_in meaning code bodies v rest h') after
    ∙ ap (λ (x : Heard). heard_in meaning code bodies next rest x)
    (one
    ∙ ap (λ (x : Option CallPosition). heard_event h x does ls) same
    ∙ ap (λ (x : Effect). heard_event h (event_position meaning code bodies k e) x ls) did
    ∙ ap
    (λ (x : List Line). heard_event h (event_position meaning code bodies k e) (effect_of (reaction_of meaning k e)) x)
    (told ∙ ap (λ (v : KernelView B MachineContext). v.lines) after))
    ∙ sym (ap (λ (ys : List Event). heard_in meaning code bodies k ys h) (cut es i e d lt is))
    ∙ so_far
