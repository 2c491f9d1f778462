-- Contexts that fit, and their places, after one of them is put in place as it was saved.
use Rattle.std.proofs.Common.{◌≡◌, ℕ, Option, Some, None, Bool, true, false, ◌∙◌, slice_set, subst}
use Rattle.std.proofs.Math.ListN.{length-set}
use Rattle.fmp_base.specs.declared.bodies.HandlerContext.{HandlerContext}
use Rattle.fmp_base.specs.declared.bodies.HandlerStart.{HandlerStart}
use Rattle.fmp_base.specs.declared.bodies.Held.{Held}
use Rattle.fmp_base.specs.declared.bodies.Held.TheVariants.{Goes}
use Rattle.fmp_base.specs.declared.states.Handler.{Handler}
use Rattle.fmp_base.specs.Meanings.{Contexts, handler_start, task_body}
use Rattle.fmp_base.specs.Systems.{SystemTables}
use Rattle.fmp_contexts.specs.Contexts.{BeginsIn, Entered, Fitting, HasPlaces, OfHeld, held_by}
use Rattle.fmp_contexts.proofs.ContextLemmas.{fitting_handler, fitting_task}

held_fits : {C : Type 0} (P : C → Type 0) (b : Bool) (c : C) → P c → OfHeld P (held_by b c)
held_fits P true c h = h
held_fits P false c h = h

pub fitting_held : {B C : Type 0} {has_entry : B → ℕ → Type 0} {is_context : B → ℕ → C → Type 0} {body : B}
    {sys : SystemTables}
    (cs : Contexts (Held C)) (t : ℕ) (awaits : Bool) (c : C) → Fitting has_entry is_context body sys cs
    → is_context body (task_body sys t) c
    → Fitting has_entry is_context body sys (record cs { tasks = slice_set cs.tasks t (Some (held_by awaits c)) })
fitting_held {is_context} {body} {sys} cs t awaits c h k =
    fitting_task cs t (Some (held_by awaits c)) h (held_fits (is_context body (task_body sys t)) awaits c k)

pub fitting_begun : {B C : Type 0} {has_entry : B → ℕ → Type 0} {is_context : B → ℕ → C → Type 0} {body : B}
    {sys : SystemTables}
    (cs : Contexts (Held C)) (p : ℕ) (h : Handler) (start : HandlerStart) (c : C)
    → Fitting has_entry is_context body sys cs
    → Entered has_entry body sys → handler_start sys h ≡ Some start → is_context body start.body c
    → Fitting has_entry is_context body sys
    (record cs { handlers = slice_set cs.handlers p (Some (record { body = start.body; context = Goes c })) })
fitting_begun {has_entry} {body = body} cs p h start c f e is k =
    fitting_handler cs p (Some (record { body = start.body; context = Goes c })) f
    (record {
      entry = subst (λ (o : Option HandlerStart). BeginsIn (has_entry body) o) is (e.handlers h);
      context = k;
    })

pub places_task : {C : Type 0} {sys : SystemTables} (cs : Contexts (Held C)) (t : ℕ) (c : Option (Held C))
    → HasPlaces sys cs
    → HasPlaces sys (record cs { tasks = slice_set cs.tasks t c })
places_task cs t c h = record { tasks = length-set _ _ _ ∙ h.tasks; handlers = h.handlers }

pub places_handler : {C : Type 0} {sys : SystemTables} (cs : Contexts (Held C)) (p : ℕ)
    (c : Option (HandlerContext (Held C)))
    → HasPlaces sys cs → HasPlaces sys (record cs { handlers = slice_set cs.handlers p c })
places_handler cs p c h = record { tasks = h.tasks; handlers = length-set _ _ _ ∙ h.handlers }
