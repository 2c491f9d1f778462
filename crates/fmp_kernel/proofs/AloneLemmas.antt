-- An event that has no other line than that of its call, to which there is a reply.
use Rattle.std.proofs.Common.{◌≡◌, ℕ, zero, suc, List, [], ◌∷◌, Option, Some, None, true, ap, sym, refl, ◌∙◌, length}
use Rattle.std.specs.Prelude.{slice_set}
use Rattle.fmp_base.specs.declared.bodies.HandlerContext.{HandlerContext}
use Rattle.fmp_base.specs.declared.bodies.Held.{Held}
use Rattle.fmp_base.specs.declared.bodies.Held.TheVariants.{Goes, Awaits}
use Rattle.fmp_base.specs.declared.calls.Call.{Call}
use Rattle.fmp_base.specs.declared.calls.Reply.{Reply}
use Rattle.fmp_base.specs.declared.events.Line.{Line}
use Rattle.fmp_base.specs.declared.events.Line.TheVariants as line
use Rattle.fmp_base.specs.declared.states.Caller.{Caller}
use Rattle.fmp_base.specs.declared.states.Caller.TheVariants as caller
use Rattle.fmp_base.specs.Meanings.{Contexts, Meaning, body_in, caller_body, context_at, context_for, context_in}
use Rattle.fmp_base.specs.Meanings.{context_of, contexts_after, told, with_context}
use Rattle.fmp_base.specs.Queues.{top}
use Rattle.fmp_base.specs.Settles.{is_same_task, pending_handler, settled}
use Rattle.fmp_base.specs.States.{KernelState, Progress, processor_at}
use Rattle.fmp_base.specs.Steps.{Done, concluded, finished}
use Rattle.fmp_base.specs.Systems.{SystemTables}
use Rattle.fmp_contexts.specs.Contexts.{HasContext}
use Rattle.fmp_contexts.proofs.HeldLemmas.{body_set, context_twice}
use Rattle.fmp_kernel.proofs.SettleLemmas.{settled_one, settled_rest}
use Rattle.fmp_worlds.specs.Settled.{IsThere}

-- a context that is kept is there
there_set : {A : Type 0} (xs : List (Option A)) (i : ℕ) (x : Option A) → IsThere (context_at xs i)
    → context_at (slice_set xs i x) i ≡ x
there_set [] i x h = absurd h
there_set (z ∷ xs) zero x h = refl
there_set (z ∷ xs) (suc i) x h = there_set xs i x h

in_place : {C : Type 0} (o : Option (HandlerContext C)) → IsThere (context_in o) → IsThere o
in_place None h = h
in_place (Some x) h = tt

context_set : {C : Type 0} (cs : Contexts C) (p : ℕ) (who : Caller) (c : C) → HasContext cs p who
    → context_of (with_context cs p who (Some c)) p who ≡ Some c
context_set cs p (caller.Task t) c h = there_set cs.tasks t (Some c) h
context_set {C} cs p (caller.Handler i) c h =
    ap (λ (o : Option (HandlerContext C)). context_in o)
    (there_set cs.handlers p (context_for (body_in (context_at cs.handlers p)) (Some c))
    (in_place (context_at cs.handlers p) h))

-- a caller that awaits a reply in a context is told it there
told_there : {C : Type 0} (sys : SystemTables) (M : Meaning C) (cs : Contexts (Held C)) (p : ℕ) (who : Caller)
    (made : Call) (reply : Reply) (c : C) → HasContext cs p who
    → contexts_after sys M (with_context cs p who (Some (Awaits c))) (line.Call p who made (Some reply))
    ≡ with_context cs p who (Some (Goes (M.deliver (caller_body sys cs p who) c reply)))
told_there {C} sys M cs p who made reply c h =
    let kept = with_context cs p who (Some (Awaits c)) in
    ap (λ (o : Option (Held C)). with_context kept p who (told M (caller_body sys kept p who) reply o))
    (context_set cs p who (Awaits c) h)
    ∙ ap (λ (b : ℕ). with_context kept p who (Some (Goes (M.deliver b c reply)))) (body_set sys cs p who (Awaits c) h)
    ∙ context_twice cs p who (Awaits c) (Goes (M.deliver (caller_body sys cs p who) c reply)) h

-- a single processor that has nothing to settle
settled_alone : (sys : SystemTables) (s : KernelState) (ls : List Line) → length s.processors ≡ 1
    → pending_handler sys s 0 ≡ None → is_same_task (processor_at s 0).run (top s 0) ≡ true
    → settled sys (record { state = s; lines = ls }) ≡ record { state = s; lines = ls }
settled_alone sys s ls one none same =
    settled_one sys (record { state = s; lines = ls }) one
    ∙ sym (settled_rest sys (record { state = s; lines = ls }) 0 none same)

-- then the caller goes on from its context, which was told the reply
pub finished_alone : {C : Type 0} (sys : SystemTables) (M : Meaning C) (cs : Contexts (Held C)) (p : ℕ) (who : Caller)
    (made : Call) (reply : Reply) (c : C) (s : KernelState) (caused : List Line) → HasContext cs p who
    → caused ≡ [] → length s.processors ≡ 1
    → pending_handler sys s 0 ≡ None → is_same_task (processor_at s 0).run (top s 0) ≡ true
    → record {
      world = record {
        state = s;
        contexts = with_context cs p who (Some (Goes (M.deliver (caller_body sys cs p who) c reply)));
      };
      lines = line.Call p who made (Some reply) ∷ [];
    }
    ≡ finished sys M (with_context cs p who (Some (Awaits c))) (line.Call p who made (Some reply) ∷ [])
    (record { state = s; lines = caused })
finished_alone {C} sys M cs p who made reply c s caused h e one none same =
    let own = line.Call p who made (Some reply) in
    sym (ap (λ (ls : List Line). finished sys M (with_context cs p who (Some (Awaits c))) (own ∷ [])
    (record { state = s; lines = ls })) e
    ∙ ap (λ (g : Progress). concluded sys M (with_context cs p who (Some (Awaits c))) g)
    (settled_alone sys s (own ∷ []) one none same)
    ∙ ap (λ (ds : Contexts (Held C)). after ds own) (told_there sys M cs p who made reply c h)) where
      after : Contexts (Held C) → Line → Done C
      after ds l = record { world = record { state = s; contexts = ds }; lines = l ∷ [] }
