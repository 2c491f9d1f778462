-- Worlds in which each processor and each task is as between events are settled.
use Rattle.std.proofs.Common.{◌≡◌, ℕ, zero, suc, ◌+◌, ◌<◌, ◌≤◌, ◌⊎◌, inl, inr, List, [], ◌∷◌, length, Option, Some}
use Rattle.std.proofs.Common.{None, Bool, true, false, not, ap, arith, is_some, refl, slice_get, subst, sym}
use Rattle.fmp_base.specs.declared.bodies.HandlerContext.{HandlerContext}
use Rattle.fmp_base.specs.declared.bodies.Held.{Held}
use Rattle.fmp_base.specs.declared.bodies.Held.TheVariants.{Awaits, Goes}
use Rattle.fmp_base.specs.declared.states.Phase.{Phase}
use Rattle.fmp_base.specs.declared.states.Phase.TheVariants.{Dormant, Ready, Waiting}
use Rattle.fmp_base.specs.declared.states.Processor.{Processor}
use Rattle.fmp_base.specs.declared.states.TaskBlock.{TaskBlock}
use Rattle.fmp_base.specs.Meanings.{Contexts, World, context_at, context_in}
use Rattle.fmp_base.specs.ProcessorCalls.{is_cpu_locked}
use Rattle.fmp_base.specs.Queues.{is_ready_phase}
use Rattle.fmp_base.specs.Settles.{pending_handler}
use Rattle.fmp_base.specs.States.{KernelState, idle, processor_at, task_at}
use Rattle.fmp_base.specs.Systems.{SystemTables, found}
use Rattle.fmp_contexts.specs.Contexts.{is_going}
use Rattle.fmp_kernel.specs.Restored.{AreKeptOf, AreSettledOn, IsSettledOn, RunsOwn}
use Rattle.fmp_worlds.specs.Settled.{AwaitsNone, IsSettledWorld, IsThere, IsWorldOf}

pub ready_is : (x : Phase) → is_ready_phase x ≡ true → x ≡ Ready
ready_is Dormant h = cc
ready_is Ready h = refl
ready_is (Waiting c) h = cc

pub not_ready : (x : Phase) → is_ready_phase x ≡ false → x ≡ Ready → ⊥
not_ready Dormant h e = cc
not_ready Ready h e = cc
not_ready (Waiting c) h e = cc

-- what goes on is there, and awaits no reply
pub going_there : {C : Type 0} (o : Option (Held C)) → is_going o ≡ true → IsThere o
going_there None h = absurd (cc h)
going_there (Some (Goes c)) h = tt
going_there (Some (Awaits c)) h = absurd (cc h)

pub going_free : {C : Type 0} (o : Option (Held C)) → is_going o ≡ true → AwaitsNone o
going_free None h = tt
going_free (Some (Goes c)) h = tt
going_free (Some (Awaits c)) h = absurd (cc h)

pub some_there : {A : Type 0} (o : Option A) → is_some o ≡ true → IsThere o
some_there None h = absurd (cc h)
some_there (Some a) h = tt

-- so of a handler; of one of which nothing is kept, nothing awaits a reply
pub handler_there : {C : Type 0} (o : Option (HandlerContext (Held C))) → is_going (context_in o) ≡ true → IsThere o
handler_there None h = absurd (cc h)
handler_there (Some c) h = tt

pub none_free : {C : Type 0} (o : Option (HandlerContext (Held C))) (b : Bool) → b ≡ is_some o → not b ≡ true
    → AwaitsNone (context_in o)
none_free None b e h = tt
none_free (Some c) true e h = absurd (cc h)
none_free (Some c) false e h = absurd (cc e)

-- a place of a list lies in it or beyond
within : (p n : ℕ) → (p < n) ⊎ (n ≤ p)
within p zero = inr (omega arith)
within zero (suc n) = inl (omega arith)
within (suc p) (suc n) = elim (within p n) [ inl h ↦ inl (omega (arith, h)) | inr h ↦ inr (omega (arith, h)) ]

-- beyond the last of a list there is the default
beyond : {A : Type 0} (default : A) (xs : List A) (p : ℕ) → length xs ≤ p → found default (slice_get xs p) ≡ default
beyond default [] p l = refl
beyond default (x ∷ xs) zero l = absurd (omega (arith, l))
beyond default (x ∷ xs) (suc p) l = beyond default xs p (omega (arith, l))

-- there is no task beyond the last
task_beyond : (tasks : List TaskBlock) (t : ℕ) → length tasks ≤ t → (task_at tasks t).phase ≡ Dormant
task_beyond [] t l = refl
task_beyond (x ∷ xs) zero l = absurd (omega (arith, l))
task_beyond (x ∷ xs) (suc t) l = task_beyond xs t (omega (arith, l))

-- a processor, once it is read
pub settled_on : {C : Type 0} (sys : SystemTables) (s : KernelState) (cs : Contexts (Held C)) (p : ℕ) (cpu : Processor)
    → cpu ≡ processor_at s p → RunsOwn s.tasks p cpu.run
    → (cpu.handler ≡ None → is_cpu_locked cpu ≡ false → pending_handler sys s p ≡ None)
    → (IsThere cpu.handler → IsThere (context_at cs.handlers p)) → AwaitsNone (context_in (context_at cs.handlers p))
    → IsSettledOn sys s cs p
settled_on sys s cs p cpu is own begun kept free = record {
  own = subst (λ (x : Processor). RunsOwn s.tasks p x.run) is own;
  begun =
      subst (λ (x : Processor). x.handler ≡ None → is_cpu_locked x ≡ false → pending_handler sys s p ≡ None) is begun;
  kept = subst (λ (x : Processor). IsThere x.handler → IsThere (context_at cs.handlers p)) is kept;
  free = free;
}

-- the task that a processor runs is assigned to it and ready
runs : {C : Type 0} (sys : SystemTables) (s : KernelState) (cs : Contexts (Held C)) (p t : ℕ) → AreSettledOn sys s cs
    → (processor_at s p).run ≡ Some t → RunsOwn s.tasks p (Some t)
runs sys s cs p t h e = by_place (within p (length s.processors)) where
  by_place : ((p < length s.processors) ⊎ (length s.processors ≤ p)) → RunsOwn s.tasks p (Some t)
  by_place (inl l) = subst (λ (o : Option ℕ). RunsOwn s.tasks p o) e (h.each p l).own
  by_place (inr l) =
      let none : (processor_at s p).run ≡ None = ap (λ (x : Processor). x.run) (beyond idle s.processors p l) in
      absurd (cc e)

-- what is kept of a handler awaits no reply
handlers_free : {C : Type 0} (sys : SystemTables) (s : KernelState) (cs : Contexts (Held C)) (p : ℕ)
    → length cs.handlers ≡ length s.processors → AreSettledOn sys s cs
    → AwaitsNone (context_in (context_at cs.handlers p))
handlers_free {C} sys s cs p same h = by_place (within p (length s.processors)) where
  by_place : ((p < length s.processors) ⊎ (length s.processors ≤ p))
      → AwaitsNone (context_in (context_at cs.handlers p))
  by_place (inl l) = (h.each p l).free
  by_place (inr l) =
      let nothing : context_at cs.handlers p ≡ None = beyond None cs.handlers p (omega (arith, same, l)) in
      subst (λ (o : Option (HandlerContext (Held C))). AwaitsNone (context_in o)) (sym nothing) tt

-- nor does that of a ready task
tasks_free : {C : Type 0} (sys : SystemTables) (s : KernelState) (cs : Contexts (Held C)) (t : ℕ)
    → length s.tasks ≡ length sys.tasks → AreKeptOf sys s cs → (task_at s.tasks t).phase ≡ Ready
    → AwaitsNone (context_at cs.tasks t)
tasks_free sys s cs t same h e = by_place (within t (length sys.tasks)) where
  by_place : ((t < length sys.tasks) ⊎ (length sys.tasks ≤ t)) → AwaitsNone (context_at cs.tasks t)
  by_place (inl l) = (h.each t l).free e
  by_place (inr l) =
      let none : (task_at s.tasks t).phase ≡ Dormant = task_beyond s.tasks t (omega (arith, same, l)) in
      absurd (cc e)

pub settled_world : {C : Type 0} (sys : SystemTables) (w : World C) → IsWorldOf sys w
    → AreSettledOn sys w.state w.contexts → AreKeptOf sys w.state w.contexts → IsSettledWorld sys w
settled_world sys w whole h k = record {
  whole = whole;
  state = record {
    assigned = λ p t e. (runs sys w.state w.contexts p t h e).0;
    ready = λ p t e. (runs sys w.state w.contexts p t h e).1;
    begun = λ p l. (h.each p l).begun;
  };
  kept = record {
    tasks = λ t l. (k.each t l).kept;
    handlers = λ p l. (h.each p (omega (arith, whole.handlers, l))).kept;
  };
  free = record {
    tasks = λ t e. tasks_free sys w.state w.contexts t whole.tasks k e;
    handlers = λ p. handlers_free sys w.state w.contexts p whole.handlers h;
  };
}
