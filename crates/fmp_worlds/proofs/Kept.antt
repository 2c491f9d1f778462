-- A context is kept of each task, and of each handler that runs.
use Rattle.std.proofs.Common.{◌≡◌, ℕ, zero, suc, ◌+◌, ◌<◌, ◌≤◌, List, [], ◌∷◌, ◌++◌, Option, Some, None, Bool, true}
use Rattle.std.proofs.Common.{false, ◌&&◌, ◌||◌, ◌⊎◌, inl, inr, length, map, replicate, slice_get, slice_set, refl, sym}
use Rattle.std.proofs.Common.{subst, ap, ◌∙◌, arith, if◌then◌else◌}
use Rattle.std.proofs.lemmas.List.{length-set}
use Rattle.std.specs.List.{AllByRecursion}
use Rattle.fmp_base.specs.declared.bodies.HandlerContext.{HandlerContext}
use Rattle.fmp_base.specs.declared.bodies.HandlerStart.{HandlerStart}
use Rattle.fmp_base.specs.declared.bodies.Held.{Held}
use Rattle.fmp_base.specs.declared.bodies.Held.TheVariants.{Goes, Awaits}
use Rattle.fmp_base.specs.declared.calls.Answer.{Answer}
use Rattle.fmp_base.specs.declared.calls.Answer.TheVariants.{Replies, Waits, Ends, Spins}
use Rattle.fmp_base.specs.declared.calls.Call.{Call}
use Rattle.fmp_base.specs.declared.calls.Reply.{Reply}
use Rattle.fmp_base.specs.declared.events.Event.{Event}
use Rattle.fmp_base.specs.declared.events.Event.TheVariants.{Run, Tick, Int}
use Rattle.fmp_base.specs.declared.events.Line.{Line}
use Rattle.fmp_base.specs.declared.events.Line.TheVariants as line
use Rattle.fmp_base.specs.declared.states.Caller.{Caller}
use Rattle.fmp_base.specs.declared.states.Caller.TheVariants as caller
use Rattle.fmp_base.specs.declared.states.Handler.{Handler}
use Rattle.fmp_base.specs.declared.states.Handler.TheVariants as handler
use Rattle.fmp_base.specs.declared.states.Processor.{Processor}
use Rattle.fmp_base.specs.declared.systems.CyclicConfig.{CyclicConfig}
use Rattle.fmp_base.specs.declared.systems.InterruptConfig.{InterruptConfig}
use Rattle.fmp_base.specs.declared.systems.TaskConfig.{TaskConfig}
use Rattle.fmp_base.specs.Calls.{called}
use Rattle.fmp_base.specs.Meanings.{Meaning, Contexts, World, task_body, context_at, context_in, body_in, context_of}
use Rattle.fmp_base.specs.Meanings.{context_for, fresh_context, handler_start, interrupt_start, cyclic_start, told}
use Rattle.fmp_base.specs.Meanings.{delivered_to, contexts_after, contexts_after_all, with_context}
use Rattle.fmp_base.specs.Queues.{top}
use Rattle.fmp_base.specs.Settles.{dispatched, dispatch_lines, is_same_task, runs_handler, is_dispatch_held}
use Rattle.fmp_base.specs.Settles.{handler_to_begin, is_defined_on, interrupts_on, cycles_on, first_or, first_pending}
use Rattle.fmp_base.specs.Settles.{cyclic_handler, interrupt_or, pending_handler, without_pending, settled_with}
use Rattle.fmp_base.specs.Settles.{settled_on, all_settled, settled}
use Rattle.fmp_base.specs.ProcessorCalls.{is_cpu_locked}
use Rattle.fmp_base.specs.Setups.{setup, all_started, started_if, created_state, first_contexts}
use Rattle.fmp_base.specs.States.{KernelState, Progress, unchanged, task_at, processor_at, with_processor, idle}
use Rattle.fmp_base.specs.States.{places_from}
use Rattle.fmp_base.specs.Steps.{Reaction, Nothing, Did, Kept, actor_by, actor_ended, actor_of, call_made}
use Rattle.fmp_base.specs.Steps.{contexts_ended, ended_with, finished, handler_ended, answered, stretched, run_in}
use Rattle.fmp_base.specs.Steps.{run_by, interrupted, interrupted_by, step}
use Rattle.fmp_base.specs.Stretches.{Ending}
use Rattle.fmp_base.specs.Stretches as ends
use Rattle.fmp_base.specs.Systems.{SystemTables, body_of, found, interrupt_config, task_config}
use Rattle.fmp_base.specs.Ticks.{ticked, is_pending, with_interrupt_pending}
use Rattle.fmp_worlds.specs.Settled.{AreKept, IsSettled, IsThere}
use Rattle.fmp_worlds.specs.Stamps.{applied_by, applied_in}
use Rattle.fmp_worlds.proofs.Assigned.{Holds, set_at, set_other, set_over}
use Rattle.fmp_worlds.proofs.CalledLemmas.{keeps-task_call, keeps-handler_call}
use Rattle.fmp_worlds.proofs.Changes.{SameHandlers, handlers-ended_itself, handlers-same, lines-ended_itself}
use Rattle.fmp_worlds.proofs.Lines.{IsOwn, all-map}
use Rattle.fmp_worlds.proofs.StepLemmas.{IsActor, acts, holds}
use Rattle.fmp_worlds.proofs.TickLemmas.{actors-ticked, lines-ticked}

-- what is at place j, which is there, after place i was written
set_within : {A : Type 0} (d : A) (P : A → Type 0) (xs : List A) (i : ℕ) (y : A) (j : ℕ) → j < length xs → (i ≡ j → P y)
    → ((i ≡ j → ⊥) → P (found d (slice_get xs j))) → P (found d (slice_get (slice_set xs i y) j))
set_within d P [] i y j l h k = absurd (omega (arith, l))
set_within d P (x ∷ xs) zero y zero l h k = h refl
set_within d P (x ∷ xs) zero y (suc j) l h k = k (λ e. cc)
set_within d P (x ∷ xs) (suc i) y zero l h k = k (λ e. cc)
set_within d P (x ∷ xs) (suc i) y (suc j) l h k =
    set_within d P xs i y j (omega (arith, l)) (λ e. h (ap suc e)) (λ n. k (λ e. n cc))

-- the handler that begins is one of the system

get-there : {A : Type 0} (xs : List A) (i : ℕ) → i < length xs → IsThere (slice_get xs i)
get-there [] i l = absurd (omega (arith, l))
get-there (x ∷ xs) zero l = tt
get-there (x ∷ xs) (suc i) l = get-there xs i (omega (arith, l))

interrupt-there : (p : ℕ) (o : Option InterruptConfig) → is_defined_on p o ≡ true → IsThere (interrupt_start o)
interrupt-there p None h = cc
interrupt-there p (Some c) h = tt

cyclic-there : (o : Option CyclicConfig) → IsThere o → IsThere (cyclic_start o)
cyclic-there None h = h
cyclic-there (Some c) h = tt

-- the first pending place is one of the list, and the test holds for it
record IsFirst (on : ℕ → Bool) (i n c : ℕ) : Type 0 where
  holds : on c ≡ true
  within : c < i + n

first-or : (pending holds : Bool) (i c : ℕ) (rest : Option ℕ) → first_or (pending && holds) i rest ≡ Some c
    → ((i ≡ c) × (holds ≡ true)) ⊎ (rest ≡ Some c)
first-or true true i c rest h = inl (cc, refl)
first-or true false i c rest h = inr h
first-or false holds i c rest h = inr h

first-of : (on : ℕ → Bool) (i n c : ℕ) (rest : Option ℕ) → (rest ≡ Some c → IsFirst on (i + 1) n c)
    → ((i ≡ c) × (on i ≡ true)) ⊎ (rest ≡ Some c) → IsFirst on i (suc n) c
first-of on i n c rest go (inl h) =
    let same = h.0 in
    record { holds = subst (λ (j : ℕ). on j ≡ true) same h.1; within = omega (arith, same) }
first-of on i n c rest go (inr h) =
    let first = go h in
    let below = first.within in
    record { holds = first.holds; within = omega (arith, below) }

first-is : (on : ℕ → Bool) (i : ℕ) (bs : List Bool) (c : ℕ) → first_pending on i bs ≡ Some c
    → IsFirst on i (length bs) c
first-is on i [] c h = cc
first-is on i (b ∷ bs) c h =
    let rest = first_pending on (i + 1) bs in
    first-of on i (length bs) c rest (λ e. first-is on (i + 1) bs c e) (first-or b (on i) i c rest h)

pending-there : (sys : SystemTables) (s : KernelState) (p : ℕ) (h : Handler)
    → length s.pending_cyclics ≤ length sys.cyclics
    → pending_handler sys s p ≡ Some h → IsThere (handler_start sys h)
pending-there sys s p h few e =
    by_interrupt (first_pending (interrupts_on sys p) 0 s.pending_interrupts) h refl e where
      by_cyclic : (o : Option ℕ) (h : Handler) → first_pending (cycles_on sys p) 0 s.pending_cyclics ≡ o
          → cyclic_handler o ≡ Some h → IsThere (handler_start sys h)
      by_cyclic None h f e = cc
      by_cyclic (Some c) (handler.Interrupt i) f e = cc
      by_cyclic (Some c) (handler.Cyclic d) f e =
          let same : c ≡ d = cc in
          let first = first-is (cycles_on sys p) 0 s.pending_cyclics c f in
          let below = first.within in
          cyclic-there (slice_get sys.cyclics d) (get-there sys.cyclics d (omega (arith, below, few, same)))

      by_interrupt : (o : Option ℕ) (h : Handler) → first_pending (interrupts_on sys p) 0 s.pending_interrupts ≡ o
          → interrupt_or o (cyclic_handler (first_pending (cycles_on sys p) 0 s.pending_cyclics)) ≡ Some h
          → IsThere (handler_start sys h)
      by_interrupt None h f e = by_cyclic (first_pending (cycles_on sys p) 0 s.pending_cyclics) h refl e
      by_interrupt (Some i) (handler.Cyclic d) f e = cc
      by_interrupt (Some i) (handler.Interrupt j) f e =
          let same : i ≡ j = cc in
          let first = first-is (interrupts_on sys p) 0 s.pending_interrupts i f in
          interrupt-there p (interrupt_config sys j)
          (subst (λ (k : ℕ). is_defined_on p (interrupt_config sys k) ≡ true) same first.holds)

begins-there : (b : Bool) (sys : SystemTables) (s : KernelState) (p : ℕ) (h : Handler)
    → length s.pending_cyclics ≤ length sys.cyclics → (if b then None else pending_handler sys s p) ≡ Some h
    → IsThere (handler_start sys h)
begins-there true sys s p h few e = cc
begins-there false sys s p h few e = pending-there sys s p h few e

-- settling leaves as many cyclic handlers

cyclics-with : (o : Option Handler) (g : Progress) (p : ℕ) (cpu : Processor)
    → length (settled_with o g p cpu).state.pending_cyclics ≡ length g.state.pending_cyclics
cyclics-with (Some (handler.Interrupt i)) g p cpu = refl
cyclics-with (Some (handler.Cyclic c)) g p cpu = length-set g.state.pending_cyclics c false
cyclics-with None g p cpu = by_held (is_dispatch_held cpu) where
  by_held : (b : Bool)
      → length (if b then g else dispatched g p cpu (top g.state p)).state.pending_cyclics
      ≡ length g.state.pending_cyclics
  by_held true = refl
  by_held false = refl

cyclics-all : (sys : SystemTables) (g : Progress) (ps : List ℕ)
    → length (all_settled sys g ps).state.pending_cyclics ≡ length g.state.pending_cyclics
cyclics-all sys g [] = refl
cyclics-all sys g (p ∷ ps) =
    let cpu = processor_at g.state p in
    cyclics-all sys (settled_on sys g p cpu) ps ∙ cyclics-with (handler_to_begin sys g.state p cpu) g p cpu

-- a line with which no handler begins
abbrev BeginsNone : Line → Type 0
BeginsNone (line.Begins p h) = ⊥
BeginsNone l = Unit {0}

own-begins_none : (s : KernelState) (own : ℕ) (l : Line) → IsOwn s own l → BeginsNone l
own-begins_none s own (line.Begins p h) k = k
own-begins_none s own (line.Starts p t) k = tt
own-begins_none s own (line.Call p who c reply) k = tt
own-begins_none s own (line.Gets p t reply) k = tt
own-begins_none s own (line.Tick now) k = tt
own-begins_none s own (line.Int i) k = tt
own-begins_none s own (line.End p who) k = tt
own-begins_none s own (line.Fault p who fault) k = tt
own-begins_none s own (line.Pends p i) k = tt
own-begins_none s own (line.Runs p t) k = tt

dispatch-begins_none : (same : Bool) (p : ℕ) (t : Option ℕ) → AllByRecursion BeginsNone (dispatch_lines same p t)
dispatch-begins_none true p t = tt
dispatch-begins_none false p t = (tt, tt)

-- contexts through lines

told-there : {C : Type 0} (M : Meaning C) (b : ℕ) (reply : Reply) (o : Option (Held C)) → IsThere o
    → IsThere (told M b reply o)
told-there M b reply None h = h
told-there M b reply (Some (Goes c)) h = tt
told-there M b reply (Some (Awaits c)) h = tt

for-there : {C : Type 0} (b : ℕ) (o : Option (Held C)) → IsThere o → IsThere (context_for b o)
for-there b None h = h
for-there b (Some c) h = tt

pub in-there : {C : Type 0} (o : Option (HandlerContext C)) → IsThere o → IsThere (context_in o)
in-there None h = h
in-there (Some c) h = tt

module _ {C : Type 0} (sys : SystemTables) (M : Meaning C) where
  abbrev OnTask : Option (Held C) → Type 0
  OnTask o = IsThere o

  abbrev OnHandler : Option (HandlerContext (Held C)) → Type 0
  OnHandler o = IsThere o

  abbrev IsKept : Contexts (Held C) → ℕ → Type 0
  IsKept cs t = IsThere (context_at cs.tasks t)

  abbrev IsKeptOn : Contexts (Held C) → ℕ → Type 0
  IsKeptOn cs p = IsThere (context_at cs.handlers p)

  kept-delivered : (cs : Contexts (Held C)) (q : ℕ) (who : Caller) (reply : Reply) (t : ℕ) → IsKept cs t
      → IsKept (delivered_to sys M cs q who reply) t
  kept-delivered cs q (caller.Task u) reply t h =
      set_at None OnTask cs.tasks u _ t
      (λ e. told-there M _ reply (context_at cs.tasks u) (subst (λ (v : ℕ). IsKept cs v) (sym e) h)) h
  kept-delivered cs q (caller.Handler i) reply t h = h

  kept-delivered_on : (cs : Contexts (Held C)) (q : ℕ) (who : Caller) (reply : Reply) (p : ℕ) → IsKeptOn cs p
      → IsKeptOn (delivered_to sys M cs q who reply) p
  kept-delivered_on cs q (caller.Task u) reply p h = h
  kept-delivered_on cs q (caller.Handler i) reply p h =
      let o = context_at cs.handlers q in
      set_at None OnHandler cs.handlers q _ p
      (λ e. for-there (body_in o) _
      (told-there M _ reply (context_in o) (in-there o (subst (λ (v : ℕ). IsKeptOn cs v) (sym e) h)))) h

  kept-after : (cs : Contexts (Held C)) (t : ℕ) (l : Line) → IsKept cs t → IsKept (contexts_after sys M cs l) t
  kept-after cs t (line.Starts q u) h = set_at None OnTask cs.tasks u _ t (λ e. tt) h
  kept-after cs t (line.Gets q u reply) h = kept-delivered cs q (caller.Task u) reply t h
  kept-after cs t (line.Begins q i) h = h
  kept-after cs t (line.Call q who made None) h = h
  kept-after cs t (line.Call q who made (Some reply)) h = kept-delivered cs q who reply t h
  kept-after cs t (line.Tick now) h = h
  kept-after cs t (line.Int i) h = h
  kept-after cs t (line.End q who) h = h
  kept-after cs t (line.Fault q who fault) h = h
  kept-after cs t (line.Pends q i) h = h
  kept-after cs t (line.Runs q u) h = h

  kept-all : (cs : Contexts (Held C)) (t : ℕ) (ls : List Line) → IsKept cs t → IsKept (contexts_after_all sys M cs ls) t
  kept-all cs t [] h = h
  kept-all cs t (l ∷ ls) h = kept-all (contexts_after sys M cs l) t ls (kept-after cs t l h)

  kept-after_on : (cs : Contexts (Held C)) (p : ℕ) (l : Line) → BeginsNone l → IsKeptOn cs p
      → IsKeptOn (contexts_after sys M cs l) p
  kept-after_on cs p (line.Begins q i) n h = absurd n
  kept-after_on cs p (line.Starts q u) n h = h
  kept-after_on cs p (line.Gets q u reply) n h = h
  kept-after_on cs p (line.Call q who made None) n h = h
  kept-after_on cs p (line.Call q who made (Some reply)) n h = kept-delivered_on cs q who reply p h
  kept-after_on cs p (line.Tick now) n h = h
  kept-after_on cs p (line.Int i) n h = h
  kept-after_on cs p (line.End q who) n h = h
  kept-after_on cs p (line.Fault q who fault) n h = h
  kept-after_on cs p (line.Pends q i) n h = h
  kept-after_on cs p (line.Runs q u) n h = h

  kept-all_on : (cs : Contexts (Held C)) (p : ℕ) (ls : List Line) → AllByRecursion BeginsNone ls → IsKeptOn cs p
      → IsKeptOn (contexts_after_all sys M cs ls) p
  kept-all_on cs p [] n h = h
  kept-all_on cs p (l ∷ ls) n h = kept-all_on (contexts_after sys M cs l) p ls n.1 (kept-after_on cs p l n.0 h)

  -- the places stay
  places-delivered : (cs : Contexts (Held C)) (q : ℕ) (who : Caller) (reply : Reply)
      → length (delivered_to sys M cs q who reply).handlers ≡ length cs.handlers
  places-delivered cs q (caller.Task u) reply = refl
  places-delivered cs q (caller.Handler i) reply = length-set cs.handlers q _

  places-after : (cs : Contexts (Held C)) (l : Line) → length (contexts_after sys M cs l).handlers ≡ length cs.handlers
  places-after cs (line.Begins q i) = length-set cs.handlers q _
  places-after cs (line.Starts q u) = refl
  places-after cs (line.Gets q u reply) = refl
  places-after cs (line.Call q who made None) = refl
  places-after cs (line.Call q who made (Some reply)) = places-delivered cs q who reply
  places-after cs (line.Tick now) = refl
  places-after cs (line.Int i) = refl
  places-after cs (line.End q who) = refl
  places-after cs (line.Fault q who fault) = refl
  places-after cs (line.Pends q i) = refl
  places-after cs (line.Runs q u) = refl

  places-all : (cs : Contexts (Held C)) (ls : List Line) → length (contexts_after_all sys M cs ls).handlers
      ≡ length cs.handlers
  places-all cs [] = refl
  places-all cs (l ∷ ls) = places-all (contexts_after sys M cs l) ls ∙ places-after cs l

  after-append : (cs : Contexts (Held C)) (ls ms : List Line)
      → contexts_after_all sys M cs (ls ++ ms) ≡ contexts_after_all sys M (contexts_after_all sys M cs ls) ms
  after-append cs [] ms = refl
  after-append cs (l ∷ ls) ms = after-append (contexts_after sys M cs l) ls ms

  -- a context is kept of each handler that runs, where these are the contexts
  abbrev AreKeptOn : Contexts (Held C) → KernelState → Type 0
  AreKeptOn cs s = (p : ℕ) → p < length cs.handlers → IsThere (processor_at s p).handler → IsKeptOn cs p

  -- settling

  abbrev KeepsOn : Contexts (Held C) → Progress → Type 0
  KeepsOn cs g = AreKeptOn (contexts_after_all sys M cs g.lines) g.state

  on-begun : (cs : Contexts (Held C)) (g : Progress) (u : KernelState) (p : ℕ) (h : Handler)
      → u.processors ≡ g.state.processors → IsThere (handler_start sys h) → KeepsOn cs g
      → AreKeptOn (contexts_after_all sys M cs (g.lines ++ line.Begins p h ∷ []))
      (with_processor u p (record (processor_at g.state p) { handler = Some h }))
  on-begun cs g u p h same there k q within running =
      subst (λ (ds : Contexts (Held C)). IsKeptOn ds q) (sym (after-append cs g.lines (line.Begins p h ∷ [])))
      (set_within None OnHandler (contexts_after_all sys M cs g.lines).handlers p _ q inside
      (λ e. fresh (handler_start sys h) there) (λ n. k q inside (was n))) where
        now : Processor
        now = record (processor_at g.state p) { handler = Some h }

        inside : q < length (contexts_after_all sys M cs g.lines).handlers
        inside =
            let a = places-all cs (g.lines ++ line.Begins p h ∷ []) in
            let b = places-all cs g.lines in
            omega (arith, within, a, b)

        fresh : (o : Option HandlerStart) → IsThere o → OnHandler (fresh_context M o)
        fresh None there = there
        fresh (Some start) there = tt

        was : (p ≡ q → ⊥) → IsThere (processor_at g.state q).handler
        was n =
            subst (λ (c : Processor). IsThere c.handler)
            (set_other idle u.processors p now q n ∙ ap (λ (cpus : List Processor). found idle (slice_get cpus q))
            same) running

  on-dispatched : (cs : Contexts (Held C)) (g : Progress) (p : ℕ) (t : Option ℕ) → KeepsOn cs g
      → KeepsOn cs (dispatched g p (processor_at g.state p) t)
  on-dispatched cs g p t k q within running =
      let more = dispatch_lines (is_same_task (processor_at g.state p).run t) p t in
      subst (λ (ds : Contexts (Held C)). IsKeptOn ds q) (sym (after-append cs g.lines more))
      (kept-all_on (contexts_after_all sys M cs g.lines) q more (dispatch-begins_none _ p t)
      (k q inside (was running))) where
        inside : q < length (contexts_after_all sys M cs g.lines).handlers
        inside =
            let a = places-all cs (g.lines ++ dispatch_lines (is_same_task (processor_at g.state p).run t) p t) in
            let b = places-all cs g.lines in
            omega (arith, within, a, b)

        was : IsThere (processor_at (dispatched g p (processor_at g.state p) t).state q).handler
            → IsThere (processor_at g.state q).handler
        was =
            set_at idle (λ (c : Processor). IsThere c.handler → IsThere (processor_at g.state q).handler)
            g.state.processors p _ q
            (λ e r. subst (λ (v : ℕ). IsThere (processor_at g.state v).handler) e r) (λ r. r)

  on-none : (held : Bool) (cs : Contexts (Held C)) (g : Progress) (p : ℕ) → KeepsOn cs g
      → KeepsOn cs (if held then g else dispatched g p (processor_at g.state p) (top g.state p))
  on-none true cs g p k = k
  on-none false cs g p k = on-dispatched cs g p (top g.state p) k

  on-with : (o : Option Handler) (cs : Contexts (Held C)) (g : Progress) (p : ℕ)
      → handler_to_begin sys g.state p (processor_at g.state p) ≡ o
      → length g.state.pending_cyclics ≤ length sys.cyclics
      → KeepsOn cs g → KeepsOn cs (settled_with o g p (processor_at g.state p))
  on-with None cs g p e few k = on-none (is_dispatch_held (processor_at g.state p)) cs g p k
  on-with (Some (handler.Interrupt i)) cs g p e few k =
      on-begun cs g (without_pending g.state (handler.Interrupt i)) p (handler.Interrupt i) refl
      (begins-there (runs_handler (processor_at g.state p).handler || is_cpu_locked (processor_at g.state p)) sys
      g.state p _ few e) k
  on-with (Some (handler.Cyclic c)) cs g p e few k =
      on-begun cs g (without_pending g.state (handler.Cyclic c)) p (handler.Cyclic c) refl
      (begins-there (runs_handler (processor_at g.state p).handler || is_cpu_locked (processor_at g.state p)) sys
      g.state p _ few e) k

  on-all : (cs : Contexts (Held C)) (g : Progress) (ps : List ℕ) → length g.state.pending_cyclics ≤ length sys.cyclics
      → KeepsOn cs g → KeepsOn cs (all_settled sys g ps)
  on-all cs g [] few k = k
  on-all cs g (p ∷ ps) few k =
      let cpu = processor_at g.state p in
      let same = cyclics-with (handler_to_begin sys g.state p cpu) g p cpu in
      on-all cs (settled_on sys g p cpu) ps (omega (arith, few, same)) (on-with
      (handler_to_begin sys g.state p cpu) cs g p refl few k)

  -- events

  -- no more cyclic handlers can be pending than the system has
  abbrev HasFew : KernelState → Type 0
  HasFew s = length s.pending_cyclics ≤ length sys.cyclics

  abbrev pub LeavesKept : Reaction C → Type 0
  LeavesKept Nothing = Unit {0}
  LeavesKept (Did d) = HasFew d.world.state → AreKept sys d.world
  LeavesKept (Kept p v) = AreKept sys v

  abbrev AreKeptTasks : Contexts (Held C) → Type 0
  AreKeptTasks cs = (t : ℕ) → t < length sys.tasks → IsKept cs t

  finished-kept : (cs : Contexts (Held C)) (own : List Line) (g : Progress) → AreKeptTasks cs
      → KeepsOn cs (record g { lines = own ++ g.lines }) → LeavesKept (Did (finished sys M cs own g))
  finished-kept cs own g tasks on few =
      let first : Progress = record g { lines = own ++ g.lines } in
      let ps = places_from 0 (length g.state.processors) in
      let same = cyclics-all sys first ps in
      record {
        tasks = λ t l. kept-all cs t (settled sys first).lines (tasks t l);
        handlers = on-all cs first ps (omega (arith, few, same)) on;
      }

  -- no handler runs in u that did not in s
  abbrev RunsNoMore : KernelState → KernelState → Type 0
  RunsNoMore s u = (q : ℕ) → IsThere (processor_at u q).handler → IsThere (processor_at s q).handler

  no_more : (s u : KernelState) → SameHandlers s u → RunsNoMore s u
  no_more s u h q r = subst (λ (o : Option Handler). IsThere o) (h q) r

  caused-kept : (s : KernelState) (cs : Contexts (Held C)) (own : Line) (g : Progress) → AreKeptTasks cs
      → AreKeptOn cs s
      → BeginsNone own → AllByRecursion BeginsNone g.lines → RunsNoMore s g.state
      → LeavesKept (Did (finished sys M cs (own ∷ []) g))
  caused-kept s cs own g tasks on first rest more =
      finished-kept cs (own ∷ []) g tasks
      (λ p within running. kept-all_on cs p (own ∷ g.lines) (first, rest) (on p (inside p within) (more p running)))
    where
      inside : (p : ℕ) → p < length (contexts_after_all sys M cs (own ∷ g.lines)).handlers → p < length cs.handlers
      inside p within = let a = places-all cs (own ∷ g.lines) in omega (arith, within, a)

  answered-kept : (answer : Answer) (s : KernelState) (cs : Contexts (Held C)) (p : ℕ) (who : Caller) (made : Call)
      (g : Progress)
      → AreKeptTasks cs → AreKeptOn cs s → AllByRecursion BeginsNone g.lines → RunsNoMore s g.state
      → LeavesKept (answered answer sys M cs p who made g)
  answered-kept (Replies reply) s cs p who made g tasks on rest more =
      caused-kept s cs (line.Call p who made (Some reply)) g tasks on tt rest more
  answered-kept Waits s cs p who made g tasks on rest more =
      caused-kept s cs (line.Call p who made None) g tasks on tt rest more
  answered-kept Ends s cs p who made g tasks on rest more = caused-kept s cs (line.End p who) g tasks on tt rest more
  answered-kept Spins s cs p who made g tasks on rest more = tt

  -- where the context of a caller is another one
  with-tasks : (cs : Contexts (Held C)) (p : ℕ) (who : Caller) (c : Held C) → AreKeptTasks cs
      → AreKeptTasks (with_context cs p who (Some c))
  with-tasks cs p (caller.Task t) c h u l = set_at None OnTask cs.tasks t (Some c) u (λ e. tt) (h u l)
  with-tasks cs p (caller.Handler i) c h u l = h u l

  with-on : (s : KernelState) (cs : Contexts (Held C)) (p : ℕ) (who : Caller) (c : Held C) → AreKeptOn cs s
      → AreKeptOn (with_context cs p who (Some c)) s
  with-on s cs p (caller.Task t) c h q l running = h q l running
  with-on s cs p (caller.Handler i) c h q l running =
      let same = length-set cs.handlers p (context_for (body_in (context_at cs.handlers p)) (Some c)) in
      set_at None OnHandler cs.handlers p _ q (λ e. tt) (h q (omega (arith, l, same)) running)

  called-kept : (w : World C) (p : ℕ) (who : Caller) (c : Held C) (made : Call) → IsActor sys w.state p who
      → Holds w.state
      → AreKept sys w → LeavesKept (call_made sys M (with_context w.contexts p who (Some c)) p who made
      (called sys w.state p who made))
  called-kept w p (caller.Task me) c made i a k =
      let o = called sys w.state p (caller.Task me) made in
      let f = keeps-task_call sys w.state p me made in
      answered-kept o.answer w.state (with_context w.contexts p (caller.Task me) (Some c)) p
      (caller.Task me) made o.progress
      (with-tasks w.contexts p (caller.Task me) c k.tasks) (with-on w.state w.contexts p (caller.Task me) c k.handlers)
      (all-map (IsOwn w.state p) BeginsNone o.progress.lines (own-begins_none w.state p) (f.lines i a))
      (no_more w.state o.progress.state f.handlers)
  called-kept w p (caller.Handler j) c made i a k =
      let o = called sys w.state p (caller.Handler j) made in
      let f = keeps-handler_call sys w.state p j made in
      answered-kept o.answer w.state (with_context w.contexts p (caller.Handler j) (Some c)) p
      (caller.Handler j) made o.progress
      (with-tasks w.contexts p (caller.Handler j) c k.tasks) (with-on w.state w.contexts p
      (caller.Handler j) c k.handlers)
      (all-map (IsOwn w.state p) BeginsNone o.progress.lines (own-begins_none w.state p) (f.lines tt a))
      (no_more w.state o.progress.state f.handlers)

  ended-kept : (w : World C) (p : ℕ) (who : Caller) (own : Line) → BeginsNone own → IsActor sys w.state p who
      → Holds w.state
      → AreKept sys w → LeavesKept (Did (ended_with sys M w p who own))
  ended-kept w p (caller.Task t) own n i a k =
      let x = task_at w.state.tasks t in
      let g = actor_ended sys w.state p (caller.Task t) in
      caused-kept w.state (contexts_ended sys M w.contexts p (caller.Task t)) own g
      (with-tasks w.contexts p (caller.Task t) (Goes (M.start (task_body sys t) (task_config sys t).exinf)) k.tasks)
      k.handlers n
      (all-map (IsOwn w.state p) BeginsNone g.lines (own-begins_none w.state p)
      (lines-ended_itself sys w.state p t x i.runs a))
      (no_more w.state g.state (handlers-ended_itself sys w.state p t x))
  ended-kept w p (caller.Handler j) own n i a k =
      caused-kept (handler_ended w.state p) (contexts_ended sys M w.contexts p (caller.Handler j)) own
      (actor_ended sys w.state p (caller.Handler j)) k.tasks on n tt (λ q r. r) where
        on : AreKeptOn (contexts_ended sys M w.contexts p (caller.Handler j)) (handler_ended w.state p)
        on q l =
            let same = length-set w.contexts.handlers p None in
            set_over idle
            (λ (c : Processor). IsThere c.handler → IsKeptOn (contexts_ended sys M w.contexts p (caller.Handler j)) q)
            w.state.processors p _ q (λ r. absurd r) (λ e r. absurd r)
            (λ m r. subst OnHandler (sym (set_other None w.contexts.handlers p None q m))
            (k.handlers q (omega (arith, l, same)) r))

  stretched-kept : (w : World C) (p : ℕ) (who : Caller) (x : Ending C) → IsActor sys w.state p who → Holds w.state
      → AreKept sys w → LeavesKept (stretched sys M w p who x)
  stretched-kept w p who (ends.Call c made) i a k = called-kept w p who (Awaits c) made i a k
  stretched-kept w p who (ends.End c) i a k = ended-kept w p who (line.End p who) tt i a k
  stretched-kept w p who (ends.Fault c fault) i a k = ended-kept w p who (line.Fault p who fault) tt i a k
  stretched-kept w p who (ends.Over None) i a k = tt
  stretched-kept w p who (ends.Over (Some c)) i a k =
      record {
        tasks = with-tasks w.contexts p who (Goes c) k.tasks;
        handlers = with-on w.state w.contexts p who (Goes c) k.handlers;
      }

  run_in-kept : (n : ℕ) (w : World C) (p : ℕ) (who : Caller) (o : Option (Held C)) → IsActor sys w.state p who
      → Holds w.state
      → AreKept sys w → LeavesKept (run_in sys M n w p who o)
  run_in-kept n w p who None i a k = tt
  run_in-kept n w p who (Some (Awaits c)) i a k = tt
  run_in-kept n w p who (Some (Goes c)) i a k = stretched-kept w p who _ i a k

  run_by-kept : (n : ℕ) (w : World C) (p : ℕ) (i : Option Handler) (t : Option ℕ) → IsSettled sys w.state
      → (processor_at w.state p).handler ≡ i → (processor_at w.state p).run ≡ t → AreKept sys w
      → LeavesKept (run_by sys M n w p (actor_by i t))
  run_by-kept n w p (Some i) t h e r k =
      run_in-kept n w p (caller.Handler i) (context_of w.contexts p (caller.Handler i)) tt (holds sys w.state h) k
  run_by-kept n w p None (Some t) h e r k =
      run_in-kept n w p (caller.Task t) (context_of w.contexts p (caller.Task t)) (acts sys w.state p t h e r)
      (holds sys w.state h) k
  run_by-kept n w p None None h e r k = tt

  applied_in-kept : (w : World C) (p : ℕ) (who : Caller) (o : Option (Held C)) (x : Ending C)
      → IsActor sys w.state p who
      → Holds w.state → AreKept sys w → LeavesKept (applied_in sys M w p who o x)
  applied_in-kept w p who None x i a k = tt
  applied_in-kept w p who (Some (Awaits c)) x i a k = tt
  applied_in-kept w p who (Some (Goes c)) x i a k = stretched-kept w p who x i a k

  applied_by-kept : (w : World C) (p : ℕ) (i : Option Handler) (t : Option ℕ) (x : Ending C) → IsSettled sys w.state
      → (processor_at w.state p).handler ≡ i → (processor_at w.state p).run ≡ t → AreKept sys w
      → LeavesKept (applied_by sys M w p (actor_by i t) x)
  applied_by-kept w p (Some i) t x h e r k =
      applied_in-kept w p (caller.Handler i) (context_of w.contexts p (caller.Handler i)) x tt (holds sys w.state h) k
  applied_by-kept w p None (Some t) x h e r k =
      applied_in-kept w p (caller.Task t) (context_of w.contexts p (caller.Task t)) x (acts sys w.state p t h e r)
      (holds sys w.state h) k
  applied_by-kept w p None None x h e r k = tt

  pub applied-kept : (w : World C) (p : ℕ) (x : Ending C) → IsSettled sys w.state → AreKept sys w
      → LeavesKept (applied_by sys M w p (actor_of (processor_at w.state p)) x)
  applied-kept w p x h k = applied_by-kept w p (processor_at w.state p).handler
      (processor_at w.state p).run x h refl refl k

  interrupted-kept : (o : Option InterruptConfig) (w : World C) (i : ℕ) → AreKept sys w
      → LeavesKept (interrupted o sys M w i)
  interrupted-kept None w i k = tt
  interrupted-kept (Some config) w i k = by_pending (is_pending w.state.pending_interrupts i) where
    by_pending : (pending : Bool) → LeavesKept (interrupted_by pending sys M w i)
    by_pending true = tt
    by_pending false =
        caused-kept w.state w.contexts (line.Int i) (unchanged (with_interrupt_pending w.state i)) k.tasks k.handlers
        tt tt
        (λ q r. r)

  pub step-kept : (n : ℕ) (w : World C) (e : Event) → IsSettled sys w.state → AreKept sys w
      → LeavesKept (step sys M n w e)
  step-kept n w (Run zero) h k = tt
  step-kept n w (Run (suc p)) h k =
      run_by-kept n w p (processor_at w.state p).handler (processor_at w.state p).run h refl refl k
  step-kept n w Tick h k =
      let g = ticked sys w.state in
      caused-kept w.state w.contexts (line.Tick (w.state.clock + 1)) g k.tasks k.handlers tt
      (all-map (IsOwn w.state 0) BeginsNone g.lines (own-begins_none w.state 0) (lines-ticked sys w.state 0))
      (no_more w.state g.state (handlers-same w.state g.state (actors-ticked sys w.state)))
  step-kept n w (Int zero) h k = tt
  step-kept n w (Int (suc i)) h k = interrupted-kept (interrupt_config sys i) w i k

  -- setup

  first-kept : (cs : List TaskConfig) (t : ℕ) → t < length cs
      → OnTask (context_at (map (λ c. Some (Goes (M.start (body_of c.entry) c.exinf))) cs) t)
  first-kept [] t l = absurd (omega (arith, l))
  first-kept (c ∷ cs) zero l = tt
  first-kept (c ∷ cs) (suc t) l = first-kept cs t (omega (arith, l))

  runs_none : (n p : ℕ) → IsThere (found idle (slice_get (replicate n idle) p)).handler → ⊥
  runs_none zero p r = r
  runs_none (suc n) zero r = r
  runs_none (suc n) (suc p) r = runs_none n p r

  started-processors : (b : Bool) (g : Progress) (t : ℕ) → (started_if b sys g t).state.processors ≡ g.state.processors
  started-processors true g t = refl
  started-processors false g t = refl

  all_started-processors : (g : Progress) (ts : List ℕ) → (all_started sys g ts).state.processors ≡ g.state.processors
  all_started-processors g [] = refl
  all_started-processors g (t ∷ ts) =
      let b = (task_config sys t).activated in
      all_started-processors (started_if b sys g t) ts ∙ started-processors b g t

  pub setup-kept : HasFew (setup sys M).world.state → AreKept sys (setup sys M).world
  setup-kept =
      let g = all_started sys (unchanged (created_state sys)) (places_from 0 (length sys.tasks)) in
      let same = all_started-processors (unchanged (created_state sys)) (places_from 0 (length sys.tasks)) in
      finished-kept (first_contexts sys M) [] g (first-kept sys.tasks)
      (λ p within running. absurd (runs_none sys.processors p
      (subst (λ (cpus : List Processor). IsThere (found idle (slice_get cpus p)).handler) same running)))
