-- An actor goes on from its context through every event that does not run it.
use Rattle.std.proofs.Common.{◌≡◌, ℕ, zero, suc, ◌+◌, List, [], ◌∷◌, ◌++◌, Option, Some, None, Bool, true, false, ◌||◌}
use Rattle.std.proofs.Common.{length, refl, sym, subst, ap, ◌∙◌, arith, if◌then◌else◌}
use Rattle.std.specs.List.{AllByRecursion}
use Rattle.fmp_base.specs.declared.bodies.HandlerContext.{HandlerContext}
use Rattle.fmp_base.specs.declared.bodies.Held.{Held}
use Rattle.fmp_base.specs.declared.bodies.Held.TheVariants.{Goes, Awaits}
use Rattle.fmp_base.specs.declared.calls.Answer.{Answer}
use Rattle.fmp_base.specs.declared.calls.Answer.TheVariants.{Replies, Waits, Ends, Spins}
use Rattle.fmp_base.specs.declared.calls.Call.{Call}
use Rattle.fmp_base.specs.declared.calls.Reply.{Reply}
use Rattle.fmp_base.specs.declared.events.Event.{Event}
use Rattle.fmp_base.specs.declared.events.Event.TheVariants.{Run, Tick, Int}
use Rattle.fmp_base.specs.declared.events.Line.{Line}
use Rattle.fmp_base.specs.declared.events.Line.TheVariants as line
use Rattle.fmp_base.specs.declared.states.Caller.{Caller}
use Rattle.fmp_base.specs.declared.states.Caller.TheVariants as caller
use Rattle.fmp_base.specs.declared.states.Handler.{Handler}
use Rattle.fmp_base.specs.declared.states.Handler.TheVariants as handler
use Rattle.fmp_base.specs.declared.states.Processor.{Processor}
use Rattle.fmp_base.specs.declared.systems.InterruptConfig.{InterruptConfig}
use Rattle.fmp_base.specs.Calls.{called}
use Rattle.fmp_base.specs.Meanings.{Meaning, Contexts, World, task_body, context_at, context_in, body_in, context_of}
use Rattle.fmp_base.specs.Meanings.{context_for, with_context, told, delivered_to, contexts_after, contexts_after_all}
use Rattle.fmp_base.specs.ProcessorCalls.{is_cpu_locked}
use Rattle.fmp_base.specs.Queues.{top}
use Rattle.fmp_base.specs.Settles.{begun, dispatched, dispatch_lines, is_same_task, runs_handler, is_dispatch_held}
use Rattle.fmp_base.specs.Settles.{handler_to_begin, pending_handler, settled_with, settled_on, all_settled, settled}
use Rattle.fmp_base.specs.States.{KernelState, Progress, unchanged, task_at, processor_at, idle, places_from}
use Rattle.fmp_base.specs.Steps.{Reaction, Nothing, Did, Kept, finished, actor_by, actor_ended, contexts_ended}
use Rattle.fmp_base.specs.Steps.{ended_with, answered, stretched, run_in, run_by, interrupted, interrupted_by, step}
use Rattle.fmp_base.specs.Stretches.{Ending}
use Rattle.fmp_base.specs.Stretches as ends
use Rattle.fmp_base.specs.Systems.{SystemTables, interrupt_config, task_config}
use Rattle.fmp_base.specs.Ticks.{ticked, is_pending, with_interrupt_pending}
use Rattle.fmp_worlds.specs.Settled.{IsSettled}
use Rattle.fmp_worlds.specs.Stamps.{run_place}
use Rattle.fmp_worlds.proofs.Assigned.{set_at, set_other, run-once, Runs, Holds}
use Rattle.fmp_worlds.proofs.CalledLemmas.{keeps-task_call, keeps-handler_call}
use Rattle.fmp_worlds.proofs.Changes.{actors-ended_itself, lines-ended_itself}
use Rattle.fmp_worlds.proofs.Lines.{IsOwn, all-snoc, all-append, all-map}
use Rattle.fmp_worlds.proofs.StepLemmas.{IsActor, acts, holds}
use Rattle.fmp_worlds.proofs.TickLemmas.{actors-ticked, lines-ticked}

-- a handler of this body goes on from this context
pub record GoesIn {C : Type 0} (o : Option (HandlerContext (Held C))) (b : ℕ) (c : C) : Type 0 where
  pub is : HandlerContext (Held C)
  pub there : o ≡ Some is
  pub body : is.body ≡ b
  pub context : is.context ≡ Goes c

-- the caller on p goes on in body b from context c
abbrev pub IsGoing : {C : Type 0} → SystemTables → Contexts (Held C) → ℕ → Caller → ℕ → C → Type 0
IsGoing sys cs p (caller.Task t) b c = (task_body sys t ≡ b) × (context_at cs.tasks t ≡ Some (Goes c))
IsGoing sys cs p (caller.Handler h) b c = GoesIn (context_at cs.handlers p) b c

-- a line begins nothing of the actor of p
abbrev pub Spares : ℕ → Caller → Line → Type 0
Spares p (caller.Task t) (line.Starts q u) = u ≡ t → ⊥
Spares p (caller.Handler h) (line.Begins q i) = q ≡ p → ⊥
Spares p who l = Unit {0}

-- who is the actor of p
abbrev pub ActsOn : ℕ → Caller → KernelState → Type 0
ActsOn p (caller.Task t) s = Runs s.processors p t
ActsOn p (caller.Handler h) s = (processor_at s p).handler ≡ Some h

-- a handler of p goes on running
abbrev Stays : ℕ → Caller → KernelState → Type 0
Stays p (caller.Task t) s = Unit {0}
Stays p (caller.Handler h) s = (processor_at s p).handler ≡ Some h

-- contexts through lines

told-goes : {C : Type 0} (M : Meaning C) (b : ℕ) (reply : Reply) (o : Option (Held C)) (c : C) → o ≡ Some (Goes c)
    → told M b reply o ≡ Some (Goes c)
told-goes {C} M b reply o c e = ap (λ (x : Option (Held C)). told M b reply x) e

told-in : {C : Type 0} (M : Meaning C) (entry : ℕ) (reply : Reply) (o : Option (HandlerContext (Held C))) (b : ℕ)
    (c : C)
    → GoesIn o b c → GoesIn (context_for (body_in o) (told M entry reply (context_in o))) b c
told-in M entry reply None b c h = let e = h.there in absurd (cc)
told-in {C} M entry reply (Some x) b c h =
    let e = h.there in
    let same : x ≡ h.is = cc in
    let goes : Some x.context ≡ Some (Goes c) = ap (λ (y : HandlerContext (Held C)). Some y.context) same
    ∙ ap (λ (y : Held C). Some y) h.context in
    record {
      is = record { body = x.body; context = Goes c };
      there = ap (λ (y : Option (Held C)). context_for x.body y) (told-goes M entry reply (Some x.context) c goes);
      body = ap (λ (y : HandlerContext (Held C)). y.body) same ∙ h.body;
      context = refl;
    }

delivered-task : {C : Type 0} (sys : SystemTables) (M : Meaning C) (cs : Contexts (Held C)) (q : ℕ) (who : Caller)
    (reply : Reply) (t : ℕ) (c : C)
    → context_at cs.tasks t ≡ Some (Goes c) → context_at (delivered_to sys M cs q who reply).tasks t ≡ Some (Goes c)
delivered-task {C} sys M cs q (caller.Task u) reply t c h =
    set_at None (λ (o : Option (Held C)). o ≡ Some (Goes c)) cs.tasks u _ t
    (λ e. told-goes M (task_body sys u) reply (context_at cs.tasks u) c
    (subst (λ (v : ℕ). context_at cs.tasks v ≡ Some (Goes c)) (sym e) h)) h
delivered-task sys M cs q (caller.Handler i) reply t c h = h

delivered-handler : {C : Type 0} (sys : SystemTables) (M : Meaning C) (cs : Contexts (Held C)) (q : ℕ) (who : Caller)
    (reply : Reply) (p b : ℕ) (c : C)
    → GoesIn (context_at cs.handlers p) b c → GoesIn (context_at (delivered_to sys M cs q who reply).handlers p) b c
delivered-handler sys M cs q (caller.Task u) reply p b c h = h
delivered-handler {C} sys M cs q (caller.Handler i) reply p b c h =
    set_at None (λ (o : Option (HandlerContext (Held C))). GoesIn o b c) cs.handlers q _ p
    (λ e. told-in M _ reply (context_at cs.handlers q) b c (subst (λ (v : ℕ). GoesIn (context_at cs.handlers v) b c)
    (sym e) h)) h

after-task : {C : Type 0} (sys : SystemTables) (M : Meaning C) (cs : Contexts (Held C)) (p t : ℕ) (c : C) (l : Line)
    → Spares p (caller.Task t) l
    → context_at cs.tasks t ≡ Some (Goes c) → context_at (contexts_after sys M cs l).tasks t ≡ Some (Goes c)
after-task {C} sys M cs p t c (line.Starts q u) s h =
    set_at None (λ (o : Option (Held C)). o ≡ Some (Goes c)) cs.tasks u _ t (λ e. absurd (s e)) h
after-task sys M cs p t c (line.Gets q u reply) s h = delivered-task sys M cs q (caller.Task u) reply t c h
after-task sys M cs p t c (line.Begins q i) s h = h
after-task sys M cs p t c (line.Call q who made None) s h = h
after-task sys M cs p t c (line.Call q who made (Some reply)) s h = delivered-task sys M cs q who reply t c h
after-task sys M cs p t c (line.Tick now) s h = h
after-task sys M cs p t c (line.Int i) s h = h
after-task sys M cs p t c (line.End q who) s h = h
after-task sys M cs p t c (line.Fault q who fault) s h = h
after-task sys M cs p t c (line.Pends q i) s h = h
after-task sys M cs p t c (line.Runs q u) s h = h

after-handler : {C : Type 0} (sys : SystemTables) (M : Meaning C) (cs : Contexts (Held C)) (p : ℕ) (i : Handler)
    (b : ℕ) (c : C) (l : Line)
    → Spares p (caller.Handler i) l → GoesIn (context_at cs.handlers p) b c
    → GoesIn (context_at (contexts_after sys M cs l).handlers p) b c
after-handler {C} sys M cs p i b c (line.Begins q j) s h =
    set_at None (λ (o : Option (HandlerContext (Held C))). GoesIn o b c) cs.handlers q _ p (λ e. absurd (s e)) h
after-handler sys M cs p i b c (line.Gets q u reply) s h = delivered-handler sys M cs q (caller.Task u) reply p b c h
after-handler sys M cs p i b c (line.Starts q u) s h = h
after-handler sys M cs p i b c (line.Call q who made None) s h = h
after-handler sys M cs p i b c (line.Call q who made (Some reply)) s h =
    delivered-handler sys M cs q who reply p b c h
after-handler sys M cs p i b c (line.Tick now) s h = h
after-handler sys M cs p i b c (line.Int j) s h = h
after-handler sys M cs p i b c (line.End q who) s h = h
after-handler sys M cs p i b c (line.Fault q who fault) s h = h
after-handler sys M cs p i b c (line.Pends q j) s h = h
after-handler sys M cs p i b c (line.Runs q u) s h = h

after-line : {C : Type 0} (sys : SystemTables) (M : Meaning C) (cs : Contexts (Held C)) (p : ℕ) (who : Caller) (b : ℕ)
    (c : C) (l : Line) → Spares p who l
    → IsGoing sys cs p who b c → IsGoing sys (contexts_after sys M cs l) p who b c
after-line sys M cs p (caller.Task t) b c l s h = (h.0, after-task sys M cs p t c l s h.1)
after-line sys M cs p (caller.Handler i) b c l s h = after-handler sys M cs p i b c l s h

after-lines : {C : Type 0} (sys : SystemTables) (M : Meaning C) (cs : Contexts (Held C)) (p : ℕ) (who : Caller)
    (b : ℕ) (c : C) (ls : List Line)
    → AllByRecursion (Spares p who) ls → IsGoing sys cs p who b c
    → IsGoing sys (contexts_after_all sys M cs ls) p who b c
after-lines sys M cs p who b c [] s h = h
after-lines sys M cs p who b c (l ∷ ls) s h =
    after-lines sys M (contexts_after sys M cs l) p who b c ls s.1 (after-line sys M cs p who b c l s.0 h)

-- the lines of settling

record Spared (p : ℕ) (who : Caller) (g : Progress) : Type 0 where
  lines : AllByRecursion (Spares p who) g.lines
  stays : Stays p who g.state

none_runs : (o : Option Handler) (locked : Bool) (pending : Option Handler) (h : Handler)
    → (if runs_handler o || locked then None else pending) ≡ Some h → o ≡ None
none_runs None locked pending h e = refl
none_runs (Some i) locked pending h e = cc

spared-begun : (p : ℕ) (who : Caller) (g : Progress) (q : ℕ) (h : Handler) → (processor_at g.state q).handler ≡ None
    → Spared p who g → Spared p who (begun g q (processor_at g.state q) h)
spared-begun p (caller.Task t) g q h e s =
    record { lines = all-snoc (Spares p (caller.Task t)) g.lines _ s.lines tt; stays = tt }
spared-begun p (caller.Handler i) g q h e s = by_kind h where
  apart : q ≡ p → ⊥
  apart same =
      let runs : (processor_at g.state q).handler ≡ Some i = subst (λ (v : ℕ). (processor_at g.state v).handler
      ≡ Some i) (sym same) s.stays in
      cc

  by_kind : (h : Handler) → Spared p (caller.Handler i) (begun g q (processor_at g.state q) h)
  by_kind (handler.Interrupt j) =
      record {
        lines = all-snoc (Spares p (caller.Handler i)) g.lines _ s.lines apart;
        stays =
            set_at idle (λ (c : Processor). c.handler ≡ Some i) g.state.processors q _ p
            (λ same. absurd (apart same)) s.stays;
      }
  by_kind (handler.Cyclic j) =
      record {
        lines = all-snoc (Spares p (caller.Handler i)) g.lines _ s.lines apart;
        stays =
            set_at idle (λ (c : Processor). c.handler ≡ Some i) g.state.processors q _ p
            (λ same. absurd (apart same)) s.stays;
      }

dispatch-spares : (same : Bool) (p : ℕ) (who : Caller) (q : ℕ) (t : Option ℕ)
    → AllByRecursion (Spares p who) (dispatch_lines same q t)
dispatch-spares true p who q t = tt
dispatch-spares false p (caller.Task u) q t = (tt, tt)
dispatch-spares false p (caller.Handler i) q t = (tt, tt)

spared-dispatched : (p : ℕ) (who : Caller) (g : Progress) (q : ℕ) (t : Option ℕ) → Spared p who g
    → Spared p who (dispatched g q (processor_at g.state q) t)
spared-dispatched p who g q t s =
    record {
      lines = all-append (Spares p who) g.lines _ s.lines (dispatch-spares
          (is_same_task (processor_at g.state q).run t) p who q t);
      stays = by_kind who s.stays;
    } where
      by_kind : (who : Caller) → Stays p who g.state → Stays p who (dispatched g q (processor_at g.state q) t).state
      by_kind (caller.Task u) h = tt
      by_kind (caller.Handler i) h =
          set_at idle (λ (c : Processor). c.handler ≡ Some i) g.state.processors q _ p
          (λ same. subst (λ (v : ℕ). (processor_at g.state v).handler ≡ Some i) (sym same) h) h

spared-none : (held : Bool) (p : ℕ) (who : Caller) (g : Progress) (q : ℕ) → Spared p who g
    → Spared p who (if held then g else dispatched g q (processor_at g.state q) (top g.state q))
spared-none true p who g q s = s
spared-none false p who g q s = spared-dispatched p who g q (top g.state q) s

spared-with : (o : Option Handler) (sys : SystemTables) (p : ℕ) (who : Caller) (g : Progress) (q : ℕ)
    → handler_to_begin sys g.state q (processor_at g.state q) ≡ o → Spared p who g
    → Spared p who (settled_with o g q (processor_at g.state q))
spared-with None sys p who g q e s = spared-none (is_dispatch_held (processor_at g.state q)) p who g q s
spared-with (Some h) sys p who g q e s =
    spared-begun p who g q h (none_runs (processor_at g.state q).handler (is_cpu_locked (processor_at g.state q))
    (pending_handler sys g.state q) h e) s

spared-all : (sys : SystemTables) (p : ℕ) (who : Caller) (g : Progress) (qs : List ℕ) → Spared p who g
    → Spared p who (all_settled sys g qs)
spared-all sys p who g [] s = s
spared-all sys p who g (q ∷ qs) s =
    let next = settled_on sys g q (processor_at g.state q) in
    spared-all sys p who next qs (spared-with (handler_to_begin sys g.state q (processor_at g.state q)) sys p who g q
    refl s)

-- events

-- a line of another processor's call
spare : (s : KernelState) (own p : ℕ) (who : Caller) → (own ≡ p → ⊥) → ActsOn p who s → (l : Line) → IsOwn s own l
    → Spares p who l
spare s own p (caller.Task t) n a (line.Starts q u) h =
    λ e. n (h p (subst (λ (v : ℕ). Runs s.processors p v) (sym e) a))
spare s own p (caller.Task t) n a (line.Begins q i) h = absurd h
spare s own p (caller.Task t) n a (line.Call q who made reply) h = tt
spare s own p (caller.Task t) n a (line.Gets q u reply) h = tt
spare s own p (caller.Task t) n a (line.Tick now) h = tt
spare s own p (caller.Task t) n a (line.Int i) h = tt
spare s own p (caller.Task t) n a (line.End q who) h = tt
spare s own p (caller.Task t) n a (line.Fault q who fault) h = tt
spare s own p (caller.Task t) n a (line.Pends q i) h = tt
spare s own p (caller.Task t) n a (line.Runs q u) h = tt
spare s own p (caller.Handler i) n a (line.Begins q j) h = absurd h
spare s own p (caller.Handler i) n a (line.Starts q u) h = tt
spare s own p (caller.Handler i) n a (line.Call q who made reply) h = tt
spare s own p (caller.Handler i) n a (line.Gets q u reply) h = tt
spare s own p (caller.Handler i) n a (line.Tick now) h = tt
spare s own p (caller.Handler i) n a (line.Int j) h = tt
spare s own p (caller.Handler i) n a (line.End q who) h = tt
spare s own p (caller.Handler i) n a (line.Fault q who fault) h = tt
spare s own p (caller.Handler i) n a (line.Pends q j) h = tt
spare s own p (caller.Handler i) n a (line.Runs q u) h = tt

-- what is kept of another caller changes
apart-context : {C : Type 0} (sys : SystemTables) (cs : Contexts (Held C)) (p q : ℕ) (who other : Caller) (b : ℕ)
    (c : C) (y : Option (Held C))
    → (q ≡ p → ⊥) → ((t : ℕ) → who ≡ caller.Task t → other ≡ caller.Task t → ⊥) → IsGoing sys cs p who b c
    → IsGoing sys (with_context cs q other y) p who b c
apart-context sys cs p q (caller.Task t) (caller.Task u) b c y n m h =
    (h.0, set_other None cs.tasks u y t (λ e. m t refl (ap (λ (v : ℕ). caller.Task v) e)) ∙ h.1)
apart-context sys cs p q (caller.Task t) (caller.Handler i) b c y n m h = h
apart-context sys cs p q (caller.Handler i) (caller.Task u) b c y n m h = h
apart-context {C} sys cs p q (caller.Handler i) (caller.Handler j) b c y n m h =
    subst (λ (o : Option (HandlerContext (Held C))). GoesIn o b c) (sym (set_other None cs.handlers q _ p n)) h

-- what an event does leaves the actor where it goes on
abbrev pub LeavesGoing : {C : Type 0} → SystemTables → ℕ → Caller → ℕ → C → Reaction C → Type 0
LeavesGoing sys p who b c Nothing = Unit {0}
LeavesGoing sys p who b c (Did d) = IsGoing sys d.world.contexts p who b c
LeavesGoing sys p who b c (Kept q v) = IsGoing sys v.contexts p who b c

module _ {C : Type 0} (sys : SystemTables) (M : Meaning C) (p : ℕ) (who : Caller) (b : ℕ) (c : C) where
  stays : (s u : KernelState) → (processor_at u p).handler ≡ (processor_at s p).handler → ActsOn p who s → Stays p who u
  stays s u e a = by_kind who a where
    by_kind : (who : Caller) → ActsOn p who s → Stays p who u
    by_kind (caller.Task t) a = tt
    by_kind (caller.Handler i) a = e ∙ a

  finished-going : (cs : Contexts (Held C)) (own : List Line) (g : Progress) → AllByRecursion (Spares p who) own
      → AllByRecursion (Spares p who) g.lines → Stays p who g.state → IsGoing sys cs p who b c
      → LeavesGoing sys p who b c (Did (finished sys M cs own g))
  finished-going cs own g first rest h k =
      let h2 = spared-all sys p who (record g { lines = own ++ g.lines }) (places_from 0 (length g.state.processors))
      (record { lines = all-append (Spares p who) own g.lines first rest; stays = h }) in
      after-lines sys M cs p who b c (settled sys (record g { lines = own ++ g.lines })).lines h2.lines k

  one : (l : Line) → Spares p who l → AllByRecursion (Spares p who) (l ∷ [])
  one l h = (h, tt)

  spares-call : (q : ℕ) (other : Caller) (made : Call) (reply : Option Reply)
      → Spares p who (line.Call q other made reply)
  spares-call q other made reply = by_kind who where
    by_kind : (who : Caller) → Spares p who (line.Call q other made reply)
    by_kind (caller.Task t) = tt
    by_kind (caller.Handler i) = tt

  spares-end : (q : ℕ) (other : Caller) → Spares p who (line.End q other)
  spares-end q other = by_kind who where
    by_kind : (who : Caller) → Spares p who (line.End q other)
    by_kind (caller.Task t) = tt
    by_kind (caller.Handler i) = tt

  answered-going : (answer : Answer) (cs : Contexts (Held C)) (q : ℕ) (other : Caller) (made : Call) (g : Progress)
      → AllByRecursion (Spares p who) g.lines → Stays p who g.state → IsGoing sys cs p who b c
      → LeavesGoing sys p who b c (answered answer sys M cs q other made g)
  answered-going (Replies reply) cs q other made g rest h k =
      finished-going cs (line.Call q other made (Some reply) ∷ []) g (one _ (spares-call q other made (Some reply)))
      rest h k
  answered-going Waits cs q other made g rest h k =
      finished-going cs (line.Call q other made None ∷ []) g (one _ (spares-call q other made None)) rest h k
  answered-going Ends cs q other made g rest h k =
      finished-going cs (line.End q other ∷ []) g (one _ (spares-end q other)) rest h k
  answered-going Spins cs q other made g rest h k = tt

  -- another processor's actor is another one
  apart : (s : KernelState) (q : ℕ) (other : Caller) → (q ≡ p → ⊥) → IsActor sys s q other → Holds s → ActsOn p who s
      → (t : ℕ) → who ≡ caller.Task t → other ≡ caller.Task t → ⊥
  apart s q other n i a k t e f =
      let runs : Runs s.processors p t = subst (λ (v : Caller). ActsOn p v s) e k in
      let acts = subst (λ (v : Caller). IsActor sys s q v) f i in
      n (run-once s.tasks s.processors t q p a acts.runs runs)

  called-going : (w : World C) (q : ℕ) (other : Caller) (d : C) (made : Call) → (q ≡ p → ⊥)
      → IsActor sys w.state q other → Holds w.state
      → ActsOn p who w.state → IsGoing sys w.contexts p who b c
      → LeavesGoing sys p who b c (stretched sys M w q other (ends.Call d made))
  called-going w q (caller.Task t) d made n i a k h =
      let o = called sys w.state q (caller.Task t) made in
      let f = keeps-task_call sys w.state q t made in
      answered-going o.answer _ q (caller.Task t) made o.progress (all-map (IsOwn w.state q)
      (Spares p who) o.progress.lines (spare w.state q p who n k) (f.lines i a))
      (stays w.state o.progress.state (ap (λ (x : Option Handler × Option ℕ). x.0) (f.actors p n)) k)
      (apart-context sys w.contexts p q who (caller.Task t) b c (Some (Awaits d)) n
      (apart w.state q (caller.Task t) n i a k) h)
  called-going w q (caller.Handler j) d made n i a k h =
      let o = called sys w.state q (caller.Handler j) made in
      let f = keeps-handler_call sys w.state q j made in
      answered-going o.answer _ q (caller.Handler j) made o.progress (all-map (IsOwn w.state q)
      (Spares p who) o.progress.lines (spare w.state q p who n k) (f.lines tt a))
      (stays w.state o.progress.state (ap (λ (x : Option Handler × Option ℕ). x.0) (f.actors p n)) k)
      (apart-context sys w.contexts p q who (caller.Handler j) b c (Some (Awaits d)) n
      (apart w.state q (caller.Handler j) n i a k) h)

  ended-going : (w : World C) (q : ℕ) (other : Caller) (own : Line) → Spares p who own → (q ≡ p → ⊥)
      → IsActor sys w.state q other → Holds w.state
      → ActsOn p who w.state → IsGoing sys w.contexts p who b c
      → LeavesGoing sys p who b c (Did (ended_with sys M w q other own))
  ended-going w q (caller.Task t) own first n i a k h =
      let x = task_at w.state.tasks t in
      let g = actor_ended sys w.state q (caller.Task t) in
      let fresh : Option (Held C) = Some (Goes (M.start (task_body sys t) (task_config sys t).exinf)) in
      finished-going (contexts_ended sys M w.contexts q (caller.Task t)) (own ∷ []) g (one own first)
      (all-map (IsOwn w.state q) (Spares p who) g.lines (spare w.state q p who n k)
      (lines-ended_itself sys w.state q t x i.runs a))
      (stays w.state g.state (ap (λ (x : Option Handler × Option ℕ). x.0) (actors-ended_itself sys w.state q t x p n))
      k)
      (apart-context sys w.contexts p q who (caller.Task t) b c fresh n (apart w.state q (caller.Task t) n i a k) h)
  ended-going w q (caller.Handler j) own first n i a k h =
      let g = actor_ended sys w.state q (caller.Handler j) in
      finished-going (contexts_ended sys M w.contexts q (caller.Handler j)) (own ∷ []) g (one own first) tt
      (stays w.state g.state (ap (λ (x : Processor). x.handler) (set_other idle w.state.processors q _ p n)) k)
      (apart-context sys w.contexts p q who (caller.Handler j) b c None n
      (apart w.state q (caller.Handler j) n i a k) h)

  stretched-going : (w : World C) (q : ℕ) (other : Caller) (x : Ending C) → (q ≡ p → ⊥) → IsActor sys w.state q other
      → Holds w.state
      → ActsOn p who w.state → IsGoing sys w.contexts p who b c
      → LeavesGoing sys p who b c (stretched sys M w q other x)
  stretched-going w q other (ends.Call d made) n i a k h = called-going w q other d made n i a k h
  stretched-going w q other (ends.End d) n i a k h =
      ended-going w q other (line.End q other) (spares-end q other) n i a k h
  stretched-going w q other (ends.Fault d fault) n i a k h =
      ended-going w q other (line.Fault q other fault) (by_kind who) n i a k h where
        by_kind : (who : Caller) → Spares p who (line.Fault q other fault)
        by_kind (caller.Task t) = tt
        by_kind (caller.Handler j) = tt
  stretched-going w q other (ends.Over None) n i a k h = tt
  stretched-going w q other (ends.Over (Some d)) n i a k h =
      apart-context sys w.contexts p q who other b c (Some (Goes d)) n (apart w.state q other n i a k) h

  run_in-going : (n : ℕ) (w : World C) (q : ℕ) (other : Caller) (o : Option (Held C)) → (q ≡ p → ⊥)
      → IsActor sys w.state q other → Holds w.state
      → ActsOn p who w.state → IsGoing sys w.contexts p who b c → LeavesGoing sys p who b c (run_in sys M n w q other o)
  run_in-going n w q other None m i a k h = tt
  run_in-going n w q other (Some (Awaits d)) m i a k h = tt
  run_in-going n w q other (Some (Goes d)) m i a k h = stretched-going w q other _ m i a k h

  run_by-going : (n : ℕ) (w : World C) (q : ℕ) (i : Option Handler) (t : Option ℕ) → (q ≡ p → ⊥) → IsSettled sys w.state
      → (processor_at w.state q).handler ≡ i → (processor_at w.state q).run ≡ t → ActsOn p who w.state
      → IsGoing sys w.contexts p who b c
      → LeavesGoing sys p who b c (run_by sys M n w q (actor_by i t))
  run_by-going n w q (Some i) t m s e r k h =
      run_in-going n w q (caller.Handler i) (context_of w.contexts q (caller.Handler i)) m tt (holds sys w.state s) k h
  run_by-going n w q None (Some t) m s e r k h =
      run_in-going n w q (caller.Task t) (context_of w.contexts q (caller.Task t)) m (acts sys w.state q t s e r)
      (holds sys w.state s) k h
  run_by-going n w q None None m s e r k h = tt

  interrupted-going : (o : Option InterruptConfig) (w : World C) (i : ℕ) → ActsOn p who w.state
      → IsGoing sys w.contexts p who b c → LeavesGoing sys p who b c (interrupted o sys M w i)
  interrupted-going None w i k h = tt
  interrupted-going (Some config) w i k h = by_pending (is_pending w.state.pending_interrupts i) where
    first : (who : Caller) → Spares p who (line.Int i)
    first (caller.Task t) = tt
    first (caller.Handler j) = tt

    by_pending : (pending : Bool) → LeavesGoing sys p who b c (interrupted_by pending sys M w i)
    by_pending true = tt
    by_pending false =
        finished-going w.contexts (line.Int i ∷ []) (unchanged (with_interrupt_pending w.state i))
        (one _ (first who)) tt
        (stays w.state (with_interrupt_pending w.state i) refl k) h

  ticked-going : (w : World C) → ActsOn p who w.state → IsGoing sys w.contexts p who b c
      → LeavesGoing sys p who b c (Did (finished sys M w.contexts (line.Tick (w.state.clock + 1) ∷ [])
      (ticked sys w.state)))
  ticked-going w k h =
      let g = ticked sys w.state in
      finished-going w.contexts (line.Tick (w.state.clock + 1) ∷ []) g (one _ (first who))
      (all-map (IsOwn w.state (suc p)) (Spares p who) g.lines (spare w.state (suc p) p who
      (λ e. absurd (omega (arith, e))) k) (lines-ticked sys w.state (suc p)))
      (stays w.state g.state (ap (λ (x : Option Handler × Option ℕ). x.0) (actors-ticked sys w.state p)) k) h where
        first : (who : Caller) → Spares p who (line.Tick (w.state.clock + 1))
        first (caller.Task t) = tt
        first (caller.Handler j) = tt

  -- an event that does not run p leaves its actor where it goes on
  pub step-going : (n : ℕ) (w : World C) (e : Event) → IsSettled sys w.state → (run_place e ≡ Some p → ⊥)
      → ActsOn p who w.state
      → IsGoing sys w.contexts p who b c → LeavesGoing sys p who b c (step sys M n w e)
  step-going n w (Run zero) s m k h = tt
  step-going n w (Run (suc q)) s m k h =
      run_by-going n w q (processor_at w.state q).handler (processor_at w.state q).run
      (λ e. m (ap (λ (v : ℕ). Some v) e)) s refl refl k h
  step-going n w Tick s m k h = ticked-going w k h
  step-going n w (Int zero) s m k h = tt
  step-going n w (Int (suc i)) s m k h = interrupted-going (interrupt_config sys i) w i k h
