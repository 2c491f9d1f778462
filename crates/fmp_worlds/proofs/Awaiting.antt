-- No actor awaits a reply: a task that is ready, and a handler, go on or have no context.
use Rattle.std.proofs.Common.{◌≡◌, ℕ, zero, suc, ◌+◌, ◌≤◌, List, [], ◌∷◌, ◌++◌, Option, Some, None, Bool, true, false}
use Rattle.std.proofs.Common.{◌⊎◌, inl, inr, nat_eq, length, map, replicate, refl, sym, subst, ap, ◌∙◌, arith}
use Rattle.std.proofs.Common.{append_assoc, if◌then◌else◌}
use Rattle.std.proofs.lemmas.Bool.{eqb-true}
use Rattle.std.proofs.lemmas.Bool.Decides.{nat_tests}
use Rattle.std.proofs.lemmas.List.{append-nil}
use Rattle.fmp_base.specs.declared.bodies.HandlerContext.{HandlerContext}
use Rattle.fmp_base.specs.declared.bodies.HandlerStart.{HandlerStart}
use Rattle.fmp_base.specs.declared.bodies.Held.{Held}
use Rattle.fmp_base.specs.declared.bodies.Held.TheVariants.{Goes, Awaits}
use Rattle.fmp_base.specs.declared.calls.Answer.{Answer}
use Rattle.fmp_base.specs.declared.calls.Answer.TheVariants.{Replies, Waits, Ends, Spins}
use Rattle.fmp_base.specs.declared.calls.Call.{Call}
use Rattle.fmp_base.specs.declared.calls.Reply.{Reply}
use Rattle.fmp_base.specs.declared.events.Event.{Event}
use Rattle.fmp_base.specs.declared.events.Event.TheVariants.{Run, Tick, Int}
use Rattle.fmp_base.specs.declared.events.Line.{Line}
use Rattle.fmp_base.specs.declared.events.Line.TheVariants as line
use Rattle.fmp_base.specs.declared.states.Caller.{Caller}
use Rattle.fmp_base.specs.declared.states.Caller.TheVariants as caller
use Rattle.fmp_base.specs.declared.states.Handler.{Handler}
use Rattle.fmp_base.specs.declared.states.Handler.TheVariants as handler
use Rattle.fmp_base.specs.declared.states.TaskBlock.{TaskBlock}
use Rattle.fmp_base.specs.declared.systems.InterruptConfig.{InterruptConfig}
use Rattle.fmp_base.specs.declared.systems.TaskConfig.{TaskConfig}
use Rattle.fmp_base.specs.Calls.{called}
use Rattle.fmp_base.specs.Meanings.{Meaning, Contexts, World, context_at, context_in, body_in, context_of, context_for}
use Rattle.fmp_base.specs.Meanings.{fresh_context, handler_start, told, delivered_to, contexts_after}
use Rattle.fmp_base.specs.Meanings.{contexts_after_all, with_context}
use Rattle.fmp_base.specs.Queues.{top}
use Rattle.fmp_base.specs.Runs.{Trace, run, run_on}
use Rattle.fmp_base.specs.Settles.{begun, dispatched, dispatch_lines, is_same_task, is_dispatch_held, handler_to_begin}
use Rattle.fmp_base.specs.Settles.{settled_with, settled_on, all_settled, settled}
use Rattle.fmp_base.specs.Setups.{setup, all_started, created_state, first_contexts}
use Rattle.fmp_base.specs.States.{KernelState, Progress, unchanged, task_at, processor_at, places_from}
use Rattle.fmp_base.specs.Steps.{Done, Reaction, Nothing, Did, Kept, actor_by, actor_ended, actor_of, contexts_ended}
use Rattle.fmp_base.specs.Steps.{ended_with, finished, answered, stretched, run_in, run_by, interrupted, interrupted_by}
use Rattle.fmp_base.specs.Steps.{step}
use Rattle.fmp_base.specs.Stretches.{Ending}
use Rattle.fmp_base.specs.Stretches as ends
use Rattle.fmp_base.specs.Systems.{SystemTables, body_of, interrupt_config}
use Rattle.fmp_base.specs.Ticks.{ticked, is_pending, with_interrupt_pending}
use Rattle.fmp_worlds.specs.Settled.{AwaitsNone, IsSettled, IsSettledWorld, IsWorldOf, NoneAwaits}
use Rattle.fmp_worlds.specs.Stamps.{applied_by, applied_in}
use Rattle.fmp_worlds.proofs.Assigned.{set_at, set_over, set_other}
use Rattle.fmp_worlds.proofs.CalledLemmas.{keeps-task_call, keeps-handler_call}
use Rattle.fmp_worlds.proofs.Kept.{LeavesKept, applied-kept, setup-kept, step-kept}
use Rattle.fmp_worlds.proofs.SettledLaws.{run-settled, setup-settled, step-settled, kept-settled}
use Rattle.fmp_worlds.proofs.StampLaws.{applied-leaves_settled}
use Rattle.fmp_worlds.proofs.StepLemmas.{LeavesSettled}
use Rattle.fmp_worlds.proofs.TickLemmas.{woken-ticked}
use Rattle.fmp_worlds.proofs.Told.{IsReady, IsTold, Tells, Woken, still, woken-ended_itself}

abbrev IsFree : {C : Type 0} → Contexts (Held C) → ℕ → Type 0
IsFree cs t = AwaitsNone (context_at cs.tasks t)

abbrev IsFreeOn : {C : Type 0} → Contexts (Held C) → ℕ → Type 0
IsFreeOn cs p = AwaitsNone (context_in (context_at cs.handlers p))

-- contexts through lines

told-free : {C : Type 0} (M : Meaning C) (b : ℕ) (reply : Reply) (o : Option (Held C)) → AwaitsNone (told M b reply o)
told-free M b reply None = tt
told-free M b reply (Some (Goes c)) = tt
told-free M b reply (Some (Awaits c)) = tt

for-free : {C : Type 0} (b : ℕ) (o : Option (Held C)) → AwaitsNone o → AwaitsNone (context_in (context_for b o))
for-free b None h = tt
for-free b (Some x) h = h

fresh-free : {C : Type 0} (M : Meaning C) (o : Option HandlerStart) → AwaitsNone (context_in (fresh_context M o))
fresh-free M None = tt
fresh-free M (Some h) = tt

module _ {C : Type 0} (sys : SystemTables) (M : Meaning C) where
  abbrev OnTask : Option (Held C) → Type 0
  OnTask o = AwaitsNone o

  abbrev OnHandler : Option (HandlerContext (Held C)) → Type 0
  OnHandler o = AwaitsNone (context_in o)

  free-delivered : (cs : Contexts (Held C)) (q : ℕ) (who : Caller) (reply : Reply) (t : ℕ) → IsFree cs t
      → IsFree (delivered_to sys M cs q who reply) t
  free-delivered cs q (caller.Task u) reply t h =
      set_at None OnTask cs.tasks u _ t (λ e. told-free M _ reply (context_at cs.tasks u)) h
  free-delivered cs q (caller.Handler i) reply t h = h

  free-delivered_on : (cs : Contexts (Held C)) (q : ℕ) (who : Caller) (reply : Reply) (p : ℕ) → IsFreeOn cs p
      → IsFreeOn (delivered_to sys M cs q who reply) p
  free-delivered_on cs q (caller.Task u) reply p h = h
  free-delivered_on cs q (caller.Handler i) reply p h =
      set_at None OnHandler cs.handlers q _ p
      (λ e. for-free (body_in (context_at cs.handlers q)) _ (told-free M _ reply
      (context_in (context_at cs.handlers q)))) h

  free-after : (cs : Contexts (Held C)) (t : ℕ) (l : Line) → IsFree cs t → IsFree (contexts_after sys M cs l) t
  free-after cs t (line.Starts q u) h = set_at None OnTask cs.tasks u _ t (λ e. tt) h
  free-after cs t (line.Gets q u reply) h = free-delivered cs q (caller.Task u) reply t h
  free-after cs t (line.Begins q i) h = h
  free-after cs t (line.Call q who made None) h = h
  free-after cs t (line.Call q who made (Some reply)) h = free-delivered cs q who reply t h
  free-after cs t (line.Tick now) h = h
  free-after cs t (line.Int i) h = h
  free-after cs t (line.End q who) h = h
  free-after cs t (line.Fault q who fault) h = h
  free-after cs t (line.Pends q i) h = h
  free-after cs t (line.Runs q u) h = h

  free-after_on : (cs : Contexts (Held C)) (p : ℕ) (l : Line) → IsFreeOn cs p → IsFreeOn (contexts_after sys M cs l) p
  free-after_on cs p (line.Begins q i) h = set_at None OnHandler cs.handlers q _ p
      (λ e. fresh-free M (handler_start sys i)) h
  free-after_on cs p (line.Gets q u reply) h = h
  free-after_on cs p (line.Starts q u) h = h
  free-after_on cs p (line.Call q who made None) h = h
  free-after_on cs p (line.Call q who made (Some reply)) h = free-delivered_on cs q who reply p h
  free-after_on cs p (line.Tick now) h = h
  free-after_on cs p (line.Int i) h = h
  free-after_on cs p (line.End q who) h = h
  free-after_on cs p (line.Fault q who fault) h = h
  free-after_on cs p (line.Pends q i) h = h
  free-after_on cs p (line.Runs q u) h = h

  free-all : (cs : Contexts (Held C)) (t : ℕ) (ls : List Line) → IsFree cs t → IsFree (contexts_after_all sys M cs ls) t
  free-all cs t [] h = h
  free-all cs t (l ∷ ls) h = free-all (contexts_after sys M cs l) t ls (free-after cs t l h)

  free-all_on : (cs : Contexts (Held C)) (p : ℕ) (ls : List Line) → IsFreeOn cs p
      → IsFreeOn (contexts_after_all sys M cs ls) p
  free-all_on cs p [] h = h
  free-all_on cs p (l ∷ ls) h = free-all_on (contexts_after sys M cs l) p ls (free-after_on cs p l h)

  -- behind more lines
  free-more : (cs : Contexts (Held C)) (t : ℕ) (ls ms : List Line) → IsFree (contexts_after_all sys M cs ls) t
      → IsFree (contexts_after_all sys M cs (ls ++ ms)) t
  free-more cs t [] ms h = free-all cs t ms h
  free-more cs t (l ∷ ls) ms h = free-more (contexts_after sys M cs l) t ls ms h

  free-more_on : (cs : Contexts (Held C)) (p : ℕ) (ls ms : List Line) → IsFreeOn (contexts_after_all sys M cs ls) p
      → IsFreeOn (contexts_after_all sys M cs (ls ++ ms)) p
  free-more_on cs p [] ms h = free-all_on cs p ms h
  free-more_on cs p (l ∷ ls) ms h = free-more_on (contexts_after sys M cs l) p ls ms h

  -- a task that a line starts, or brings its reply
  delivered-free : (cs : Contexts (Held C)) (q u : ℕ) (reply : Reply) (t : ℕ) → u ≡ t
      → IsFree (delivered_to sys M cs q (caller.Task u) reply) t
  delivered-free cs q u reply t e =
      set_over None OnTask cs.tasks u _ t tt (λ same. told-free M _ reply (context_at cs.tasks u)) (λ n. absurd (n e))

  told-line : (cs : Contexts (Held C)) (t : ℕ) (l : Line) → Tells t l → IsFree (contexts_after sys M cs l) t
  told-line cs t (line.Starts q u) h = set_over None OnTask cs.tasks u _ t tt (λ e. tt) (λ n. absurd (n h))
  told-line cs t (line.Gets q u reply) h = delivered-free cs q u reply t h
  told-line cs t (line.Begins q i) h = absurd h
  told-line cs t (line.Call q who made reply) h = absurd h
  told-line cs t (line.Tick now) h = absurd h
  told-line cs t (line.Int i) h = absurd h
  told-line cs t (line.End q who) h = absurd h
  told-line cs t (line.Fault q who fault) h = absurd h
  told-line cs t (line.Pends q i) h = absurd h
  told-line cs t (line.Runs q u) h = absurd h

  told-all : (cs : Contexts (Held C)) (t : ℕ) (ls : List Line) → IsTold t ls → IsFree (contexts_after_all sys M cs ls) t
  told-all cs t [] h = absurd h
  told-all cs t (l ∷ ls) (inl h) = free-all (contexts_after sys M cs l) t ls (told-line cs t l h)
  told-all cs t (l ∷ ls) (inr h) = told-all (contexts_after sys M cs l) t ls h

-- settling

-- the tasks stay, and lines follow
record Follows (g h : Progress) : Type 0 where
  tasks : h.state.tasks ≡ g.state.tasks
  more : List Line
  lines : h.lines ≡ g.lines ++ more

follows-same : (g : Progress) → Follows g g
follows-same g = record { tasks = refl; more = []; lines = sym (append-nil g.lines) }

follows-on : (g h k : Progress) → Follows g h → Follows h k → Follows g k
follows-on g h k a b =
    record {
      tasks = b.tasks ∙ a.tasks;
      more = a.more ++ b.more;
      lines = b.lines ∙ ap (λ (ls : List Line). ls ++ b.more) a.lines ∙ append_assoc g.lines a.more b.more;
    }

follows-begun : (g : Progress) (p : ℕ) (h : Handler) → Follows g (begun g p (processor_at g.state p) h)
follows-begun g p (handler.Interrupt i) = record {
  tasks = refl;
  more = line.Begins p (handler.Interrupt i) ∷ [];
  lines = refl;
}
follows-begun g p (handler.Cyclic c) = record {
  tasks = refl;
  more = line.Begins p (handler.Cyclic c) ∷ [];
  lines = refl;
}

follows-none : (held : Bool) (g : Progress) (p : ℕ)
    → Follows g (if held then g else dispatched g p (processor_at g.state p) (top g.state p))
follows-none true g p = follows-same g
follows-none false g p =
    record {
      tasks = refl;
      more = dispatch_lines (is_same_task (processor_at g.state p).run
          (top g.state p)) p (top g.state p);
      lines = refl;
    }

follows-with : (o : Option Handler) (g : Progress) (p : ℕ) → Follows g (settled_with o g p (processor_at g.state p))
follows-with None g p = follows-none (is_dispatch_held (processor_at g.state p)) g p
follows-with (Some h) g p = follows-begun g p h

follows-all : (sys : SystemTables) (g : Progress) (ps : List ℕ) → Follows g (all_settled sys g ps)
follows-all sys g [] = follows-same g
follows-all sys g (p ∷ ps) =
    let next = settled_on sys g p (processor_at g.state p) in
    follows-on g next (all_settled sys next ps) (follows-with (handler_to_begin sys g.state p
    (processor_at g.state p)) g p) (follows-all sys next ps)

-- actors

module _ {C : Type 0} (sys : SystemTables) where
  actor-free : (w : World C) (p : ℕ) (i : Option Handler) (t : Option ℕ) (who : Caller) (c : C)
      → IsSettled sys w.state → NoneAwaits w
      → (processor_at w.state p).run ≡ t → actor_by i t ≡ Some who → context_of w.contexts p who ≡ Some (Awaits c) → ⊥
  actor-free w p None None who c s h r a e = cc
  actor-free w p None (Some t) (caller.Task u) c s h r a e =
      let same : t ≡ u = cc in
      let free = h.tasks u (s.ready p u (r ∙ ap (λ (v : ℕ). Some v) same)) in
      subst (λ (o : Option (Held C)). AwaitsNone o) e free
  actor-free w p None (Some t) (caller.Handler j) c s h r a e = cc
  actor-free w p (Some j) t (caller.Task u) c s h r a e = cc
  actor-free w p (Some j) t (caller.Handler k) c s h r a e = subst (λ (o : Option (Held C)). AwaitsNone o) e
      (h.handlers p)

  -- in a settled world no actor awaits a reply
  pub settled-free : (w : World C) (p : ℕ) (who : Caller) (c : C) → IsSettledWorld sys w
      → actor_of (processor_at w.state p) ≡ Some who → context_of w.contexts p who ≡ Some (Awaits c) → ⊥
  settled-free w p who c h a e =
      actor-free w p (processor_at w.state p).handler (processor_at w.state p).run who c h.state h.free refl a e

-- events

abbrev LeavesFree : {C : Type 0} → Reaction C → Type 0
LeavesFree Nothing = Unit {0}
LeavesFree (Did d) = NoneAwaits d.world
LeavesFree (Kept p v) = NoneAwaits v

module _ {C : Type 0} (sys : SystemTables) (M : Meaning C) where
  finished-free : (cs : Contexts (Held C)) (own : List Line) (g : Progress)
      → ((t : ℕ) → IsReady g.state t → IsFree (contexts_after_all sys M cs (own ++ g.lines)) t)
      → ((p : ℕ) → IsFreeOn (contexts_after_all sys M cs (own ++ g.lines)) p)
      → NoneAwaits (finished sys M cs own g).world
  finished-free cs own g tasks handlers =
      let first : Progress = record g { lines = own ++ g.lines } in
      let f = follows-all sys first (places_from 0 (length g.state.processors)) in
      record {
        tasks = λ t r. subst (λ (ls : List Line). IsFree (contexts_after_all sys M cs ls) t) (sym f.lines)
            (free-more sys M cs t (own ++ g.lines) f.more (tasks t (ready_before first f t r)));
        handlers = λ p. subst (λ (ls : List Line). IsFreeOn (contexts_after_all sys M cs ls) p) (sym f.lines)
            (free-more_on sys M cs p (own ++ g.lines) f.more (handlers p));
      } where
        ready_before : (first : Progress) → (f : Follows first (settled sys first)) → (t : ℕ)
            → IsReady (settled sys first).state t → IsReady first.state t
        ready_before first f t r = ap (λ (ts : List TaskBlock). (task_at ts t).phase) (sym f.tasks) ∙ r

  -- what a task's call comes to
  task_answered : (s : KernelState) (answer : Answer) (cs : Contexts (Held C)) (p me : ℕ) (made : Call) (g : Progress)
      → Woken s g
      → (answer ≡ Waits → IsReady g.state me → ⊥) → (answer ≡ Ends → IsReady g.state me → IsTold me g.lines)
      → ((t : ℕ) → IsReady s t → (me ≡ t → ⊥) → IsFree cs t) → ((q : ℕ) → IsFreeOn cs q)
      → LeavesFree (answered answer sys M cs p (caller.Task me) made g)
  task_answered s Spins cs p me made g w away again others on = tt
  task_answered s (Replies reply) cs p me made g w away again others on =
      finished-free cs (line.Call p (caller.Task me) made (Some reply) ∷ []) g (λ t r. by_kind t (w.each t r))
      (λ q. free-all_on sys M cs q (line.Call p (caller.Task me) made (Some reply) ∷ g.lines) (on q)) where
        by_test : (t : ℕ) → IsReady s t → (b : Bool) → nat_eq me t ≡ b
            → IsFree (contexts_after_all sys M (delivered_to sys M cs p (caller.Task me) reply) g.lines) t
        by_test t r true e = free-all sys M _ t g.lines (delivered-free sys M cs p me reply t (eqb-true me t e))
        by_test t r false e =
            free-all sys M _ t g.lines (free-delivered sys M cs p (caller.Task me) reply t
            (others t r (λ (same : me ≡ t). absurd (grind (arith, nat_tests, same, e)))))

        by_kind : (t : ℕ) → IsReady s t ⊎ IsTold t g.lines
            → IsFree (contexts_after_all sys M (delivered_to sys M cs p (caller.Task me) reply) g.lines) t
        by_kind t (inl r) = by_test t r (nat_eq me t) refl
        by_kind t (inr h) = told-all sys M _ t g.lines h
  task_answered s Waits cs p me made g w away again others on =
      finished-free cs (line.Call p (caller.Task me) made None
      ∷ []) g (λ t r. by_test t r (w.each t r) (nat_eq me t) refl)
      (λ q. free-all_on sys M cs q g.lines (on q)) where
        by_test : (t : ℕ) → IsReady g.state t → IsReady s t ⊎ IsTold t g.lines → (b : Bool) → nat_eq me t ≡ b
            → IsFree (contexts_after_all sys M cs g.lines) t
        by_test t r (inr h) b e = told-all sys M cs t g.lines h
        by_test t r (inl was) true e = absurd (away refl (subst (λ (u : ℕ). IsReady g.state u)
            (sym (eqb-true me t e)) r))
        by_test t r (inl was) false e =
            free-all sys M cs t g.lines (others t was (λ (same : me ≡ t). absurd (grind (arith, nat_tests, same, e))))
  task_answered s Ends cs p me made g w away again others on =
      finished-free cs (line.End p (caller.Task me) ∷ []) g (λ t r. by_test t r (w.each t r) (nat_eq me t) refl)
      (λ q. free-all_on sys M cs q g.lines (on q)) where
        by_test : (t : ℕ) → IsReady g.state t → IsReady s t ⊎ IsTold t g.lines → (b : Bool) → nat_eq me t ≡ b
            → IsFree (contexts_after_all sys M cs g.lines) t
        by_test t r (inr h) b e = told-all sys M cs t g.lines h
        by_test t r (inl was) true e =
            let same : me ≡ t = eqb-true me t e in
            told-all sys M cs t g.lines
            (subst (λ (u : ℕ). IsTold u g.lines) same (again refl (subst (λ (u : ℕ). IsReady g.state u) (sym same) r)))
        by_test t r (inl was) false e =
            free-all sys M cs t g.lines (others t was (λ (same : me ≡ t). absurd (grind (arith, nat_tests, same, e))))

  -- and a handler's
  handler_answered : (s : KernelState) (answer : Answer) (cs : Contexts (Held C)) (p : ℕ) (i : Handler) (made : Call)
      (g : Progress) → Woken s g
      → (answer ≡ Waits → ⊥) → (answer ≡ Ends → ⊥) → ((t : ℕ) → IsReady s t → IsFree cs t)
      → ((q : ℕ) → (p ≡ q → ⊥) → IsFreeOn cs q) → LeavesFree (answered answer sys M cs p (caller.Handler i) made g)
  handler_answered s Spins cs p i made g w away again tasks on = tt
  handler_answered s Waits cs p i made g w away again tasks on = absurd (away refl)
  handler_answered s Ends cs p i made g w away again tasks on = absurd (again refl)
  handler_answered s (Replies reply) cs p i made g w away again tasks on =
      finished-free cs (line.Call p (caller.Handler i) made (Some reply) ∷ []) g (λ t r. by_kind t (w.each t r))
      (λ q. free-all_on sys M (delivered_to sys M cs p (caller.Handler i) reply) q g.lines
      (by_test q (nat_eq p q) refl)) where
        by_kind : (t : ℕ) → IsReady s t ⊎ IsTold t g.lines
            → IsFree (contexts_after_all sys M (delivered_to sys M cs p (caller.Handler i) reply) g.lines) t
        by_kind t (inl r) = free-all sys M _ t g.lines (tasks t r)
        by_kind t (inr h) = told-all sys M _ t g.lines h

        by_test : (q : ℕ) (b : Bool) → nat_eq p q ≡ b → IsFreeOn (delivered_to sys M cs p (caller.Handler i) reply) q
        by_test q true e =
            set_over None (OnHandler sys M) cs.handlers p _ q tt
            (λ same. for-free (body_in (context_at cs.handlers p)) _ (told-free M _ reply
            (context_in (context_at cs.handlers p))))
            (λ n. absurd (n (eqb-true p q e)))
        by_test q false e =
            free-delivered_on sys M cs p (caller.Handler i) reply q (on q
            (λ (same : p ≡ q). absurd (grind (arith, nat_tests, same, e))))

  -- an event that makes no call
  caused_free : (s : KernelState) (cs : Contexts (Held C)) (own : Line) (g : Progress) → contexts_after sys M cs own
      ≡ cs → Woken s g
      → ((t : ℕ) → IsReady s t → IsFree cs t) → ((p : ℕ) → IsFreeOn cs p)
      → NoneAwaits (finished sys M cs (own ∷ []) g).world
  caused_free s cs own g e k tasks handlers =
      finished-free cs (own ∷ []) g
      (λ t r. subst (λ (ds : Contexts (Held C)). IsFree (contexts_after_all sys M ds g.lines) t) (sym e)
      (by_kind t (k.each t r)))
      (λ p. subst (λ (ds : Contexts (Held C)). IsFreeOn (contexts_after_all sys M ds g.lines) p) (sym e)
      (free-all_on sys M cs p g.lines (handlers p))) where
        by_kind : (t : ℕ) → IsReady s t ⊎ IsTold t g.lines → IsFree (contexts_after_all sys M cs g.lines) t
        by_kind t (inl r) = free-all sys M cs t g.lines (tasks t r)
        by_kind t (inr b) = told-all sys M cs t g.lines b

  ended-free : (w : World C) (p : ℕ) (who : Caller) (own : Line)
      → ((cs : Contexts (Held C)) → contexts_after sys M cs own ≡ cs) → NoneAwaits w
      → NoneAwaits (ended_with sys M w p who own).world
  ended-free w p (caller.Task me) own e h =
      caused_free w.state (contexts_ended sys M w.contexts p (caller.Task me)) own
      (actor_ended sys w.state p (caller.Task me)) (e _)
      (woken-ended_itself sys w.state p me (task_at w.state.tasks me))
      (λ t r. set_at None (OnTask sys M) w.contexts.tasks me _ t (λ e. tt) (h.tasks t r)) h.handlers
  ended-free w p (caller.Handler i) own e h =
      caused_free w.state (contexts_ended sys M w.contexts p (caller.Handler i)) own
      (actor_ended sys w.state p (caller.Handler i)) (e _)
      (still (λ t r. r)) h.tasks (λ q. set_at None (OnHandler sys M) w.contexts.handlers p None q (λ e. tt)
      (h.handlers q))

  stretched-free : (w : World C) (p : ℕ) (who : Caller) (x : Ending C) → NoneAwaits w
      → LeavesFree (stretched sys M w p who x)
  stretched-free w p (caller.Task me) (ends.Call d made) h =
      let o = called sys w.state p (caller.Task me) made in
      let f = keeps-task_call sys w.state p me made in
      task_answered w.state o.answer (with_context w.contexts p (caller.Task me) (Some (Awaits d))) p me made
      o.progress f.woken f.waits f.ends
      (λ t r n. subst OnTaskOf (sym (set_other None w.contexts.tasks me _ t n)) (h.tasks t r)) h.handlers where
        OnTaskOf : Option (Held C) → Type 0
        OnTaskOf o = AwaitsNone o
  stretched-free w p (caller.Handler i) (ends.Call d made) h =
      let o = called sys w.state p (caller.Handler i) made in
      let f = keeps-handler_call sys w.state p i made in
      handler_answered w.state o.answer (with_context w.contexts p (caller.Handler i) (Some (Awaits d))) p i made
      o.progress f.woken f.waits f.ends
      h.tasks (λ q n. subst OnHandlerOf (sym (set_other None w.contexts.handlers p _ q n)) (h.handlers q)) where
        OnHandlerOf : Option (HandlerContext (Held C)) → Type 0
        OnHandlerOf o = AwaitsNone (context_in o)
  stretched-free w p who (ends.End c) h = ended-free w p who (line.End p who) (λ cs. refl) h
  stretched-free w p who (ends.Fault c fault) h = ended-free w p who (line.Fault p who fault) (λ cs. refl) h
  stretched-free w p who (ends.Over None) h = tt
  stretched-free w p (caller.Task me) (ends.Over (Some c)) h =
      record {
        tasks = λ t r. set_at None (OnTask sys M) w.contexts.tasks me (Some (Goes c)) t (λ e. tt) (h.tasks t r);
        handlers = h.handlers;
      }
  stretched-free w p (caller.Handler i) (ends.Over (Some c)) h =
      record {
        tasks = h.tasks;
        handlers = λ q. set_at None (OnHandler sys M) w.contexts.handlers p _ q (λ e. tt) (h.handlers q);
      }

  run_in-free : (n : ℕ) (w : World C) (p : ℕ) (who : Caller) (o : Option (Held C)) → NoneAwaits w
      → LeavesFree (run_in sys M n w p who o)
  run_in-free n w p who None h = tt
  run_in-free n w p who (Some (Awaits c)) h = tt
  run_in-free n w p who (Some (Goes c)) h = stretched-free w p who _ h

  run_by-free : (n : ℕ) (w : World C) (p : ℕ) (o : Option Caller) → NoneAwaits w → LeavesFree (run_by sys M n w p o)
  run_by-free n w p None h = tt
  run_by-free n w p (Some who) h = run_in-free n w p who (context_of w.contexts p who) h

  interrupted-free : (o : Option InterruptConfig) (w : World C) (i : ℕ) → NoneAwaits w
      → LeavesFree (interrupted o sys M w i)
  interrupted-free None w i h = tt
  interrupted-free (Some config) w i h = by_pending (is_pending w.state.pending_interrupts i) where
    by_pending : (pending : Bool) → LeavesFree (interrupted_by pending sys M w i)
    by_pending true = tt
    by_pending false = caused_free w.state w.contexts (line.Int i) (unchanged (with_interrupt_pending w.state i)) refl
        (still (λ t r. r)) h.tasks h.handlers

  pub step-free : (n : ℕ) (w : World C) (e : Event) → NoneAwaits w → LeavesFree (step sys M n w e)
  step-free n w (Run zero) h = tt
  step-free n w (Run (suc p)) h = run_by-free n w p (actor_of (processor_at w.state p)) h
  step-free n w Tick h = caused_free w.state w.contexts (line.Tick (w.state.clock + 1)) (ticked sys w.state) refl
      (woken-ticked sys w.state) h.tasks h.handlers
  step-free n w (Int zero) h = tt
  step-free n w (Int (suc i)) h = interrupted-free (interrupt_config sys i) w i h

  run_on-free : (w : World C) (x : Reaction C) (rest : World C → Trace C) → NoneAwaits w → LeavesFree x
      → ((v : World C) → NoneAwaits v → NoneAwaits (rest v).world) → NoneAwaits (run_on w x rest).world
  run_on-free w Nothing rest h k go = go w h
  run_on-free w (Did d) rest h k go = go d.world k
  run_on-free w (Kept p v) rest h k go = go v k

  run-free : (n : ℕ) (w : World C) (es : List Event) → NoneAwaits w → NoneAwaits (run sys M n w es).world
  run-free n w [] h = h
  run-free n w (e ∷ es) h = run_on-free w (step sys M n w e) _ h (step-free n w e h) (λ v k. run-free n v es k)

  first-free : (cs : List TaskConfig) (t : ℕ)
      → AwaitsNone (context_at (map (λ c. Some (Goes (M.start (body_of c.entry) c.exinf))) cs) t)
  first-free [] t = tt
  first-free (c ∷ cs) zero = tt
  first-free (c ∷ cs) (suc t) = first-free cs t

  no_handler-free : (n p : ℕ) → AwaitsNone (context_in (context_at {A = HandlerContext (Held C)} (replicate n None) p))
  no_handler-free zero p = tt
  no_handler-free (suc n) zero = tt
  no_handler-free (suc n) (suc p) = no_handler-free n p

  setup-free : NoneAwaits (setup sys M).world
  setup-free =
      let g = all_started sys (unchanged (created_state sys)) (places_from 0 (length sys.tasks)) in
      finished-free (first_contexts sys M) [] g
      (λ t r. free-all sys M (first_contexts sys M) t g.lines (first-free sys.tasks t))
      (λ p. free-all_on sys M (first_contexts sys M) p g.lines (no_handler-free sys.processors p))

  applied_in-free : (w : World C) (p : ℕ) (who : Caller) (o : Option (Held C)) (x : Ending C) → NoneAwaits w
      → LeavesFree (applied_in sys M w p who o x)
  applied_in-free w p who None x h = tt
  applied_in-free w p who (Some (Awaits c)) x h = tt
  applied_in-free w p who (Some (Goes c)) x h = stretched-free w p who x h

  applied_by-free : (w : World C) (p : ℕ) (o : Option Caller) (x : Ending C) → NoneAwaits w
      → LeavesFree (applied_by sys M w p o x)
  applied_by-free w p None x h = tt
  applied_by-free w p (Some who) x h = applied_in-free w p who (context_of w.contexts p who) x h

  few_in : (w : World C) → IsWorldOf sys w → length w.state.pending_cyclics ≤ length sys.cyclics
  few_in w whole = let same = whole.cyclics in omega (arith, same)

  -- setup leaves a settled world
  pub setup-settled_world : IsWorldOf sys (setup sys M).world → IsSettledWorld sys (setup sys M).world
  setup-settled_world whole =
      record {
        whole = whole;
        state = setup-settled sys M;
        kept = setup-kept sys M (few_in (setup sys M).world whole);
        free = setup-free;
      }

  -- so does each event that does something in one
  pub step-settled_world : (n : ℕ) (w : World C) (e : Event) (d : Done C) → IsSettledWorld sys w
      → IsWorldOf sys d.world → step sys M n w e ≡ Did d → IsSettledWorld sys d.world
  step-settled_world n w e d h whole k =
      record {
        whole = whole;
        state = step-settled sys M n w e d h.state k;
        kept = subst (λ (r : Reaction C). LeavesKept sys M r) k (step-kept sys M n w e h.state h.kept)
            (few_in d.world whole);
        free = subst (λ (r : Reaction C). LeavesFree r) k (step-free n w e h.free);
      }

  -- and each event that keeps a place
  pub kept-settled_world : (n : ℕ) (w : World C) (e : Event) (p : ℕ) (v : World C) → IsSettledWorld sys w
      → IsWorldOf sys v → step sys M n w e ≡ Kept p v → IsSettledWorld sys v
  kept-settled_world n w e p v h whole k =
      record {
        whole = whole;
        state = kept-settled sys M n w e p v h.state k;
        kept = subst (λ (r : Reaction C). LeavesKept sys M r) k (step-kept sys M n w e h.state h.kept);
        free = subst (λ (r : Reaction C). LeavesFree r) k (step-free n w e h.free);
      }

  -- and each stretch that is handed in
  pub applied-settled_world : (w : World C) (p : ℕ) (x : Ending C) (d : Done C) → IsSettledWorld sys w
      → IsWorldOf sys d.world → applied_by sys M w p (actor_of (processor_at w.state p)) x ≡ Did d
      → IsSettledWorld sys d.world
  applied-settled_world w p x d h whole k =
      record {
        whole = whole;
        state = subst (λ (r : Reaction C). LeavesSettled sys r) k (applied-leaves_settled sys M w p x h.state);
        kept = subst (λ (r : Reaction C). LeavesKept sys M r) k (applied-kept sys M w p x h.state h.kept)
            (few_in d.world whole);
        free = subst (λ (r : Reaction C). LeavesFree r) k (applied_by-free w p
            (actor_of (processor_at w.state p)) x h.free);
      }

  -- also where it keeps its place
  pub applied-kept_world : (w : World C) (p : ℕ) (x : Ending C) (q : ℕ) (v : World C) → IsSettledWorld sys w
      → IsWorldOf sys v → applied_by sys M w p (actor_of (processor_at w.state p)) x ≡ Kept q v → IsSettledWorld sys v
  applied-kept_world w p x q v h whole k =
      record {
        whole = whole;
        state = subst (λ (r : Reaction C). LeavesSettled sys r) k (applied-leaves_settled sys M w p x h.state);
        kept = subst (λ (r : Reaction C). LeavesKept sys M r) k (applied-kept sys M w p x h.state h.kept);
        free = subst (λ (r : Reaction C). LeavesFree r) k (applied_by-free w p
            (actor_of (processor_at w.state p)) x h.free);
      }

  -- in no world that setup and events reach does an actor await a reply
  pub actors-free : (n : ℕ) (es : List Event) (p : ℕ) (who : Caller) (c : C)
      → actor_of (processor_at (run sys M n (setup sys M).world es).world.state p) ≡ Some who
      → context_of (run sys M n (setup sys M).world es).world.contexts p who ≡ Some (Awaits c) → ⊥
  actors-free n es p who c a e =
      let w = (run sys M n (setup sys M).world es).world in
      actor-free sys w p (processor_at w.state p).handler (processor_at w.state p).run who c
      (run-settled sys M n (setup sys M).world es (setup-settled sys M))
      (run-free n (setup sys M).world es setup-free) refl a e
