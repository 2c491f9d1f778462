-- A context is kept of the handler of a processor exactly where one runs: a context of its body.
use Rattle.std.proofs.Common.{◌≡◌, ℕ, zero, suc, ◌+◌, ◌≤◌, List, [], ◌∷◌, ◌++◌, Option, Some, None, Bool, true, false}
use Rattle.std.proofs.Common.{◌||◌, length, map, replicate, slice_get, refl, sym, subst, ap, ◌∙◌, arith, if◌then◌else◌}
use Rattle.std.proofs.lemmas.List.{length-replicate, length-set}
use Rattle.std.specs.List.{AllByRecursion}
use Rattle.fmp_base.specs.declared.bodies.HandlerContext.{HandlerContext}
use Rattle.fmp_base.specs.declared.bodies.HandlerStart.{HandlerStart}
use Rattle.fmp_base.specs.declared.bodies.Held.{Held}
use Rattle.fmp_base.specs.declared.bodies.Held.TheVariants.{Goes, Awaits}
use Rattle.fmp_base.specs.declared.calls.Answer.{Answer}
use Rattle.fmp_base.specs.declared.calls.Answer.TheVariants.{Replies, Waits, Ends, Spins}
use Rattle.fmp_base.specs.declared.calls.Call.{Call}
use Rattle.fmp_base.specs.declared.events.Event.{Event}
use Rattle.fmp_base.specs.declared.events.Event.TheVariants.{Run, Tick, Int}
use Rattle.fmp_base.specs.declared.events.Line.{Line}
use Rattle.fmp_base.specs.declared.events.Line.TheVariants as line
use Rattle.fmp_base.specs.declared.states.Caller.{Caller}
use Rattle.fmp_base.specs.declared.states.Caller.TheVariants as caller
use Rattle.fmp_base.specs.declared.states.Handler.{Handler}
use Rattle.fmp_base.specs.declared.states.Handler.TheVariants as handler
use Rattle.fmp_base.specs.declared.states.Processor.{Processor}
use Rattle.fmp_base.specs.declared.systems.InterruptConfig.{InterruptConfig}
use Rattle.fmp_base.specs.declared.systems.TaskConfig.{TaskConfig}
use Rattle.fmp_base.specs.Calls.{called}
use Rattle.fmp_base.specs.Changes.{started_block}
use Rattle.fmp_base.specs.Meanings.{Meaning, Contexts, World, body_in, context_at, context_for, context_in, context_of}
use Rattle.fmp_base.specs.Meanings.{contexts_after_all, fresh_context, handler_start, with_context}
use Rattle.fmp_base.specs.ProcessorCalls.{is_cpu_locked}
use Rattle.fmp_base.specs.Queues.{top}
use Rattle.fmp_base.specs.Runs.{run, run_on}
use Rattle.fmp_base.specs.Settles.{all_settled, dispatch_lines, dispatched, handler_to_begin, is_dispatch_held}
use Rattle.fmp_base.specs.Settles.{is_same_task, runs_handler, settled_on, settled_with, without_pending}
use Rattle.fmp_base.specs.Setups.{all_started, created_state, first_contexts, setup, started_if}
use Rattle.fmp_base.specs.States.{KernelState, Progress, idle, places_from, processor_at, task_at, unchanged}
use Rattle.fmp_base.specs.States.{with_processor}
use Rattle.fmp_base.specs.Steps.{Reaction, Nothing, Did, Kept, actor_by, actor_ended, answered, call_made}
use Rattle.fmp_base.specs.Steps.{contexts_ended, ended_with, finished, handler_ended, interrupted, interrupted_by}
use Rattle.fmp_base.specs.Steps.{run_by, run_in, step, stretched}
use Rattle.fmp_base.specs.Stretches.{Ending}
use Rattle.fmp_base.specs.Stretches as ends
use Rattle.fmp_base.specs.Systems.{SystemTables, body_of, found, interrupt_config, task_config}
use Rattle.fmp_base.specs.Ticks.{is_pending, ticked, with_interrupt_pending}
use Rattle.fmp_worlds.specs.Settled.{AreKept, IsSettled, IsThere}
use Rattle.fmp_worlds.proofs.Assigned.{Holds, set_at}
use Rattle.fmp_worlds.proofs.CalledLemmas.{keeps-handler_call, keeps-task_call}
use Rattle.fmp_worlds.proofs.Changes.{SameHandlers, handlers-ended_itself, handlers-same, lines-ended_itself}
use Rattle.fmp_worlds.proofs.Kept.{LeavesKept, setup-kept, step-kept}
use Rattle.fmp_worlds.proofs.Lines.{IsOwn, all-map, all-snoc}
use Rattle.fmp_worlds.proofs.SettledLaws.{setup-settled}
use Rattle.fmp_worlds.proofs.StepLemmas.{IsActor, LeavesSettled, acts, holds, step-leaves_settled}
use Rattle.fmp_worlds.proofs.TickLemmas.{actors-ticked, lines-ticked}
use Rattle.fmp_reachable.specs.Rooms.{HasSizes, is_handler_of}
use Rattle.fmp_reachable.proofs.BeginLaws.{IsOf, begins-of}
use Rattle.fmp_reachable.proofs.ContextLaws.{BeginsNone, after-append, body-set, both-set, dispatch-begins_none}
use Rattle.fmp_reachable.proofs.ContextLaws.{kept_body, on_at, own-begins_none, places-all, same-all, tasks-all}

-- a handler of p begins with this body
pub record Begins (sys : SystemTables) (p : ℕ) (h : Handler) (body : ℕ) : Type 0 where
  pub own : is_handler_of sys p h ≡ true
  pub start : HandlerStart
  pub starts : handler_start sys h ≡ Some start
  pub same : body ≡ start.body

-- a body is kept exactly where a handler runs, and it is its own
abbrev pub Matches : SystemTables → ℕ → Option Handler → Option ℕ → Type 0
Matches sys p None None = Unit {0}
Matches sys p None (Some body) = ⊥
Matches sys p (Some h) None = ⊥
Matches sys p (Some h) (Some body) = Begins sys p h body

-- settling leaves as many cyclic handlers and processors

cyclics-with : (o : Option Handler) (g : Progress) (p : ℕ) (cpu : Processor)
    → length (settled_with o g p cpu).state.pending_cyclics ≡ length g.state.pending_cyclics
cyclics-with (Some (handler.Interrupt i)) g p cpu = refl
cyclics-with (Some (handler.Cyclic c)) g p cpu = length-set g.state.pending_cyclics c false
cyclics-with None g p cpu = by_held (is_dispatch_held cpu) where
  by_held : (b : Bool)
      → length (if b then g else dispatched g p cpu (top g.state p)).state.pending_cyclics
      ≡ length g.state.pending_cyclics
  by_held true = refl
  by_held false = refl

processors-with : (o : Option Handler) (g : Progress) (p : ℕ) (cpu : Processor)
    → length (settled_with o g p cpu).state.processors ≡ length g.state.processors
processors-with (Some (handler.Interrupt i)) g p cpu = length-set g.state.processors p _
processors-with (Some (handler.Cyclic c)) g p cpu = length-set g.state.processors p _
processors-with None g p cpu = by_held (is_dispatch_held cpu) where
  by_held : (b : Bool)
      → length (if b then g else dispatched g p cpu (top g.state p)).state.processors ≡ length g.state.processors
  by_held true = refl
  by_held false = length-set g.state.processors p _

cyclics-all : (sys : SystemTables) (g : Progress) (ps : List ℕ)
    → length (all_settled sys g ps).state.pending_cyclics ≡ length g.state.pending_cyclics
cyclics-all sys g [] = refl
cyclics-all sys g (p ∷ ps) =
    let cpu = processor_at g.state p in
    cyclics-all sys (settled_on sys g p cpu) ps ∙ cyclics-with (handler_to_begin sys g.state p cpu) g p cpu

processors-all : (sys : SystemTables) (g : Progress) (ps : List ℕ)
    → length (all_settled sys g ps).state.processors ≡ length g.state.processors
processors-all sys g [] = refl
processors-all sys g (p ∷ ps) =
    let cpu = processor_at g.state p in
    processors-all sys (settled_on sys g p cpu) ps ∙ processors-with (handler_to_begin sys g.state p cpu) g p cpu

module _ {C : Type 0} (sys : SystemTables) (M : Meaning C) where
  -- these contexts are kept where this is the state
  pub record AreMatched (s : KernelState) (cs : Contexts (Held C)) : Type 0 where
    pub tasks : length cs.tasks ≡ length sys.tasks
    pub handlers : length cs.handlers ≡ sys.processors
    pub each : (p : ℕ) → Matches sys p (processor_at s p).handler (on_at cs p)

  same-matched : (s u : KernelState) (cs ds : Contexts (Held C)) → length ds.tasks ≡ length cs.tasks
      → length ds.handlers ≡ length cs.handlers → SameHandlers s u → ((q : ℕ) → on_at ds q ≡ on_at cs q)
      → AreMatched s cs → AreMatched u ds
  same-matched s u cs ds tasks handlers h same m =
      record {
        tasks = tasks ∙ m.tasks;
        handlers = handlers ∙ m.handlers;
        each = λ q. subst (λ (b : Option ℕ). Matches sys q (processor_at u q).handler b) (sym (same q))
            (subst (λ (o : Option Handler). Matches sys q o (on_at cs q)) (sym (h q)) (m.each q));
      }

  -- settling

  abbrev MatchedBy : Contexts (Held C) → Progress → Type 0
  MatchedBy cs g = AreMatched g.state (contexts_after_all sys M cs g.lines)

  fresh-matches : (p : ℕ) (h : Handler) → IsOf sys p h → Matches sys p (Some h)
      (kept_body (fresh_context M (handler_start sys h)))
  fresh-matches p h is = by_start (handler_start sys h) refl is.there where
    by_start : (o : Option HandlerStart) → handler_start sys h ≡ o → IsThere o
        → Matches sys p (Some h) (kept_body (fresh_context M o))
    by_start None e there = absurd there
    by_start (Some start) e there = record { own = is.own; start = start; starts = e; same = refl }

  abbrev running : Progress → ℕ → Handler → Processor
  running g p h = record (processor_at g.state p) { handler = Some h }

  abbrev handlers_by : Contexts (Held C) → Progress → List (Option (HandlerContext (Held C)))
  handlers_by cs g = (contexts_after_all sys M cs g.lines).handlers

  matched-begun : (cs : Contexts (Held C)) (g : Progress) (u : KernelState) (p : ℕ) (h : Handler)
      → u.processors ≡ g.state.processors → length g.state.processors ≡ sys.processors → IsOf sys p h → MatchedBy cs g
      → AreMatched (with_processor u p (record (processor_at g.state p) { handler = Some h }))
      (contexts_after_all sys M cs (g.lines ++ line.Begins p h ∷ []))
  matched-begun cs g u p h same long is m =
      subst (λ (ds : Contexts (Held C)). AreMatched (with_processor u p (running g p h)) ds)
      (sym (after-append sys M cs g.lines (line.Begins p h ∷ [])))
      (record {
        tasks = m.tasks;
        handlers = length-set (handlers_by cs g) p _ ∙ m.handlers;
        each = λ q. both-set idle None (λ (c : Processor) (o : Option (HandlerContext (Held C))). Matches sys q
            c.handler (kept_body o))
            u.processors (handlers_by cs g) (ap (λ (cpus : List Processor). length cpus) same ∙ long ∙ sym m.handlers)
            p (running g p h)
            (fresh_context M (handler_start sys h)) q
            (λ e. subst (λ (v : ℕ). Matches sys v (Some h) (kept_body (fresh_context M (handler_start sys h)))) e
            (fresh-matches p h is))
            (subst (λ (cpus : List Processor). Matches sys q (found idle (slice_get cpus q)).handler
            (kept_body (context_at (handlers_by cs g) q))) (sym same)
            (m.each q));
      })

  matched-dispatched : (cs : Contexts (Held C)) (g : Progress) (p : ℕ) (t : Option ℕ) → MatchedBy cs g
      → MatchedBy cs (dispatched g p (processor_at g.state p) t)
  matched-dispatched cs g p t m =
      let more = dispatch_lines (is_same_task (processor_at g.state p).run t) p t in
      let ds = contexts_after_all sys M cs g.lines in
      subst (λ (es : Contexts (Held C)). AreMatched (dispatched g p (processor_at g.state p) t).state es)
      (sym (after-append sys M cs g.lines more))
      (same-matched g.state (dispatched g p (processor_at g.state p) t).state ds (contexts_after_all sys M ds more)
      (tasks-all sys M ds more) (places-all sys M ds more)
      (λ q. set_at idle (λ (c : Processor). c.handler ≡ (processor_at g.state q).handler) g.state.processors p _ q
      (λ e. ap (λ (v : ℕ). (processor_at g.state v).handler) e) refl)
      (same-all sys M ds more (dispatch-begins_none (is_same_task (processor_at g.state p).run t) p t)) m)

  matched-none : (held : Bool) (cs : Contexts (Held C)) (g : Progress) (p : ℕ) → MatchedBy cs g
      → MatchedBy cs (if held then g else dispatched g p (processor_at g.state p) (top g.state p))
  matched-none true cs g p m = m
  matched-none false cs g p m = matched-dispatched cs g p (top g.state p) m

  matched-with : (o : Option Handler) (cs : Contexts (Held C)) (g : Progress) (p : ℕ)
      → handler_to_begin sys g.state p (processor_at g.state p) ≡ o
      → length g.state.pending_cyclics ≤ length sys.cyclics
      → length g.state.processors ≡ sys.processors → MatchedBy cs g
      → MatchedBy cs (settled_with o g p (processor_at g.state p))
  matched-with None cs g p e few long m = matched-none (is_dispatch_held (processor_at g.state p)) cs g p m
  matched-with (Some (handler.Interrupt i)) cs g p e few long m =
      matched-begun cs g (without_pending g.state (handler.Interrupt i)) p (handler.Interrupt i) refl long
      (begins-of (runs_handler (processor_at g.state p).handler || is_cpu_locked (processor_at g.state p)) sys g.state
      p _ few e) m
  matched-with (Some (handler.Cyclic c)) cs g p e few long m =
      matched-begun cs g (without_pending g.state (handler.Cyclic c)) p (handler.Cyclic c) refl long
      (begins-of (runs_handler (processor_at g.state p).handler || is_cpu_locked (processor_at g.state p)) sys g.state
      p _ few e) m

  matched-all : (cs : Contexts (Held C)) (g : Progress) (ps : List ℕ)
      → length g.state.pending_cyclics ≤ length sys.cyclics
      → length g.state.processors ≡ sys.processors → MatchedBy cs g → MatchedBy cs (all_settled sys g ps)
  matched-all cs g [] few long m = m
  matched-all cs g (p ∷ ps) few long m =
      let cpu = processor_at g.state p in
      let o = handler_to_begin sys g.state p cpu in
      let cyclics = cyclics-with o g p cpu in
      matched-all cs (settled_on sys g p cpu) ps (omega (arith, few, cyclics)) (processors-with o g p cpu ∙ long)
      (matched-with o cs g p refl few long m)

  -- events

  abbrev IsMatched : World C → Type 0
  IsMatched w = AreMatched w.state w.contexts

  abbrev pub LeavesMatched : Reaction C → Type 0
  LeavesMatched Nothing = Unit {0}
  LeavesMatched (Did d) = HasSizes sys d.world.state → IsMatched d.world
  LeavesMatched (Kept p v) = IsMatched v

  finished-matched : (cs : Contexts (Held C)) (own : List Line) (g : Progress)
      → MatchedBy cs (record g { lines = own ++ g.lines }) → LeavesMatched (Did (finished sys M cs own g))
  finished-matched cs own g m sizes =
      let first : Progress = record g { lines = own ++ g.lines } in
      let ps = places_from 0 (length g.state.processors) in
      let few = sizes.cyclics in
      let same = cyclics-all sys first ps in
      matched-all cs first ps (omega (arith, few, same)) (sym (processors-all sys first ps) ∙ sizes.processors) m

  caused-matched : (s : KernelState) (cs : Contexts (Held C)) (own : Line) (g : Progress) → AreMatched s cs
      → BeginsNone own → AllByRecursion BeginsNone g.lines → SameHandlers s g.state
      → LeavesMatched (Did (finished sys M cs (own ∷ []) g))
  caused-matched s cs own g m first rest same =
      finished-matched cs (own ∷ []) g
      (same-matched s g.state cs (contexts_after_all sys M cs (own ∷ g.lines)) (tasks-all sys M cs (own ∷ g.lines))
      (places-all sys M cs (own ∷ g.lines)) same (same-all sys M cs (own ∷ g.lines) (first, rest)) m)

  answered-matched : (answer : Answer) (s : KernelState) (cs : Contexts (Held C)) (p : ℕ) (who : Caller) (made : Call)
      (g : Progress)
      → AreMatched s cs → AllByRecursion BeginsNone g.lines → SameHandlers s g.state
      → LeavesMatched (answered answer sys M cs p who made g)
  answered-matched (Replies reply) s cs p who made g m rest same =
      caused-matched s cs (line.Call p who made (Some reply)) g m tt rest same
  answered-matched Waits s cs p who made g m rest same = caused-matched s cs
      (line.Call p who made None) g m tt rest same
  answered-matched Ends s cs p who made g m rest same = caused-matched s cs (line.End p who) g m tt rest same
  answered-matched Spins s cs p who made g m rest same = tt

  -- where the context of a caller of which one is kept is another one
  for-body : (o : Option (HandlerContext (Held C))) (c : Held C) → IsThere (context_in o)
      → kept_body (context_for (body_in o) (Some c)) ≡ kept_body o
  for-body None c there = absurd there
  for-body (Some k) c there = refl

  with-matched : (s : KernelState) (cs : Contexts (Held C)) (p : ℕ) (who : Caller) (c : Held C)
      → IsThere (context_of cs p who) → AreMatched s cs → AreMatched s (with_context cs p who (Some c))
  with-matched s cs p (caller.Task t) c there m =
      record { tasks = length-set cs.tasks t _ ∙ m.tasks; handlers = m.handlers; each = m.each }
  with-matched s cs p (caller.Handler i) c there m =
      same-matched s s cs (with_context cs p (caller.Handler i) (Some c)) refl (length-set cs.handlers p _) (λ q. refl)
      (body-set sys M cs.handlers p _ (for-body (context_at cs.handlers p) c there)) m

  called-matched : (w : World C) (p : ℕ) (who : Caller) (c : Held C) (made : Call)
      → IsThere (context_of w.contexts p who)
      → IsActor sys w.state p who → Holds w.state → IsMatched w
      → LeavesMatched (call_made sys M (with_context w.contexts p who (Some c)) p who made
      (called sys w.state p who made))
  called-matched w p (caller.Task me) c made there i a m =
      let o = called sys w.state p (caller.Task me) made in
      let f = keeps-task_call sys w.state p me made in
      answered-matched o.answer w.state (with_context w.contexts p (caller.Task me) (Some c)) p
      (caller.Task me) made o.progress
      (with-matched w.state w.contexts p (caller.Task me) c there m)
      (all-map (IsOwn w.state p) BeginsNone o.progress.lines (own-begins_none w.state p) (f.lines i a)) f.handlers
  called-matched w p (caller.Handler j) c made there i a m =
      let o = called sys w.state p (caller.Handler j) made in
      let f = keeps-handler_call sys w.state p j made in
      answered-matched o.answer w.state (with_context w.contexts p (caller.Handler j) (Some c)) p
      (caller.Handler j) made o.progress
      (with-matched w.state w.contexts p (caller.Handler j) c there m)
      (all-map (IsOwn w.state p) BeginsNone o.progress.lines (own-begins_none w.state p) (f.lines tt a)) f.handlers

  ended-matched : (w : World C) (p : ℕ) (who : Caller) (own : Line) → BeginsNone own → HasSizes sys w.state
      → IsActor sys w.state p who → Holds w.state → IsMatched w → LeavesMatched (Did (ended_with sys M w p who own))
  ended-matched w p (caller.Task t) own n sizes i a m =
      let x = task_at w.state.tasks t in
      let g = actor_ended sys w.state p (caller.Task t) in
      caused-matched w.state (contexts_ended sys M w.contexts p (caller.Task t)) own g
      (record { tasks = length-set w.contexts.tasks t _ ∙ m.tasks; handlers = m.handlers; each = m.each }) n
      (all-map (IsOwn w.state p) BeginsNone g.lines (own-begins_none w.state p)
      (lines-ended_itself sys w.state p t x i.runs a))
      (handlers-ended_itself sys w.state p t x)
  ended-matched w p (caller.Handler j) own n sizes i a m =
      caused-matched (handler_ended w.state p) (contexts_ended sys M w.contexts p (caller.Handler j)) own
      (actor_ended sys w.state p (caller.Handler j))
      (record {
        tasks = m.tasks;
        handlers = length-set w.contexts.handlers p None ∙ m.handlers;
        each = λ q. both-set idle None (λ (c : Processor) (o : Option (HandlerContext (Held C))). Matches sys q
            c.handler (kept_body o))
            w.state.processors w.contexts.handlers (sizes.processors ∙ sym m.handlers) p
            (record (processor_at w.state p) { handler = None }) None q (λ e. tt) (m.each q);
      }) n tt (λ q. refl)

  stretched-matched : (w : World C) (p : ℕ) (who : Caller) (x : Ending C) → IsThere (context_of w.contexts p who)
      → HasSizes sys w.state → IsActor sys w.state p who → Holds w.state → IsMatched w
      → LeavesMatched (stretched sys M w p who x)
  stretched-matched w p who (ends.Call c made) there sizes i a m = called-matched w p who (Awaits c) made there i a m
  stretched-matched w p who (ends.End c) there sizes i a m = ended-matched w p who (line.End p who) tt sizes i a m
  stretched-matched w p who (ends.Fault c fault) there sizes i a m = ended-matched w p who
      (line.Fault p who fault) tt sizes i a m
  stretched-matched w p who (ends.Over None) there sizes i a m = tt
  stretched-matched w p who (ends.Over (Some c)) there sizes i a m = with-matched w.state w.contexts p who
      (Goes c) there m

  run_in-matched : (n : ℕ) (w : World C) (p : ℕ) (who : Caller) (o : Option (Held C)) → context_of w.contexts p who ≡ o
      → HasSizes sys w.state → IsActor sys w.state p who → Holds w.state → IsMatched w
      → LeavesMatched (run_in sys M n w p who o)
  run_in-matched n w p who None e sizes i a m = tt
  run_in-matched n w p who (Some (Awaits c)) e sizes i a m = tt
  run_in-matched n w p who (Some (Goes c)) e sizes i a m =
      stretched-matched w p who _ (subst (λ (o : Option (Held C)). IsThere o) (sym e) tt) sizes i a m

  run_by-matched : (n : ℕ) (w : World C) (p : ℕ) (i : Option Handler) (t : Option ℕ) → IsSettled sys w.state
      → (processor_at w.state p).handler ≡ i → (processor_at w.state p).run ≡ t → HasSizes sys w.state → IsMatched w
      → LeavesMatched (run_by sys M n w p (actor_by i t))
  run_by-matched n w p (Some i) t h e r sizes m =
      run_in-matched n w p (caller.Handler i) (context_of w.contexts p (caller.Handler i)) refl sizes tt
      (holds sys w.state h) m
  run_by-matched n w p None (Some t) h e r sizes m =
      run_in-matched n w p (caller.Task t) (context_of w.contexts p (caller.Task t)) refl sizes
      (acts sys w.state p t h e r)
      (holds sys w.state h) m
  run_by-matched n w p None None h e r sizes m = tt

  interrupted-matched : (o : Option InterruptConfig) (w : World C) (i : ℕ) → IsMatched w
      → LeavesMatched (interrupted o sys M w i)
  interrupted-matched None w i m = tt
  interrupted-matched (Some config) w i m = by_pending (is_pending w.state.pending_interrupts i) where
    by_pending : (pending : Bool) → LeavesMatched (interrupted_by pending sys M w i)
    by_pending true = tt
    by_pending false =
        caused-matched w.state w.contexts (line.Int i) (unchanged (with_interrupt_pending w.state i)) m tt tt
        (λ q. refl)

  pub step-matched : (n : ℕ) (w : World C) (e : Event) → IsSettled sys w.state → HasSizes sys w.state → IsMatched w
      → LeavesMatched (step sys M n w e)
  step-matched n w (Run zero) h sizes m = tt
  step-matched n w (Run (suc p)) h sizes m =
      run_by-matched n w p (processor_at w.state p).handler (processor_at w.state p).run h refl refl sizes m
  step-matched n w Tick h sizes m =
      let g = ticked sys w.state in
      caused-matched w.state w.contexts (line.Tick (w.state.clock + 1)) g m tt
      (all-map (IsOwn w.state 0) BeginsNone g.lines (own-begins_none w.state 0) (lines-ticked sys w.state 0))
      (handlers-same w.state g.state (actors-ticked sys w.state))
  step-matched n w (Int zero) h sizes m = tt
  step-matched n w (Int (suc i)) h sizes m = interrupted-matched (interrupt_config sys i) w i m

  -- setup

  runs_none : (n p q : ℕ) → Matches sys q (found idle (slice_get (replicate n idle) p)).handler
      (kept_body {A = Held C} (context_at (replicate n None) p))
  runs_none zero p q = tt
  runs_none (suc n) zero q = tt
  runs_none (suc n) (suc p) q = runs_none n p q

  begun-none : (b : Bool) (g : Progress) (t : ℕ) → AllByRecursion BeginsNone g.lines
      → AllByRecursion BeginsNone (started_if b sys g t).lines
  begun-none true g t h =
      all-snoc BeginsNone g.lines (line.Starts (started_block sys t (task_at g.state.tasks t)).processor t) h tt
  begun-none false g t h = h

  started-processors : (b : Bool) (g : Progress) (t : ℕ) → (started_if b sys g t).state.processors ≡ g.state.processors
  started-processors true g t = refl
  started-processors false g t = refl

  all_started-processors : (g : Progress) (ts : List ℕ) → (all_started sys g ts).state.processors ≡ g.state.processors
  all_started-processors g [] = refl
  all_started-processors g (t ∷ ts) =
      let b = (task_config sys t).activated in
      all_started-processors (started_if b sys g t) ts ∙ started-processors b g t

  all_begun-none : (g : Progress) (ts : List ℕ) → AllByRecursion BeginsNone g.lines
      → AllByRecursion BeginsNone (all_started sys g ts).lines
  all_begun-none g [] h = h
  all_begun-none g (t ∷ ts) h =
      let b = (task_config sys t).activated in
      all_begun-none (started_if b sys g t) ts (begun-none b g t h)

  first-places : (cs : List TaskConfig)
      → length (map (λ c. Some (Goes (M.start (body_of c.entry) c.exinf))) cs) ≡ length cs
  first-places [] = refl
  first-places (c ∷ cs) = ap suc (first-places cs)

  setup-matched : HasSizes sys (setup sys M).world.state → IsMatched (setup sys M).world
  setup-matched =
      let ts = places_from 0 (length sys.tasks) in
      let s = created_state sys in
      let cs = first_contexts sys M in
      let g = all_started sys (unchanged s) ts in
      let same = all_started-processors (unchanged s) ts in
      finished-matched cs [] g
      (same-matched s g.state cs (contexts_after_all sys M cs g.lines) (tasks-all sys M cs g.lines)
      (places-all sys M cs g.lines)
      (λ q. ap (λ (cpus : List Processor). (found idle (slice_get cpus q)).handler) same)
      (same-all sys M cs g.lines (all_begun-none (unchanged s) ts tt))
      (record {
        tasks = first-places sys.tasks;
        handlers = length-replicate sys.processors None;
        each = λ p. runs_none sys.processors p p;
      }))

  -- what holds of each world that setup and events reach

  pub record Holding (w : World C) : Type 0 where
    pub settled : IsSettled sys w.state
    pub kept : AreKept sys w
    pub sizes : HasSizes sys w.state
    pub matched : IsMatched w

  few : (s : KernelState) → HasSizes sys s → length s.pending_cyclics ≤ length sys.cyclics
  few s sizes = let same = sizes.cyclics in omega (arith, same)

  reaction-holding : (n : ℕ) (w : World C) (x : Reaction C) (es : List Event) → Holding w → LeavesSettled sys x
      → LeavesKept sys M x
      → LeavesMatched x
      → ((v : World C) → Holding v → ((fs : List Event) → HasSizes sys (run sys M n v fs).world.state)
      → Holding (run sys M n v es).world)
      → ((fs : List Event) → HasSizes sys (run_on w x (λ v. run sys M n v fs)).world.state)
      → Holding (run_on w x (λ v. run sys M n v es)).world
  reaction-holding n w Nothing es h s k m go sizes = go w h sizes
  reaction-holding n w (Did d) es h s k m go sizes =
      go d.world
      (record { settled = s; kept = k (few d.world.state (sizes [])); sizes = sizes []; matched = m (sizes []) }) sizes
  reaction-holding n w (Kept p v) es h s k m go sizes =
      go v (record { settled = s; kept = k; sizes = sizes []; matched = m }) sizes

  run-holding : (n : ℕ) (w : World C) (es : List Event) → Holding w
      → ((fs : List Event) → HasSizes sys (run sys M n w fs).world.state) → Holding (run sys M n w es).world
  run-holding n w [] h sizes = h
  run-holding n w (e ∷ es) h sizes =
      reaction-holding n w (step sys M n w e) es h (step-leaves_settled sys M n w e h.settled)
      (step-kept sys M n w e h.settled h.kept) (step-matched n w e h.settled h.sizes h.matched)
      (λ v k more. run-holding n v es k more) (λ fs. sizes (e ∷ fs))

  -- after setup and any events
  pub all-holding : (n : ℕ) (es : List Event)
      → ((fs : List Event) → HasSizes sys (run sys M n (setup sys M).world fs).world.state)
      → Holding (run sys M n (setup sys M).world es).world
  all-holding n es sizes =
      run-holding n (setup sys M).world es
      (record {
        settled = setup-settled sys M;
        kept = setup-kept sys M (few (setup sys M).world.state (sizes []));
        sizes = sizes [];
        matched = setup-matched (sizes []);
      }) sizes
