-- An event that is done has one line of an interrupt if it is one, and else none.
use Rattle.std.proofs.Common.{◌≡◌, ◌+◌, ℕ, zero, suc, List, [], ◌∷◌, Option, Some, None, Bool, true, false, refl, ◌∙◌}
use Rattle.std.proofs.Common.{ap, subst, arith, cond, count_by, length, slice_get, if◌then◌else◌}
use Rattle.std.specs.List.{list_any}
use Rattle.std.proofs.lemmas.Bool.{or_parts}
use Rattle.std.proofs.lemmas.List.Sums.{sum_by-cons}
use Rattle.fmp_base.specs.declared.bodies.Held.{Held}
use Rattle.fmp_base.specs.declared.bodies.Held.TheVariants.{Goes, Awaits}
use Rattle.fmp_base.specs.declared.calls.Answer.{Answer}
use Rattle.fmp_base.specs.declared.calls.Answer.TheVariants.{Replies, Waits, Ends, Spins}
use Rattle.fmp_base.specs.declared.calls.Call.{Call}
use Rattle.fmp_base.specs.declared.events.Event.{Event}
use Rattle.fmp_base.specs.declared.events.Event.TheVariants.{Run, Tick, Int}
use Rattle.fmp_base.specs.declared.events.Line.{Line}
use Rattle.fmp_base.specs.declared.events.Line.TheVariants as line
use Rattle.fmp_base.specs.declared.states.Caller.{Caller}
use Rattle.fmp_base.specs.declared.states.Caller.TheVariants as caller
use Rattle.fmp_base.specs.declared.states.Handler.{Handler}
use Rattle.fmp_base.specs.declared.states.Processor.{Processor}
use Rattle.fmp_base.specs.declared.systems.InterruptConfig.{InterruptConfig}
use Rattle.fmp_base.specs.Calls.{called}
use Rattle.fmp_base.specs.Meanings.{Meaning, Contexts, World, caller_body, context_of, with_context}
use Rattle.fmp_base.specs.Outcomes.{code}
use Rattle.fmp_base.specs.Queues.{top}
use Rattle.fmp_base.specs.Settles.{all_settled, dispatch_lines, dispatched, handler_to_begin, is_dispatch_held}
use Rattle.fmp_base.specs.Settles.{is_same_task, settled, settled_on, settled_with}
use Rattle.fmp_base.specs.Setups.{all_started, created_state, setup, started_if}
use Rattle.fmp_base.specs.States.{KernelState, Progress, places_from, processor_at, task_at, unchanged}
use Rattle.fmp_base.specs.Steps.{Done, Reaction, Nothing, Did, Kept, actor_ended, actor_of, answered, contexts_ended}
use Rattle.fmp_base.specs.Steps.{finished, interrupted, interrupted_by, run_by, run_in, step, stretched}
use Rattle.fmp_base.specs.Stretches.{Ending}
use Rattle.fmp_base.specs.Stretches as ends
use Rattle.fmp_base.specs.Systems.{SystemTables, found, interrupt_config, task_config}
use Rattle.fmp_base.specs.Ticks.{all_cycled, all_timed_out, cycled, cycled_by, is_due, is_pending, pended_by, ticked}
use Rattle.fmp_base.specs.Ticks.{timed_out, timed_out_by, timeout_code, with_clock_advanced, with_interrupt_pending}
use Rattle.fmp_bisimulation.proofs.LineLaws.{settled-behind}
use Rattle.fmp_schedules.specs.Deadlocks.{is_interrupt}
use Rattle.fmp_schedules.specs.Schedules.{is_request}
use Rattle.fmp_schedules.proofs.CallLines.{AreQuiet, IsQuiet, called-quiet, ended-quiet, quiet-append, released-quiet}
use Rattle.fmp_schedules.proofs.CallLines.{started-quiet}

-- how many lines of interrupts there are behind one
count-behind : (l : Line) (ls : List Line)
    → count_by is_request (l ∷ ls) ≡ cond (is_request l) 1 0 + count_by is_request ls
count-behind l ls = sum_by-cons (λ x. cond (is_request x) 1 0) l ls

quiet-count : (ls : List Line) → AreQuiet ls → count_by is_request ls ≡ 0
quiet-count [] h = refl
quiet-count (l ∷ ls) h =
    let parts = or_parts (is_request l) (list_any is_request ls) h in
    let none : 0 + count_by is_request ls ≡ count_by is_request ls = omega arith in
    count-behind l ls
    ∙ ap (λ (b : Bool). cond b 1 0 + count_by is_request ls) parts.0
    ∙ none
    ∙ quiet-count ls parts.1

-- settling
module _ (sys : SystemTables) where
  dispatch-quiet : (b : Bool) (p : ℕ) (t : Option ℕ) → AreQuiet (dispatch_lines b p t)
  dispatch-quiet true p t = refl
  dispatch-quiet false p t = refl

  settled_with-quiet : (b : Option Handler) (g : Progress) (p : ℕ) (cpu : Processor) → IsQuiet g
      → IsQuiet (settled_with b g p cpu)
  settled_with-quiet (Some i) g p cpu h = quiet-append g.lines _ h refl
  settled_with-quiet None g p cpu h =
      elim (is_dispatch_held cpu) as (λ b. IsQuiet (cond b g (dispatched g p cpu (top g.state p)))) [
        | true ↦ h
        | false ↦ quiet-append g.lines _ h (dispatch-quiet (is_same_task cpu.run (top g.state p)) p (top g.state p))
      ]

  all_settled-quiet : (g : Progress) (ps : List ℕ) → IsQuiet g → IsQuiet (all_settled sys g ps)
  all_settled-quiet g [] h = h
  all_settled-quiet g (p ∷ ps) h =
      all_settled-quiet (settled_on sys g p (processor_at g.state p)) ps
      (settled_with-quiet (handler_to_begin sys g.state p (processor_at g.state p)) g p (processor_at g.state p) h)

  settled-quiet : (g : Progress) → IsQuiet g → IsQuiet (settled sys g)
  settled-quiet g h = all_settled-quiet g (places_from 0 (length g.state.processors)) h

  -- the clock
  timed_out_by-quiet : (b : Bool) (g : Progress) (t : ℕ) → IsQuiet g
      → IsQuiet (timed_out_by b g t (task_at g.state.tasks t))
  timed_out_by-quiet true g t h =
      released-quiet g t (task_at g.state.tasks t) (code (timeout_code (task_at g.state.tasks t).phase)) h
  timed_out_by-quiet false g t h = h

  all_timed_out-quiet : (g : Progress) (ts : List ℕ) → IsQuiet g → IsQuiet (all_timed_out g ts)
  all_timed_out-quiet g [] h = h
  all_timed_out-quiet g (t ∷ ts) h =
      all_timed_out-quiet (timed_out g t (task_at g.state.tasks t)) ts
      (timed_out_by-quiet (is_due g.state.clock (task_at g.state.tasks t).deadline) g t h)

  pended_by-quiet : (b : Bool) (g : Progress) (c : ℕ) → IsQuiet g → IsQuiet (pended_by b sys g c)
  pended_by-quiet true g c h = h
  pended_by-quiet false g c h = quiet-append g.lines _ h refl

  cycled_by-quiet : (b : Bool) (g : Progress) (c : ℕ) → IsQuiet g → IsQuiet (cycled_by b sys g c)
  cycled_by-quiet true g c h = pended_by-quiet (is_pending g.state.pending_cyclics c) g c h
  cycled_by-quiet false g c h = h

  all_cycled-quiet : (g : Progress) (cs : List ℕ) → IsQuiet g → IsQuiet (all_cycled sys g cs)
  all_cycled-quiet g [] h = h
  all_cycled-quiet g (c ∷ cs) h =
      all_cycled-quiet (cycled sys g c) cs
      (cycled_by-quiet (is_due g.state.clock (found None (slice_get g.state.due_times c))) g c h)

  ticked-quiet : (s : KernelState) → IsQuiet (ticked sys s)
  ticked-quiet s =
      all_cycled-quiet _ (places_from 0 (length s.due_times))
      (all_timed_out-quiet (unchanged (with_clock_advanced s)) (places_from 0 (length s.tasks)) refl)

  -- setup
  started_if-quiet : (b : Bool) (g : Progress) (t : ℕ) → IsQuiet g → IsQuiet (started_if b sys g t)
  started_if-quiet true g t h = started-quiet sys g t (task_at g.state.tasks t) h
  started_if-quiet false g t h = h

  all_started-quiet : (g : Progress) (ts : List ℕ) → IsQuiet g → IsQuiet (all_started sys g ts)
  all_started-quiet g [] h = h
  all_started-quiet g (t ∷ ts) h =
      all_started-quiet (started_if (task_config sys t).activated sys g t) ts
      (started_if-quiet (task_config sys t).activated g t h)

module _ {C : Type 0} (sys : SystemTables) (M : Meaning C) where
  -- setup has none
  pub setup-counts : count_by is_request (setup sys M).lines ≡ 0
  setup-counts =
      let g = all_started sys (unchanged (created_state sys)) (places_from 0 (length sys.tasks)) in
      quiet-count (setup sys M).lines
      (settled-quiet sys g
      (all_started-quiet sys (unchanged (created_state sys)) (places_from 0 (length sys.tasks)) refl))

  -- of an event with this line in front
  own-count : (cs : Contexts (Held C)) (own : Line) (g : Progress) → IsQuiet g
      → count_by is_request (finished sys M cs (own ∷ []) g).lines ≡ cond (is_request own) 1 0 + 0
  own-count cs own g h =
      ap (λ (z : Progress). count_by is_request z.lines) (settled-behind sys (own ∷ []) g)
      ∙ count-behind own (settled sys g).lines
      ∙ ap (λ (k : ℕ). cond (is_request own) 1 0 + k) (quiet-count (settled sys g).lines (settled-quiet sys g h))

  -- a reaction that is done has this many lines of interrupts
  abbrev Counts : ℕ → Reaction C → Type 0
  Counts k Nothing = Unit {0}
  Counts k (Did d) = count_by is_request d.lines ≡ k
  Counts k (Kept p w) = Unit {0}

  answered-counts : (answer : Answer) (cs : Contexts (Held C)) (p : ℕ) (who : Caller) (c : Call) (g : Progress)
      → IsQuiet g → Counts 0 (answered answer sys M cs p who c g)
  answered-counts (Replies reply) cs p who c g h = own-count cs (line.Call p who c (Some reply)) g h
  answered-counts Waits cs p who c g h = own-count cs (line.Call p who c None) g h
  answered-counts Ends cs p who c g h = own-count cs (line.End p who) g h
  answered-counts Spins cs p who c g h = tt

  actor_ended-quiet : (s : KernelState) (p : ℕ) (who : Caller) → IsQuiet (actor_ended sys s p who)
  actor_ended-quiet s p (caller.Task t) = ended-quiet sys _ t (task_at s.tasks t) refl
  actor_ended-quiet s p (caller.Handler i) = refl

  module _ (w : World C) where
    stretched-counts : (p : ℕ) (who : Caller) (x : Ending C) → Counts 0 (stretched sys M w p who x)
    stretched-counts p who (ends.Call c made) =
        let o = called sys w.state p who made in
        answered-counts o.answer (with_context w.contexts p who (Some (Awaits c))) p who made o.progress
        (called-quiet sys w.state p who made)
    stretched-counts p who (ends.End c) =
        own-count (contexts_ended sys M w.contexts p who) (line.End p who) (actor_ended sys w.state p who)
        (actor_ended-quiet w.state p who)
    stretched-counts p who (ends.Fault c fault) =
        own-count (contexts_ended sys M w.contexts p who) (line.Fault p who fault) (actor_ended sys w.state p who)
        (actor_ended-quiet w.state p who)
    stretched-counts p who (ends.Over None) = tt
    stretched-counts p who (ends.Over (Some c)) = tt

    run_in-counts : (n p : ℕ) (who : Caller) (o : Option (Held C)) → Counts 0 (run_in sys M n w p who o)
    run_in-counts n p who None = tt
    run_in-counts n p who (Some (Awaits c)) = tt
    run_in-counts n p who (Some (Goes c)) = stretched-counts p who (M.stretch (caller_body sys w.contexts p who) n c)

    run_by-counts : (n p : ℕ) (o : Option Caller) → Counts 0 (run_by sys M n w p o)
    run_by-counts n p None = tt
    run_by-counts n p (Some who) = run_in-counts n p who (context_of w.contexts p who)

    interrupted_by-counts : (b : Bool) (i : ℕ) → Counts 1 (interrupted_by b sys M w i)
    interrupted_by-counts true i = tt
    interrupted_by-counts false i =
        own-count w.contexts (line.Int i) (unchanged (with_interrupt_pending w.state i)) refl

    interrupted-counts : (o : Option InterruptConfig) (i : ℕ) → Counts 1 (interrupted o sys M w i)
    interrupted-counts None i = tt
    interrupted-counts (Some config) i = interrupted_by-counts (is_pending w.state.pending_interrupts i) i

    step-counts : (n : ℕ) (e : Event) → Counts (if is_interrupt e then 1 else 0) (step sys M n w e)
    step-counts n (Run zero) = tt
    step-counts n (Run (suc p)) = run_by-counts n p (actor_of (processor_at w.state p))
    step-counts n Tick =
        own-count w.contexts (line.Tick (w.state.clock + 1)) (ticked sys w.state) (ticked-quiet sys w.state)
    step-counts n (Int zero) = tt
    step-counts n (Int (suc i)) = interrupted-counts (interrupt_config sys i) i

  pub done-counts : (n : ℕ) (w : World C) (e : Event) (d : Done C) → step sys M n w e ≡ Did d
      → count_by is_request d.lines ≡ (if is_interrupt e then 1 else 0)
  done-counts n w e d h = subst (λ (x : Reaction C). Counts (if is_interrupt e then 1 else 0) x) h (step-counts w n e)
