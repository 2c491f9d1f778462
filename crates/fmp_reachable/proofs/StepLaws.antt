-- Every event keeps what holds between events.
use Rattle.std.proofs.Common.{◌≡◌, ◌+◌, ◌<◌, ◌≤◌, ℕ, zero, suc, List, [], ◌∷◌, ◌++◌, Option, Some, None, Bool, true}
use Rattle.std.proofs.Common.{false, ◌||◌, refl, sym, ◌∙◌, ap, subst, arith, nat_eq, length, slice_get}
use Rattle.std.specs.List.{AllByRecursion}
use Rattle.std.proofs.Math.ListN.{length-set}
use Rattle.fmp_base.specs.declared.bodies.Held.{Held}
use Rattle.fmp_base.specs.declared.bodies.Held.TheVariants.{Goes, Awaits}
use Rattle.fmp_base.specs.declared.calls.Answer.{Answer}
use Rattle.fmp_base.specs.declared.calls.Answer.TheVariants.{Replies, Waits, Ends, Spins}
use Rattle.fmp_base.specs.declared.calls.Call.{Call}
use Rattle.fmp_base.specs.declared.calls.Reply.{Reply}
use Rattle.fmp_base.specs.declared.events.Event.{Event}
use Rattle.fmp_base.specs.declared.events.Event.TheVariants.{Run, Tick, Int}
use Rattle.fmp_base.specs.declared.events.Line.{Line}
use Rattle.fmp_base.specs.declared.events.Line.TheVariants as line
use Rattle.fmp_base.specs.declared.states.Caller.{Caller}
use Rattle.fmp_base.specs.declared.states.Caller.TheVariants as caller
use Rattle.fmp_base.specs.declared.states.Handler.{Handler}
use Rattle.fmp_base.specs.declared.states.Lock.TheVariants.{Free}
use Rattle.fmp_base.specs.declared.states.Phase.TheVariants.{Ready, Waiting}
use Rattle.fmp_base.specs.declared.states.TaskBlock.{TaskBlock}
use Rattle.fmp_base.specs.declared.states.WaitCause.{WaitCause}
use Rattle.fmp_base.specs.declared.systems.CyclicConfig.{CyclicConfig}
use Rattle.fmp_base.specs.declared.systems.InterruptConfig.{InterruptConfig}
use Rattle.fmp_base.specs.Calls.{called}
use Rattle.fmp_base.specs.Changes.{with_nothing_run}
use Rattle.fmp_base.specs.Meanings.{Meaning, Contexts, World, caller_body, context_of, with_context}
use Rattle.fmp_base.specs.Ranges.{CyclicInRange, IsInRange}
use Rattle.fmp_base.specs.Queues.{is_ready}
use Rattle.fmp_base.specs.Settles.{settled}
use Rattle.fmp_base.specs.States.{KernelState, Progress, unchanged, processor_at, task_at, with_last}
use Rattle.fmp_base.specs.Steps.{Reaction, Nothing, Did, Kept, actor_by, actor_ended, actor_of, answered}
use Rattle.fmp_base.specs.Steps.{contexts_ended, ended_with, finished, interrupted, interrupted_by, run_by, run_in}
use Rattle.fmp_base.specs.Steps.{step, stretched}
use Rattle.fmp_base.specs.Stretches.{Ending}
use Rattle.fmp_base.specs.Stretches as ends
use Rattle.fmp_base.specs.Systems.{SystemTables, cyclic_config, found, interrupt_config}
use Rattle.fmp_base.specs.TaskCalls.{is_dormant}
use Rattle.fmp_base.specs.Ticks.{is_pending, ticked, with_interrupt_pending}
use Rattle.fmp_ring.specs.OrderLaws.{nat_same}
use Rattle.fmp_tasks.specs.Homes.{is_waiting}
use Rattle.fmp_worlds.specs.Settled.{IsSettled}
use Rattle.fmp_reachable.proofs.CallChanges.{ComesBy, handler-comes, task-comes}
use Rattle.fmp_reachable.specs.Numbers.{IsAhead}
use Rattle.fmp_reachable.proofs.Changes.{Change, Cpu, Interrupts, IsFair, Keeps, changed, is_told}
use Rattle.fmp_reachable.proofs.Changes.{keeps-changed, keeps-end, keeps-own, keeps-start, steady-waits}
use Rattle.fmp_reachable.proofs.EventChanges.{settled-comes, ticked-keeps}
use Rattle.fmp_reachable.proofs.HeldLaws.{SameLengths, held-but, held-waits, lengths-lines, lengths-task}
use Rattle.fmp_reachable.proofs.HeldLaws.{lines-held, same-lengths}
use Rattle.fmp_reachable.proofs.Stands.{off, there}
use Rattle.fmp_reachable.proofs.TaskChanges.{ended-comes}
use Rattle.fmp_reachable.specs.Sound.{IsSteady, AreHeld, IsSteadyWorld}

-- the period of a cyclic handler is not 0
period-at : (processors : ℕ) (none : CyclicConfig) (cs : List CyclicConfig) (c : ℕ) → 1 ≤ none.period
    → AllByRecursion (CyclicInRange processors) cs → 1 ≤ (found none (slice_get cs c)).period
period-at processors none [] c l k = l
period-at processors none (x ∷ xs) zero l (k, ks) = let p = k.period in p.least
period-at processors none (x ∷ xs) (suc c) l (k, ks) = period-at processors none xs c l ks

pub periods : (sys : SystemTables) → IsInRange sys → (c : ℕ) → 1 ≤ (cyclic_config sys c).period
periods sys h c =
    let table = h.cyclics in
    let one : 1 ≤ 1 = omega arith in
    period-at sys.processors _ sys.cyclics c one table.each

-- a task that waits has gone to the end
record IsGone (s : KernelState) (me : ℕ) (g : Progress) : Type 0 where
  cause : WaitCause
  deadline : Option ℕ
  ahead : IsAhead (s.clock + 1) deadline
  is : g ≡ unchanged (with_last s me (record (task_at s.tasks me) { phase = Waiting cause; deadline = deadline }))

or-true : (b : Bool) → (b || true) ≡ true
or-true true = refl
or-true false = refl

-- an actor that is a task is there, and does not wait
abbrev IsActing : KernelState → Caller → Type 0
IsActing s (caller.Task t) = (t < length s.tasks) × (is_waiting (task_at s.tasks t).phase ≡ false)
IsActing s (caller.Handler i) = Unit {0}

acts : (s : KernelState) (h : Option Handler) (r : Option ℕ)
    → ((t : ℕ) → r ≡ Some t → (task_at s.tasks t).phase ≡ Ready)
    → (who : Caller) → actor_by h r ≡ Some who → IsActing s who
acts s (Some i) r on (caller.Handler j) e = tt
acts s (Some i) r on (caller.Task t) e = cc
acts s None (Some u) on (caller.Task t) e =
    let same : Some u ≡ Some t = cc in
    let ready = on t same in
    (there s.tasks t (ap is_dormant ready), ap is_waiting ready)
acts s None (Some u) on (caller.Handler j) e = tt
acts s None None on who e = cc

module _ {C : Type 0} (sys : SystemTables) (M : Meaning C) where
  abbrev pub Leaves : Reaction C → Type 0
  Leaves Nothing = Unit {0}
  Leaves (Did d) = IsSteadyWorld sys d.world
  Leaves (Kept p v) = IsSteadyWorld sys v

  -- an event ends, which began with these tasks and contexts
  pub finished-steady : (now : ℕ) (before : List TaskBlock) (cs : Contexts (Held C)) (own : List Line) (g : Progress)
      → Keeps sys (now + 1) now before g → AreHeld before cs.tasks
      → ((t : ℕ) → is_waiting (task_at before t).phase ≡ true → is_told t own ≡ false)
      → length cs.tasks ≡ length sys.tasks → length cs.handlers ≡ sys.processors
      → IsSteadyWorld sys (finished sys M cs own g).world
  finished-steady now before cs own g k h told many handlers =
      let last = settled sys (record g { lines = own ++ g.lines }) in
      let after : Keeps sys (now + 1) now before last =
      settled-comes sys (Keeps sys (now + 1) now before) (keeps-changed sys (now + 1) now before)
      (record g { lines = own ++ g.lines })
      (keeps-own sys (now + 1) now before own g k told) in
      let lengths = lengths-lines sys M cs last.lines in
      record {
        state = keeps-end sys now before last after;
        held = lines-held sys M before last.state.tasks cs last.lines h after.lasts;
        tasks = lengths.tasks ∙ many;
        handlers = lengths.handlers ∙ handlers;
      }

  module _ (s : KernelState) (cs : Contexts (Held C))
      (h : IsSteadyWorld sys (record { state = s; contexts = cs })) where
    abbrev w : World C
    w = record { state = s; contexts = cs }

    abbrev P : Progress → Type 0
    P g = Keeps sys (s.clock + 1) s.clock s.tasks g

    go : (g : Progress) (c : Change) → P g → IsFair sys g.state c → P (changed c g)
    go = keeps-changed sys (s.clock + 1) s.clock s.tasks

    start : P (unchanged s)
    start = keeps-start sys s h.state

    held : AreHeld s.tasks cs.tasks
    held = h.held

    context-lengths : (p : ℕ) (who : Caller) (c : Option (Held C)) → SameLengths cs (with_context cs p who c)
    context-lengths p (caller.Task t) c = lengths-task cs t c
    context-lengths p (caller.Handler i) c = record { tasks = refl; handlers = length-set cs.handlers p _ }

    context-held : (p : ℕ) (who : Caller) (c : Option (Held C)) → IsActing s who
        → AreHeld s.tasks (with_context cs p who c).tasks
    context-held p (caller.Task t) c a = held-but s.tasks cs.tasks t c held a.1
    context-held p (caller.Handler i) c a = held

    finishes : (ds : Contexts (Held C)) (own : List Line) (g : Progress) → P g → AreHeld s.tasks ds.tasks
        → SameLengths cs ds
        → ((t : ℕ) → is_waiting (task_at s.tasks t).phase ≡ true → is_told t own ≡ false)
        → IsSteadyWorld sys (finished sys M ds own g).world
    finishes ds own g k d l told =
        finished-steady s.clock s.tasks ds own g k d told (l.tasks ∙ h.tasks) (l.handlers ∙ h.handlers)

    -- an actor ends
    actor_ended-keeps : (p : ℕ) (who : Caller) → IsActing s who → P (actor_ended sys s p who)
    actor_ended-keeps p (caller.Task t) a =
        ended-comes sys P go (unchanged (with_nothing_run s p)) t (task_at s.tasks t)
        (go (unchanged s) (Cpu p (record (processor_at s p) { run = None; lock = Free; dispatch_disabled = false }))
        start tt) a.0
    actor_ended-keeps p (caller.Handler i) a =
        go (unchanged s) (Cpu p (record (processor_at s p) { handler = None })) start tt

    ended-lengths : (p : ℕ) (who : Caller) → SameLengths cs (contexts_ended sys M cs p who)
    ended-lengths p (caller.Task t) = lengths-task cs t _
    ended-lengths p (caller.Handler i) = record { tasks = refl; handlers = length-set cs.handlers p _ }

    ended-held : (p : ℕ) (who : Caller) → IsActing s who → AreHeld s.tasks (contexts_ended sys M cs p who).tasks
    ended-held p (caller.Task t) a = held-but s.tasks cs.tasks t _ held a.1
    ended-held p (caller.Handler i) a = held

    ends-steady : (p : ℕ) (who : Caller) (own : Line) → IsActing s who → ((t : ℕ) → is_told t (own ∷ []) ≡ false)
        → IsSteadyWorld sys (ended_with sys M w p who own).world
    ends-steady p who own a told =
        finishes (contexts_ended sys M cs p who) (own ∷ []) (actor_ended sys s p who) (actor_ended-keeps p who a)
        (ended-held p who a)
        (ended-lengths p who) (λ t k. told t)

    -- a call
    apart : (t me : ℕ) → is_waiting (task_at s.tasks t).phase ≡ true → is_waiting (task_at s.tasks me).phase ≡ false
        → nat_eq t me ≡ false
    apart t me w n = by_test (nat_eq t me) refl where
      by_test : (b : Bool) → nat_eq t me ≡ b → nat_eq t me ≡ false
      by_test false e = e
      by_test true e =
          off (sym (subst (λ (v : ℕ). is_waiting (task_at s.tasks v).phase ≡ false) (sym (nat_same t me e)) n) ∙ w)

    reply-told : (p : ℕ) (who : Caller) (c : Call) (r : Reply) (t : ℕ) → IsActing s who
        → is_waiting (task_at s.tasks t).phase ≡ true
        → is_told t (line.Call p who c (Some r) ∷ []) ≡ false
    reply-told p (caller.Task me) c r t a w = ap (λ (b : Bool). b || false) (apart t me w a.1)
    reply-told p (caller.Handler i) c r t a w = refl

    gone-steady : (p me : ℕ) (c : C) (made : Call) (g : Progress) → me < length s.tasks → IsGone s me g
        → IsSteadyWorld sys (finished sys M (with_context cs p (caller.Task me) (Some (Awaits c)))
        (line.Call p (caller.Task me) made None ∷ []) g).world
    gone-steady p me c made g l k =
        let y = record (task_at s.tasks me) { phase = Waiting k.cause; deadline = k.deadline } in
        let s' = with_last s me y in
        let ds = with_context cs p (caller.Task me) (Some (Awaits c)) in
        let lengths = lengths-task cs me (Some (Awaits c)) in
        let steady : IsSteady sys s' =
        steady-waits sys s me y h.state l (record { rest = λ e. off e; calm = λ e. off e; ahead = k.ahead })
        (or-true (is_ready y)) in
        subst (λ (z : Progress). IsSteadyWorld sys (finished sys M ds (line.Call p (caller.Task me) made None ∷ [])
        z).world) (sym k.is)
        (finished-steady s.clock s'.tasks ds (line.Call p (caller.Task me) made None ∷ []) (unchanged s')
        (keeps-start sys s' steady)
        (held-waits s.tasks cs.tasks me y c held) (λ t w. refl) (lengths.tasks ∙ h.tasks)
        (lengths.handlers ∙ h.handlers))

    answered-task : (answer : Answer) (p me : ℕ) (c : C) (made : Call) (g : Progress) → IsActing s (caller.Task me)
        → ComesBy P (IsGone s me) answer g
        → Leaves (answered answer sys M (with_context cs p (caller.Task me) (Some (Awaits c))) p
        (caller.Task me) made g)
    answered-task (Replies r) p me c made g a k =
        finishes (with_context cs p (caller.Task me) (Some (Awaits c)))
        (line.Call p (caller.Task me) made (Some r) ∷ []) g k
        (context-held p (caller.Task me) (Some (Awaits c)) a) (context-lengths p (caller.Task me) (Some (Awaits c)))
        (λ t w. reply-told p (caller.Task me) made r t a w)
    answered-task Waits p me c made g a k = gone-steady p me c made g a.0 k
    answered-task Ends p me c made g a k =
        finishes (with_context cs p (caller.Task me) (Some (Awaits c))) (line.End p (caller.Task me) ∷ []) g k
        (context-held p (caller.Task me) (Some (Awaits c)) a) (context-lengths p (caller.Task me) (Some (Awaits c)))
        (λ t w. refl)
    answered-task Spins p me c made g a k = tt

    answered-handler : (answer : Answer) (p : ℕ) (i : Handler) (c : C) (made : Call) (g : Progress)
        → ComesBy P (λ z. ⊥) answer g
        → Leaves (answered answer sys M (with_context cs p (caller.Handler i) (Some (Awaits c))) p
        (caller.Handler i) made g)
    answered-handler (Replies r) p i c made g k =
        finishes (with_context cs p (caller.Handler i) (Some (Awaits c)))
        (line.Call p (caller.Handler i) made (Some r) ∷ []) g k held
        (context-lengths p (caller.Handler i) (Some (Awaits c))) (λ t w. refl)
    answered-handler Waits p i c made g k = absurd k
    answered-handler Ends p i c made g k =
        finishes (with_context cs p (caller.Handler i) (Some (Awaits c))) (line.End p (caller.Handler i) ∷ []) g k held
        (context-lengths p (caller.Handler i) (Some (Awaits c))) (λ t w. refl)
    answered-handler Spins p i c made g k = tt

    call-steady : (p : ℕ) (who : Caller) (c : C) (made : Call) → IsActing s who
        → Leaves (stretched sys M w p who (ends.Call c made))
    call-steady p (caller.Task me) c made a =
        let o = called sys s p (caller.Task me) made in
        let state = h.state in
        answered-task o.answer p me c made o.progress a
        (task-comes sys P go s start state.blocks state.messages state.words (IsGone s me) me a.0
        (λ z d k. record { cause = z; deadline = d; ahead = k; is = refl }) p made)
    call-steady p (caller.Handler i) c made a =
        let o = called sys s p (caller.Handler i) made in
        let state = h.state in
        answered-handler o.answer p i c made o.progress
        (handler-comes sys P go s start state.blocks state.messages state.words (λ z. ⊥) p i made)

    stretched-steady : (p : ℕ) (who : Caller) (x : Ending C) → IsActing s who → Leaves (stretched sys M w p who x)
    stretched-steady p who (ends.Call c made) a = call-steady p who c made a
    stretched-steady p who (ends.End c) a = ends-steady p who (line.End p who) a (λ t. refl)
    stretched-steady p who (ends.Fault c fault) a = ends-steady p who (line.Fault p who fault) a (λ t. refl)
    stretched-steady p who (ends.Over None) a = tt
    stretched-steady p who (ends.Over (Some c)) a =
        let l = context-lengths p who (Some (Goes c)) in
        record {
          state = h.state;
          held = context-held p who (Some (Goes c)) a;
          tasks = l.tasks ∙ h.tasks;
          handlers = l.handlers ∙ h.handlers;
        }

    run_in-steady : (n p : ℕ) (who : Caller) (o : Option (Held C)) → IsActing s who → Leaves (run_in sys M n w p who o)
    run_in-steady n p who None a = tt
    run_in-steady n p who (Some (Awaits c)) a = tt
    run_in-steady n p who (Some (Goes c)) a = stretched-steady p who (M.stretch (caller_body sys cs p who) n c) a

    run_by-steady : (n p : ℕ) (o : Option Caller) → ((who : Caller) → o ≡ Some who → IsActing s who)
        → Leaves (run_by sys M n w p o)
    run_by-steady n p None a = tt
    run_by-steady n p (Some who) a = run_in-steady n p who (context_of cs p who) (a who refl)

    interrupted-steady : (o : Option InterruptConfig) (i : ℕ) → interrupt_config sys i ≡ o
        → Leaves (interrupted o sys M w i)
    interrupted-steady None i e = tt
    interrupted-steady (Some config) i e = by_pending (is_pending s.pending_interrupts i) where
      by_pending : (b : Bool) → Leaves (interrupted_by b sys M w i)
      by_pending true = tt
      by_pending false =
          finishes cs (line.Int i ∷ []) (unchanged (with_interrupt_pending s i))
          (go (unchanged s) (Interrupts i true) start (λ n. let no : None ≡ Some config = sym n ∙ e in cc)) held
          (same-lengths cs)
          (λ t w. refl)

    step-leaves : (range : IsInRange sys) → IsSettled sys s → (n : ℕ) (e : Event) → Leaves (step sys M n w e)
    step-leaves range k n (Run zero) = tt
    step-leaves range k n (Run (suc p)) =
        run_by-steady n p (actor_of (processor_at s p)) (acts s (processor_at s p).handler (processor_at s p).run
        (k.ready p))
    step-leaves range k n Tick =
        finished-steady (s.clock + 1) s.tasks cs (line.Tick (s.clock + 1) ∷ []) (ticked sys s)
        (ticked-keeps sys (periods sys range) s h.state)
        held (λ t w. refl) h.tasks h.handlers
    step-leaves range k n (Int zero) = tt
    step-leaves range k n (Int (suc i)) = interrupted-steady (interrupt_config sys i) i refl

  pub step-steady : (range : IsInRange sys) (n : ℕ) (w : World C) (e : Event) → IsSteadyWorld sys w
      → IsSettled sys w.state
      → Leaves (step sys M n w e)
  step-steady range n w e h k = step-leaves w.state w.contexts h range k n e
