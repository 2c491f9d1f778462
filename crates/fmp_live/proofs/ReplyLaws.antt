-- What an event does by two meanings of bodies that differ in how a reply is delivered alone.
use Rattle.std.proofs.Common.{◌≡◌, ◌⊎◌, inl, inr, ℕ, zero, suc, Bool, true, false, not, ◌&&◌, ◌||◌, List, [], ◌∷◌, ◌++◌}
use Rattle.std.proofs.Common.{◌+◌, Option, Some, None, refl, sym, ◌∙◌, ap, subst}
use Rattle.std.specs.List.{list_all}
use Rattle.fmp_base.specs.declared.bodies.HandlerContext.{HandlerContext}
use Rattle.fmp_base.specs.declared.bodies.HandlerStart.{HandlerStart}
use Rattle.fmp_base.specs.declared.bodies.Held.{Held}
use Rattle.fmp_base.specs.declared.bodies.Held.TheVariants.{Goes, Awaits}
use Rattle.fmp_base.specs.declared.calls.Answer.{Answer}
use Rattle.fmp_base.specs.declared.calls.Answer.TheVariants.{Replies, Waits, Ends, Spins}
use Rattle.fmp_base.specs.declared.calls.Call.{Call}
use Rattle.fmp_base.specs.declared.calls.Reply.{Reply}
use Rattle.fmp_base.specs.declared.events.Event.{Event}
use Rattle.fmp_base.specs.declared.events.Event.TheVariants.{Run, Tick, Int}
use Rattle.fmp_base.specs.declared.events.Line.{Line}
use Rattle.fmp_base.specs.declared.events.Line.TheVariants as line
use Rattle.fmp_base.specs.declared.states.Caller.{Caller}
use Rattle.fmp_base.specs.declared.states.Caller.TheVariants as caller
use Rattle.fmp_base.specs.declared.states.Handler.{Handler}
use Rattle.fmp_base.specs.declared.systems.InterruptConfig.{InterruptConfig}
use Rattle.fmp_base.specs.Calls.{called}
use Rattle.fmp_base.specs.Meanings.{Meaning, Contexts, World, caller_body, context_at, context_for, context_in, body_in}
use Rattle.fmp_base.specs.Meanings.{context_of, contexts_after, contexts_after_all, fresh_context, handler_start}
use Rattle.fmp_base.specs.Meanings.{task_body, told, with_context, with_handler_context}
use Rattle.fmp_base.specs.Settles.{settled}
use Rattle.fmp_base.specs.States.{KernelState, Progress, processor_at, unchanged}
use Rattle.fmp_base.specs.Steps.{Done, Reaction, Nothing, Did, Kept, actor_ended, actor_of, answered, concluded}
use Rattle.fmp_base.specs.Steps.{contexts_ended, finished, interrupted, interrupted_by, run_by, run_in, step, stretched}
use Rattle.fmp_base.specs.Stretches.{Ending}
use Rattle.fmp_base.specs.Stretches as ends
use Rattle.fmp_base.specs.Systems.{SystemTables, interrupt_config}
use Rattle.fmp_base.specs.TieLaws.{AllTied-context_at, AllTied-slice_set}
use Rattle.fmp_base.specs.Ticks.{is_pending, ticked, with_interrupt_pending}
use Rattle.fmp_base.specs.Ties.{AllTied, OptionTied}
use Rattle.fmp_live.specs.Fits.{is_e_ok, is_reply_ok}

and-both : (a b : Bool) → (a && b) ≡ true → (a ≡ true) × (b ≡ true)
and-both true b h = (refl, h)
and-both false b h = cc

-- contexts are tied to themselves
tied-self : {X : Type 0} (R : ℕ → X → X → Type 0) → ((i : ℕ) (c : X) → R i c c) → (cs : List (Option X))
    → AllTied R cs cs
tied-self R g [] = tt
tied-self R g (None ∷ cs) = (tt, tied-self (λ i. R (suc i)) (λ i. g (suc i)) cs)
tied-self R g (Some c ∷ cs) = (g zero c, tied-self (λ i. R (suc i)) (λ i. g (suc i)) cs)

-- tied contexts are the same where the tie at each place makes them so
tied-same : {X : Type 0} (R : ℕ → X → X → Type 0) (cs ds : List (Option X))
    → ((i : ℕ) (c d : X) → context_at ds i ≡ Some d → R i c d → c ≡ d) → AllTied R cs ds → cs ≡ ds
tied-same R [] [] g h = refl
tied-same R [] (d ∷ ds) g h = absurd h
tied-same R (c ∷ cs) [] g h = absurd h
tied-same {X} R (None ∷ cs) (None ∷ ds) g h =
    ap (λ (xs : List (Option X)). None ∷ xs)
    (tied-same (λ i. R (suc i)) cs ds (λ i c d e k. g (suc i) c d e k) h.1)
tied-same {X} R (Some c ∷ cs) (Some d ∷ ds) g h =
    ap (λ (x : X). Some x ∷ cs) (g zero c d refl h.0)
    ∙ ap (λ (xs : List (Option X)). Some d ∷ xs)
    (tied-same (λ i. R (suc i)) cs ds (λ i c d e k. g (suc i) c d e k) h.1)
tied-same R (None ∷ cs) (Some d ∷ ds) g h = absurd h.0
tied-same R (Some c ∷ cs) (None ∷ ds) g h = absurd h.0

module _ {C : Type 0} (sys : SystemTables) (M : Meaning C) (f g : ℕ → C → Reply → C) where
  abbrev first : Meaning C
  first = record { start = M.start; stretch = M.stretch; deliver = f }

  abbrev second : Meaning C
  second = record { start = M.start; stretch = M.stretch; deliver = g }

  -- both come from these contexts by this progress
  pub record FromOne (a b : Done C) : Type 0 where
    pub contexts : Contexts (Held C)
    pub progress : Progress
    pub one : a ≡ concluded sys first contexts progress
    pub other : b ≡ concluded sys second contexts progress

  -- the same, but for the replies that are delivered
  abbrev pub SameBut : Reaction C → Reaction C → Type 0
  SameBut Nothing Nothing = Unit {0}
  SameBut (Did a) (Did b) = FromOne a b
  SameBut (Kept p v) (Kept q w) = (p ≡ q) × (v ≡ w)
  SameBut _ _ = ⊥

  finished-but : (cs : Contexts (Held C)) (own : List Line) (p : Progress)
      → FromOne (finished sys first cs own p) (finished sys second cs own p)
  finished-but cs own p =
      record {
        contexts = cs;
        progress = settled sys (record p { lines = own ++ p.lines });
        one = refl;
        other = refl;
      }

  answered-but : (answer : Answer) (cs : Contexts (Held C)) (p : ℕ) (who : Caller) (c : Call) (g' : Progress)
      → SameBut (answered answer sys first cs p who c g') (answered answer sys second cs p who c g')
  answered-but (Replies reply) cs p who c g' = finished-but cs (line.Call p who c (Some reply) ∷ []) g'
  answered-but Waits cs p who c g' = finished-but cs (line.Call p who c None ∷ []) g'
  answered-but Ends cs p who c g' = finished-but cs (line.End p who ∷ []) g'
  answered-but Spins cs p who c g' = tt

  ended-same : (cs : Contexts (Held C)) (p : ℕ) (who : Caller)
      → contexts_ended sys first cs p who ≡ contexts_ended sys second cs p who
  ended-same cs p (caller.Task t) = refl
  ended-same cs p (caller.Handler h) = refl

  ended-but : (w : World C) (p : ℕ) (who : Caller) (own : Line)
      → FromOne (finished sys first (contexts_ended sys first w.contexts p who) (own ∷ []) (actor_ended sys w.state p who))
      (finished sys second (contexts_ended sys second w.contexts p who) (own ∷ []) (actor_ended sys w.state p who))
  ended-but w p who own =
      subst
      (λ (cs : Contexts (Held C)). FromOne
      (finished sys first (contexts_ended sys first w.contexts p who) (own ∷ []) (actor_ended sys w.state p who))
      (finished sys second cs (own ∷ []) (actor_ended sys w.state p who)))
      (ended-same w.contexts p who)
      (finished-but (contexts_ended sys first w.contexts p who) (own ∷ []) (actor_ended sys w.state p who))

  stretched-but : (w : World C) (p : ℕ) (who : Caller) (x : Ending C)
      → SameBut (stretched sys first w p who x) (stretched sys second w p who x)
  stretched-but w p who (ends.Call c made) =
      answered-but (called sys w.state p who made).answer (with_context w.contexts p who (Some (Awaits c))) p who made
      (called sys w.state p who made).progress
  stretched-but w p who (ends.End c) = ended-but w p who (line.End p who)
  stretched-but w p who (ends.Fault c fault) = ended-but w p who (line.Fault p who fault)
  stretched-but w p who (ends.Over None) = tt
  stretched-but w p who (ends.Over (Some c)) = (refl, refl)

  run_in-but : (n : ℕ) (w : World C) (p : ℕ) (who : Caller) (c : Option (Held C))
      → SameBut (run_in sys first n w p who c) (run_in sys second n w p who c)
  run_in-but n w p who None = tt
  run_in-but n w p who (Some (Awaits c)) = tt
  run_in-but n w p who (Some (Goes c)) = stretched-but w p who (M.stretch (caller_body sys w.contexts p who) n c)

  run_by-but : (n : ℕ) (w : World C) (p : ℕ) (who : Option Caller)
      → SameBut (run_by sys first n w p who) (run_by sys second n w p who)
  run_by-but n w p None = tt
  run_by-but n w p (Some who) = run_in-but n w p who (context_of w.contexts p who)

  interrupted_by-but : (pending : Bool) (w : World C) (i : ℕ)
      → SameBut (interrupted_by pending sys first w i) (interrupted_by pending sys second w i)
  interrupted_by-but true w i = tt
  interrupted_by-but false w i =
      finished-but w.contexts (line.Int i ∷ []) (unchanged (with_interrupt_pending w.state i))

  interrupted-but : (config : Option InterruptConfig) (w : World C) (i : ℕ)
      → SameBut (interrupted config sys first w i) (interrupted config sys second w i)
  interrupted-but None w i = tt
  interrupted-but (Some config) w i = interrupted_by-but (is_pending w.state.pending_interrupts i) w i

  -- an event does the same, but for the replies that are delivered
  pub step-but : (n : ℕ) (w : World C) (e : Event) → SameBut (step sys first n w e) (step sys second n w e)
  step-but n w (Run zero) = tt
  step-but n w (Run (suc p)) = run_by-but n w p (actor_of (processor_at w.state p))
  step-but n w Tick = finished-but w.contexts (line.Tick (w.state.clock + 1) ∷ []) (ticked sys w.state)
  step-but n w (Int zero) = tt
  step-but n w (Int (suc i)) = interrupted-but (interrupt_config sys i) w i

  -- ---- where the replies that are told are delivered in the same way

  -- `out` says of what is kept of a body whether replies to it may be delivered in two ways
  module _ (out : ℕ → Held C → Bool)
      (agree : (body : ℕ) (c : C) (reply : Reply) → (is_e_ok reply.code ≡ true) ⊎ (out body (Awaits c) ≡ false)
      → f body c reply ≡ g body c reply)
      (stays : (body : ℕ) (c : C) (reply : Reply) → out body (Goes (g body c reply)) ≡ out body (Awaits c))
      (tasks handlers : ℕ → Bool) where
    -- the same, unless another code may be told to it and the second is one of those
    abbrev Near : Bool → ℕ → Held C → Held C → Type 0
    Near told_too body c d = (told_too && out body d) ≡ false → c ≡ d

    either : (ok too o : Bool) → (ok || too) ≡ true → (too && o) ≡ false → (ok ≡ true) ⊎ (o ≡ false)
    either true too o h k = inl refl
    either false true o h k = inr k
    either false false o h k = cc

    body_same : (c d : C) → Awaits c ≡ Awaits d → c ≡ d
    body_same c d h = cc

    delivered-same : (too : Bool) (body : ℕ) (reply : Reply) (c d : C) → (is_e_ok reply.code || too) ≡ true
        → Near too body (Awaits c) (Awaits d) → (too && out body (Goes (g body d reply))) ≡ false
        → f body c reply ≡ g body d reply
    delivered-same too body reply c d fit h e =
        let before : (too && out body (Awaits d)) ≡ false = ap (λ (b : Bool). too && b) (sym (stays body d reply)) ∙ e in
        ap (λ (x : C). f body x reply) (body_same c d (h before))
        ∙ agree body d reply (either (is_e_ok reply.code) too (out body (Awaits d)) fit before)

    told-near : (too : Bool) (body : ℕ) (reply : Reply) (c d : Option (Held C)) → (is_e_ok reply.code || too) ≡ true
        → OptionTied (Near too body) c d
        → OptionTied (Near too body) (told first body reply c) (told second body reply d)
    told-near too body reply None None fit h = tt
    told-near too body reply None (Some d) fit h = absurd h
    told-near too body reply (Some c) None fit h = absurd h
    told-near too body reply (Some (Goes c)) (Some (Goes d)) fit h = h
    told-near too body reply (Some (Awaits c)) (Some (Awaits d)) fit h =
        λ e. ap (λ (x : C). Goes x) (delivered-same too body reply c d fit h e)
    told-near too body reply (Some (Goes c)) (Some (Awaits d)) fit h =
        λ e. absurd (cc (h (ap (λ (b : Bool). too && b) (sym (stays body d reply)) ∙ e)))
    told-near too body reply (Some (Awaits c)) (Some (Goes d)) fit h = λ e. absurd (cc (h e))

    abbrev NearHandler : Bool → HandlerContext (Held C) → HandlerContext (Held C) → Type 0
    NearHandler too c d = (too && out d.body d.context) ≡ false → c ≡ d

    abbrev of_body : ℕ → Held C → HandlerContext (Held C)
    of_body body c = record { body = body; context = c }

    handler_told-near : (too : Bool) (a b : ℕ) (reply : Reply) (c d : Held C) → (is_e_ok reply.code || too) ≡ true
        → NearHandler too (of_body a c) (of_body b d)
        → OptionTied (NearHandler too) (context_for a (told first a reply (Some c)))
        (context_for b (told second b reply (Some d)))
    handler_told-near too a b reply (Goes c) (Goes d) fit h = h
    handler_told-near too a b reply (Awaits c) (Awaits d) fit h = λ e.
        let before : (too && out b (Awaits d)) ≡ false = ap (λ (x : Bool). too && x) (sym (stays b d reply)) ∙ e in
        let same : of_body a (Awaits c) ≡ of_body b (Awaits d) = h before in
        let bodies : a ≡ b = ap (λ (x : HandlerContext (Held C)). x.body) same in
        let contexts : c ≡ d = body_same c d (ap (λ (x : HandlerContext (Held C)). x.context) same) in
        ap (λ (k : ℕ). of_body k (Goes (f k c reply))) bodies
        ∙ ap (λ (x : C). of_body b (Goes (f b x reply))) contexts
        ∙ ap (λ (x : C). of_body b (Goes x))
        (agree b d reply (either (is_e_ok reply.code) too (out b (Awaits d)) fit before))
    handler_told-near too a b reply (Goes c) (Awaits d) fit h = λ e.
        absurd (cc (ap (λ (x : HandlerContext (Held C)). x.context)
        (h (ap (λ (x : Bool). too && x) (sym (stays b d reply)) ∙ e))))
    handler_told-near too a b reply (Awaits c) (Goes d) fit h = λ e.
        absurd (cc (ap (λ (x : HandlerContext (Held C)). x.context) (h e)))

    handler-near : (too : Bool) (reply : Reply) (c d : Option (HandlerContext (Held C)))
        → (is_e_ok reply.code || too) ≡ true → OptionTied (NearHandler too) c d
        → OptionTied (NearHandler too) (context_for (body_in c) (told first (body_in c) reply (context_in c)))
        (context_for (body_in d) (told second (body_in d) reply (context_in d)))
    handler-near too reply None None fit h = tt
    handler-near too reply None (Some d) fit h = absurd h
    handler-near too reply (Some c) None fit h = absurd h
    handler-near too reply (Some c) (Some d) fit h =
        handler_told-near too c.body d.body reply c.context d.context fit h

    record NearContexts (a b : Contexts (Held C)) : Type 0 where
      of_tasks : AllTied (λ t. Near (tasks t) (task_body sys t)) a.tasks b.tasks
      of_handlers : AllTied (λ p. NearHandler (handlers p)) a.handlers b.handlers

    -- a line tells E_OK, or one of those to which another code may be told
    abbrev pub fits : Line → Bool
    fits (line.Call p (caller.Task t) made reply) = is_reply_ok reply || tasks t
    fits (line.Call p (caller.Handler h) made reply) = is_reply_ok reply || handlers p
    fits (line.Gets p t reply) = is_e_ok reply.code || tasks t
    fits _ = true

    task-told : (a b : Contexts (Held C)) (t : ℕ) (reply : Reply) → (is_e_ok reply.code || tasks t) ≡ true
        → NearContexts a b
        → NearContexts (with_context a 0 (caller.Task t) (told first (task_body sys t) reply (context_at a.tasks t)))
        (with_context b 0 (caller.Task t) (told second (task_body sys t) reply (context_at b.tasks t)))
    task-told a b t reply fit h =
        record {
          of_tasks = AllTied-slice_set (λ u. Near (tasks u) (task_body sys u)) a.tasks b.tasks t _ _ h.of_tasks
              (told-near (tasks t) (task_body sys t) reply (context_at a.tasks t) (context_at b.tasks t) fit
              (AllTied-context_at (λ u. Near (tasks u) (task_body sys u)) a.tasks b.tasks t h.of_tasks));
          of_handlers = h.of_handlers;
        }

    abbrev handler_after : Meaning C → Contexts (Held C) → ℕ → Reply → Option (HandlerContext (Held C))
    handler_after N a p reply =
        context_for (body_in (context_at a.handlers p))
        (told N (body_in (context_at a.handlers p)) reply (context_in (context_at a.handlers p)))

    begun-near : (too : Bool) (start : Option HandlerStart)
        → OptionTied (NearHandler too) (fresh_context first start) (fresh_context second start)
    begun-near too None = tt
    begun-near too (Some start) = λ e. refl

    handler-told : (a b : Contexts (Held C)) (p : ℕ) (reply : Reply) → (is_e_ok reply.code || handlers p) ≡ true
        → NearContexts a b
        → NearContexts (with_handler_context a p (handler_after first a p reply))
        (with_handler_context b p (handler_after second b p reply))
    handler-told a b p reply fit h =
        record {
          of_tasks = h.of_tasks;
          of_handlers = AllTied-slice_set (λ q. NearHandler (handlers q)) a.handlers b.handlers p _ _ h.of_handlers
              (handler-near (handlers p) reply (context_at a.handlers p) (context_at b.handlers p) fit
              (AllTied-context_at (λ q. NearHandler (handlers q)) a.handlers b.handlers p h.of_handlers));
        }

    near-after : (a b : Contexts (Held C)) (l : Line) → fits l ≡ true → NearContexts a b
        → NearContexts (contexts_after sys first a l) (contexts_after sys second b l)
    near-after a b (line.Starts p t) fit h =
        record {
          of_tasks = AllTied-slice_set (λ u. Near (tasks u) (task_body sys u)) a.tasks b.tasks t _ _ h.of_tasks
              (λ e. refl);
          of_handlers = h.of_handlers;
        }
    near-after a b (line.Begins p i) fit h =
        record {
          of_tasks = h.of_tasks;
          of_handlers = AllTied-slice_set (λ q. NearHandler (handlers q)) a.handlers b.handlers p _ _ h.of_handlers
              (begun-near (handlers p) (handler_start sys i));
        }
    near-after a b (line.Gets p t reply) fit h = task-told a b t reply fit h
    near-after a b (line.Call p (caller.Task t) made None) fit h = h
    near-after a b (line.Call p (caller.Task t) made (Some reply)) fit h = task-told a b t reply fit h
    near-after a b (line.Call p (caller.Handler i) made None) fit h = h
    near-after a b (line.Call p (caller.Handler i) made (Some reply)) fit h = handler-told a b p reply fit h
    near-after a b (line.Tick c) fit h = h
    near-after a b (line.Int i) fit h = h
    near-after a b (line.End p who) fit h = h
    near-after a b (line.Fault p who x) fit h = h
    near-after a b (line.Pends p c) fit h = h
    near-after a b (line.Runs p t) fit h = h

    near-all : (a b : Contexts (Held C)) (ls : List Line) → list_all fits ls ≡ true → NearContexts a b
        → NearContexts (contexts_after_all sys first a ls) (contexts_after_all sys second b ls)
    near-all a b [] fit h = h
    near-all a b (l ∷ ls) fit h =
        let both = and-both (fits l) (list_all fits ls) fit in
        near-all (contexts_after sys first a l) (contexts_after sys second b l) ls both.1
        (near-after a b l both.0 h)

    near-self : (cs : Contexts (Held C)) → NearContexts cs cs
    near-self cs =
        record {
          of_tasks = tied-self (λ t. Near (tasks t) (task_body sys t)) (λ i c e. refl) cs.tasks;
          of_handlers = tied-self (λ p. NearHandler (handlers p)) (λ i c e. refl) cs.handlers;
        }

    -- contexts of such lines, after which none to which another code was told is one of those, are the same
    pub contexts-same : (cs : Contexts (Held C)) (ls : List Line) → list_all fits ls ≡ true
        → ((t : ℕ) (c : Held C) → context_at (contexts_after_all sys second cs ls).tasks t ≡ Some c
        → (tasks t && out (task_body sys t) c) ≡ false)
        → ((p : ℕ) (c : HandlerContext (Held C))
        → context_at (contexts_after_all sys second cs ls).handlers p ≡ Some c
        → (handlers p && out c.body c.context) ≡ false)
        → contexts_after_all sys first cs ls ≡ contexts_after_all sys second cs ls
    contexts-same cs ls fit clear clear_too =
        let h = near-all cs cs ls fit (near-self cs) in
        let a : Contexts (Held C) = contexts_after_all sys first cs ls in
        let b : Contexts (Held C) = contexts_after_all sys second cs ls in
        ap (λ (ts : List (Option (Held C))). record { tasks = ts; handlers = a.handlers })
        (tied-same (λ t. Near (tasks t) (task_body sys t)) a.tasks b.tasks (λ t c d e k. k (clear t d e)) h.of_tasks)
        ∙ ap (λ (hs : List (Option (HandlerContext (Held C)))). record { tasks = b.tasks; handlers = hs })
        (tied-same (λ p. NearHandler (handlers p)) a.handlers b.handlers (λ p c d e k. k (clear_too p d e))
        h.of_handlers)
