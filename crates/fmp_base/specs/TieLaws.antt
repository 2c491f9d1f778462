-- The laws of ties: from one stretch to whole runs. No case for any service call is needed, since no call looks
-- into a context.
use Rattle.std.specs.Prelude.{ℕ, zero, suc, ◌+◌, ◌≡◌, refl, List, [], ◌∷◌, ◌++◌, Option, Some, None, Bool, true, false}
use Rattle.std.specs.Prelude.{map, slice_get, slice_set, replicate, length}
use Rattle.std.proofs.Common.{subst, sym, ap, ◌∙◌}
use Rattle.fmp_base.specs.declared.bodies.HandlerContext.{HandlerContext}
use Rattle.fmp_base.specs.declared.bodies.HandlerStart.{HandlerStart}
use Rattle.fmp_base.specs.declared.bodies.Held.{Held}
use Rattle.fmp_base.specs.declared.bodies.Held.TheVariants.{Goes, Awaits}
use Rattle.fmp_base.specs.declared.calls.Answer.{Answer}
use Rattle.fmp_base.specs.declared.calls.Answer.TheVariants.{Replies, Waits, Ends, Spins}
use Rattle.fmp_base.specs.declared.calls.Call.{Call}
use Rattle.fmp_base.specs.declared.calls.Reply.{Reply}
use Rattle.fmp_base.specs.declared.events.Event.{Event}
use Rattle.fmp_base.specs.declared.events.Event.TheVariants.{Run, Tick, Int}
use Rattle.fmp_base.specs.declared.events.Line.{Line}
use Rattle.fmp_base.specs.declared.events.Line.TheVariants as line
use Rattle.fmp_base.specs.declared.states.Caller.{Caller}
use Rattle.fmp_base.specs.declared.states.Caller.TheVariants as caller
use Rattle.fmp_base.specs.declared.states.Handler.{Handler}
use Rattle.fmp_base.specs.declared.systems.InterruptConfig.{InterruptConfig}
use Rattle.fmp_base.specs.declared.systems.TaskConfig.{TaskConfig}
use Rattle.fmp_base.specs.Calls.{called}
use Rattle.fmp_base.specs.Meanings.{Meaning, Contexts, World, task_body, handler_start, fresh_context, context_at}
use Rattle.fmp_base.specs.Meanings.{context_in, body_in, context_of, caller_body, context_for, with_context, told}
use Rattle.fmp_base.specs.Meanings.{delivered_to, called_back, task_begun, handler_begun, contexts_after}
use Rattle.fmp_base.specs.Meanings.{contexts_after_all}
use Rattle.fmp_base.specs.Runs.{Trace, completed_by, completed_on, complete_run}
use Rattle.fmp_base.specs.Settles.{settled}
use Rattle.fmp_base.specs.Setups.{setup, first_contexts, all_started, created_state}
use Rattle.fmp_base.specs.States.{KernelState, Progress, unchanged, processor_at, places_from}
use Rattle.fmp_base.specs.Steps.{Reaction, Nothing, Did, Kept, with_place, finished, actor_of, actor_ended}
use Rattle.fmp_base.specs.Steps.{contexts_ended, ended_with, answered, stretched, run_in, run_by, interrupted}
use Rattle.fmp_base.specs.Steps.{interrupted_by, step}
use Rattle.fmp_base.specs.Stretches.{Ending}
use Rattle.fmp_base.specs.Systems.{SystemTables, body_of, task_config, interrupt_config}
use Rattle.fmp_base.specs.Ticks.{ticked, with_interrupt_pending}
use Rattle.fmp_base.specs.Ties.{OptionTied, AllTied, StretchTied, over, kept, call, end_, fault, Any, KeepsTie}
use Rattle.fmp_base.specs.Ties.{HandlerTied, HeldTied, ContextsTied, WorldTied, BothDone, KeptOn, DoneTied, TraceAgrees}

pub AllTied-slice_set : {C D : Type 0} (R : ℕ → C → D → Type 0) (cs : List (Option C)) (ds : List (Option D)) (i : ℕ)
    (c : Option C) (d : Option D)
    → AllTied R cs ds → OptionTied (R i) c d → AllTied R (slice_set cs i c) (slice_set ds i d)
AllTied-slice_set R [] [] i c d h k = tt
AllTied-slice_set R [] (y ∷ ds) i c d h k = absurd h
AllTied-slice_set R (x ∷ cs) [] i c d h k = absurd h
AllTied-slice_set R (x ∷ cs) (y ∷ ds) zero c d h k = (k, h.1)
AllTied-slice_set R (x ∷ cs) (y ∷ ds) (suc i) c d h k = (h.0, AllTied-slice_set (λ j. R (suc j)) cs ds i c d h.1 k)

pub AllTied-context_at : {C D : Type 0} (R : ℕ → C → D → Type 0) (cs : List (Option C)) (ds : List (Option D)) (i : ℕ)
    → AllTied R cs ds → OptionTied (R i) (context_at cs i) (context_at ds i)
AllTied-context_at R [] [] i h = tt
AllTied-context_at R [] (y ∷ ds) i h = absurd h
AllTied-context_at R (x ∷ cs) [] i h = absurd h
AllTied-context_at R (x ∷ cs) (y ∷ ds) zero h = h.0
AllTied-context_at R (x ∷ cs) (y ∷ ds) (suc i) h = AllTied-context_at (λ j. R (suc j)) cs ds i h.1

pub AllTied-replicate : {C D : Type 0} (R : ℕ → C → D → Type 0) (n : ℕ)
    → AllTied R (replicate n None) (replicate n None)
AllTied-replicate R zero = tt
AllTied-replicate R (suc n) = (tt, AllTied-replicate (λ i. R (suc i)) n)

-- contexts that are made of each entry of a table are tied where each entry's two are
pub AllTied-map : {A C D : Type 0} (R : ℕ → C → D → Type 0) (f : A → C) (g : A → D) (xs : List A)
    → ((i : ℕ) (x : A) → slice_get xs i ≡ Some x → R i (f x) (g x))
    → AllTied R (map (λ x. Some (f x)) xs) (map (λ x. Some (g x)) xs)
AllTied-map R f g [] h = tt
AllTied-map R f g (x ∷ xs) h = (h zero x refl, AllTied-map (λ i. R (suc i)) f g xs (λ i y e. h (suc i) y e))

-- handlers' contexts that are tied are of one body
pub body_in-tied : {C D : Type 0} (R : ℕ → C → D → Type 0) (c : Option (HandlerContext C))
    (d : Option (HandlerContext D))
    → OptionTied (HandlerTied R) c d → body_in c ≡ body_in d
body_in-tied R None None h = refl
body_in-tied R None (Some d) h = absurd h
body_in-tied R (Some c) None h = absurd h
body_in-tied R (Some c) (Some d) h = h.bodies

pub context_in-tied : {C D : Type 0} (R : ℕ → C → D → Type 0) (c : Option (HandlerContext C))
    (d : Option (HandlerContext D))
    → OptionTied (HandlerTied R) c d → OptionTied (R (body_in c)) (context_in c) (context_in d)
context_in-tied R None None h = tt
context_in-tied R None (Some d) h = absurd h
context_in-tied R (Some c) None h = absurd h
context_in-tied R (Some c) (Some d) h = h.contexts

pub context_for-tied : {C D : Type 0} (R : ℕ → C → D → Type 0) (a b : ℕ) (c : Option C) (d : Option D)
    → a ≡ b → OptionTied (R a) c d → OptionTied (HandlerTied R) (context_for a c) (context_for b d)
context_for-tied R a b None None e h = tt
context_for-tied R a b None (Some d) e h = absurd h
context_for-tied R a b (Some c) None e h = absurd h
context_for-tied R a b (Some c) (Some d) e h = record { bodies = e; contexts = h }

-- where the caller's body is one in both, a tied context keeps the contexts tied
pub caller_body-tied : {C D : Type 0} (sys : SystemTables) (R : ℕ → C → D → Type 0) (a : Contexts C) (b : Contexts D)
    (p : ℕ) (who : Caller)
    → ContextsTied sys R a b → caller_body sys a p who ≡ caller_body sys b p who
caller_body-tied sys R a b p (caller.Task t) h = refl
caller_body-tied sys R a b p (caller.Handler i) h =
    body_in-tied R _ _ (AllTied-context_at (λ q. HandlerTied R) a.handlers b.handlers p h.handlers)

pub context_of-tied : {C D : Type 0} (sys : SystemTables) (R : ℕ → C → D → Type 0) (a : Contexts C) (b : Contexts D)
    (p : ℕ) (who : Caller)
    → ContextsTied sys R a b → OptionTied (R (caller_body sys a p who)) (context_of a p who) (context_of b p who)
context_of-tied sys R a b p (caller.Task t) h = AllTied-context_at (λ u. R (task_body sys u)) a.tasks b.tasks t h.tasks
context_of-tied sys R a b p (caller.Handler i) h =
    context_in-tied R _ _ (AllTied-context_at (λ q. HandlerTied R) a.handlers b.handlers p h.handlers)

pub with_context-tied : {C D : Type 0} (sys : SystemTables) (R : ℕ → C → D → Type 0) (a : Contexts C) (b : Contexts D)
    (p : ℕ) (who : Caller)
    (c : Option C) (d : Option D) → ContextsTied sys R a b → OptionTied (R (caller_body sys a p who)) c d
    → ContextsTied sys R (with_context a p who c) (with_context b p who d)
with_context-tied sys R a b p (caller.Task t) c d h k =
    record
    { tasks = AllTied-slice_set (λ u. R (task_body sys u)) a.tasks b.tasks t c d h.tasks k; handlers = h.handlers }
with_context-tied sys R a b p (caller.Handler i) c d h k =
    record {
      tasks = h.tasks;
      handlers = AllTied-slice_set (λ q. HandlerTied R) a.handlers b.handlers p _ _ h.handlers
          (context_for-tied R _ _ c d
          (body_in-tied R _ _ (AllTied-context_at (λ q. HandlerTied R) a.handlers b.handlers p h.handlers)) k);
    }

-- what is tied by Q is tied by R, where Q leads to R
AllTied-grown : {C D : Type 0} (Q R : ℕ → C → D → Type 0) (cs : List (Option C)) (ds : List (Option D))
    → ((i : ℕ) (c : C) (d : D) → Q i c d → R i c d) → AllTied Q cs ds → AllTied R cs ds
AllTied-grown Q R [] [] g h = tt
AllTied-grown Q R [] (d ∷ ds) g h = absurd h
AllTied-grown Q R (c ∷ cs) [] g h = absurd h
AllTied-grown Q R (None ∷ cs) (None ∷ ds) g h =
    (tt, AllTied-grown (λ i. Q (suc i)) (λ i. R (suc i)) cs ds (λ i. g (suc i)) h.1)
AllTied-grown Q R (Some c ∷ cs) (Some d ∷ ds) g h =
    (g zero c d h.0, AllTied-grown (λ i. Q (suc i)) (λ i. R (suc i)) cs ds (λ i. g (suc i)) h.1)
AllTied-grown Q R (None ∷ cs) (Some d ∷ ds) g h = absurd h.0
AllTied-grown Q R (Some c ∷ cs) (None ∷ ds) g h = absurd h.0

pub grown : {C D : Type 0} (sys : SystemTables) (Q R : ℕ → C → D → Type 0) (a : Contexts C) (b : Contexts D)
    → ((body : ℕ) (c : C) (d : D) → Q body c d → R body c d) → ContextsTied sys Q a b → ContextsTied sys R a b
grown sys Q R a b g h =
    record {
      tasks = AllTied-grown (λ t. Q (task_body sys t)) (λ t. R (task_body sys t)) a.tasks b.tasks
          (λ t. g (task_body sys t)) h.tasks;
      handlers = AllTied-grown (λ p. HandlerTied Q) (λ p. HandlerTied R) a.handlers b.handlers
          (λ p c d x. record { bodies = x.bodies; contexts = g c.body c.context d.context x.contexts }) h.handlers;
    }

pub held_grown : {C D : Type 0} (A Q R : ℕ → C → D → Type 0) → ((body : ℕ) (c : C) (d : D) → Q body c d → R body c d)
    → (body : ℕ) (c : Held C) (d : Held D) → HeldTied A Q body c d → HeldTied A R body c d
held_grown A Q R g body (Goes c) (Goes d) h = g body c d h
held_grown A Q R g body (Awaits c) (Awaits d) h = h
held_grown A Q R g body (Goes c) (Awaits d) h = absurd h
held_grown A Q R g body (Awaits c) (Goes d) h = absurd h

-- what ties an end or a fault is not needed for what follows
pub any_end : {C D : Type 0} (R S : C → D → Type 0) (K : C → Type 0) (x : Ending C) (y : Ending D)
    → StretchTied R S K x y → StretchTied R Any K x y
any_end R S K _ _ (over y) = over y
any_end R S K _ _ (kept c y h) = kept c y h
any_end R S K _ _ (call c d made h) = call c d made h
any_end R S K _ _ (end_ c d h) = end_ c d tt
any_end R S K _ _ (fault c d f h) = fault c d f tt

body_at : (sys : SystemTables) (t : ℕ) (c : TaskConfig) → slice_get sys.tasks t ≡ Some c
    → body_of c.entry ≡ task_body sys t
body_at sys t c e = rw e refl

completed_by-agrees : {C D : Type 0} (ls ms : List Line) (r : Option (Trace C)) (s : Option (Trace D)) → ls ≡ ms
    → TraceAgrees r s
    → TraceAgrees (completed_by ls r) (completed_by ms s)
completed_by-agrees ls ms None s e h = tt
completed_by-agrees ls ms (Some r) None e h = absurd h
completed_by-agrees ls ms (Some r) (Some s) e h =
    (ap (λ (q : List Line). q ∷ r.events) e ∙ ap (λ (q : List (List Line)). ms ∷ q) h.0, h.1)

completed_on-agrees : {C D : Type 0} {A : ℕ → C → D → Type 0} (sys : SystemTables) (R : ℕ → C → D → Type 0)
    (K : World C → Type 0) (x : Reaction C) (y : Reaction D)
    (f : World C → Option (Trace C)) (g : World D → Option (Trace D)) → DoneTied sys A R K x y
    → ((v : World C) (w : World D) → WorldTied sys A R v w → TraceAgrees (f v) (g w))
    → TraceAgrees (completed_on x f) (completed_on y g)
completed_on-agrees sys R K Nothing y f g h rest = tt
completed_on-agrees sys R K (Kept p x) y f g h rest = tt
completed_on-agrees sys R K (Did x) (Kept p y) f g h rest = absurd h
completed_on-agrees sys R K (Did x) Nothing f g h rest = absurd h
completed_on-agrees sys R K (Did x) (Did y) f g h rest =
    completed_by-agrees x.lines y.lines _ _ h.0 (rest x.world y.world h.1)

module _ {C D : Type 0} {A Q : ℕ → C → D → Type 0} {again : ℕ → D → D → Type 0} (sys : SystemTables)
    (R : ℕ → C → D → Type 0) (M : Meaning C) (m : ℕ) (N : Meaning D) (n : ℕ) (k : KeepsTie A Q R again M m N n) where
  pub told-tied : (body : ℕ) (reply : Reply) (c : Option (Held C)) (d : Option (Held D))
      → OptionTied (HeldTied A R body) c d → OptionTied (HeldTied A R body) (told M body reply c) (told N body reply d)
  told-tied body reply None None h = tt
  told-tied body reply None (Some d) h = absurd h
  told-tied body reply (Some c) None h = absurd h
  told-tied body reply (Some (Goes c)) (Some (Goes d)) h = h
  told-tied body reply (Some (Awaits c)) (Some (Awaits d)) h = k.delivers body c d reply h
  told-tied body reply (Some (Goes c)) (Some (Awaits d)) h = absurd h
  told-tied body reply (Some (Awaits c)) (Some (Goes d)) h = absurd h

  pub delivered_to-tied : (a : Contexts (Held C)) (b : Contexts (Held D)) (p : ℕ) (who : Caller) (reply : Reply)
      → ContextsTied sys (HeldTied A R) a b
      → ContextsTied sys (HeldTied A R) (delivered_to sys M a p who reply) (delivered_to sys N b p who reply)
  delivered_to-tied a b p who reply h =
      with_context-tied sys (HeldTied A R) a b p who _ _ h
      (subst (λ (body : ℕ). OptionTied (HeldTied A R (caller_body sys a p who))
      (told M (caller_body sys a p who) reply (context_of a p who)) (told N body reply (context_of b p who)))
      (caller_body-tied sys (HeldTied A R) a b p who h)
      (told-tied (caller_body sys a p who) reply (context_of a p who) (context_of b p who)
      (context_of-tied sys (HeldTied A R) a b p who h)))

  pub called_back-tied : (a : Contexts (Held C)) (b : Contexts (Held D)) (p : ℕ) (who : Caller) (reply : Option Reply)
      → ContextsTied sys (HeldTied A R) a b
      → ContextsTied sys (HeldTied A R) (called_back sys M a p who reply) (called_back sys N b p who reply)
  called_back-tied a b p who None h = h
  called_back-tied a b p who (Some reply) h = delivered_to-tied a b p who reply h

  pub task_begun-tied : (a : Contexts (Held C)) (b : Contexts (Held D)) (t : ℕ) → ContextsTied sys (HeldTied A R) a b
      → ContextsTied sys (HeldTied A R) (task_begun sys M a t) (task_begun sys N b t)
  task_begun-tied a b t h =
      record {
        tasks = AllTied-slice_set (λ u. HeldTied A R (task_body sys u)) a.tasks b.tasks t _ _ h.tasks
            (k.starts (task_body sys t) (task_config sys t).exinf);
        handlers = h.handlers;
      }

  fresh_context-tied : (h : Option HandlerStart)
      → OptionTied (HandlerTied (HeldTied A R)) (fresh_context M h) (fresh_context N h)
  fresh_context-tied None = tt
  fresh_context-tied (Some h) = record { bodies = refl; contexts = k.starts h.body h.exinf }

  pub handler_begun-tied : (a : Contexts (Held C)) (b : Contexts (Held D)) (p : ℕ) (i : Handler)
      → ContextsTied sys (HeldTied A R) a b
      → ContextsTied sys (HeldTied A R) (handler_begun sys M a p i) (handler_begun sys N b p i)
  handler_begun-tied a b p i h =
      record {
        tasks = h.tasks;
        handlers = AllTied-slice_set (λ q. HandlerTied (HeldTied A R)) a.handlers b.handlers p _ _ h.handlers
            (fresh_context-tied (handler_start sys i));
      }

  pub contexts_after-tied : (a : Contexts (Held C)) (b : Contexts (Held D)) (l : Line)
      → ContextsTied sys (HeldTied A R) a b
      → ContextsTied sys (HeldTied A R) (contexts_after sys M a l) (contexts_after sys N b l)
  contexts_after-tied a b (line.Starts p t) h = task_begun-tied a b t h
  contexts_after-tied a b (line.Gets p t reply) h =
      delivered_to-tied a b p (caller.Task t) reply h
  contexts_after-tied a b (line.Begins p i) h = handler_begun-tied a b p i h
  contexts_after-tied a b (line.Call p who c reply) h = called_back-tied a b p who reply h
  contexts_after-tied a b (line.Tick c) h = h
  contexts_after-tied a b (line.Int i) h = h
  contexts_after-tied a b (line.End p who) h = h
  contexts_after-tied a b (line.Fault p who f) h = h
  contexts_after-tied a b (line.Pends p c) h = h
  contexts_after-tied a b (line.Runs p t) h = h

  pub contexts_after_all-tied : (a : Contexts (Held C)) (b : Contexts (Held D)) (ls : List Line)
      → ContextsTied sys (HeldTied A R) a b
      → ContextsTied sys (HeldTied A R) (contexts_after_all sys M a ls) (contexts_after_all sys N b ls)
  contexts_after_all-tied a b [] h = h
  contexts_after_all-tied a b (l ∷ ls) h =
      contexts_after_all-tied (contexts_after sys M a l) (contexts_after sys N b l) ls
      (contexts_after-tied a b l h)

  pub finished-tied : (a : Contexts (Held C)) (b : Contexts (Held D)) (own : List Line) (g : Progress)
      → ContextsTied sys (HeldTied A R) a b → BothDone sys A R (finished sys M a own g) (finished sys N b own g)
  finished-tied a b own g h = (
    refl,
    record {
      states = refl;
      contexts =
          contexts_after_all-tied a b (settled sys (record g { lines = own ++ g.lines })).lines h;
    },
  )

  pub answered-tied : (K : World C → Type 0) (answer : Answer) (a : Contexts (Held C)) (b : Contexts (Held D)) (p : ℕ)
      (who : Caller) (c : Call) (g : Progress) → ContextsTied sys (HeldTied A R) a b
      → DoneTied sys A R K (answered answer sys M a p who c g) (answered answer sys N b p who c g)
  answered-tied K (Replies reply) a b p who c g h = finished-tied a b (line.Call p who c (Some reply) ∷ []) g h
  answered-tied K Waits a b p who c g h = finished-tied a b (line.Call p who c None ∷ []) g h
  answered-tied K Ends a b p who c g h = finished-tied a b (line.End p who ∷ []) g h
  answered-tied K Spins a b p who c g h = tt

  contexts_ended-tied : (a : Contexts (Held C)) (b : Contexts (Held D)) (p : ℕ) (who : Caller)
      → ContextsTied sys (HeldTied A R) a b
      → ContextsTied sys (HeldTied A R) (contexts_ended sys M a p who) (contexts_ended sys N b p who)
  contexts_ended-tied a b p (caller.Task t) h = task_begun-tied a b t h
  contexts_ended-tied a b p (caller.Handler i) h =
      record {
        tasks = h.tasks;
        handlers = AllTied-slice_set (λ q. HandlerTied (HeldTied A R)) a.handlers b.handlers p None None h.handlers tt;
      }

  ended-tied : (s : KernelState) (a : Contexts (Held C)) (b : Contexts (Held D)) (p : ℕ) (who : Caller) (own : Line)
      → ContextsTied sys (HeldTied A R) a b
      → BothDone sys A R (ended_with sys M (record { state = s; contexts = a }) p who own)
      (ended_with sys N (record { state = s; contexts = b }) p who own)
  ended-tied s a b p who own h =
      finished-tied (contexts_ended sys M a p who) (contexts_ended sys N b p who) (own ∷ []) (actor_ended sys s p who)
      (contexts_ended-tied a b p who h)

  pub stretched-tied : (K : World C → Type 0) (s : KernelState) (a : Contexts (Held C)) (b : Contexts (Held D)) (p : ℕ)
      (who : Caller) (d0 : D) (x : Ending C) (y : Ending D) → ContextsTied sys (HeldTied A R) a b
      → StretchTied (A (caller_body sys a p who)) Any
      (λ c. (e : D) × again (caller_body sys b p who) d0 e × R (caller_body sys a p who) c e) x y
      → ((v : World C) (e : D) → again (caller_body sys b p who) d0 e
      → WorldTied sys A R v (with_place (record { state = s; contexts = b }) p who e) → K v)
      → DoneTied sys A R K (stretched sys M (record { state = s; contexts = a }) p who x)
      (stretched sys N (record { state = s; contexts = b }) p who y)
  stretched-tied K s a b p who d0 _ _ h (over y) f = tt
  stretched-tied K s a b p who d0 _ _ h (kept c y e) f =
      f _ e.0 e.1 (record {
        states = refl;
        contexts = with_context-tied sys (HeldTied A R) a b p who (Some (Goes c))
            (Some (Goes e.0)) h e.2;
      })
  stretched-tied K s a b p who d0 _ _ h (call c d made e) f =
      answered-tied K (called sys s p who made).answer _ _ p who made (called sys s p who made).progress
      (with_context-tied sys (HeldTied A R) a b p who (Some (Awaits c)) (Some (Awaits d)) h e)
  stretched-tied K s a b p who d0 _ _ h (end_ c d e) f = ended-tied s a b p who (line.End p who) h
  stretched-tied K s a b p who d0 _ _ h (fault c d g e) f = ended-tied s a b p who (line.Fault p who g) h

  pub run_in-tied : (K : World C → Type 0) (s : KernelState) (a : Contexts (Held C)) (b : Contexts (Held D)) (p : ℕ)
      (who : Caller) (c : Option (Held C)) (d : Option (Held D)) → ContextsTied sys (HeldTied A R) a b
      → OptionTied (HeldTied A Q (caller_body sys a p who)) c d
      → ((d0 : D) (v : World C) (e : D) → d ≡ Some (Goes d0) → again (caller_body sys b p who) d0 e
      → WorldTied sys A R v (with_place (record { state = s; contexts = b }) p who e) → K v)
      → DoneTied sys A R K (run_in sys M m (record { state = s; contexts = a }) p who c)
      (run_in sys N n (record { state = s; contexts = b }) p who d)
  run_in-tied K s a b p who None d h e f = tt
  run_in-tied K s a b p who (Some c) None h e f = absurd e
  run_in-tied K s a b p who (Some (Awaits c)) (Some (Awaits d)) h e f = tt
  run_in-tied K s a b p who (Some (Awaits c)) (Some (Goes d)) h e f = absurd e
  run_in-tied K s a b p who (Some (Goes c)) (Some (Awaits d)) h e f = absurd e
  run_in-tied K s a b p who (Some (Goes c)) (Some (Goes d)) h e f =
      stretched-tied K s a b p who d _ _ h
      (subst (λ (body : ℕ). StretchTied (A (caller_body sys a p who)) Any
      (λ c'. (e : D) × again body d e × R (caller_body sys a p who) c' e) (M.stretch (caller_body sys a p who) m c)
      (N.stretch body n d))
      (caller_body-tied sys (HeldTied A R) a b p who h) (k.stretches (caller_body sys a p who) c d e))
      (λ v e. f d v e refl)

  pub run_by-tied : (s : KernelState) (a : Contexts (Held C)) (b : Contexts (Held D)) (p : ℕ) (who : Option Caller)
      → who ≡ actor_of (processor_at s p) → ContextsTied sys (HeldTied A Q) a b
      → DoneTied sys A R (KeptOn sys A R again (record { state = s; contexts = b }) (Run (suc p)))
      (run_by sys M m (record { state = s; contexts = a }) p who)
      (run_by sys N n (record { state = s; contexts = b }) p who)
  run_by-tied s a b p None q h = tt
  run_by-tied s a b p (Some who) q h =
      run_in-tied _ s a b p who (context_of a p who) (context_of b p who)
      (grown sys (HeldTied A Q) (HeldTied A R) a b (held_grown A Q R k.grows) h)
      (context_of-tied sys (HeldTied A Q) a b p who h)
      (λ d0 v next e l t. record
      { who = who; actor = sym q; context = d0; there = e; next = next; leads = l; tied = t })

  pub interrupted_by-tied : (K : World C → Type 0) (pending : Bool) (s : KernelState) (a : Contexts (Held C))
      (b : Contexts (Held D)) (i : ℕ) → ContextsTied sys (HeldTied A R) a b
      → DoneTied sys A R K (interrupted_by pending sys M (record { state = s; contexts = a }) i)
      (interrupted_by pending sys N (record { state = s; contexts = b }) i)
  interrupted_by-tied K true s a b i h = tt
  interrupted_by-tied K false s a b i h =
      finished-tied a b (line.Int i ∷ []) (unchanged (with_interrupt_pending s i)) h

  pub interrupted-tied : (K : World C → Type 0) (config : Option InterruptConfig) (s : KernelState)
      (a : Contexts (Held C)) (b : Contexts (Held D)) (i : ℕ) → ContextsTied sys (HeldTied A R) a b
      → DoneTied sys A R K (interrupted config sys M (record { state = s; contexts = a }) i)
      (interrupted config sys N (record { state = s; contexts = b }) i)
  interrupted-tied K None s a b i h = tt
  interrupted-tied K (Some config) s a b i h = interrupted_by-tied K _ s a b i h

  step-tied_in : (s : KernelState) (a : Contexts (Held C)) (b : Contexts (Held D)) (e : Event)
      → ContextsTied sys (HeldTied A Q) a b
      → DoneTied sys A R (KeptOn sys A R again (record { state = s; contexts = b }) e)
      (step sys M m (record { state = s; contexts = a }) e) (step sys N n (record { state = s; contexts = b }) e)
  step-tied_in s a b (Run zero) h = tt
  step-tied_in s a b (Run (suc p)) h = run_by-tied s a b p (actor_of (processor_at s p)) refl h
  step-tied_in s a b Tick h = finished-tied a b (line.Tick (s.clock + 1) ∷ []) (ticked sys s)
      (grown sys (HeldTied A Q) (HeldTied A R) a b (held_grown A Q R k.grows) h)
  step-tied_in s a b (Int zero) h = tt
  step-tied_in s a b (Int (suc i)) h = interrupted-tied _ (interrupt_config sys i) s a b i
      (grown sys (HeldTied A Q) (HeldTied A R) a b (held_grown A Q R k.grows) h)

  -- where the first does something at an event, the second does it too, with the same lines, and they stay tied
  pub step-tied : (v : World C) (w : World D) (e : Event) → WorldTied sys A Q v w
      → DoneTied sys A R (KeptOn sys A R again w e) (step sys M m v e) (step sys N n w e)
  step-tied v w e h =
      subst (λ (s : KernelState). DoneTied sys A R
      (KeptOn sys A R again (record { state = s; contexts = w.contexts }) e) (step sys M m v e)
      (step sys N n (record { state = s; contexts = w.contexts }) e)) h.states
      (step-tied_in v.state v.contexts w.contexts e h.contexts)

  -- setup gives both the same lines and ties them
  pub setup-tied : BothDone sys A R (setup sys M) (setup sys N)
  setup-tied =
      finished-tied (first_contexts sys M) (first_contexts sys N) []
      (all_started sys (unchanged (created_state sys)) (places_from 0 (length sys.tasks)))
      (record {
        tasks = AllTied-map (λ t. HeldTied A R (task_body sys t)) _ _ sys.tasks
            (λ t c e. subst (λ (b : ℕ). R b (M.start (body_of c.entry) c.exinf) (N.start (body_of c.entry) c.exinf))
            (body_at sys t c e) (k.starts (body_of c.entry) c.exinf));
        handlers = AllTied-replicate (λ p. HandlerTied (HeldTied A R)) sys.processors;
      })

-- tied worlds have the same lines and the same state at the end of every run that the first completes
pub complete_run-tied : {C D : Type 0} {A : ℕ → C → D → Type 0} {again : ℕ → D → D → Type 0} (sys : SystemTables)
    (R : ℕ → C → D → Type 0) (M : Meaning C) (m : ℕ) (N : Meaning D) (n : ℕ) → KeepsTie A R R again M m N n
    → (v : World C) (w : World D) (es : List Event) → WorldTied sys A R v w
    → TraceAgrees (complete_run sys M m v es) (complete_run sys N n w es)
complete_run-tied sys R M m N n k v w [] h = (refl, h.states)
complete_run-tied sys R M m N n k v w (e ∷ es) h =
    completed_on-agrees sys R _ (step sys M m v e) (step sys N n w e) _ _ (step-tied sys R M m N n k v w e h)
    (λ v' w' q. complete_run-tied sys R M m N n k v' w' es q)

-- the same from setup on
pub setup_run-tied : {C D : Type 0} {A : ℕ → C → D → Type 0} {again : ℕ → D → D → Type 0} (sys : SystemTables)
    (R : ℕ → C → D → Type 0) (M : Meaning C) (m : ℕ) (N : Meaning D) (n : ℕ) → KeepsTie A R R again M m N n
    → (es : List Event)
    → TraceAgrees (complete_run sys M m (setup sys M).world es) (complete_run sys N n (setup sys N).world es)
setup_run-tied sys R M m N n k es =
    complete_run-tied sys R M m N n k (setup sys M).world (setup sys N).world es (setup-tied sys R M m N n k).1
