-- What holds along all schedules of bodies that keep places holds of all that others complete whom they follow.
use Rattle.std.proofs.Common.{◌≡◌, ◌∙◌, ◌+◌, ◌<◌, ◌≤◌, ℕ, zero, suc, List, [], ◌∷◌, ◌++◌, Option, Some, None, Bool}
use Rattle.std.proofs.Common.{true, false, not, ◌&&◌, ◌||◌, refl, sym, ap, ap₂, subst, arith, append-nil, count_by}
use Rattle.std.proofs.Common.{length}
use Rattle.std.specs.List.{list_any}
use Rattle.std.specs.Prelude.{slice_get}
use Rattle.fmp_base.specs.declared.bodies.Held.{Held}
use Rattle.fmp_base.specs.declared.bodies.Held.TheVariants.{Goes, Awaits}
use Rattle.fmp_base.specs.declared.events.Event.{Event}
use Rattle.fmp_base.specs.declared.events.Event.TheVariants as event
use Rattle.fmp_base.specs.declared.events.Line.{Line}
use Rattle.fmp_base.specs.declared.events.Line.TheVariants as line
use Rattle.fmp_base.specs.declared.states.Caller.{Caller}
use Rattle.fmp_base.specs.declared.systems.InterruptConfig.{InterruptConfig}
use Rattle.fmp_base.specs.KeptTies.{Follows}
use Rattle.fmp_base.specs.Meanings.{Meaning, Contexts, World, context_of, caller_body}
use Rattle.fmp_base.specs.Runs.{run, run_on}
use Rattle.fmp_base.specs.Setups.{setup}
use Rattle.fmp_base.specs.States.{KernelState, processor_at, task_at}
use Rattle.fmp_base.specs.Steps.{Done, Reaction, Nothing, Did, Kept, actor_of, interrupted, interrupted_by, run_by}
use Rattle.fmp_base.specs.Steps.{run_in, step, stretched}
use Rattle.fmp_base.specs.Stretches.{Ending, is_over}
use Rattle.fmp_base.specs.Stretches as ends
use Rattle.fmp_base.specs.Systems.{SystemTables, found, interrupt_config}
use Rattle.fmp_base.specs.Ticks.{is_pending, ticked}
use Rattle.fmp_base.specs.TieLaws.{finished-tied, interrupted-tied, setup-tied}
use Rattle.fmp_base.specs.Ties.{ContextsTied, HeldTied}
use Rattle.fmp_schedules.specs.Beside.{AreBeside, DoesBeside, HoldsThereAtAll, IsSilentBeside}
use Rattle.fmp_schedules.specs.Completed.{AllStand, AreCompleted, DoneThen, Ends, EndsAs, EndsFrom, HoldsAtAll}
use Rattle.fmp_schedules.specs.Completed.{Counts, IsCompleted, IsLastingDeadlock, MayBe, counts_after, counts_at_setup}
use Rattle.fmp_schedules.specs.Deadlocks.{IsDeadlock, IsStuck}
use Rattle.fmp_schedules.specs.Schedules.{Holds, HoldsThere, IsSilent, Rules, Watched, are_within, came_after}
use Rattle.fmp_schedules.specs.Schedules.{is_request, is_told, lines_after, may_come, may_still, may_try, monitors_after}
use Rattle.fmp_schedules.specs.Schedules.{none_runs}
use Rattle.fmp_schedules.specs.Schedules.{reached, requests, stays_within, watch, watched_at_setup, watched_on}
use Rattle.fmp_schedules.specs.Monitors.{all_let, is_any_broken_in, is_broken_along}
use Rattle.fmp_schedules.specs.declared.monitor.Monitor.{Monitor}
use Rattle.fmp_schedules.proofs.Catching.{At, Behind, BothDo, both-do, catch, keeps-tie, nothing-of, stand}
use Rattle.fmp_schedules.proofs.EventLines.{setup-counts}
use Rattle.fmp_schedules.proofs.IdleLaws.{each-none}
use Rattle.fmp_schedules.proofs.KeptPlaces.{Keeps, ends_}
use Rattle.fmp_schedules.proofs.RuleLaws.{both}
use Rattle.fmp_schedules.proofs.LeadLaws.{Leads, kept-way, no-way, one-done, way-allowed, way-done, way-lines, way-on}
use Rattle.fmp_schedules.proofs.LeadLaws.{way-world}

module _ {D : Type 0} (sys : SystemTables) (M : Meaning D) (t : ℕ) where
  over-not-done : (w : World D) (p : ℕ) (who : Caller) (x : Ending D) (d : Done D)
      → stretched sys M w p who x ≡ Did d → is_over x ≡ false
  over-not-done w p who (ends.Call c made) d h = refl
  over-not-done w p who (ends.End c) d h = refl
  over-not-done w p who (ends.Fault c f) d h = refl
  over-not-done w p who (ends.Over None) d h = absurd (cc h)
  over-not-done w p who (ends.Over (Some c)) d h = absurd (cc h)

  did-from : (w : World D) (p : ℕ) (who : Caller) (o : Option (Held D)) (d : Done D)
      → run_in sys M t w p who o ≡ Did d → EndsFrom M (caller_body sys w.contexts p who) t o
  did-from w p who None d h = tt
  did-from w p who (Some (Awaits c)) d h = tt
  did-from w p who (Some (Goes c)) d h =
      over-not-done w p who (M.stretch (caller_body sys w.contexts p who) t c) d h

  did-as : (w : World D) (p : ℕ) (who : Option Caller) (d : Done D) → run_by sys M t w p who ≡ Did d
      → EndsAs sys M t w p who
  did-as w p None d h = tt
  did-as w p (Some who) d h = did-from w p who (context_of w.contexts p who) d h

  -- where a processor's event is done, the stretch there ends
  did-ends : (w : World D) (p : ℕ) (d : Done D) → step sys M t w (event.Run (suc p)) ≡ Did d → Ends sys M t w p
  did-ends w p d h = did-as w p (actor_of (processor_at w.state p)) d h

-- the counts after these events
abbrev counts_along : Rules → Counts → List (List Line) → Counts
counts_along rules c [] = c
counts_along rules c (ls ∷ rest) = counts_along rules (counts_after rules c ls) rest

came-first : (most : Option ℕ) (ls : List Line) → count_by is_request ls ≡ 0 → came_after most 0 ls ≡ 0
came-first None ls none = refl
came-first (Some most) ls none = omega (arith, none)

module _ {D : Type 0} (rules : Rules) (sys : SystemTables) (M : Meaning D) (t : ℕ) where
  -- the last of events that are completed comes as the rules let it
  record Last (w : World D) (c : Counts) (es : List Event) (e : Event) : Type 0 where
    before : AreCompleted rules sys M t w c es
    may : MayBe rules sys M t (run sys M t w es).world (counts_along rules c (run sys M t w es).events) e

  last-after : (w : World D) (c : Counts) (e : Event) (es : List Event) (l : Event) (x : Reaction D)
      → step sys M t w e ≡ x → MayBe rules sys M t w c e
      → DoneThen x (λ d. AreCompleted rules sys M t d.world (counts_after rules c d.lines) (es ++ l ∷ []))
      → ((v : World D) (k : Counts) → AreCompleted rules sys M t v k (es ++ l ∷ []) → Last v k es l)
      → Last w c (e ∷ es) l
  last-after w c e es l Nothing is may more rest = absurd more
  last-after w c e es l (Kept p u) is may more rest = absurd more
  last-after w c e es l (Did d) is may more rest =
      let r = rest d.world (counts_after rules c d.lines) more in
      record {
        before = (
          may,
          subst (λ (y : Reaction D). DoneThen y
              (λ y. AreCompleted rules sys M t y.world (counts_after rules c y.lines) es)) (sym is) r.before,
        );
        may = subst (λ (y : Reaction D). MayBe rules sys M t (run_on w y (λ u. run sys M t u es)).world
            (counts_along rules c (run_on w y (λ u. run sys M t u es)).events) l) (sym is) r.may;
      }

  last-of : (w : World D) (c : Counts) (es : List Event) (e : Event) → AreCompleted rules sys M t w c (es ++ e ∷ [])
      → Last w c es e
  last-of w c [] e (may, more) = record { before = tt; may = may }
  last-of w c (f ∷ es) e (may, more) =
      last-after w c f es e (step sys M t w f) refl may more (λ v k l. last-of v k es e l)

-- what a search counts in what it watches
abbrev counts_of : Watched → Counts
counts_of a = record { came = a.came; monitors = a.monitors }

-- an interrupt that may come by the same counts
counts-let : (most : Option ℕ) (a : Watched) (c : Counts) (e : Event) → counts_of a ≡ c
    → (may_still most c.came ≡ true) × (all_let c.monitors e ≡ true)
    → (may_still most a.came && all_let a.monitors e) ≡ true
counts-let most a c e same h =
    both (may_still most a.came) (all_let a.monitors e)
    (ap (λ (k : Counts). may_still most k.came) same ∙ h.0)
    (ap (λ (k : Counts). all_let k.monitors e) same ∙ h.1)

module _ {C D : Type 0} (rules : Rules) (sys : SystemTables) (R S : ℕ → C → D → Type 0) (N : Meaning C) (M : Meaning D)
    (size : ℕ) (f : Follows R S N M size) (n : ℕ) (one : 1 ≤ n) (forbidden : Line → Bool) where
  abbrev Code : World C → Watched → List Event → World C → Watched → List (List Line) → List Event → Type 0
  Code v a es x b told done = Leads rules sys N n forbidden v a es x b told done

  -- N comes from v, by keeping places, to a world in which the event may come and does the same as in M
  pub record Next (w : World D) (v : World C) (a : Watched) (e : Event) (d : Done D) : Type 0 where
    pub events : List Event
    pub world : World C
    pub way : Keeps sys N n v events world
    pub before : AreBeside R N sys w world
    pub next : Done C
    pub does : step sys N n world e ≡ Did next
    pub lines : d.lines ≡ next.lines
    pub beside : AreBeside R N sys d.world next.world
    pub may : may_come rules sys N n world a e ≡ true

  record Same (y : Reaction C) (d : Done D) : Type 0 where
    next : Done C
    does : y ≡ Did next
    lines : d.lines ≡ next.lines
    beside : AreBeside R N sys d.world next.world

  same-did : (d : Done D) (y : Reaction C) → BothDo R N sys (Did d) y → Same y d
  same-did d Nothing h = absurd h
  same-did d (Kept p v) h = absurd h
  same-did d (Did a) h = record { next = a; does = refl; lines = h.0; beside = h.1 }

  same-of : (x : Reaction D) (d : Done D) (y : Reaction C) → x ≡ Did d → BothDo R N sys x y → Same y d
  same-of x d y e h = same-did d y (subst (λ (r : Reaction D). BothDo R N sys r y) e h)

  -- as much is queued after both
  stays-too : (d : Done D) (x : Reaction D) (y : Reaction C) → x ≡ Did d → stays_within rules.queued x ≡ true
      → Same y d → stays_within rules.queued y ≡ true
  stays-too d x y is stays s =
      ap (λ (r : Reaction C). stays_within rules.queued r) s.does
      ∙ ap (λ (u : KernelState). are_within rules.queued u.tasks) (sym s.beside.states)
      ∙ sym (ap (λ (r : Reaction D). stays_within rules.queued r) is) ∙ stays

  next-of : (t : ℕ) (w : World D) (v x : World C) (a : Watched) (e : Event) (d : Done D) (es : List Event)
      → Keeps sys N n v es x → AreBeside R N sys w x → may_try rules sys N n x a e ≡ true
      → stays_within rules.queued (step sys M t w e) ≡ true → step sys M t w e ≡ Did d
      → BothDo R N sys (step sys M t w e) (step sys N n x e) → Next w v a e d
  next-of t w v x a e d es way before now stays is h =
      let s = same-of (step sys M t w e) d (step sys N n x e) is h in
      record {
        events = es;
        world = x;
        way = way;
        before = before;
        next = s.next;
        does = s.does;
        lines = s.lines;
        beside = s.beside;
        may = both (may_try rules sys N n x a e) (stays_within rules.queued (step sys N n x e)) now
            (stays-too d (step sys M t w e) (step sys N n x e) is stays s);
      }

  next-run : (t : ℕ) (w : World D) (v : World C) (a : Watched) (p : ℕ) (d : Done D) → AreBeside R N sys w v
      → stays_within rules.queued (step sys M t w (event.Run (suc p))) ≡ true
      → step sys M t w (event.Run (suc p)) ≡ Did d → Next w v a (event.Run (suc p)) d
  next-run t w v a p d h stays is =
      let c = catch sys R S N M size f n one t w v p h (did-ends sys M t w p d is) in
      next-of t w v c.world a (event.Run (suc p)) d c.events c.way c.beside refl stays is c.both

  tick-both : (t : ℕ) (s : KernelState) (a : Contexts (Held D)) (b : Contexts (Held C))
      → ContextsTied sys (HeldTied (At sys R S N M size f n one) (Behind sys R S N M size f n one)) a b
      → BothDo R N sys (step sys M t (record { state = s; contexts = a }) event.Tick)
      (step sys N n (record { state = s; contexts = b }) event.Tick)
  tick-both t s a b h =
      finished-tied sys (Behind sys R S N M size f n one) M t N n (keeps-tie sys R S N M size f n one t) a b
      (line.Tick (s.clock + 1) ∷ []) (ticked sys s) h

  interrupt-none : (config : Option InterruptConfig) (s : KernelState) (a : Contexts (Held D)) (b : Contexts (Held C))
      (i : ℕ) → interrupted config sys M (record { state = s; contexts = a }) i ≡ Nothing
      → interrupted config sys N (record { state = s; contexts = b }) i ≡ Nothing
  interrupt-none None s a b i h = refl
  interrupt-none (Some config) s a b i h = by_pending (is_pending s.pending_interrupts i) h where
    by_pending : (pending : Bool) → interrupted_by pending sys M (record { state = s; contexts = a }) i ≡ Nothing
        → interrupted_by pending sys N (record { state = s; contexts = b }) i ≡ Nothing
    by_pending true h = refl
    by_pending false h = absurd (cc h)

  interrupt-both : (t i : ℕ) (s : KernelState) (a : Contexts (Held D)) (b : Contexts (Held C))
      → ContextsTied sys (HeldTied (At sys R S N M size f n one) (Behind sys R S N M size f n one)) a b
      → BothDo R N sys (step sys M t (record { state = s; contexts = a }) (event.Int (suc i)))
      (step sys N n (record { state = s; contexts = b }) (event.Int (suc i)))
  interrupt-both t i s a b h =
      both-do sys R S N M size f n one (step sys M t (record { state = s; contexts = a }) (event.Int (suc i)))
      (step sys N n (record { state = s; contexts = b }) (event.Int (suc i)))
      (interrupted-tied sys (Behind sys R S N M size f n one) M t N n (keeps-tie sys R S N M size f n one t) (λ w. ⊥)
      (interrupt_config sys i) s a b i h)
      (interrupt-none (interrupt_config sys i) s a b i)

  tick-beside : (t : ℕ) (w : World D) (v : World C) → AreBeside R N sys w v
      → BothDo R N sys (step sys M t w event.Tick) (step sys N n v event.Tick)
  tick-beside t w v h =
      subst (λ (s : KernelState). BothDo R N sys (step sys M t w event.Tick)
      (step sys N n (record { state = s; contexts = v.contexts }) event.Tick)) h.states
      (tick-both t w.state w.contexts v.contexts h.contexts)

  interrupt-beside : (t i : ℕ) (w : World D) (v : World C) → AreBeside R N sys w v
      → BothDo R N sys (step sys M t w (event.Int (suc i))) (step sys N n v (event.Int (suc i)))
  interrupt-beside t i w v h =
      subst (λ (s : KernelState). BothDo R N sys (step sys M t w (event.Int (suc i)))
      (step sys N n (record { state = s; contexts = v.contexts }) (event.Int (suc i)))) h.states
      (interrupt-both t i w.state w.contexts v.contexts h.contexts)

  numbers : (v : World C) (k : ℕ) → ((p : ℕ) → p < k → step sys N n v (event.Run (suc p)) ≡ Nothing)
      → (p : ℕ) → 1 ≤ p → p < k + 1 → step sys N n v (event.Run p) ≡ Nothing
  numbers v k h zero from to = absurd (omega (arith, from))
  numbers v k h (suc p) from to = h p (omega (arith, to))

  or-none : (idle none : Bool) → none ≡ true → (not idle || none) ≡ true
  or-none true none h = h
  or-none false none h = refl

  next-tick : (idle : Bool) → rules.idle_ticks ≡ idle → (t : ℕ) (w : World D) (v : World C) (a : Watched) (d : Done D)
      → AreBeside R N sys w v → (idle ≡ true → AllStand sys M t w)
      → stays_within rules.queued (step sys M t w event.Tick) ≡ true → step sys M t w event.Tick ≡ Did d
      → Next w v a event.Tick d
  next-tick false e t w v a d h stands stays is =
      next-of t w v v a event.Tick d [] (ends_ v) h
      (ap (λ (idle : Bool). not idle || none_runs sys N n v sys.processors) e) stays is (tick-beside t w v h)
  next-tick true e t w v a d h stands stays is =
      let all = stands refl in
      let r = stand sys R S N M size f n one t w v sys.processors h all.ended all.nothing in
      next-of t w v r.world a event.Tick d r.events r.way r.beside
      (or-none rules.idle_ticks (none_runs sys N n r.world sys.processors)
      (each-none sys N n r.world sys.processors (numbers r.world sys.processors r.nothing))) stays is
      (tick-beside t w r.world r.beside)

  -- what M does within t units N does too
  pub go-next : (t : ℕ) (w : World D) (v : World C) (a : Watched) (c : Counts) (e : Event) (d : Done D)
      → AreBeside R N sys w v → counts_of a ≡ c → MayBe rules sys M t w c e → step sys M t w e ≡ Did d
      → Next w v a e d
  go-next t w v a c (event.Run zero) d h same may is = absurd (cc is)
  go-next t w v a c (event.Run (suc p)) d h same may is = next-run t w v a p d h may.1 is
  go-next t w v a c event.Tick d h same may is =
      next-tick rules.idle_ticks refl t w v a d h may.0 may.1 is
  go-next t w v a c (event.Int zero) d h same may is = absurd (cc is)
  go-next t w v a c (event.Int (suc i)) d h same may is =
      next-of t w v v a (event.Int (suc i)) d [] (ends_ v) h
      (counts-let rules.most a c (event.Int (suc i)) same may.0) may.1 is (interrupt-beside t i w v h)

  -- N does what M completes from here on
  pub record DoesAll (t : ℕ) (w : World D) (v : World C) (a : Watched) (c : Counts) (es : List Event) : Type 0 where
    pub events : List Event
    pub world : World C
    pub watch : Watched
    pub told : List (List Line)
    pub way : Code v a events world watch told es
    pub lines : told ≡ (run sys M t w es).events
    pub beside : AreBeside R N sys (run sys M t w es).world world
    pub after : counts_of watch ≡ counts_along rules c (run sys M t w es).events

  does-after : (t : ℕ) (w : World D) (v : World C) (a : Watched) (c : Counts) (e : Event) (es : List Event)
      (x : Reaction D) → step sys M t w e ≡ x → AreBeside R N sys w v → counts_of a ≡ c → MayBe rules sys M t w c e
      → DoneThen x (λ d. AreCompleted rules sys M t d.world (counts_after rules c d.lines) es)
      → ((d : Done D) (u : World C) (b : Watched) → AreBeside R N sys d.world u
      → counts_of b ≡ counts_after rules c d.lines
      → AreCompleted rules sys M t d.world (counts_after rules c d.lines) es
      → DoesAll t d.world u b (counts_after rules c d.lines) es)
      → DoesAll t w v a c (e ∷ es)
  does-after t w v a c e es Nothing is h same may more rest = absurd more
  does-after t w v a c e es (Kept p u) is h same may more rest = absurd more
  does-after t w v a c e es (Did d) is h same may more rest =
      let s = go-next t w v a c e d h same may is in
      let b : Watched = watched_on rules forbidden a s.next.lines in
      let came_too : counts_of b ≡ counts_after rules c d.lines =
      ap (λ (k : Counts). counts_after rules k s.next.lines) same
      ∙ ap (λ (ls : List Line). counts_after rules c ls) (sym s.lines) in
      let r = rest d s.next.world b s.beside came_too more in
      let first =
      way-on rules sys N n forbidden v s.world s.next.world a a b s.events (e ∷ []) [] (s.next.lines ∷ []) [] (e ∷ [])
      (kept-way rules sys N n forbidden v s.world a s.events s.way)
      (one-done rules sys N n forbidden s.world a e s.next s.does s.may) in
      record {
        events = (s.events ++ e ∷ []) ++ r.events;
        world = r.world;
        watch = r.watch;
        told = s.next.lines ∷ r.told;
        way = way-on rules sys N n forbidden v s.next.world r.world a b r.watch (s.events ++ e ∷ []) r.events
            (s.next.lines ∷ []) r.told (e ∷ []) es first r.way;
        lines = ap (λ (ls : List Line). ls ∷ r.told) (sym s.lines)
            ∙ ap (λ (lss : List (List Line)). d.lines ∷ lss) r.lines
            ∙ sym (ap (λ (y : Reaction D). (run_on w y (λ u. run sys M t u es)).events) is);
        beside = subst (λ (u : World D). AreBeside R N sys u r.world)
            (sym (ap (λ (y : Reaction D). (run_on w y (λ u. run sys M t u es)).world) is)) r.beside;
        after = r.after
            ∙ sym (ap (λ (y : Reaction D). counts_along rules c (run_on w y (λ u. run sys M t u es)).events) is);
      }

  pub do-all : (t : ℕ) (w : World D) (v : World C) (a : Watched) (c : Counts) (es : List Event) → AreBeside R N sys w v
      → counts_of a ≡ c → AreCompleted rules sys M t w c es → DoesAll t w v a c es
  do-all t w v a c [] h same all =
      record {
        events = [];
        world = v;
        watch = a;
        told = [];
        way = no-way rules sys N n forbidden v a;
        lines = refl;
        beside = h;
        after = same;
      }
  do-all t w v a c (e ∷ es) h same (may, more) =
      does-after t w v a c e es (step sys M t w e) refl h same may more
      (λ d u b k came_too l. do-all t d.world u b (counts_after rules c d.lines) es k came_too l)

  -- from setup on

  abbrev First : World C
  First = (setup sys N).world

  abbrev Starts : Watched
  Starts = watched_at_setup rules sys N forbidden

  abbrev Counted : Counts
  Counted = counts_at_setup rules sys M

  abbrev DoesWhole : ℕ → List Event → Type 0
  DoesWhole t es = DoesAll t (setup sys M).world First Starts Counted es

  whole : (t : ℕ) (es : List Event) → IsCompleted rules sys M t es → DoesWhole t es
  whole t es all =
      let tied = setup-tied sys (Behind sys R S N M size f n one) M t N n (keeps-tie sys R S N M size f n one t) in
      do-all t (setup sys M).world First Starts Counted es tied.1
      (ap₂ (λ (k : ℕ) (ms : List Monitor). record { came = k; monitors = ms })
      (came-first rules.most (setup sys N).lines (setup-counts sys N))
      (ap (λ (ls : List Line). monitors_after rules.monitors ls) (sym tied.0)))
      all

  along : (t : ℕ) (es events : List Event) (x : World C) (b : Watched) (told : List (List Line))
      → Code First Starts events x b told es → told ≡ (run sys M t (setup sys M).world es).events
      → AreBeside R N sys (reached sys M t es) x → DoesBeside R rules sys N n M t forbidden es
  along t es events x b told way lines beside =
      record {
        events = events;
        schedule = way-allowed rules sys N n forbidden First x Starts b events told es way;
        done = way-done rules sys N n forbidden First x Starts b events told es way;
        lines =
            ap (λ (ls : List Line). ls ∷ (run sys N n First events).events)
            (sym (setup-tied sys (Behind sys R S N M size f n one) M t N n (keeps-tie sys R S N M size f n one t)).0)
            ∙ ap (λ (lss : List (List Line)). (setup sys M).lines ∷ lss)
            (way-lines rules sys N n forbidden First x Starts b events told es way ∙ lines);
        beside = subst (λ (u : World C). AreBeside R N sys (reached sys M t es) u)
            (sym (way-world rules sys N n forbidden First x Starts b events told es way)) beside;
      }

  -- N does whatever M completes
  pub does-beside : (t : ℕ) (es : List Event) → IsCompleted rules sys M t es
      → DoesBeside R rules sys N n M t forbidden es
  does-beside t es all =
      let r = whole t es all in
      along t es r.events r.world r.watch r.told r.way r.lines r.beside

  -- and then it may keep places
  kept-on : (t : ℕ) (es : List Event) (r : DoesWhole t es) (more : List Event)
      (x : World C) → Keeps sys N n r.world more x → Code First Starts (r.events ++ more) x r.watch r.told es
  kept-on t es r more x way =
      subst (λ (told : List (List Line)). Code First Starts (r.events ++ more) x r.watch told es) (append-nil r.told)
      (subst (λ (done : List Event). Code First Starts (r.events ++ more) x r.watch (r.told ++ []) done) (append-nil es)
      (way-on rules sys N n forbidden First r.world x Starts r.watch r.watch r.events more r.told [] es [] r.way
      (kept-way rules sys N n forbidden r.world x r.watch more way)))

  deadlock-too : (t : ℕ) (w : World D) (x : World C) (rest : List Bool) (interrupts : Bool)
      → AreBeside R N sys w x → ((p : ℕ) → p < sys.processors → step sys N n x (event.Run (suc p)) ≡ Nothing)
      → IsDeadlock sys M t w rest interrupts → IsDeadlock sys N n x rest interrupts
  deadlock-too t w x rest interrupts h none d =
      record {
        runs = numbers x sys.processors none;
        requests = λ on i from to. no_request on i from to;
        waits = λ u there. ap (λ (s : KernelState). (task_at s.tasks u).deadline) (sym h.states) ∙ d.waits u there;
        handlers = λ c there.
            ap (λ (s : KernelState). found None (slice_get s.due_times c)) (sym h.states) ∙ d.handlers c there;
        stuck = subst (λ (s : KernelState). IsStuck rest s (length sys.tasks)) h.states d.stuck;
      } where
        no_request : interrupts ≡ true → (i : ℕ) → 1 ≤ i → i < 33 → step sys N n x (event.Int i) ≡ Nothing
        no_request on zero from to = refl
        no_request on (suc i) from to =
            nothing-of sys R S N M size f n one _ _ (d.requests on (suc i) from to) (interrupt-beside t i w x h)

  still-lines : (most : Option ℕ) (xs ys : List (List Line)) → xs ≡ ys
      → may_still most (requests xs) ≡ may_still most (requests ys)
  still-lines most xs ys e = ap (λ (lss : List (List Line)). may_still most (requests lss)) e

  -- a deadlock that M comes to would be one of N, behind the places that are kept on the way
  dead-end : (rest : List Bool) → Holds rules sys N n forbidden rest → (t : ℕ) (es : List Event)
      (r : DoesWhole t es) (more : List Event) (x : World C)
      → Keeps sys N n r.world more x → AreBeside R N sys (reached sys M t es) x
      → ((p : ℕ) → p < sys.processors → step sys N n x (event.Run (suc p)) ≡ Nothing) → (bound : ℕ)
      → IsDeadlock sys M bound (reached sys M t es) rest (may_still rules.most (requests (lines_after sys M t es)))
      → ⊥
  unfolding along
  dead-end rest holds t es r more x way beside none bound d =
      let led = kept-on t es r more x way in
      let now = along t es (r.events ++ more) x r.watch r.told led r.lines beside in
      let there = way-world rules sys N n forbidden First x Starts r.watch (r.events ++ more) r.told es led in
      let dead =
      deadlock-too bound (reached sys M t es) x rest (may_still rules.most (requests (lines_after sys M t es))) beside
      none d in
      holds.free (r.events ++ more) now.schedule
      (subst (λ (b : Bool). IsDeadlock sys N n (reached sys N n (r.events ++ more)) rest b)
      (sym (still-lines rules.most (lines_after sys N n (r.events ++ more)) (lines_after sys M t es) now.lines))
      (subst (λ (u : World C). IsDeadlock sys N n u rest (may_still rules.most (requests (lines_after sys M t es))))
      (sym there) dead))

  no-deadlock : (rest : List Bool) → Holds rules sys N n forbidden rest → (t : ℕ) (es : List Event)
      → DoesWhole t es
      → IsLastingDeadlock sys M (reached sys M t es) rest (may_still rules.most (requests (lines_after sys M t es)))
      → ⊥
  no-deadlock rest holds t es r lasting =
      let st =
      stand sys R S N M size f n one lasting.bound (reached sys M t es) r.world sys.processors r.beside lasting.ended
      (λ p below. lasting.deadlock.runs (suc p) (omega arith) (omega (arith, below))) in
      dead-end rest holds t es r st.events st.world st.way st.beside st.nothing lasting.bound lasting.deadlock

  -- what holds along all schedules of N holds along all that M completes
  pub holds-at-all : (rest : List Bool) → Holds rules sys N n forbidden rest → HoldsAtAll rules sys M forbidden rest
  holds-at-all rest holds =
      record {
        never = λ t es all.
            let x = does-beside t es all in
            ap (λ (lss : List (List Line)). is_told forbidden lss) (sym x.lines) ∙ holds.never x.events x.schedule;
        by_lines = λ t es all.
            let x = does-beside t es all in
            ap (λ (lss : List (List Line)). list_any (λ s. is_broken_along s lss) rules.monitors) (sym x.lines)
            ∙ holds.by_lines x.events x.schedule;
        by_states = λ t es all.
            let x = does-beside t es all in
            ap (λ (s : KernelState). is_any_broken_in rules.monitors s) x.beside.states
            ∙ holds.by_states x.events x.schedule;
        free = λ t es all lasting. no-deadlock rest holds t es (whole t es all) lasting;
      }

  silent-did : (there : World C → Line → Bool) (x : Reaction C) (d : Done C) → x ≡ Did d → IsSilent there x
      → list_any (there d.world) d.lines ≡ false
  silent-did there x d e h = subst (λ (y : Reaction C). IsSilent there y) e h

  silent-at : (there : World C → Line → Bool) → HoldsThere rules sys N n forbidden there → (t : ℕ) (es : List Event)
      (e : Event) (d : Done D) (r : DoesWhole t es)
      → Next (reached sys M t es) r.world r.watch e d → IsSilentBeside R rules sys N n M t forbidden there es e d
  unfolding along
  silent-at there holds t es e d r s =
      let led = kept-on t es r s.events s.world s.way in
      let at = way-world rules sys N n forbidden First s.world Starts r.watch (r.events ++ s.events) r.told es led in
      let does_there : step sys N n (reached sys N n (r.events ++ s.events)) e ≡ Did s.next =
      ap (λ (u : World C). step sys N n u e) at ∙ s.does in
      let last =
      way-on rules sys N n forbidden First s.world s.next.world Starts r.watch
      (watched_on rules forbidden r.watch s.next.lines) (r.events ++ s.events) (e ∷ []) r.told (s.next.lines ∷ []) es
      (e ∷ []) led (one-done rules sys N n forbidden s.world r.watch e s.next s.does s.may) in
      let schedule =
      way-allowed rules sys N n forbidden First s.next.world Starts (watched_on rules forbidden r.watch s.next.lines)
      ((r.events ++ s.events) ++ e ∷ []) (r.told ++ s.next.lines ∷ []) (es ++ e ∷ []) last in
      record {
        before = along t es (r.events ++ s.events) s.world r.watch r.told led r.lines s.before;
        next = s.next;
        does = does_there;
        lines = s.lines;
        beside = s.beside;
        silent = silent-did there _ s.next does_there (holds.silent (r.events ++ s.events) e schedule);
      }

  silent-beside : (there : World C → Line → Bool) → HoldsThere rules sys N n forbidden there → (t : ℕ)
      (es : List Event) (e : Event) (d : Done D) → step sys M t (reached sys M t es) e ≡ Did d
      → Last rules sys M t (setup sys M).world Counted es e → DoesWhole t es
      → IsSilentBeside R rules sys N n M t forbidden there es e d
  silent-beside there holds t es e d is l r =
      silent-at there holds t es e d r
      (go-next t (reached sys M t es) r.world r.watch
      (counts_along rules Counted (run sys M t (setup sys M).world es).events) e d r.beside r.after l.may is)

  pub holds-there-at-all : (there : World C → Line → Bool) → HoldsThere rules sys N n forbidden there
      → HoldsThereAtAll R rules sys N n M forbidden there
  holds-there-at-all there holds =
      record {
        silent = λ t es e d all is.
            let l = last-of rules sys M t (setup sys M).world Counted es e all in
            silent-beside there holds t es e d is l (whole t es l.before);
      }
