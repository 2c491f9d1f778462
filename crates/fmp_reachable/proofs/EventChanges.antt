-- Settling, the clock and setup are made of changes.
use Rattle.std.proofs.Common.{◌≡◌, ◌+◌, ◌<◌, ◌≤◌, ℕ, zero, suc, ℤ, List, [], ◌∷◌, Option, Some, None, Bool, true, false}
use Rattle.std.proofs.Common.{◌||◌, ◌⊎◌, inl, inr, refl, sym, ◌∙◌, ap, subst, arith, nat_eq, length, slice_get, map}
use Rattle.std.proofs.Common.{replicate, cond, if◌then◌else◌}
use Rattle.std.proofs.lemmas.Bool.Decides.{nat_tests}
use Rattle.std.proofs.lemmas.List.{length-map, length-replicate}
use Rattle.fmp_base.specs.declared.events.Line.TheVariants as line
use Rattle.fmp_base.specs.declared.states.Handler.{Handler}
use Rattle.fmp_base.specs.declared.states.Handler.TheVariants as handler
use Rattle.fmp_base.specs.declared.states.Processor.{Processor}
use Rattle.fmp_base.specs.declared.states.TaskBlock.{TaskBlock}
use Rattle.fmp_base.specs.declared.systems.CyclicConfig.{CyclicConfig}
use Rattle.fmp_base.specs.declared.systems.TaskConfig.{TaskConfig}
use Rattle.fmp_base.specs.Changes.{released_state}
use Rattle.fmp_base.specs.Outcomes.{code}
use Rattle.fmp_base.specs.Queues.{top}
use Rattle.fmp_base.specs.Settles.{all_settled, begun, dispatch_lines, dispatched, handler_to_begin, is_dispatch_held}
use Rattle.fmp_base.specs.Settles.{is_same_task, settled, settled_on, settled_with}
use Rattle.fmp_base.specs.Setups.{all_started, created, created_state, first_due, started_if}
use Rattle.fmp_base.specs.States.{KernelState, Progress, unchanged, idle, places_from, processor_at, task_at}
use Rattle.fmp_base.specs.Systems.{SystemTables, cyclic_config, found, task_config}
use Rattle.fmp_base.specs.Ticks.{all_cycled, all_timed_out, cycled, cycled_by, is_due, is_pending, pended, pended_by}
use Rattle.fmp_base.specs.Ticks.{ticked, timed_out, timed_out_by, timeout_code, with_clock_advanced}
use Rattle.fmp_ring.specs.OrderLaws.{nat_apart, nat_eq-same, nat_same}
use Rattle.fmp_ring.specs.RingLists.{is_in}
use Rattle.fmp_tasks.specs.Homes.{is_in_order}
use Rattle.fmp_worlds.proofs.Assigned.{set_over}
use Rattle.fmp_reachable.proofs.Apart.{apart-empty}
use Rattle.fmp_reachable.proofs.Capacities.{within-empty}
use Rattle.fmp_reachable.specs.Numbers.{IsAhead}
use Rattle.fmp_reachable.proofs.Changes.{Change, Cpu, Due, Interrupts, IsFair, Keeps, Pends}
use Rattle.fmp_reachable.proofs.Changes.{Says, changed, is_told, keeps-changed, keeps-start}
use Rattle.fmp_reachable.proofs.Stands.{off}
use Rattle.fmp_reachable.proofs.TaskChanges.{released-comes, started-comes}
use Rattle.fmp_reachable.specs.Sound.{IsFineBlock, Sizes, sizes, sizes_of, IsSteady}

-- what is due is there
task-there : (now : ℕ) (tasks : List TaskBlock) (t : ℕ) → is_due now (task_at tasks t).deadline ≡ true
    → t < length tasks
task-there now [] t e = off e
task-there now (x ∷ xs) zero e = omega arith
task-there now (x ∷ xs) (suc t) e = let l = task-there now xs t e in omega (arith, l)

time-there : (now : ℕ) (times : List (Option ℕ)) (c : ℕ) → is_due now (found None (slice_get times c)) ≡ true
    → c < length times
time-there now [] c e = off e
time-there now (x ∷ xs) zero e = omega arith
time-there now (x ∷ xs) (suc c) e = let l = time-there now xs c e in omega (arith, l)

-- a task that is activated at setup is there
activated-there : (cs : List TaskConfig) (t : ℕ) (none : TaskConfig) → none.activated ≡ false
    → (found none (slice_get cs t)).activated ≡ true → t < length cs
activated-there [] t none n e = off (sym n ∙ e)
activated-there (c ∷ cs) zero none n e = omega arith
activated-there (c ∷ cs) (suc t) none n e = let l = activated-there cs t none n e in omega (arith, l)

module _ (sys : SystemTables) (P : Progress → Type 0)
    (go : (g : Progress) (c : Change) → P g → IsFair sys g.state c → P (changed c g)) where
  -- settling
  begun-comes : (i : Handler) (g : Progress) (p : ℕ) (cpu : Processor) → P g → P (begun g p cpu i)
  begun-comes (handler.Interrupt i) g p cpu h =
      go _ (Says (line.Begins p (handler.Interrupt i) ∷ []))
      (go (changed (Interrupts i false) g) (Cpu p (record cpu { handler = Some (handler.Interrupt i) }))
      (go g (Interrupts i false) h (λ e. refl)) tt) (λ t e. off e)
  begun-comes (handler.Cyclic i) g p cpu h =
      go _ (Says (line.Begins p (handler.Cyclic i) ∷ []))
      (go (changed (Pends i false) g) (Cpu p (record cpu { handler = Some (handler.Cyclic i) }))
      (go g (Pends i false) h tt) tt) (λ t e. off e)

  dispatched-comes : (g : Progress) (p : ℕ) (cpu : Processor) (t : Option ℕ) → P g → P (dispatched g p cpu t)
  dispatched-comes g p cpu t h =
      go (changed (Cpu p (record cpu { run = t })) g) (Says (dispatch_lines (is_same_task cpu.run t) p t))
      (go g (Cpu p (record cpu { run = t })) h tt) (λ u e. by_test (is_same_task cpu.run t) u e) where
        by_test : (b : Bool) (u : ℕ) → is_told u (dispatch_lines b p t) ≡ true → {A : Type 0} → A
        by_test true u e = off e
        by_test false u e = off e

  settled_with-comes : (b : Option Handler) (g : Progress) (p : ℕ) (cpu : Processor) → P g → P (settled_with b g p cpu)
  settled_with-comes (Some i) g p cpu h = begun-comes i g p cpu h
  settled_with-comes None g p cpu h =
      elim (is_dispatch_held cpu) as (λ b. P (cond b g (dispatched g p cpu (top g.state p))))
      [ true ↦ h | false ↦ dispatched-comes g p cpu (top g.state p) h ]

  all_settled-comes : (g : Progress) (ps : List ℕ) → P g → P (all_settled sys g ps)
  all_settled-comes g [] h = h
  all_settled-comes g (p ∷ ps) h =
      all_settled-comes (settled_on sys g p (processor_at g.state p)) ps
      (settled_with-comes (handler_to_begin sys g.state p (processor_at g.state p)) g p (processor_at g.state p) h)

  pub settled-comes : (g : Progress) → P g → P (settled sys g)
  settled-comes g h = all_settled-comes g (places_from 0 (length g.state.processors)) h

  -- the clock
  timed_out_by-comes : (b : Bool) (g : Progress) (t : ℕ) → P g
      → is_due g.state.clock (task_at g.state.tasks t).deadline ≡ b
      → P (timed_out_by b g t (task_at g.state.tasks t))
  timed_out_by-comes true g t h e =
      released-comes sys P go g t (task_at g.state.tasks t) (code (timeout_code (task_at g.state.tasks t).phase)) h
      (task-there g.state.clock g.state.tasks t e)
  timed_out_by-comes false g t h e = h

  all_timed_out-comes : (g : Progress) (ts : List ℕ) → P g → P (all_timed_out g ts)
  all_timed_out-comes g [] h = h
  all_timed_out-comes g (t ∷ ts) h =
      all_timed_out-comes (timed_out g t (task_at g.state.tasks t)) ts
      (timed_out_by-comes (is_due g.state.clock (task_at g.state.tasks t).deadline) g t h refl)

  pended_by-comes : (b : Bool) (g : Progress) (c : ℕ) → P g → P (pended_by b sys g c)
  pended_by-comes true g c h = h
  pended_by-comes false g c h =
      go (changed (Pends c true) g) (Says (line.Pends (cyclic_config sys c).processor c ∷ []))
      (go g (Pends c true) h tt) (λ t e. off e)

  module _ (periods : (c : ℕ) → 1 ≤ (cyclic_config sys c).period) where
    next : (now c : ℕ) → IsAhead (now + 1) (Some (now + (cyclic_config sys c).period))
    next now c = let p = periods c in omega (arith, p)

    cycled_by-comes : (b : Bool) (g : Progress) (c : ℕ) → P g → P (cycled_by b sys g c)
    cycled_by-comes true g c h =
        go (pended sys g c) (Due c (Some ((pended sys g c).state.clock + (cyclic_config sys c).period)))
        (pended_by-comes (is_pending g.state.pending_cyclics c) g c h) (next (pended sys g c).state.clock c)
    cycled_by-comes false g c h = h

    all_cycled-comes : (g : Progress) (cs : List ℕ) → P g → P (all_cycled sys g cs)
    all_cycled-comes g [] h = h
    all_cycled-comes g (c ∷ cs) h =
        all_cycled-comes (cycled sys g c) cs (cycled_by-comes (is_due g.state.clock
        (found None (slice_get g.state.due_times c))) g c h)

    ticked-comes : (s : KernelState) → P (unchanged (with_clock_advanced s)) → P (ticked sys s)
    ticked-comes s h =
        all_cycled-comes _ (places_from 0 (length s.due_times))
        (all_timed_out-comes (unchanged (with_clock_advanced s)) (places_from 0 (length s.tasks)) h)

  -- setup
  started_if-comes : (b : Bool) (g : Progress) (t : ℕ) → P g → (b ≡ true → t < length g.state.tasks)
      → P (started_if b sys g t)
  started_if-comes true g t h l = started-comes sys P go g t (task_at g.state.tasks t) h (l refl)
  started_if-comes false g t h l = h

  all_started-comes : (g : Progress) (ts : List ℕ) → ((i : Progress) → P i → length i.state.tasks ≡ length sys.tasks)
      → P g
      → P (all_started sys g ts)
  all_started-comes g [] sized h = h
  all_started-comes g (t ∷ ts) sized h =
      all_started-comes (started_if (task_config sys t).activated sys g t) ts sized
      (started_if-comes (task_config sys t).activated g t h
      (λ e. subst (λ (n : ℕ). t < n) (sym (sized g h)) (activated-there sys.tasks t _ refl e)))

-- after a tick no time is due

apart_or_same : (a b : ℕ) {A : Type 0} → (a ≡ b → A) → ((a ≡ b → ⊥) → A) → A
apart_or_same a b {A} h k = by_test (nat_eq a b) refl where
  by_test : (c : Bool) → nat_eq a b ≡ c → A
  by_test true e = h (nat_same a b e)
  by_test false e = k (nat_apart a b e)

abbrev IsUndue : Progress → ℕ → Type 0
IsUndue g u = is_due g.state.clock (task_at g.state.tasks u).deadline ≡ false

released-undue : (b : Bool) (s : KernelState) (t : ℕ) (y : TaskBlock) (u : ℕ) → y.deadline ≡ None
    → ((t ≡ u → ⊥) → is_due s.clock (task_at s.tasks u).deadline ≡ false)
    → is_due (released_state b s t y).clock (task_at (released_state b s t y).tasks u).deadline ≡ false
released-undue true s t y u e h =
    set_over (task_at [] 0) (λ z. is_due s.clock z.deadline ≡ false) s.tasks t y u refl
    (λ same. ap (is_due s.clock) e) h
released-undue false s t y u e h =
    set_over (task_at [] 0) (λ z. is_due s.clock z.deadline ≡ false) s.tasks t y u refl
    (λ same. ap (is_due s.clock) e) h

timed_out_by-undue : (b : Bool) (g : Progress) (t u : ℕ) → is_due g.state.clock (task_at g.state.tasks t).deadline ≡ b
    → ((t ≡ u → ⊥) → IsUndue g u) → IsUndue (timed_out_by b g t (task_at g.state.tasks t)) u
timed_out_by-undue true g t u e h = released-undue (task_at g.state.tasks t).suspended g.state t _ u refl h
timed_out_by-undue false g t u e h =
    apart_or_same t u (λ same. subst (λ (v : ℕ). IsUndue g v) same e) h

timed_out-undue : (g : Progress) (t u : ℕ) → ((t ≡ u → ⊥) → IsUndue g u)
    → IsUndue (timed_out g t (task_at g.state.tasks t)) u
timed_out-undue g t u h = timed_out_by-undue (is_due g.state.clock (task_at g.state.tasks t).deadline) g t u refl h

all_timed_out-undue : (g : Progress) (ts : List ℕ) (u : ℕ) → IsUndue g u ⊎ (is_in u ts ≡ true)
    → IsUndue (all_timed_out g ts) u
all_timed_out-undue g [] u (inl h) = h
all_timed_out-undue g [] u (inr e) = off e
all_timed_out-undue g (t ∷ ts) u (inl h) =
    all_timed_out-undue (timed_out g t (task_at g.state.tasks t)) ts u (inl (timed_out-undue g t u (λ n. h)))
all_timed_out-undue g (t ∷ ts) u (inr e) =
    all_timed_out-undue (timed_out g t (task_at g.state.tasks t)) ts u
    (apart_or_same t u (λ same. inl (timed_out-undue g t u (λ n. absurd (n same))))
    (λ n. inr (behind (nat_eq u t) (is_in u ts) e (λ k. n (sym (nat_same u t k)))))) where
      behind : (a b : Bool) → (a || b) ≡ true → (a ≡ true → ⊥) → b ≡ true
      behind true b k n = absurd (n refl)
      behind false b k n = k

in-places : (n k u : ℕ) → k ≤ u → u < k + n → is_in u (places_from k n) ≡ true
in-places zero k u a b = absurd (omega (arith, a, b))
in-places (suc n) k u a b =
    apart_or_same u k (λ same. here (nat_eq u k) (is_in u (places_from (k + 1) n))
    (subst (λ (v : ℕ). nat_eq u v ≡ true) same (nat_eq-same u)))
    (λ other. behind (nat_eq u k) (is_in u (places_from (k + 1) n)) (in-places n (k + 1) u (omega (arith, a, other))
    (omega (arith, b)))) where
      here : (a b : Bool) → a ≡ true → (a || b) ≡ true
      here true b e = refl
      here false b e = cc

      behind : (a b : Bool) → b ≡ true → (a || b) ≡ true
      behind true b e = refl
      behind false b e = e

due_or_not : (b : Bool) {A : Type 0} → (b ≡ true → A) → (b ≡ false ⊎ A)
due_or_not true h = inr (h refl)
due_or_not false h = inl refl

tasks-undue : (g : Progress) (u : ℕ) → IsUndue (all_timed_out g (places_from 0 (length g.state.tasks))) u
tasks-undue g u =
    all_timed_out-undue g (places_from 0 (length g.state.tasks)) u
    (due_or_not (is_due g.state.clock (task_at g.state.tasks u).deadline)
    (λ e. let l = task-there g.state.clock g.state.tasks u e in in-places (length g.state.tasks) 0 u (omega arith)
    (omega (arith, l))))

-- cyclic handlers
abbrev IsCalm : Progress → ℕ → Type 0
IsCalm g c = is_due g.state.clock (found None (slice_get g.state.due_times c)) ≡ false

-- the clock and the tasks stay
record IsBeside (g i : Progress) : Type 0 where
  clock : i.state.clock ≡ g.state.clock
  tasks : i.state.tasks ≡ g.state.tasks

module _ (sys : SystemTables) where
  pended_by-beside : (b : Bool) (g : Progress) (c : ℕ) → IsBeside g (pended_by b sys g c)
  pended_by-beside true g c = record { clock = refl; tasks = refl }
  pended_by-beside false g c = record { clock = refl; tasks = refl }

  cycled_by-beside : (b : Bool) (g : Progress) (c : ℕ) → IsBeside g (cycled_by b sys g c)
  cycled_by-beside true g c =
      let k = pended_by-beside (is_pending g.state.pending_cyclics c) g c in record { clock = k.clock; tasks = k.tasks }
  cycled_by-beside false g c = record { clock = refl; tasks = refl }

  all_cycled-beside : (g : Progress) (cs : List ℕ) → IsBeside g (all_cycled sys g cs)
  all_cycled-beside g [] = record { clock = refl; tasks = refl }
  all_cycled-beside g (c ∷ cs) =
      let k = cycled_by-beside (is_due g.state.clock (found None (slice_get g.state.due_times c))) g c in
      let l = all_cycled-beside (cycled sys g c) cs in
      record { clock = l.clock ∙ k.clock; tasks = l.tasks ∙ k.tasks }

  module _ (periods : (c : ℕ) → 1 ≤ (cyclic_config sys c).period) where
    later : (now c : ℕ) → nat_eq (now + (cyclic_config sys c).period) now ≡ false
    later now c = let p = periods c in grind (arith, nat_tests, p)

    pended_by-calm : (b : Bool) (g : Progress) (c e : ℕ) → IsCalm g e → IsCalm (pended_by b sys g c) e
    pended_by-calm true g c e h = h
    pended_by-calm false g c e h = h

    cycled_by-calm : (b : Bool) (g : Progress) (c e : ℕ)
        → is_due g.state.clock (found None (slice_get g.state.due_times c)) ≡ b
        → ((c ≡ e → ⊥) → IsCalm g e) → IsCalm (cycled_by b sys g c) e
    cycled_by-calm true g c e k h =
        let i = pended sys g c in
        set_over None (λ d. is_due i.state.clock d ≡ false) i.state.due_times c
        (Some (i.state.clock + (cyclic_config sys c).period)) e refl
        (λ same. later i.state.clock c) (λ n. pended_by-calm (is_pending g.state.pending_cyclics c) g c e (h n))
    cycled_by-calm false g c e k h = apart_or_same c e (λ same. subst (λ (v : ℕ). IsCalm g v) same k) h

    cycled-calm : (g : Progress) (c e : ℕ) → ((c ≡ e → ⊥) → IsCalm g e) → IsCalm (cycled sys g c) e
    cycled-calm g c e h =
        cycled_by-calm (is_due g.state.clock (found None (slice_get g.state.due_times c))) g c e refl h

    all_cycled-calm : (g : Progress) (cs : List ℕ) (e : ℕ) → IsCalm g e ⊎ (is_in e cs ≡ true)
        → IsCalm (all_cycled sys g cs) e
    all_cycled-calm g [] e (inl h) = h
    all_cycled-calm g [] e (inr i) = off i
    all_cycled-calm g (c ∷ cs) e (inl h) = all_cycled-calm (cycled sys g c) cs e (inl (cycled-calm g c e (λ n. h)))
    all_cycled-calm g (c ∷ cs) e (inr i) =
        all_cycled-calm (cycled sys g c) cs e
        (apart_or_same c e (λ same. inl (cycled-calm g c e (λ n. absurd (n same))))
        (λ n. inr (behind (nat_eq e c) (is_in e cs) i (λ k. n (sym (nat_same e c k)))))) where
          behind : (a b : Bool) → (a || b) ≡ true → (a ≡ true → ⊥) → b ≡ true
          behind true b k n = absurd (n refl)
          behind false b k n = k

    cyclics-calm : (g : Progress) (n e : ℕ) → length g.state.due_times ≡ n
        → IsCalm (all_cycled sys g (places_from 0 n)) e
    cyclics-calm g n e same =
        all_cycled-calm g (places_from 0 n) e
        (due_or_not (is_due g.state.clock (found None (slice_get g.state.due_times e)))
        (λ k. let l = time-there g.state.clock g.state.due_times e k in in-places n 0 e (omega arith)
        (omega (arith, l, same))))

    strict : (now : ℕ) (d : Option ℕ) → IsAhead now d → is_due now d ≡ false → IsAhead (now + 1) d
    strict now None h e = tt
    strict now (Some time) h e = grind (arith, nat_tests, h, e)

    -- a tick leaves every time after the clock
    pub ticked-keeps : (s : KernelState) → IsSteady sys s
        → Keeps sys (s.clock + 1 + 1) (s.clock + 1) s.tasks (ticked sys s)
    ticked-keeps s h =
        let now = s.clock + 1 in
        let start : Keeps sys now now s.tasks (unchanged (with_clock_advanced s)) =
        record {
          blocks = h.blocks;
          cyclics = h.cyclics;
          messages = h.messages;
          words = h.words;
          quiet = h.quiet;
          lasts = record { each = λ t w. (w, refl) };
          sizes = h.sizes;
          clock = refl;
          early = omega arith;
        } in
        let P : Progress → Type 0 = Keeps sys now now s.tasks in
        let freed = all_timed_out (unchanged (with_clock_advanced s)) (places_from 0 (length s.tasks)) in
        let first : Keeps sys now now s.tasks freed =
        all_timed_out-comes sys P (keeps-changed sys now now s.tasks) (unchanged (with_clock_advanced s))
        (places_from 0 (length s.tasks)) start in
        let last : Keeps sys now now s.tasks (ticked sys s) =
        all_cycled-comes sys P (keeps-changed sys now now s.tasks) periods freed
        (places_from 0 (length s.due_times)) first in
        let beside = all_cycled-beside freed (places_from 0 (length s.due_times)) in
        let many : length freed.state.due_times ≡ length s.due_times = ap (λ (z : Sizes). z.cyclics)
        (first.sizes ∙ sym h.sizes) in
        let b = last.blocks in
        record {
          blocks = record {
            each = λ t. let f = b.each t in record {
              rest = f.rest;
              calm = f.calm;
              ahead = strict now (task_at (ticked sys s).state.tasks t).deadline f.ahead
                  (subst (λ (tasks : List TaskBlock). is_due now (task_at tasks t).deadline ≡ false) (sym beside.tasks)
                  (subst (λ (n : ℕ). is_due n (task_at freed.state.tasks t).deadline ≡ false) first.clock
                  (tasks-undue (unchanged (with_clock_advanced s)) t)));
            };
            distinct = b.distinct;
            standing = b.standing;
          };
          cyclics = record {
            each = λ c. let l = last.cyclics in strict now (found None (slice_get (ticked sys s).state.due_times c))
                (l.each c)
                (subst (λ (n : ℕ). is_due n (found None (slice_get (ticked sys s).state.due_times c)) ≡ false)
                last.clock
                (cyclics-calm freed (length s.due_times) c many));
          };
          messages = last.messages;
          words = last.words;
          quiet = last.quiet;
          lasts = last.lasts;
          sizes = last.sizes;
          clock = last.clock;
          early = omega arith;
        }

-- setup

created-block : (low : ℕ) (cs : List TaskConfig) (t : ℕ) → IsFineBlock low (task_at (map created cs) t)
created-block low [] t = record { rest = λ e. refl; calm = λ e. refl; ahead = tt }
created-block low (c ∷ cs) zero = record { rest = λ e. refl; calm = λ e. refl; ahead = tt }
created-block low (c ∷ cs) (suc t) = created-block low cs t

created-stands : (cs : List TaskConfig) (t : ℕ) → false ≡ is_in_order (task_at (map created cs) t)
created-stands [] t = refl
created-stands (c ∷ cs) zero = refl
created-stands (c ∷ cs) (suc t) = created-stands cs t

first-ahead : (c : CyclicConfig) → IsAhead 1 (first_due c)
first-ahead c = by_test c.started where
  by_test : (b : Bool) → IsAhead 1 (if b then Some (c.phase + 1) else None)
  by_test true = omega arith
  by_test false = tt

created-ahead : (cs : List CyclicConfig) (c : ℕ) → IsAhead 1 (found None (slice_get (map first_due cs) c))
created-ahead [] c = tt
created-ahead (x ∷ xs) zero = first-ahead x
created-ahead (x ∷ xs) (suc c) = created-ahead xs c

created-quiet : (n i : ℕ) → is_pending (replicate n false) i ≡ false
created-quiet zero i = refl
created-quiet (suc n) zero = refl
created-quiet (suc n) (suc i) = created-quiet n i

created-sizes : (sys : SystemTables) → sizes (created_state sys) ≡ sizes_of sys
created-sizes sys =
    rw (
      length-map sys.tasks created,
      length-map sys.semaphores (λ c. c.initial),
      length-map sys.flags (λ c. c.initial),
      length-map sys.shared_words (λ c. c.initial),
      length-map sys.cyclics first_due,
      length-replicate sys.processors idle,
      length-replicate {A = List ℤ} (length sys.data_queues) [],
      length-replicate {A = List ℕ} (length sys.mailboxes) [],
      length-replicate (length sys.cyclics) false,
    ) refl

-- all objects have just been made
pub created-steady : (sys : SystemTables) → IsSteady sys (created_state sys)
created-steady sys =
    record {
      blocks = record {
        each = λ t. created-block 1 sys.tasks t;
        distinct = tt;
        standing = record { each = λ t l. created-stands sys.tasks t };
      };
      cyclics = record { each = λ c. created-ahead sys.cyclics c };
      messages = apart-empty (length sys.messages) (length sys.mailboxes);
      words = within-empty sys (length sys.data_queues);
      quiet = record { each = λ i e. created-quiet 32 i };
      sizes = created-sizes sys;
    }

-- and the tasks with TA_ACT start
pub setup-keeps : (sys : SystemTables) → Keeps sys 1 0 (created_state sys).tasks
    (all_started sys (unchanged (created_state sys)) (places_from 0 (length sys.tasks)))
setup-keeps sys =
    all_started-comes sys (Keeps sys 1 0 (created_state sys).tasks) (keeps-changed sys 1 0 (created_state sys).tasks)
    (unchanged (created_state sys)) (places_from 0 (length sys.tasks)) (λ g k. ap (λ (z : Sizes). z.tasks) k.sizes)
    (keeps-start sys (created_state sys) (created-steady sys))
