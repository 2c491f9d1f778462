-- What a processor runs stays assigned to it when the clock advances, and when tasks start at setup.
use Rattle.std.proofs.Common.{ℕ, zero, suc, List, [], ◌∷◌, Bool, true, false, length, replicate, refl, ◌∙◌}
use Rattle.std.specs.List.{AllByRecursion}
use Rattle.fmp_base.specs.Outcomes.{code}
use Rattle.fmp_base.specs.Setups.{all_started, started_if, created_state}
use Rattle.fmp_base.specs.States.{KernelState, Progress, unchanged, task_at, idle, places_from}
use Rattle.fmp_base.specs.Systems.{SystemTables, task_config}
use Rattle.fmp_base.specs.Ticks.{timeout_code, is_due, timed_out, timed_out_by, all_timed_out, is_pending, pended_by}
use Rattle.fmp_base.specs.Ticks.{cycled, cycled_by, all_cycled, ticked, with_clock_advanced}
use Rattle.fmp_worlds.proofs.Assigned.{Runs, Holds}
use Rattle.fmp_worlds.proofs.Changes.{SameActors, holds-released, actors-released}
use Rattle.fmp_worlds.proofs.Lines.{IsOwn, all-snoc}
use Rattle.fmp_worlds.proofs.Told.{Woken, still, woken-line, woken-released}

timed_out_from : (b : Bool) (g : Progress) (t : ℕ) → Holds g.state
    → Holds (timed_out_by b g t (task_at g.state.tasks t)).state
timed_out_from true g t a = holds-released g t (code (timeout_code (task_at g.state.tasks t).phase)) a
timed_out_from false g t a = a

holds-all_timed_out : (g : Progress) (ts : List ℕ) → Holds g.state → Holds (all_timed_out g ts).state
holds-all_timed_out g [] a = a
holds-all_timed_out g (t ∷ ts) a =
    let x = task_at g.state.tasks t in
    holds-all_timed_out (timed_out g t x) ts (timed_out_from (is_due g.state.clock x.deadline) g t a)

pended_from : (b : Bool) (sys : SystemTables) (g : Progress) (c : ℕ) → Holds g.state → Holds (pended_by b sys g c).state
pended_from true sys g c a = a
pended_from false sys g c a = a

cycled_from : (b : Bool) (sys : SystemTables) (g : Progress) (c : ℕ) → Holds g.state → Holds (cycled_by b sys g c).state
cycled_from true sys g c a = pended_from (is_pending g.state.pending_cyclics c) sys g c a
cycled_from false sys g c a = a

holds-all_cycled : (sys : SystemTables) (g : Progress) (cs : List ℕ) → Holds g.state
    → Holds (all_cycled sys g cs).state
holds-all_cycled sys g [] a = a
holds-all_cycled sys g (c ∷ cs) a = holds-all_cycled sys (cycled sys g c) cs (cycled_from _ sys g c a)

pub holds-ticked : (sys : SystemTables) (s : KernelState) → Holds s → Holds (ticked sys s).state
holds-ticked sys s a =
    holds-all_cycled sys _ (places_from 0 (length s.due_times)) (holds-all_timed_out
    (unchanged (with_clock_advanced s)) (places_from 0 (length s.tasks)) a)

-- the clock begins and ends no handler, and starts no task
record Clocked (s : KernelState) (own : ℕ) (g : Progress) : Type 0 where
  actors : SameActors s g.state
  lines : AllByRecursion (IsOwn s own) g.lines

clocked-timed_out : (b : Bool) (s : KernelState) (own : ℕ) (g : Progress) (t : ℕ) → Clocked s own g
    → Clocked s own (timed_out_by b g t (task_at g.state.tasks t))
clocked-timed_out true s own g t c = record {
  actors = λ q. actors-released g t (code (timeout_code (task_at g.state.tasks t).phase)) q ∙ c.actors q;
  lines = all-snoc (IsOwn s own) g.lines _ c.lines tt;
}
clocked-timed_out false s own g t c = c

clocked-all_timed_out : (s : KernelState) (own : ℕ) (g : Progress) (ts : List ℕ) → Clocked s own g
    → Clocked s own (all_timed_out g ts)
clocked-all_timed_out s own g [] c = c
clocked-all_timed_out s own g (t ∷ ts) c =
    let x = task_at g.state.tasks t in
    clocked-all_timed_out s own (timed_out g t x) ts (clocked-timed_out (is_due g.state.clock x.deadline) s own g t c)

clocked-pended : (b : Bool) (sys : SystemTables) (s : KernelState) (own : ℕ) (g : Progress) (i : ℕ) → Clocked s own g
    → Clocked s own (pended_by b sys g i)
clocked-pended true sys s own g i c = c
clocked-pended false sys s own g i c =
    record { actors = c.actors; lines = all-snoc (IsOwn s own) g.lines _ c.lines tt }

clocked-cycled : (b : Bool) (sys : SystemTables) (s : KernelState) (own : ℕ) (g : Progress) (i : ℕ) → Clocked s own g
    → Clocked s own (cycled_by b sys g i)
clocked-cycled true sys s own g i c =
    let d = clocked-pended (is_pending g.state.pending_cyclics i) sys s own g i c in
    record { actors = d.actors; lines = d.lines }
clocked-cycled false sys s own g i c = c

clocked-all_cycled : (sys : SystemTables) (s : KernelState) (own : ℕ) (g : Progress) (is : List ℕ) → Clocked s own g
    → Clocked s own (all_cycled sys g is)
clocked-all_cycled sys s own g [] c = c
clocked-all_cycled sys s own g (i ∷ is) c =
    clocked-all_cycled sys s own (cycled sys g i) is (clocked-cycled _ sys s own g i c)

clocked-ticked : (sys : SystemTables) (s : KernelState) (own : ℕ) → Clocked s own (ticked sys s)
clocked-ticked sys s own =
    clocked-all_cycled sys s own _ (places_from 0 (length s.due_times))
    (clocked-all_timed_out s own (unchanged (with_clock_advanced s)) (places_from 0 (length s.tasks))
    (record { actors = λ q. refl; lines = tt }))

pub actors-ticked : (sys : SystemTables) (s : KernelState) → SameActors s (ticked sys s).state
actors-ticked sys s = let c = clocked-ticked sys s 0 in c.actors

pub lines-ticked : (sys : SystemTables) (s : KernelState) (own : ℕ) → AllByRecursion (IsOwn s own) (ticked sys s).lines
lines-ticked sys s own = let c = clocked-ticked sys s own in c.lines

-- no processor runs a task
abbrev RunsNothing : KernelState → Type 0
RunsNothing s = (q t : ℕ) → Runs s.processors q t → ⊥

idle-runs_nothing : (n q t : ℕ) → Runs (replicate n idle) q t → ⊥
idle-runs_nothing zero q t r = cc
idle-runs_nothing (suc n) zero t r = cc
idle-runs_nothing (suc n) (suc q) t r = idle-runs_nothing n q t r

started_from : (b : Bool) (sys : SystemTables) (g : Progress) (t : ℕ) → RunsNothing g.state
    → RunsNothing (started_if b sys g t).state
started_from true sys g t h = h
started_from false sys g t h = h

all_started-runs_nothing : (sys : SystemTables) (g : Progress) (ts : List ℕ) → RunsNothing g.state
    → RunsNothing (all_started sys g ts).state
all_started-runs_nothing sys g [] h = h
all_started-runs_nothing sys g (t ∷ ts) h =
    all_started-runs_nothing sys (started_if (task_config sys t).activated sys g t) ts
    (started_from (task_config sys t).activated sys g t h)

pub holds-all_started : (sys : SystemTables) (ts : List ℕ) → Holds (all_started sys
    (unchanged (created_state sys)) ts).state
holds-all_started sys ts =
    record {
      each = λ q t r. absurd (all_started-runs_nothing sys (unchanged (created_state sys)) ts
          (λ q t r. idle-runs_nothing sys.processors q t r) q t r);
    }

-- a task that the clock makes ready is told
woken-timed_out : (b : Bool) (s : KernelState) (g : Progress) (t : ℕ) → Woken s g
    → Woken s (timed_out_by b g t (task_at g.state.tasks t))
woken-timed_out true s g t w = woken-released s g t (task_at g.state.tasks t)
    (code (timeout_code (task_at g.state.tasks t).phase)) w
woken-timed_out false s g t w = w

woken-all_timed_out : (s : KernelState) (g : Progress) (ts : List ℕ) → Woken s g → Woken s (all_timed_out g ts)
woken-all_timed_out s g [] w = w
woken-all_timed_out s g (t ∷ ts) w =
    let x = task_at g.state.tasks t in
    woken-all_timed_out s (timed_out g t x) ts (woken-timed_out (is_due g.state.clock x.deadline) s g t w)

woken-pended : (b : Bool) (sys : SystemTables) (s : KernelState) (g : Progress) (c : ℕ) → Woken s g
    → Woken s (pended_by b sys g c)
woken-pended true sys s g c w = w
woken-pended false sys s g c w = woken-line s _ refl w

woken-cycled : (b : Bool) (sys : SystemTables) (s : KernelState) (g : Progress) (c : ℕ) → Woken s g
    → Woken s (cycled_by b sys g c)
woken-cycled true sys s g c w = let h = woken-pended (is_pending g.state.pending_cyclics c) sys s g c w in
    record { each = λ t r. h.each t r }
woken-cycled false sys s g c w = w

woken-all_cycled : (sys : SystemTables) (s : KernelState) (g : Progress) (cs : List ℕ) → Woken s g
    → Woken s (all_cycled sys g cs)
woken-all_cycled sys s g [] w = w
woken-all_cycled sys s g (c ∷ cs) w = woken-all_cycled sys s (cycled sys g c) cs (woken-cycled _ sys s g c w)

pub woken-ticked : (sys : SystemTables) (s : KernelState) → Woken s (ticked sys s)
woken-ticked sys s =
    woken-all_cycled sys s _ (places_from 0 (length s.due_times))
    (woken-all_timed_out s (unchanged (with_clock_advanced s)) (places_from 0 (length s.tasks)) (still (λ t r. r)))
