-- The clock does the same in alike states.
use Rattle.std.proofs.Common.{ℕ, List, [], ◌∷◌, ◌++◌, Option, None, Bool, true, false, refl, ap, subst, length}
use Rattle.std.proofs.Common.{slice_get}
use Rattle.fmp_base.specs.declared.events.Line.{Line}
use Rattle.fmp_base.specs.declared.events.Line.TheVariants as line
use Rattle.fmp_base.specs.declared.states.TaskBlock.{TaskBlock}
use Rattle.fmp_base.specs.Outcomes.{code}
use Rattle.fmp_base.specs.ProcessorCalls.{with_due}
use Rattle.fmp_base.specs.States.{KernelState, Progress, unchanged, task_at, places_from}
use Rattle.fmp_base.specs.Systems.{SystemTables, cyclic_config, found}
use Rattle.fmp_base.specs.Ticks.{all_cycled, all_timed_out, cycled, cycled_by, is_due, is_pending, pended, pended_by}
use Rattle.fmp_base.specs.Ticks.{ticked, timed_out, timed_out_by, timeout_code, with_clock_advanced}
use Rattle.fmp_base.specs.Ticks.{with_cyclic_pending}
use Rattle.fmp_bisimulation.specs.Alike.{SameTime, AlikeStates, SameProgress}
use Rattle.fmp_bisimulation.proofs.ChangeLaws.{unchanged-same, released-same}
use Rattle.fmp_bisimulation.proofs.StateLaws.{alike-changed}
use Rattle.fmp_bisimulation.proofs.TimeLaws.{by_block, blocks-at, blocks-long, blocks-advanced, times-at, times-set}
use Rattle.fmp_bisimulation.proofs.TimeLaws.{times-long, times-advanced, same-due, same-later}

timed_out_by-same : (sys : SystemTables) (b : Bool) (g i : Progress) (t : ℕ) (x : TaskBlock) (d : Option ℕ)
    → SameProgress sys g i
    → SameProgress sys (timed_out_by b g t x) (timed_out_by b i t (record x { deadline = d }))
timed_out_by-same sys true g i t x d h = released-same sys g i t x d (code (timeout_code x.phase)) h
timed_out_by-same sys false g i t x d h = h

timed_out-same : (sys : SystemTables) (g i : Progress) (t : ℕ) → SameProgress sys g i
    → SameProgress sys (timed_out g t (task_at g.state.tasks t)) (timed_out i t (task_at i.state.tasks t))
timed_out-same sys g i t h =
    let a = h.state in
    let x = task_at g.state.tasks t in
    by_block (λ (y : TaskBlock). SameProgress sys (timed_out g t x) (timed_out i t y)) g.state.clock i.state.clock x
    (task_at i.state.tasks t) (blocks-at g.state.clock i.state.clock g.state.tasks i.state.tasks a.tasks t)
    (λ d k. subst (λ (b : Bool). SameProgress sys (timed_out g t x) (timed_out_by b i t (record x { deadline = d })))
    (same-due g.state.clock i.state.clock x.deadline d k)
    (timed_out_by-same sys (is_due g.state.clock x.deadline) g i t x d h))

all_timed_out-same : (sys : SystemTables) (g i : Progress) (ts : List ℕ) → SameProgress sys g i
    → SameProgress sys (all_timed_out g ts) (all_timed_out i ts)
all_timed_out-same sys g i [] h = h
all_timed_out-same sys g i (t ∷ ts) h =
    all_timed_out-same sys (timed_out g t (task_at g.state.tasks t)) (timed_out i t (task_at i.state.tasks t)) ts
    (timed_out-same sys g i t h)

pub alike-with_due : (sys : SystemTables) (s u : KernelState) (c : ℕ) (x y : Option ℕ) → AlikeStates sys s u
    → SameTime s.clock u.clock x y → AlikeStates sys (with_due s c x) (with_due u c y)
alike-with_due sys s u c x y h k =
    record {
      tasks = h.tasks;
      order = λ p. h.order p;
      due_times = times-set s.clock u.clock s.due_times u.due_times h.due_times c x y k;
      rest = h.rest;
    }

alike-advanced : (sys : SystemTables) (s u : KernelState) → AlikeStates sys s u
    → AlikeStates sys (with_clock_advanced s) (with_clock_advanced u)
alike-advanced sys s u h =
    record {
      tasks = blocks-advanced s.clock u.clock s.tasks u.tasks h.tasks;
      order = λ p. h.order p;
      due_times = times-advanced s.clock u.clock s.due_times u.due_times h.due_times;
      rest = h.rest;
    }

pended_by-same : (sys : SystemTables) (b : Bool) (g i : Progress) (c : ℕ) → SameProgress sys g i
    → SameProgress sys (pended_by b sys g c) (pended_by b sys i c)
pended_by-same sys true g i c h = h
pended_by-same sys false g i c h =
    record {
      state = alike-changed sys (λ z. with_cyclic_pending z c) (λ z. refl) (λ z. refl) g.state i.state h.state;
      lines = ap (λ (ls : List Line). ls ++ line.Pends (cyclic_config sys c).processor c ∷ []) h.lines;
    }

pended-same : (sys : SystemTables) (g i : Progress) (c : ℕ) → SameProgress sys g i
    → SameProgress sys (pended sys g c) (pended sys i c)
pended-same sys g i c h =
    let a = h.state in
    subst (λ (b : Bool). SameProgress sys (pended sys g c) (pended_by b sys i c))
    (ap (λ (z : KernelState). is_pending z.pending_cyclics c) a.rest)
    (pended_by-same sys (is_pending g.state.pending_cyclics c) g i c h)

cycled_by-same : (sys : SystemTables) (b : Bool) (g i : Progress) (c : ℕ) → SameProgress sys g i
    → SameProgress sys (cycled_by b sys g c) (cycled_by b sys i c)
cycled_by-same sys true g i c h =
    let k = pended-same sys g i c h in
    record {
      state = alike-with_due sys (pended sys g c).state (pended sys i c).state c _ _ k.state
          (same-later _ _ (cyclic_config sys c).period);
      lines = k.lines;
    }
cycled_by-same sys false g i c h = h

cycled-same : (sys : SystemTables) (g i : Progress) (c : ℕ) → SameProgress sys g i
    → SameProgress sys (cycled sys g c) (cycled sys i c)
cycled-same sys g i c h =
    let a = h.state in
    subst (λ (b : Bool). SameProgress sys (cycled sys g c) (cycled_by b sys i c))
    (same-due g.state.clock i.state.clock _ _ (times-at g.state.clock i.state.clock g.state.due_times
    i.state.due_times a.due_times c))
    (cycled_by-same sys (is_due g.state.clock (found None (slice_get g.state.due_times c))) g i c h)

all_cycled-same : (sys : SystemTables) (g i : Progress) (cs : List ℕ) → SameProgress sys g i
    → SameProgress sys (all_cycled sys g cs) (all_cycled sys i cs)
all_cycled-same sys g i [] h = h
all_cycled-same sys g i (c ∷ cs) h = all_cycled-same sys (cycled sys g c) (cycled sys i c) cs (cycled-same sys g i c h)

-- a tick does the same
pub ticked-same : (sys : SystemTables) (s u : KernelState) → AlikeStates sys s u
    → SameProgress sys (ticked sys s) (ticked sys u)
ticked-same sys s u h =
    let tasks = blocks-long s.clock u.clock s.tasks u.tasks h.tasks in
    let cyclics = times-long s.clock u.clock s.due_times u.due_times h.due_times in
    let ended : SameProgress sys (all_timed_out (unchanged (with_clock_advanced s)) (places_from 0 (length s.tasks)))
    (all_timed_out (unchanged (with_clock_advanced u)) (places_from 0 (length u.tasks))) =
    subst (λ (n : ℕ). SameProgress sys (all_timed_out (unchanged (with_clock_advanced s))
    (places_from 0 (length s.tasks)))
    (all_timed_out (unchanged (with_clock_advanced u)) (places_from 0 n))) tasks
    (all_timed_out-same sys _ _ (places_from 0 (length s.tasks)) (unchanged-same sys _ _ (alike-advanced sys s u h))) in
    subst (λ (n : ℕ). SameProgress sys (ticked sys s)
    (all_cycled sys (all_timed_out (unchanged (with_clock_advanced u)) (places_from 0 (length u.tasks)))
    (places_from 0 n))) cyclics
    (all_cycled-same sys _ _ (places_from 0 (length s.due_times)) ended)
