-- Alike worlds.
use Rattle.std.proofs.Common.{◌≡◌, ℕ, Option, Some, None, Bool, ◌&&◌, refl, sym, ◌∙◌, ap}
use Rattle.fmp_base.specs.declared.states.TaskBlock.{TaskBlock}
use Rattle.fmp_base.specs.Meanings.{World}
use Rattle.fmp_base.specs.States.{KernelState, task_at}
use Rattle.fmp_base.specs.Systems.{SystemTables}
use Rattle.fmp_base.specs.TaskCalls.{is_dormant}
use Rattle.fmp_worlds.specs.Settled.{IsSettled}
use Rattle.fmp_bisimulation.specs.Alike.{SameTime, SameBlock, AlikeStates, Alike, is_none, is_off}
use Rattle.fmp_bisimulation.proofs.StateLaws.{alike-refl, alike-sym, alike-chained}
use Rattle.fmp_bisimulation.proofs.TimeLaws.{blocks-at}

same-none : (a b : ℕ) (x y : Option ℕ) → SameTime a b x y → is_none x ≡ is_none y
same-none a b None None h = refl
same-none a b (Some x) (Some y) h = refl
same-none a b None (Some y) h = absurd h
same-none a b (Some x) None h = absurd h

same-off : (a b : ℕ) (x y : TaskBlock) → SameBlock a b x y → is_off x ≡ is_off y
same-off a b x y h =
    ap (λ (z : TaskBlock). is_dormant z.phase && is_none x.deadline) h.rest
    ∙ ap (λ (d : Bool). is_dormant y.phase && d) (same-none a b x.deadline y.deadline h.deadline)

-- the tasks that are off are the same
off-same : (sys : SystemTables) (s u : KernelState) → AlikeStates sys s u → (t : ℕ) → is_off (task_at s.tasks t)
    ≡ is_off (task_at u.tasks t)
off-same sys s u h t = same-off s.clock u.clock _ _ (blocks-at s.clock u.clock s.tasks u.tasks h.tasks t)

pub worlds-refl : {C : Type 0} (sys : SystemTables) (w : World C) → IsSettled sys w.state → Alike sys w w
worlds-refl sys w h =
    record {
      states = alike-refl sys w.state;
      contexts = record { tasks = λ t e. refl; handlers = refl; long = refl };
      settled = h;
      also_settled = h;
    }

pub worlds-sym : {C : Type 0} (sys : SystemTables) (v w : World C) → Alike sys v w → Alike sys w v
worlds-sym sys v w h =
    let c = h.contexts in
    record {
      states = alike-sym sys v.state w.state h.states;
      contexts = record {
        tasks = λ t e. sym (c.tasks t (off-same sys v.state w.state h.states t ∙ e));
        handlers = sym c.handlers;
        long = sym c.long;
      };
      settled = h.also_settled;
      also_settled = h.settled;
    }

pub worlds-chained : {C : Type 0} (sys : SystemTables) (u v w : World C) → Alike sys u v → Alike sys v w → Alike sys u w
worlds-chained sys u v w h k =
    let c = h.contexts in
    let d = k.contexts in
    record {
      states = alike-chained sys u.state v.state w.state h.states k.states;
      contexts = record {
        tasks = λ t e. c.tasks t e ∙ d.tasks t (sym (off-same sys u.state v.state h.states t) ∙ e);
        handlers = c.handlers ∙ d.handlers;
        long = c.long ∙ d.long;
      };
      settled = h.settled;
      also_settled = k.also_settled;
    }
