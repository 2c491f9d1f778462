-- What is alike to a deadlock is a deadlock.
use Rattle.std.proofs.Common.{◌≡◌, ℕ, List, Option, Some, None, Bool, refl, ◌∙◌, ap}
use Rattle.fmp_base.specs.declared.events.Event.{Event}
use Rattle.fmp_base.specs.declared.events.Event.TheVariants as event
use Rattle.fmp_base.specs.declared.states.TaskBlock.{TaskBlock}
use Rattle.fmp_base.specs.Meanings.{Meaning, World}
use Rattle.fmp_base.specs.States.{KernelState}
use Rattle.fmp_base.specs.Steps.{Reaction, Nothing, Did, Kept, step}
use Rattle.fmp_base.specs.Systems.{SystemTables}
use Rattle.fmp_bisimulation.specs.Alike.{AlikeStates, SameTime}
use Rattle.fmp_bisimulation.specs.Closed.{BothAlike}
use Rattle.fmp_bisimulation.proofs.TimeLaws.{blocks-at, times-at}
use Rattle.fmp_schedules.specs.Likeness.{IsLikeness, StatesAlike}
use Rattle.fmp_schedules.specs.Deadlocks.{IsDeadlock, IsStuck}

nothing-too : {C : Type 0} (R : World C → World C → Type 0) (x y : Reaction C) → BothAlike R x y → x ≡ Nothing
    → y ≡ Nothing
nothing-too R Nothing Nothing h e = refl
nothing-too R Nothing (Did b) h e = absurd h
nothing-too R Nothing (Kept q w) h e = absurd h
nothing-too R (Did a) y h e = cc
nothing-too R (Kept p v) y h e = cc

none-too : (a b : ℕ) (x y : Option ℕ) → SameTime a b x y → x ≡ None → y ≡ None
none-too a b None None h e = refl
none-too a b None (Some y) h e = absurd h
none-too a b (Some x) y h e = cc

stuck-too : (sys : SystemTables) (s u : KernelState) (rest : List Bool) (tasks : ℕ) → AlikeStates sys s u
    → IsStuck rest s tasks → IsStuck rest u tasks
stuck-too sys s u rest tasks h d =
    let same = blocks-at s.clock u.clock s.tasks u.tasks h.tasks d.task in
    record {
      task = d.task;
      there = d.there;
      may_not_rest = d.may_not_rest;
      started = λ e. d.started (ap (λ (x : TaskBlock). x.phase) same.rest ∙ e);
    }

pub deadlock-alike : {C : Type 0} (sys : SystemTables) (M : Meaning C) (n : ℕ) (R : World C → World C → Type 0)
    (F : World C → Event → Type 0) → IsLikeness sys M n R F → (v w : World C) (rest : List Bool) (interrupts : Bool)
    → IsDeadlock sys M n v rest interrupts → R v w → IsDeadlock sys M n w rest interrupts
deadlock-alike sys M n R F like v w rest interrupts d h =
    let s = v.state in
    let u = w.state in
    let k : AlikeStates sys s u = like.states v w h in
    let stands : (e : Event) → step sys M n v e ≡ Nothing → step sys M n w e ≡ Nothing =
    λ e. nothing-too (StatesAlike sys) (step sys M n v e) (step sys M n w e) (like.always v w e h) in
    record {
      runs = λ p from to. stands (event.Run p) (d.runs p from to);
      requests = λ on i from to. stands (event.Int i) (d.requests on i from to);
      waits = λ t there.
          none-too s.clock u.clock _ _
          (let same = blocks-at s.clock u.clock s.tasks u.tasks k.tasks t in same.deadline) (d.waits t there);
      handlers = λ c there.
          none-too s.clock u.clock _ _ (times-at s.clock u.clock s.due_times u.due_times k.due_times c)
          (d.handlers c there);
      stuck = stuck-too sys s u rest _ k d.stuck;
    }
