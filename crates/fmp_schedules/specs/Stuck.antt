-- Tasks that can never go on.
use Rattle.std.specs.Prelude.{ℕ, ◌≡◌, ◌≢◌, ◌<◌, List, [], Bool, true, false, count_by, length, nat_eq, slice_index_or}
use Rattle.std.specs.Prelude.{pos, ◌+◌, Option, Some, None, ◌&&◌, ◌||◌}
use Rattle.std.specs.Ordering.{int_eq}
use Rattle.fmp_base.specs.Codes.{code_of}
use Rattle.fmp_base.specs.declared.calls.Call.{Call}
use Rattle.fmp_base.specs.declared.calls.Call.TheVariants as call
use Rattle.fmp_base.specs.declared.calls.Reply.{Reply}
use Rattle.fmp_base.specs.declared.codes.Er.TheVariants as er
use Rattle.fmp_base.specs.declared.events.Event.{Event}
use Rattle.fmp_base.specs.declared.events.Line.{Line}
use Rattle.fmp_base.specs.declared.events.Line.TheVariants as line
use Rattle.fmp_base.specs.declared.states.Caller.{Caller}
use Rattle.fmp_base.specs.declared.states.Caller.TheVariants as caller
use Rattle.fmp_base.specs.declared.states.Phase.TheVariants.{Dormant}
use Rattle.fmp_base.specs.Meanings.{Meaning}
use Rattle.fmp_base.specs.Runs.{run}
use Rattle.fmp_base.specs.States.{task_at}
use Rattle.fmp_base.specs.Steps.{step}
use Rattle.fmp_base.specs.Systems.{SystemTables}
use Rattle.fmp_bisimulation.specs.Closed.{AreAllowed}
use Rattle.fmp_schedules.specs.Deadlocks.{is_interrupt}
use Rattle.fmp_schedules.specs.Schedules.{IsSchedule, Rules, is_told, lines_after, may_come, reached, requests, watch}

abbrev pub is_task : (t : ℕ) → Caller → Bool
is_task t (caller.Task u) = nat_eq u t
is_task t _ = false

-- a call terminates task t if it is answered E_OK
abbrev pub terminates : (t : ℕ) → Call → Bool
terminates t (call.TerTsk number) = int_eq number (pos (t + 1))
terminates t _ = false

abbrev pub is_ok : Option Reply → Bool
is_ok None = false
is_ok (Some reply) = int_eq (code_of reply.code) (code_of er.Ok)

-- an act of task t: a call of its own, the end of its wait, its end, a fault of its body; or it is terminated
abbrev pub acts : (t : ℕ) → Line → Bool
acts t (line.Call p who made reply) = is_task t who || terminates t made && is_ok reply
acts t (line.Gets p u reply) = nat_eq u t
acts t (line.End p who) = is_task t who
acts t (line.Fault p who fault) = is_task t who
acts t _ = false

-- after these events, each of which did something, more may come one after the other, as the rules let them, and
-- whatever limits of single interrupts there are
abbrev pub MayFollow : {C : Type 0} → Rules → SystemTables → Meaning C → (n : ℕ) → (es more : List Event) → Type 0
MayFollow rules sys M n es more =
    AreAllowed (watch rules (λ l. false)) (may_come rules sys M n) (step sys M n) (reached sys M n es)
    (record { came = count_by is_interrupt es; told = false; monitors = []; broken = false }) more

-- Task t never goes on after these events, each of which did something: it is started, and whatever events follow, as
-- the rules let them come, however many, none of them tells an act of the task. Limits of single interrupts hold
-- nothing back here.
pub record NeverGoesOn {C : Type 0} (rules : Rules) (sys : SystemTables) (M : Meaning C) (n : ℕ) (es : List Event)
    (t : ℕ) : Type 0 where
  pub started : (task_at (reached sys M n es).state.tasks t).phase ≢ Dormant
  pub never :
      (more : List Event) → MayFollow rules sys M n es more →
      is_told (acts t) (run sys M n (reached sys M n es) more).events ≡ false

-- After these events task t may still go on: more events may come one after the other, as the rules let them, along
-- which it acts. Limits of single interrupts hold nothing back here.
pub record MayGoOn {C : Type 0} (rules : Rules) (sys : SystemTables) (M : Meaning C) (n : ℕ) (es : List Event) (t : ℕ)
    : Type 0 where
  pub more : List Event
  pub follow :
      AreAllowed (watch rules (λ l. false)) (may_come rules sys M n) (step sys M n) (reached sys M n es)
      (record { came = requests (lines_after sys M n es); told = false; monitors = []; broken = false }) more
  pub told : is_told (acts t) (run sys M n (reached sys M n es) more).events ≡ true

-- No task is ever stuck: after whatever events, as the rules let them come, each task that is started and may not rest
-- may still go on.
pub record NoneIsStuck {C : Type 0} (rules : Rules) (sys : SystemTables) (M : Meaning C) (n : ℕ) (rest : List Bool)
    : Type 0 where
  pub goes_on :
      (es : List Event) (t : ℕ) → IsSchedule rules sys M n (λ l. false) es → t < length sys.tasks →
      slice_index_or rest t false ≡ false → (task_at (reached sys M n es).state.tasks t).phase ≢ Dormant →
      MayGoOn rules sys M n es t
