-- The laws of settled states, and of calls that spin.
use Rattle.std.proofs.Common.{◌≡◌, ℕ, List, [], ◌∷◌, length, refl, subst}
use Rattle.fmp_base.specs.declared.calls.Answer.TheVariants.{Spins}
use Rattle.fmp_base.specs.declared.calls.Call.{Call}
use Rattle.fmp_base.specs.declared.events.Event.{Event}
use Rattle.fmp_base.specs.declared.states.Caller.{Caller}
use Rattle.fmp_base.specs.declared.states.Caller.TheVariants as caller
use Rattle.fmp_base.specs.Calls.{called}
use Rattle.fmp_base.specs.Meanings.{Meaning, World}
use Rattle.fmp_base.specs.Runs.{Trace, run, run_on}
use Rattle.fmp_base.specs.Setups.{setup, all_started, created_state}
use Rattle.fmp_base.specs.States.{KernelState, unchanged, places_from}
use Rattle.fmp_base.specs.Steps.{Reaction, Done, Nothing, Did, Kept, step}
use Rattle.fmp_base.specs.Systems.{SystemTables}
use Rattle.fmp_worlds.specs.Settled.{RunOnce, IsSettled}
use Rattle.fmp_worlds.specs.Spins.{MaySpin}
use Rattle.fmp_worlds.proofs.Assigned.{run-once}
use Rattle.fmp_worlds.proofs.CalledLemmas.{keeps-task_call, keeps-handler_call}
use Rattle.fmp_worlds.proofs.Settling.{can_settle, settled-settles}
use Rattle.fmp_worlds.proofs.StepLemmas.{holds, LeavesSettled, step-leaves_settled}
use Rattle.fmp_worlds.proofs.TickLemmas.{holds-all_started}

-- in a settled state no task is run by two processors
pub IsSettled-run_once : (sys : SystemTables) (s : KernelState) → IsSettled sys s → RunOnce s
IsSettled-run_once sys s h = record { each = λ t p q a b. run-once s.tasks s.processors t p q (holds sys s h) a b }

-- setup leaves a settled state
pub setup-settled : {C : Type 0} (sys : SystemTables) (M : Meaning C) → IsSettled sys (setup sys M).world.state
setup-settled sys M =
    let ts = places_from 0 (length sys.tasks) in
    settled-settles sys (all_started sys (unchanged (created_state sys)) ts)
    (can_settle sys _ (holds-all_started sys ts))

-- each event that does something leaves a settled state
pub step-settled : {C : Type 0} (sys : SystemTables) (M : Meaning C) (n : ℕ) (w : World C) (e : Event) (d : Done C)
    → IsSettled sys w.state → step sys M n w e ≡ Did d → IsSettled sys d.world.state
step-settled {C} sys M n w e d h k =
    subst (λ (r : Reaction C). LeavesSettled sys r) k (step-leaves_settled sys M n w e h)

-- and so does each event that keeps a place
pub kept-settled : {C : Type 0} (sys : SystemTables) (M : Meaning C) (n : ℕ) (w : World C) (e : Event) (p : ℕ)
    (v : World C)
    → IsSettled sys w.state → step sys M n w e ≡ Kept p v → IsSettled sys v.state
kept-settled {C} sys M n w e p v h k = subst (λ (r : Reaction C). LeavesSettled sys r) k
    (step-leaves_settled sys M n w e h)

run_on-settled : {C : Type 0} (sys : SystemTables) (w : World C) (x : Reaction C) (rest : World C → Trace C)
    → IsSettled sys w.state → LeavesSettled sys x
    → ((v : World C) → IsSettled sys v.state → IsSettled sys (rest v).world.state)
    → IsSettled sys (run_on w x rest).world.state
run_on-settled sys w Nothing rest h k go = go w h
run_on-settled sys w (Did d) rest h k go = go d.world k
run_on-settled sys w (Kept p v) rest h k go = go v k

-- so does every run
pub run-settled : {C : Type 0} (sys : SystemTables) (M : Meaning C) (n : ℕ) (w : World C) (es : List Event)
    → IsSettled sys w.state → IsSettled sys (run sys M n w es).world.state
run-settled sys M n w [] h = h
run-settled sys M n w (e ∷ es) h =
    run_on-settled sys w (step sys M n w e) _ h (step-leaves_settled sys M n w e h) (λ v k. run-settled sys M n v es k)

-- in no world that setup and events reach a task is run by two processors
pub run-run_once : {C : Type 0} (sys : SystemTables) (M : Meaning C) (n : ℕ) (es : List Event)
    → RunOnce (run sys M n (setup sys M).world es).world.state
run-run_once sys M n es = IsSettled-run_once sys _ (run-settled sys M n (setup sys M).world es (setup-settled sys M))

-- a call that spins has changed nothing and has no line
pub called-spins : (sys : SystemTables) (s : KernelState) (p : ℕ) (who : Caller) (c : Call)
    → (called sys s p who c).answer ≡ Spins → (called sys s p who c).progress ≡ unchanged s
called-spins sys s p (caller.Task t) c h = let k = keeps-task_call sys s p t c in (k.spins h).0
called-spins sys s p (caller.Handler i) c h = let k = keeps-handler_call sys s p i c in (k.spins h).0

-- and its caller may spin
pub called-may_spin : (sys : SystemTables) (s : KernelState) (p : ℕ) (who : Caller) (c : Call)
    → (called sys s p who c).answer ≡ Spins → MaySpin sys s p who
called-may_spin sys s p (caller.Task t) c h =
    let k = keeps-task_call sys s p t c in
    record { held = (k.spins h).1; free = (k.spins h).2; task = t; is = refl }
called-may_spin sys s p (caller.Handler i) c h = let k = keeps-handler_call sys s p i c in absurd ((k.spins h).3)
