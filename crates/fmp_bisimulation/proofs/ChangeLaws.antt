-- Start, release, end and suspension of a task come to the same in alike states.
use Rattle.std.proofs.Common.{◌≡◌, ℕ, zero, suc, List, [], ◌∷◌, ◌++◌, Option, None, Bool, true, false, refl, sym, ap}
use Rattle.std.proofs.Common.{subst}
use Rattle.fmp_base.specs.declared.calls.Reply.{Reply}
use Rattle.fmp_base.specs.declared.events.Line.{Line}
use Rattle.fmp_base.specs.declared.events.Line.TheVariants as line
use Rattle.fmp_base.specs.declared.states.Phase.{Phase}
use Rattle.fmp_base.specs.declared.states.Phase.TheVariants.{Dormant, Ready, Waiting}
use Rattle.fmp_base.specs.declared.states.TaskBlock.{TaskBlock}
use Rattle.fmp_base.specs.declared.states.WaitCause.{WaitCause}
use Rattle.fmp_base.specs.Changes.{started_block, started_as, started, released_state, released, ended_block, ended_by}
use Rattle.fmp_base.specs.Changes.{ended, with_nothing_run, ended_itself, suspended_by, suspended}
use Rattle.fmp_base.specs.States.{KernelState, Progress, unchanged, task_at, processor_at, with_task}
use Rattle.fmp_base.specs.Systems.{SystemTables}
use Rattle.fmp_bisimulation.specs.Alike.{SameTime, SameBlock, AlikeStates, SameProgress, Place, stands_at}
use Rattle.fmp_bisimulation.proofs.TimeLaws.{by_block, blocks-at}
use Rattle.fmp_bisimulation.proofs.StateLaws.{Stays, alike-with_task, alike-with_last, alike-with_removed}
use Rattle.fmp_bisimulation.proofs.StateLaws.{alike-changed}

pub unchanged-same : (sys : SystemTables) (s u : KernelState) → AlikeStates sys s u
    → SameProgress sys (unchanged s) (unchanged u)
unchanged-same sys s u h = record { state = h; lines = refl }

-- the same blocks but for their deadlines
pub same-but : (a b : ℕ) (x : TaskBlock) (d e : Option ℕ) → SameTime a b d e
    → SameBlock a b (record x { deadline = d }) (record x { deadline = e })
same-but a b x d e h = record { rest = refl; deadline = h }

pub processors-same : (sys : SystemTables) (s u : KernelState) → AlikeStates sys s u → (p : ℕ)
    → processor_at s p ≡ processor_at u p
processors-same sys s u h p = ap (λ (z : KernelState). processor_at z p) h.rest

started_as-same : (sys : SystemTables) (g i : Progress) (t : ℕ) (y : TaskBlock) → SameProgress sys g i
    → SameProgress sys (started_as g t (record y { deadline = None })) (started_as i t (record y { deadline = None }))
started_as-same sys g i t y h =
    record {
      state = alike-with_last sys g.state i.state t _ _ h.state (same-but g.state.clock i.state.clock y None None tt);
      lines = ap (λ (ls : List Line). ls ++ line.Starts y.processor t ∷ []) h.lines;
    }

pub started-same : (sys : SystemTables) (g i : Progress) (t : ℕ) (x : TaskBlock) (d : Option ℕ) → SameProgress sys g i
    → SameProgress sys (started sys g t x) (started sys i t (record x { deadline = d }))
started-same sys g i t x d h = started_as-same sys g i t (started_block sys t x) h

released_state-same : (sys : SystemTables) (b : Bool) (s u : KernelState) (t : ℕ) (x y : TaskBlock)
    → AlikeStates sys s u
    → SameBlock s.clock u.clock x y → AlikeStates sys (released_state b s t x) (released_state b u t y)
released_state-same sys true s u t x y h k = alike-with_removed sys s u t x y h k
released_state-same sys false s u t x y h k = alike-with_last sys s u t x y h k

pub released-same : (sys : SystemTables) (g i : Progress) (t : ℕ) (x : TaskBlock) (d : Option ℕ) (reply : Reply)
    → SameProgress sys g i → SameProgress sys (released g t x reply) (released i t (record x { deadline = d }) reply)
released-same sys g i t x d reply h =
    record {
      state = released_state-same sys x.suspended g.state i.state t _ _ h.state
          (same-but g.state.clock i.state.clock (record x { phase = Ready }) None None tt);
      lines = ap (λ (ls : List Line). ls ++ line.Gets x.processor t reply ∷ []) h.lines;
    }

ended_by-same : (sys : SystemTables) (n : ℕ) (g i : Progress) (t : ℕ) (y : TaskBlock) → SameProgress sys g i
    → SameProgress sys (ended_by n sys g t (record y { deadline = None }))
    (ended_by n sys i t (record y { deadline = None }))
ended_by-same sys zero g i t y h =
    record {
      state = alike-with_removed sys g.state i.state t _ _ h.state (same-but g.state.clock i.state.clock y None None
          tt);
      lines = h.lines;
    }
ended_by-same sys (suc n) g i t y h = started-same sys g i t (record y { activations = n; deadline = None }) None h

pub ended-same : (sys : SystemTables) (g i : Progress) (t : ℕ) (x : TaskBlock) (d : Option ℕ) → SameProgress sys g i
    → SameProgress sys (ended sys g t x) (ended sys i t (record x { deadline = d }))
ended-same sys g i t x d h = ended_by-same sys x.activations g i t (ended_block sys t x) h

pub ended_itself-same : (sys : SystemTables) (s u : KernelState) (p t : ℕ) (x : TaskBlock) (d : Option ℕ)
    → AlikeStates sys s u
    → SameProgress sys (ended_itself sys s p t x) (ended_itself sys u p t (record x { deadline = d }))
ended_itself-same sys s u p t x d h =
    ended-same sys (unchanged (with_nothing_run s p)) (unchanged (with_nothing_run u p)) t x d
    (unchanged-same sys _ _ (alike-changed sys (λ z. with_nothing_run z p) (λ z. refl) (λ z. refl) s u h))

-- what does not change where a task stands: its counts; its suspension, where it waits
pub stays-counts : (sys : SystemTables) (x : TaskBlock) (activations : ℕ) (next : Option ℕ) (wakeups : ℕ)
    → Stays sys x (record x { activations = activations; next_processor = next; wakeups = wakeups })
stays-counts sys x activations next wakeups c = by_place c where
  by_place : (c : Place)
      → stands_at sys c x ≡ stands_at sys c (record x {
        activations = activations;
        next_processor = next;
        wakeups = wakeups;
      })
  by_place (Place.ReadyAt p priority) = refl
  by_place (Place.WaitsAt q priority) = refl

stays-waiting : (sys : SystemTables) (x : TaskBlock) (w : WaitCause) (b : Bool) → x.phase ≡ Waiting w
    → Stays sys x (record x { suspended = b })
stays-waiting sys x w b e c = by_place c where
  by_place : (c : Place) → stands_at sys c x ≡ stands_at sys c (record x { suspended = b })
  by_place (Place.ReadyAt p priority) = rw e refl
  by_place (Place.WaitsAt q priority) = refl

-- a task that is or stays suspended; one that waits keeps its place
pub suspension-same : (sys : SystemTables) (s u : KernelState) (t : ℕ) (x : TaskBlock) (d : Option ℕ) (b : Bool)
    (w : WaitCause)
    → AlikeStates sys s u → SameTime s.clock u.clock x.deadline d → x.phase ≡ Waiting w → task_at s.tasks t ≡ x
    → AlikeStates sys (with_task s t (record x { suspended = b })) (with_task u t
    (record x { suspended = b; deadline = d }))
suspension-same sys s u t x d b w h k e there =
    alike-with_task sys s u t _ _ h (same-but s.clock u.clock (record x { suspended = b }) x.deadline d k)
    (subst (λ (z : TaskBlock). Stays sys z (record x { suspended = b })) (sym there) (stays-waiting sys x w b e))

pub suspended-same : (sys : SystemTables) (s u : KernelState) (t : ℕ) (x : TaskBlock) (d : Option ℕ)
    → AlikeStates sys s u
    → SameTime s.clock u.clock x.deadline d → task_at s.tasks t ≡ x
    → AlikeStates sys (suspended s t x) (suspended u t (record x { deadline = d }))
suspended-same sys s u t x d h k there = by_phase x.phase refl where
  same : SameBlock s.clock u.clock (record x { suspended = true }) (record x { suspended = true; deadline = d })
  same = same-but s.clock u.clock (record x { suspended = true }) x.deadline d k

  by_phase : (p : Phase) → x.phase ≡ p
      → AlikeStates sys (suspended_by p s t (record x { suspended = true }))
      (suspended_by p u t (record x { suspended = true; deadline = d }))
  by_phase Dormant e = alike-with_removed sys s u t _ _ h same
  by_phase Ready e = alike-with_removed sys s u t _ _ h same
  by_phase (Waiting w) e = suspension-same sys s u t x d true w h k e there

-- a waiting task, which stands in its table, is released
pub released_at-same : (sys : SystemTables) (g i : Progress) (t : ℕ) (reply : Reply) → SameProgress sys g i
    → SameProgress sys (released g t (task_at g.state.tasks t) reply) (released i t (task_at i.state.tasks t) reply)
released_at-same sys g i t reply h =
    let a = h.state in
    let x = task_at g.state.tasks t in
    by_block (λ (y : TaskBlock). SameProgress sys (released g t x reply) (released i t y reply)) g.state.clock
    i.state.clock x
    (task_at i.state.tasks t) (blocks-at g.state.clock i.state.clock g.state.tasks i.state.tasks a.tasks t)
    (λ d k. released-same sys g i t x d reply h)
