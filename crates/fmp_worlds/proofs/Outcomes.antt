-- The effect that every call has: a state that can settle, and nothing where the caller spins for a spin lock.
use Rattle.std.proofs.Common.{◌≡◌, ℕ, ℤ, [], Option, Some, None, Bool, true, false, ◌⊎◌, inl, inr, nat_eq, refl, sym}
use Rattle.std.proofs.Common.{subst, arith, slice_set, if◌then◌else◌}
use Rattle.std.specs.List.{AllByRecursion}
use Rattle.std.proofs.lemmas.Bool.{eqb-true}
use Rattle.std.proofs.lemmas.Bool.Decides.{nat_tests}
use Rattle.fmp_base.specs.declared.calls.Answer.TheVariants.{Ends, Spins, Waits}
use Rattle.fmp_base.specs.declared.codes.Er.{Er}
use Rattle.fmp_base.specs.declared.codes.Er.TheVariants as er
use Rattle.fmp_base.specs.declared.states.Lock.TheVariants.{Free}
use Rattle.fmp_base.specs.declared.states.Phase.TheVariants.{Ready, Waiting}
use Rattle.fmp_base.specs.declared.states.TaskBlock.{TaskBlock}
use Rattle.fmp_base.specs.declared.states.TimeLimit.{TimeLimit}
use Rattle.fmp_base.specs.declared.states.TimeLimit.TheVariants as limit
use Rattle.fmp_base.specs.declared.states.WaitCause.{WaitCause}
use Rattle.fmp_base.specs.Outcomes.{CallOutcome, refused, succeeds, succeeds_in, gives, waits, waits_within, tested}
use Rattle.fmp_base.specs.Outcomes.{refused_if, on_task}
use Rattle.fmp_base.specs.Settles.{pending_handler}
use Rattle.fmp_base.specs.States.{KernelState, Progress, unchanged, task_at, processor_at, with_last}
use Rattle.fmp_base.specs.Systems.{SystemTables}
use Rattle.fmp_worlds.specs.Spins.{IsLockHeld}
use Rattle.fmp_worlds.proofs.Assigned.{Fits, Holds, Runs, fits-task, run-once, set_over}
use Rattle.fmp_worlds.proofs.Changes.{SameActors, SameActorsBeside, SameHandlers, handlers-same}
use Rattle.fmp_worlds.proofs.Lines.{IsOwn}
use Rattle.fmp_worlds.proofs.Settling.{CanSettle, Dispatches, can_settle}
use Rattle.fmp_worlds.proofs.Told.{IsReady, IsTold, Woken, left, still}

-- a task calls
abbrev pub IsTask : Option ℕ → Type 0
IsTask None = ⊥
IsTask (Some t) = Unit {0}

-- a task that calls and waits is not ready; a handler never waits
abbrev pub IsAway : Option ℕ → KernelState → Type 0
IsAway None s = ⊥
IsAway (Some t) s = IsReady s t → ⊥

-- a task that calls and ends is ready only where it starts again; a handler does not end by a call
abbrev pub IsEnded : Option ℕ → Progress → Type 0
IsEnded None g = ⊥
IsEnded (Some t) g = IsReady g.state t → IsTold t g.lines

-- where K is known of the caller, on processor own; it is the task `who`, or a handler
pub record Keeps (K : Type 0) (own : ℕ) (who : Option ℕ) (sys : SystemTables) (s : KernelState)
    (o : CallOutcome) : Type 0 where
  pub settles : K → Holds s → CanSettle sys o.progress.state
  pub spins :
      o.answer ≡ Spins → (o.progress ≡ unchanged s) × IsLockHeld sys s × ((processor_at s own).lock ≡ Free) × IsTask who
  pub waits : o.answer ≡ Waits → IsAway who o.progress.state
  pub ends : o.answer ≡ Ends → IsEnded who o.progress
  pub actors : SameActorsBeside own s o.progress.state
  pub handlers : SameHandlers s o.progress.state
  pub lines : K → Holds s → AllByRecursion (IsOwn s own) o.progress.lines
  pub woken : Woken s o.progress

-- the caller is task t, which may wait: its processor dispatches then
pub record MayWait (K : Type 0) (own : ℕ) (who : Option ℕ) (sys : SystemTables) (s : KernelState) (t : ℕ) : Type 0 where
  pub is : who ≡ Some t
  pub runs : K → Runs s.processors own t
  pub dispatches : K → Dispatches (processor_at s own) (pending_handler sys s own)

-- within a limit; who polls does not wait
abbrev pub Within : TimeLimit → Type 0 → Type 0
Within limit.Forever W = W
Within limit.Poll W = Unit {0}
Within (limit.Ticks n) W = W

pub within : {W : Type 0} (limit : TimeLimit) → W → Within limit W
within limit.Forever w = w
within limit.Poll w = tt
within (limit.Ticks n) w = w

module _ {K : Type 0} {own : ℕ} {who : Option ℕ} (sys : SystemTables) (s : KernelState) where
  pub keeps-refused : (e : Er) → Keeps K own who sys s (refused s e)
  keeps-refused e =
      record {
        settles = λ k a. can_settle sys s a;
        spins = λ h. cc;
        waits = λ h. cc;
        ends = λ h. cc;
        actors = λ q n. refl;
        handlers = λ q. refl;
        lines = λ k a. tt;
        woken = still (λ t r. r);
      }

  pub keeps-succeeds : (g : Progress) → (K → Holds s → Holds g.state) → SameActors s g.state
      → (K → Holds s → AllByRecursion (IsOwn s own) g.lines) → Woken s g → Keeps K own who sys s (succeeds g)
  keeps-succeeds g h same own_lines woken =
      record {
        settles = λ k a. can_settle sys g.state (h k a);
        spins = λ e. cc;
        waits = λ e. cc;
        ends = λ e. cc;
        actors = λ q n. same q;
        handlers = handlers-same s g.state same;
        lines = own_lines;
        woken = woken;
      }

  pub keeps-succeeds_in : (u : KernelState) → (Holds s → Holds u) → SameActors s u
      → ((t : ℕ) → IsReady u t → IsReady s t)
      → Keeps K own who sys s (succeeds_in u)
  keeps-succeeds_in u h same none = keeps-succeeds (unchanged u) (λ k a. h a) same (λ k a. tt) (still none)

  pub keeps-gives : (v : ℤ) (g : Progress) → (Holds s → Holds g.state) → SameActors s g.state
      → AllByRecursion (IsOwn s own) g.lines → Woken s g → Keeps K own who sys s (gives v g)
  keeps-gives v g h same own_lines woken =
      record {
        settles = λ k a. can_settle sys g.state (h a);
        spins = λ e. cc;
        waits = λ e. cc;
        ends = λ e. cc;
        actors = λ q n. same q;
        handlers = handlers-same s g.state same;
        lines = λ k a. own_lines;
        woken = woken;
      }

  pub keeps-waits : (t : ℕ) (c : WaitCause) (deadline : Option ℕ) → MayWait K own who sys s t
      → Keeps K own who sys s (waits s t (task_at s.tasks t) c deadline)
  keeps-waits t c deadline w = record {
    settles = λ k a. record { each = λ q v r. by_test k a q v r (nat_eq t v) refl };
    spins = λ e. cc;
    waits = λ e. subst (λ (o : Option ℕ). IsAway o (with_last s t y)) (sym w.is) away;
    ends = λ e. cc;
    actors = λ q n. refl;
    handlers = λ q. refl;
    lines = λ k a. tt;
    woken = record { each = left s (unchanged s) t y (λ r. cc) (still (λ u r. r)) };
  } where
    y : TaskBlock
    y = record (task_at s.tasks t) { phase = Waiting c; deadline = deadline }

    away : IsReady (with_last s t y) t → ⊥
    away = set_over (task_at [] 0) (λ x. x.phase ≡ Ready → ⊥) s.tasks t y t (λ r. cc) (λ same r. cc)
        (λ n. absurd (n refl))

    by_test : K → Holds s → (q v : ℕ) → Runs s.processors q v → (b : Bool) → nat_eq t v ≡ b
        → Fits q (task_at (slice_set s.tasks t y) v) ⊎ Dispatches (processor_at s q) (pending_handler sys s q)
    by_test k a q v r true same =
        let there : Runs s.processors q t = subst (λ (u : ℕ). Runs s.processors q u) (sym (eqb-true t v same)) r in
        inr (subst (λ (p : ℕ). Dispatches (processor_at s p) (pending_handler sys s p))
        (run-once s.tasks s.processors t own q a (w.runs k) there) (w.dispatches k))
    by_test k a q v r false apart =
        inl (fits-task s.tasks t y q v (λ (same : t ≡ v). absurd (grind (arith, nat_tests, same, apart)))
        (a.each q v r))

  pub keeps-within : (limit : TimeLimit) (t : ℕ) (c : WaitCause) → Within limit (MayWait K own who sys s t)
      → Keeps K own who sys s (waits_within limit s t (task_at s.tasks t) c)
  keeps-within limit.Forever t c w = keeps-waits t c None w
  keeps-within limit.Poll t c w = keeps-refused er.Tmout
  keeps-within (limit.Ticks n) t c w = keeps-waits t c _ w

  pub keeps-tested : {A : Type 0} (e : Er) (o : Option A) (go : A → CallOutcome)
      → ((a : A) → Keeps K own who sys s (go a))
      → Keeps K own who sys s (tested s e o go)
  keeps-tested e None go h = keeps-refused e
  keeps-tested e (Some a) go h = h a

  pub keeps-refused_if : (b : Bool) (e : Er) (o : CallOutcome) → (b ≡ false → Keeps K own who sys s o)
      → Keeps K own who sys s (refused_if b s e o)
  keeps-refused_if true e o h = keeps-refused e
  keeps-refused_if false e o h = h refl

  pub keeps-on_task : (o : Option ℕ) (go : ℕ → TaskBlock → CallOutcome)
      → ((t : ℕ) → o ≡ Some t → Keeps K own who sys s (go t (task_at s.tasks t)))
      → Keeps K own who sys s (on_task s o go)
  keeps-on_task None go h = keeps-refused er.Id
  keeps-on_task (Some t) go h = h t refl

  pub keeps-if : (b : Bool) (o p : CallOutcome) → Keeps K own who sys s o → Keeps K own who sys s p
      → Keeps K own who sys s (if b then o else p)
  keeps-if true o p h k = h
  keeps-if false o p h k = k
