-- The pieces of which service calls are made come to the same in alike states.
use Rattle.std.proofs.Common.{◌≡◌, ℕ, ℤ, Option, Some, None, Bool, true, false, refl, subst, if◌then◌else◌}
use Rattle.fmp_base.specs.declared.codes.Er.{Er}
use Rattle.fmp_base.specs.declared.states.Phase.TheVariants.{Waiting}
use Rattle.fmp_base.specs.declared.states.TaskBlock.{TaskBlock}
use Rattle.fmp_base.specs.declared.states.TimeLimit.{TimeLimit}
use Rattle.fmp_base.specs.declared.states.TimeLimit.TheVariants as limit
use Rattle.fmp_base.specs.declared.states.WaitCause.{WaitCause}
use Rattle.fmp_base.specs.Outcomes.{CallOutcome, refused, succeeds, succeeds_in, gives, waits, waits_within, numbered}
use Rattle.fmp_base.specs.Outcomes.{named, tested, refused_if, on_task}
use Rattle.fmp_base.specs.States.{KernelState, Progress, clock_after, task_at}
use Rattle.fmp_base.specs.Systems.{SystemTables}
use Rattle.fmp_base.specs.TaskCalls.{self_or, by_number}
use Rattle.fmp_bisimulation.specs.Alike.{SameTime, AlikeStates, SameProgress, SameOutcome}
use Rattle.fmp_bisimulation.proofs.ChangeLaws.{unchanged-same, same-but}
use Rattle.fmp_bisimulation.proofs.StateLaws.{alike-with_last}
use Rattle.fmp_bisimulation.proofs.TimeLaws.{by_block, blocks-at, blocks-long, same-after}

pub succeeds-same : (sys : SystemTables) (g i : Progress) → SameProgress sys g i
    → SameOutcome sys (succeeds g) (succeeds i)
succeeds-same sys g i h = record { answer = refl; progress = h }

pub succeeds_in-same : (sys : SystemTables) (s u : KernelState) → AlikeStates sys s u
    → SameOutcome sys (succeeds_in s) (succeeds_in u)
succeeds_in-same sys s u h = record { answer = refl; progress = unchanged-same sys s u h }

pub gives-same : (sys : SystemTables) (v : ℤ) (g i : Progress) → SameProgress sys g i
    → SameOutcome sys (gives v g) (gives v i)
gives-same sys v g i h = record { answer = refl; progress = h }

pub either-same : (sys : SystemTables) (b : Bool) (o p o' p' : CallOutcome) → SameOutcome sys o p
    → SameOutcome sys o' p'
    → SameOutcome sys (if b then o else o') (if b then p else p')
either-same sys true o p o' p' h k = h
either-same sys false o p o' p' h k = k

-- task t is x in s, and x with deadline d in u
pub record IsSeenAs (s u : KernelState) (t : ℕ) (x : TaskBlock) (d : Option ℕ) : Type 0 where
  pub there : task_at s.tasks t ≡ x
  pub time : SameTime s.clock u.clock x.deadline d

module _ (sys : SystemTables) (s u : KernelState) (h : AlikeStates sys s u) where
  pub refused-same : (e : Er) → SameOutcome sys (refused s e) (refused u e)
  refused-same e = record { answer = refl; progress = unchanged-same sys s u h }

  pub tested-same : {A : Type 0} (e : Er) (o : Option A) (f g : A → CallOutcome)
      → ((a : A) → SameOutcome sys (f a) (g a))
      → SameOutcome sys (tested s e o f) (tested u e o g)
  tested-same e None f g k = refused-same e
  tested-same e (Some a) f g k = k a

  pub refused_if-same : (b : Bool) (e : Er) (o p : CallOutcome) → SameOutcome sys o p
      → SameOutcome sys (refused_if b s e o) (refused_if b u e p)
  refused_if-same true e o p k = refused-same e
  refused_if-same false e o p k = k

  pub waits-same : (t : ℕ) (x : TaskBlock) (d : Option ℕ) (c : WaitCause) (a b : Option ℕ)
      → SameTime s.clock u.clock a b
      → SameOutcome sys (waits s t x c a) (waits u t (record x { deadline = d }) c b)
  waits-same t x d c a b k =
      let block = same-but s.clock u.clock (record x { phase = Waiting c }) a b k in
      record { answer = refl; progress = unchanged-same sys _ _ (alike-with_last sys s u t _ _ h block) }

  pub waits_within-same : (m : TimeLimit) (t : ℕ) (x : TaskBlock) (d : Option ℕ) (c : WaitCause)
      → SameOutcome sys (waits_within m s t x c) (waits_within m u t (record x { deadline = d }) c)
  waits_within-same limit.Forever t x d c = waits-same t x d c None None tt
  waits_within-same limit.Poll t x d c = record { answer = refl; progress = unchanged-same sys s u h }
  waits_within-same (limit.Ticks n) t x d c =
      waits-same t x d c (Some (clock_after s n)) (Some (clock_after u n)) (same-after s.clock u.clock n)

  pub on_task-same : (o : Option ℕ) (f g : ℕ → TaskBlock → CallOutcome)
      → ((t : ℕ) (x : TaskBlock) (d : Option ℕ) → IsSeenAs s u t x d
      → SameOutcome sys (f t x) (g t (record x { deadline = d })))
      → SameOutcome sys (on_task s o f) (on_task u o g)
  on_task-same None f g k = record { answer = refl; progress = unchanged-same sys s u h }
  on_task-same (Some t) f g k =
      let x = task_at s.tasks t in
      by_block (λ (y : TaskBlock). SameOutcome sys (f t x) (g t y)) s.clock u.clock x (task_at u.tasks t)
      (blocks-at s.clock u.clock s.tasks u.tasks h.tasks t)
      (λ d l. k t x d (record { there = refl; time = l }))

  pub on_self-same : (me : ℕ) (t : ℤ) (f g : ℕ → TaskBlock → CallOutcome)
      → ((t : ℕ) (x : TaskBlock) (d : Option ℕ) → IsSeenAs s u t x d
      → SameOutcome sys (f t x) (g t (record x { deadline = d })))
      → SameOutcome sys (on_task s (self_or s me t) f) (on_task u (self_or u me t) g)
  on_self-same me t f g k =
      subst (λ (n : ℕ). SameOutcome sys (on_task s (self_or s me t) f) (on_task u (named me n t) g))
      (blocks-long s.clock u.clock s.tasks u.tasks h.tasks) (on_task-same (self_or s me t) f g k)

  pub on_number-same : (t : ℤ) (f g : ℕ → TaskBlock → CallOutcome)
      → ((t : ℕ) (x : TaskBlock) (d : Option ℕ) → IsSeenAs s u t x d
      → SameOutcome sys (f t x) (g t (record x { deadline = d })))
      → SameOutcome sys (on_task s (by_number s t) f) (on_task u (by_number u t) g)
  on_number-same t f g k =
      subst (λ (n : ℕ). SameOutcome sys (on_task s (by_number s t) f) (on_task u (numbered n t) g))
      (blocks-long s.clock u.clock s.tasks u.tasks h.tasks) (on_task-same (by_number s t) f g k)
