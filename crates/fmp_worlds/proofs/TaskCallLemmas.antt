-- The calls that manage tasks have the effect that every call has.
use Rattle.std.proofs.Common.{◌≡◌, ℕ, zero, suc, ◌^◌, ℤ, Option, Some, None, Bool, true, false, not, nat_lt, slice_set}
use Rattle.std.proofs.Common.{refl, sym, ap}
use Rattle.fmp_base.specs.declared.codes.Er.TheVariants as er
use Rattle.fmp_base.specs.declared.states.Phase.{Phase}
use Rattle.fmp_base.specs.declared.states.Phase.TheVariants.{Dormant, Ready, Waiting}
use Rattle.fmp_base.specs.declared.states.TaskBlock.{TaskBlock}
use Rattle.fmp_base.specs.declared.states.TimeLimit.{TimeLimit}
use Rattle.fmp_base.specs.declared.states.WaitCause.{WaitCause}
use Rattle.fmp_base.specs.declared.states.WaitCause.TheVariants as cause
use Rattle.fmp_base.specs.Outcomes.{code, limit_of, numbered, ranged}
use Rattle.fmp_base.specs.Queues.{first_ready}
use Rattle.fmp_base.specs.States.{KernelState, unchanged, task_at}
use Rattle.fmp_base.specs.Systems.{SystemTables}
use Rattle.fmp_base.specs.TaskCalls as calls
use Rattle.fmp_base.specs.TaskCalls.{self_or, by_number, is_dormant, goes_last, moved_by, or_if_zero, allowed_processor}
use Rattle.fmp_base.specs.TaskCalls.{rotated}
use Rattle.fmp_worlds.proofs.Assigned.{Assigned, Holds, IsRunNowhere, dormant-unrun}
use Rattle.fmp_worlds.proofs.Changes.{SameActors, actors-moved, holds-started, holds-released, holds-suspended}
use Rattle.fmp_worlds.proofs.Changes.{holds-changed, actors-released, actors-suspended}
use Rattle.fmp_worlds.proofs.Told.{IsReady, changed, still, suspended-still, woken-released, woken-started}
use Rattle.fmp_worlds.proofs.Outcomes.{Keeps, MayWait, Within, within, keeps-refused, keeps-succeeds, keeps-succeeds_in}
use Rattle.fmp_worlds.proofs.Outcomes.{keeps-gives, keeps-waits, keeps-within, keeps-tested, keeps-refused_if}
use Rattle.fmp_worlds.proofs.Outcomes.{keeps-on_task, keeps-if}

-- where its phase says so, the task is run nowhere
dormant : (s : KernelState) (t : ℕ) → Dormant ≡ (task_at s.tasks t).phase → Holds s → IsRunNowhere s.processors t
dormant s t e a = dormant-unrun s.tasks s.processors t a (ap is_dormant (sym e))

moved : (b : Bool) (s : KernelState) (t : ℕ) (y : TaskBlock) → Assigned (slice_set s.tasks t y) s.processors
    → Holds (moved_by b s t y)
moved true s t y a = a
moved false s t y a = a

resumed : (phase : Phase) (s : KernelState) (t : ℕ) (y : TaskBlock) → Assigned (slice_set s.tasks t y) s.processors
    → Holds (calls.resumed_by phase s t y)
resumed Dormant s t y a = a
resumed Ready s t y a = a
resumed (Waiting c) s t y a = a

holds-rotated : (s : KernelState) (o : Option ℕ) → Holds s → Holds (rotated s o)
holds-rotated s None a = a
holds-rotated s (Some t) a = holds-changed s t (task_at s.tasks t) refl refl a

actors-resumed : (phase : Phase) (s : KernelState) (t : ℕ) (y : TaskBlock)
    → SameActors s (calls.resumed_by phase s t y)
actors-resumed Dormant s t y q = refl
actors-resumed Ready s t y q = refl
actors-resumed (Waiting c) s t y q = refl

actors-rotated : (s : KernelState) (o : Option ℕ) → SameActors s (rotated s o)
actors-rotated s None q = refl
actors-rotated s (Some t) q = refl

moved-still : (b : Bool) (s : KernelState) (t : ℕ) (y : TaskBlock) → y.phase ≡ (task_at s.tasks t).phase → (u : ℕ)
    → IsReady (moved_by b s t y) u → IsReady s u
moved-still true s t y e u = changed s t y e u
moved-still false s t y e u = changed s t y e u

resumed-still : (phase : Phase) (s : KernelState) (t : ℕ) (y : TaskBlock) → y.phase ≡ (task_at s.tasks t).phase
    → (u : ℕ)
    → IsReady (calls.resumed_by phase s t y) u → IsReady s u
resumed-still Dormant s t y e u = changed s t y e u
resumed-still Ready s t y e u = changed s t y e u
resumed-still (Waiting c) s t y e u = changed s t y e u

rotated-still : (s : KernelState) (o : Option ℕ) (u : ℕ) → IsReady (rotated s o) u → IsReady s u
rotated-still s None u = λ r. r
rotated-still s (Some t) u = changed s t (task_at s.tasks t) refl u

module _ {K : Type 0} {own : ℕ} {who : Option ℕ} (sys : SystemTables) (s : KernelState) where
  queued : (t : ℕ) → Keeps K own who sys s (calls.activation_queued sys s t (task_at s.tasks t))
  queued t =
      keeps-if sys s (nat_lt (task_at s.tasks t).activations sys.queue_limit) _ _
      (keeps-succeeds_in sys s _ (λ a. holds-changed s t _ refl refl a) (λ q. refl) (changed s t _ refl))
      (keeps-refused sys s er.Qovr)

  activated_by : (phase : Phase) (t : ℕ) → phase ≡ (task_at s.tasks t).phase
      → Keeps K own who sys s (calls.activated_by phase sys s t (task_at s.tasks t))
  activated_by Dormant t e =
      keeps-succeeds sys s _ (λ k a. holds-started sys (unchanged s) t (task_at s.tasks t) (dormant s t e a) a)
      (λ q. refl)
      (λ k a. ((λ q r. absurd (dormant s t e a q r)), tt)) (woken-started sys s (unchanged s) t (task_at s.tasks t)
      (still (λ t r. r)))
  activated_by Ready t e = queued t
  activated_by (Waiting c) t e = queued t

  pub keeps-act_tsk : (me : ℕ) (t : ℤ) → Keeps K own who sys s (calls.act_tsk sys s me t)
  keeps-act_tsk me t =
      keeps-on_task sys s (self_or s me t) _ (λ u o. activated_by (task_at s.tasks u).phase u refl)

  pub keeps-iact_tsk : (t : ℤ) → Keeps K own who sys s (calls.iact_tsk sys s t)
  keeps-iact_tsk t = keeps-on_task sys s (by_number s t) _ (λ u o. activated_by (task_at s.tasks u).phase u refl)

  pub keeps-can_act : (me : ℕ) (t : ℤ) → Keeps K own who sys s (calls.can_act s me t)
  keeps-can_act me t =
      keeps-on_task sys s (self_or s me t) _ (λ u o. keeps-gives sys s _ _ (λ a. holds-changed s u _ refl refl a)
      (λ q. refl) tt (still (changed s u _ refl)))

  pub keeps-chg_pri : (me : ℕ) (t priority : ℤ) → Keeps K own who sys s (calls.chg_pri sys s me t priority)
  keeps-chg_pri me t priority =
      keeps-on_task sys s (self_or s me t) _ (λ u o. keeps-tested sys s er.Par (ranged 0 16 priority) _
      (λ n. by_block u n)) where
        by_block : (u n : ℕ) → Keeps K own who sys s (calls.priority_changed sys s u (task_at s.tasks u) n)
        by_block u n =
            let x = task_at s.tasks u in
            keeps-refused_if sys s (is_dormant x.phase) er.Obj _
            (λ e. keeps-succeeds_in sys s _ (λ a. moved (goes_last sys x) s u _ (holds-changed s u _ refl refl a))
            (actors-moved (goes_last sys x) s u _) (moved-still (goes_last sys x) s u _ refl))

  pub keeps-get_pri : (me : ℕ) (t : ℤ) → Keeps K own who sys s (calls.get_pri s me t)
  keeps-get_pri me t =
      keeps-on_task sys s (self_or s me t) _ (λ u o. keeps-refused_if sys s
      (is_dormant (task_at s.tasks u).phase) er.Obj _ (λ e. keeps-gives sys s _ _ (λ a. a) (λ q. refl) tt
      (still (λ t r. r))))

  queued_on : (t c : ℕ) → Keeps K own who sys s (calls.activation_queued_on sys s t (task_at s.tasks t) c)
  queued_on t c =
      keeps-if sys s (nat_lt (task_at s.tasks t).activations sys.queue_limit) _ _
      (keeps-succeeds_in sys s _ (λ a. holds-changed s t _ refl refl a) (λ q. refl) (changed s t _ refl))
      (keeps-refused sys s er.Qovr)

  activated_on_by : (phase : Phase) (t c : ℕ) → phase ≡ (task_at s.tasks t).phase
      → Keeps K own who sys s (calls.activated_on_by phase sys s t (task_at s.tasks t) c)
  activated_on_by Dormant t c e =
      keeps-succeeds sys s _ (λ k a. holds-started sys (unchanged s) t (record (task_at s.tasks t) { processor = c })
      (dormant s t e a) a) (λ q. refl)
      (λ k a. ((λ q r. absurd (dormant s t e a q r)), tt)) (woken-started sys s (unchanged s) t
      (record (task_at s.tasks t) { processor = c }) (still (λ t r. r)))
  activated_on_by Ready t c e = queued_on t c
  activated_on_by (Waiting w) t c e = queued_on t c

  pub keeps-mact_tsk : (me : ℕ) (t c : ℤ) → Keeps K own who sys s (calls.mact_tsk sys s me t c)
  keeps-mact_tsk me t c =
      keeps-on_task sys s (self_or s me t) _ (λ u o. keeps-tested sys s er.Par (allowed_processor sys u c) _
      (λ q. activated_on_by (task_at s.tasks u).phase u q refl))

  slept_by : (n me : ℕ) (limit : TimeLimit) → Within limit (MayWait K own who sys s me)
      → Keeps K own who sys s (calls.slept_by n s me (task_at s.tasks me) limit)
  slept_by zero me limit w = keeps-within sys s limit me cause.Sleep w
  slept_by (suc n) me limit w = keeps-succeeds_in sys s _ (λ a. holds-changed s me _ refl refl a) (λ q. refl)
      (changed s me _ refl)

  pub keeps-slp_tsk : (me : ℕ) (limit : TimeLimit) → Within limit (MayWait K own who sys s me)
      → Keeps K own who sys s (calls.slp_tsk s me (task_at s.tasks me) limit)
  keeps-slp_tsk me limit w = slept_by (task_at s.tasks me).wakeups me limit w

  pub keeps-tslp_tsk : (me : ℕ) (tmout : ℤ) → MayWait K own who sys s me
      → Keeps K own who sys s (calls.tslp_tsk s me (task_at s.tasks me) tmout)
  keeps-tslp_tsk me tmout w = keeps-tested sys s er.Par (limit_of tmout) _
      (λ limit. keeps-slp_tsk me limit (within limit w))

  wakeup_queued : (t : ℕ) → Keeps K own who sys s (calls.wakeup_queued sys s t (task_at s.tasks t))
  wakeup_queued t =
      keeps-if sys s (nat_lt (task_at s.tasks t).wakeups sys.queue_limit) _ _
      (keeps-succeeds_in sys s _ (λ a. holds-changed s t _ refl refl a) (λ q. refl) (changed s t _ refl))
      (keeps-refused sys s er.Qovr)

  woken_from : (c : WaitCause) (t : ℕ) → Keeps K own who sys s (calls.woken_from c sys s t (task_at s.tasks t))
  woken_from cause.Sleep t = keeps-succeeds sys s _ (λ k a. holds-released (unchanged s) t (code er.Ok) a)
      (actors-released (unchanged s) t (code er.Ok)) (λ k a. (tt, tt)) (woken-released s (unchanged s) t
      (task_at s.tasks t) _ (still (λ t r. r)))
  woken_from _ t = wakeup_queued t

  woken_by : (phase : Phase) (t : ℕ) → Keeps K own who sys s (calls.woken_by phase sys s t (task_at s.tasks t))
  woken_by Dormant t = keeps-refused sys s er.Obj
  woken_by Ready t = wakeup_queued t
  woken_by (Waiting c) t = woken_from c t

  pub keeps-wup_tsk : (me : ℕ) (t : ℤ) → Keeps K own who sys s (calls.wup_tsk sys s me t)
  keeps-wup_tsk me t = keeps-on_task sys s (self_or s me t) _ (λ u o. woken_by (task_at s.tasks u).phase u)

  pub keeps-iwup_tsk : (t : ℤ) → Keeps K own who sys s (calls.iwup_tsk sys s t)
  keeps-iwup_tsk t = keeps-on_task sys s (by_number s t) _ (λ u o. woken_by (task_at s.tasks u).phase u)

  pub keeps-can_wup : (me : ℕ) (t : ℤ) → Keeps K own who sys s (calls.can_wup s me t)
  keeps-can_wup me t =
      keeps-on_task sys s (self_or s me t) _ (λ u o. keeps-refused_if sys s
      (is_dormant (task_at s.tasks u).phase) er.Obj _
      (λ e. keeps-gives sys s _ _ (λ a. holds-changed s u _ refl refl a) (λ q. refl) tt (still (changed s u _ refl))))

  released_by : (phase : Phase) (t : ℕ) → Keeps K own who sys s (calls.released_by phase s t (task_at s.tasks t))
  released_by Dormant t = keeps-refused sys s er.Obj
  released_by Ready t = keeps-refused sys s er.Obj
  released_by (Waiting c) t = keeps-succeeds sys s _ (λ k a. holds-released (unchanged s) t (code er.Rlwai) a)
      (actors-released (unchanged s) t (code er.Rlwai)) (λ k a. (tt, tt))
      (woken-released s (unchanged s) t (task_at s.tasks t) _ (still (λ t r. r)))

  pub keeps-rel_wai : (t : ℤ) → Keeps K own who sys s (calls.rel_wai s t)
  keeps-rel_wai t = keeps-on_task sys s (by_number s t) _ (λ u o. released_by (task_at s.tasks u).phase u)

  pub keeps-sus_tsk : (me : ℕ) (t : ℤ) → Keeps K own who sys s (calls.sus_tsk s me t)
  keeps-sus_tsk me t =
      keeps-on_task sys s (self_or s me t) _
      (λ u o. keeps-refused_if sys s (is_dormant (task_at s.tasks u).phase) er.Obj _
      (λ e. keeps-refused_if sys s (task_at s.tasks u).suspended er.Qovr _
      (λ f. keeps-succeeds_in sys s _ (λ a. holds-suspended s u a) (actors-suspended (task_at s.tasks u).phase s u _)
      (suspended-still (task_at s.tasks u).phase s u _ refl))))

  pub keeps-rsm_tsk : (t : ℤ) → Keeps K own who sys s (calls.rsm_tsk s t)
  keeps-rsm_tsk t =
      keeps-on_task sys s (by_number s t) _
      (λ u o. keeps-refused_if sys s (not (task_at s.tasks u).suspended) er.Obj _
      (λ e. keeps-succeeds_in sys s _ (λ a. resumed (task_at s.tasks u).phase s u _ (holds-changed s u _ refl refl a))
      (actors-resumed (task_at s.tasks u).phase s u _) (resumed-still (task_at s.tasks u).phase s u _ refl)))

  pub keeps-dly_tsk : (me : ℕ) (d : ℤ) → MayWait K own who sys s me
      → Keeps K own who sys s (calls.dly_tsk s me (task_at s.tasks me) d)
  keeps-dly_tsk me d w = keeps-tested sys s er.Par (ranged 0 (2 ^ 30) d) _ (λ n. keeps-waits sys s me cause.Delay _ w)

  pub keeps-rot_rdq : (p : ℕ) (x : TaskBlock) (priority : ℤ) → Keeps K own who sys s (calls.rot_rdq s p x priority)
  keeps-rot_rdq p x priority =
      keeps-tested sys s er.Par (ranged 0 16 priority) _
      (λ n. keeps-succeeds_in sys s _ (λ a. holds-rotated s (first_ready s p (or_if_zero x.priority n)) a)
      (actors-rotated s (first_ready s p (or_if_zero x.priority n)))
      (rotated-still s (first_ready s p (or_if_zero x.priority n))))

  pub keeps-irot_rdq : (p : ℕ) (priority : ℤ) → Keeps K own who sys s (calls.irot_rdq s p priority)
  keeps-irot_rdq p priority =
      keeps-tested sys s er.Par (ranged 1 16 priority) _ (λ n. keeps-succeeds_in sys s _
      (λ a. holds-rotated s (first_ready s p n) a) (actors-rotated s (first_ready s p n))
      (rotated-still s (first_ready s p n)))

  pub keeps-mrot_rdq : (x : TaskBlock) (priority c : ℤ) → Keeps K own who sys s (calls.mrot_rdq sys s x priority c)
  keeps-mrot_rdq x priority c =
      keeps-tested sys s er.Par (ranged 0 16 priority) _ (λ n. keeps-tested sys s er.Par (numbered sys.processors c) _
      (λ q. keeps-succeeds_in sys s _ (λ a. holds-rotated s (first_ready s q (or_if_zero x.priority n)) a)
      (actors-rotated s (first_ready s q (or_if_zero x.priority n)))
      (rotated-still s (first_ready s q (or_if_zero x.priority n)))))

  pub keeps-get_tid : (me : ℕ) → Keeps K own who sys s (calls.get_tid s me)
  keeps-get_tid me = keeps-gives sys s _ _ (λ a. a) (λ q. refl) tt (still (λ t r. r))
