-- Every service call comes to the same in alike states.
use Rattle.std.proofs.Common.{◌≡◌, ℕ, suc, [], Option, None, true, false, refl}
use Rattle.fmp_base.specs.declared.calls.Call.{Call}
use Rattle.fmp_base.specs.declared.calls.Call.TheVariants as call
use Rattle.fmp_base.specs.declared.codes.Er.TheVariants as er
use Rattle.fmp_base.specs.declared.states.Caller.{Caller}
use Rattle.fmp_base.specs.declared.states.Caller.TheVariants as caller
use Rattle.fmp_base.specs.declared.states.TaskBlock.{TaskBlock}
use Rattle.fmp_base.specs.declared.states.TimeLimit.TheVariants.{Forever, Poll}
use Rattle.fmp_base.specs.Calls.{case_of, case_by, called}
use Rattle.fmp_base.specs.Permissions.{permission, is_barred}
use Rattle.fmp_base.specs.Services.{service_of}
use Rattle.fmp_base.specs.States.{KernelState, task_at, processor_at}
use Rattle.fmp_base.specs.Systems.{SystemTables}
use Rattle.fmp_bisimulation.specs.Alike.{AlikeStates, SameOutcome}
use Rattle.fmp_bisimulation.proofs.ChangeLaws.{ended_itself-same}
use Rattle.fmp_bisimulation.proofs.ObjectCallLaws.{sig_sem-same, wai_sem-same, twai_sem-same, ld_shr-same, st_shr-same}
use Rattle.fmp_bisimulation.proofs.ObjectCallLaws.{set_flg-same, clr_flg-same, wai_flg-same, twai_flg-same}
use Rattle.fmp_bisimulation.proofs.OutcomeLaws.{IsSeenAs, succeeds_in-same, refused_if-same}
use Rattle.fmp_bisimulation.proofs.ProcessorCallLaws.{sta_cyc-same, stp_cyc-same, loc_cpu-same, unl_cpu-same}
use Rattle.fmp_bisimulation.proofs.ProcessorCallLaws.{dispatch_set-same, loc_spn-same, try_spn-same, unl_spn-same}
use Rattle.fmp_bisimulation.proofs.QueueCallLaws.{snd_dtq-same, tsnd_dtq-same, fsnd_dtq-same, rcv_dtq-same}
use Rattle.fmp_bisimulation.proofs.QueueCallLaws.{trcv_dtq-same, snd_mbx-same, rcv_mbx-same, trcv_mbx-same}
use Rattle.fmp_bisimulation.proofs.StateLaws.{View, seen, by_view}
use Rattle.fmp_bisimulation.proofs.TaskCallLaws.{act_tsk-same, iact_tsk-same, can_act-same, ter_tsk-same, chg_pri-same}
use Rattle.fmp_bisimulation.proofs.TaskCallLaws.{get_pri-same, mact_tsk-same, mig_tsk-same, slp_tsk-same, tslp_tsk-same}
use Rattle.fmp_bisimulation.proofs.TaskCallLaws.{wup_tsk-same, iwup_tsk-same, can_wup-same, rel_wai-same, sus_tsk-same}
use Rattle.fmp_bisimulation.proofs.TaskCallLaws.{rsm_tsk-same, dly_tsk-same, rot_rdq-same, irot_rdq-same, mrot_rdq-same}
use Rattle.fmp_bisimulation.proofs.TaskCallLaws.{get_tid-same}
use Rattle.fmp_bisimulation.proofs.TimeLaws.{by_block, blocks-at}

no_wakeup : (i : ℕ) → 0 ≡ suc i → ⊥
no_wakeup i e = cc

module _ (sys : SystemTables) (s : KernelState) (v : View) (h : AlikeStates sys s (seen s v)) where
  -- a caller with a queued wakeup is a task
  case_of-same : (p me : ℕ) (x : TaskBlock) (d : Option ℕ) → ((i : ℕ) → x.wakeups ≡ suc i
      → IsSeenAs s (seen s v) me x d) → (c : Call)
      → SameOutcome sys (case_of sys s p me x c) (case_of sys (seen s v) p me (record x { deadline = d }) c)
  case_of-same p me x d k (call.Put value) = succeeds_in-same sys s (seen s v) h
  case_of-same p me x d k (call.LdShr word) = ld_shr-same sys s v h word
  case_of-same p me x d k (call.StShr word value) = st_shr-same sys s v h word value
  case_of-same p me x d k (call.ActTsk task) = act_tsk-same sys s v h me task
  case_of-same p me x d k (call.CanAct task) = can_act-same sys s v h me task
  case_of-same p me x d k call.ExtTsk = record {
    answer = refl;
    progress = ended_itself-same sys s (seen s
        v) p me x d h;
  }
  case_of-same p me x d k (call.TerTsk task) = ter_tsk-same sys s v h p me task
  case_of-same p me x d k (call.ChgPri task priority) = chg_pri-same sys s v h me task priority
  case_of-same p me x d k (call.GetPri task) = get_pri-same sys s v h me task
  case_of-same p me x d k (call.MactTsk task processor) = mact_tsk-same sys s v h me task processor
  case_of-same p me x d k (call.MigTsk task processor) = mig_tsk-same sys s v h p me task processor
  case_of-same p me x d k call.SlpTsk = slp_tsk-same sys s v h me x d Forever k
  case_of-same p me x d k (call.TslpTsk limit) = tslp_tsk-same sys s v h me x d limit k
  case_of-same p me x d k (call.WupTsk task) = wup_tsk-same sys s v h me task
  case_of-same p me x d k (call.CanWup task) = can_wup-same sys s v h me task
  case_of-same p me x d k (call.RelWai task) = rel_wai-same sys s v h task
  case_of-same p me x d k (call.SusTsk task) = sus_tsk-same sys s v h me task
  case_of-same p me x d k (call.RsmTsk task) = rsm_tsk-same sys s v h task
  case_of-same p me x d k (call.DlyTsk delay) = dly_tsk-same sys s v h me x d delay
  case_of-same p me x d k (call.SigSem semaphore) = sig_sem-same sys s v h semaphore
  case_of-same p me x d k (call.WaiSem semaphore) = wai_sem-same sys s v h me x d Forever semaphore
  case_of-same p me x d k (call.PolSem semaphore) = wai_sem-same sys s v h me x d Poll semaphore
  case_of-same p me x d k (call.TwaiSem semaphore limit) = twai_sem-same sys s v h me x d semaphore limit
  case_of-same p me x d k (call.SetFlg flag pattern) = set_flg-same sys s v h flag pattern
  case_of-same p me x d k (call.ClrFlg flag pattern) = clr_flg-same sys s v h flag pattern
  case_of-same p me x d k (call.WaiFlg flag pattern mode) = wai_flg-same sys s v h me x d Forever flag pattern mode
  case_of-same p me x d k (call.PolFlg flag pattern mode) = wai_flg-same sys s v h me x d Poll flag pattern mode
  case_of-same p me x d k (call.TwaiFlg flag pattern mode limit) = twai_flg-same sys s v h me x d flag pattern mode
      limit
  case_of-same p me x d k (call.SndDtq queue word) = snd_dtq-same sys s v h me x d Forever queue word
  case_of-same p me x d k (call.PsndDtq queue word) = snd_dtq-same sys s v h me x d Poll queue word
  case_of-same p me x d k (call.TsndDtq queue word limit) = tsnd_dtq-same sys s v h me x d queue word limit
  case_of-same p me x d k (call.FsndDtq queue word) = fsnd_dtq-same sys s v h queue word
  case_of-same p me x d k (call.RcvDtq queue) = rcv_dtq-same sys s v h me x d Forever queue
  case_of-same p me x d k (call.PrcvDtq queue) = rcv_dtq-same sys s v h me x d Poll queue
  case_of-same p me x d k (call.TrcvDtq queue limit) = trcv_dtq-same sys s v h me x d queue limit
  case_of-same p me x d k (call.SndMbx mailbox message) = snd_mbx-same sys s v h mailbox message
  case_of-same p me x d k (call.RcvMbx mailbox) = rcv_mbx-same sys s v h me x d Forever mailbox
  case_of-same p me x d k (call.PrcvMbx mailbox) = rcv_mbx-same sys s v h me x d Poll mailbox
  case_of-same p me x d k (call.TrcvMbx mailbox limit) = trcv_mbx-same sys s v h me x d mailbox limit
  case_of-same p me x d k (call.StaCyc cyclic) = sta_cyc-same sys s v h cyclic
  case_of-same p me x d k (call.StpCyc cyclic) = stp_cyc-same sys s v h cyclic
  case_of-same p me x d k (call.RotRdq priority) = rot_rdq-same sys s v h p x d priority
  case_of-same p me x d k call.GetTid = get_tid-same sys s v h me
  case_of-same p me x d k call.LocCpu = loc_cpu-same sys s v h p
  case_of-same p me x d k call.UnlCpu = unl_cpu-same sys s v h p
  case_of-same p me x d k call.DisDsp = dispatch_set-same sys s v h p true
  case_of-same p me x d k call.EnaDsp = dispatch_set-same sys s v h p false
  case_of-same p me x d k (call.LocSpn lock) = loc_spn-same sys s v h p lock
  case_of-same p me x d k (call.TrySpn lock) = try_spn-same sys s v h p lock
  case_of-same p me x d k (call.UnlSpn lock) = unl_spn-same sys s v h p lock
  case_of-same p me x d k (call.IactTsk task) = iact_tsk-same sys s v h task
  case_of-same p me x d k (call.IwupTsk task) = iwup_tsk-same sys s v h task
  case_of-same p me x d k (call.IrelWai task) = rel_wai-same sys s v h task
  case_of-same p me x d k (call.IsigSem semaphore) = sig_sem-same sys s v h semaphore
  case_of-same p me x d k (call.IsetFlg flag pattern) = set_flg-same sys s v h flag pattern
  case_of-same p me x d k (call.IpsndDtq queue word) = snd_dtq-same sys s v h me x d Poll queue word
  case_of-same p me x d k (call.IfsndDtq queue word) = fsnd_dtq-same sys s v h queue word
  case_of-same p me x d k (call.IrotRdq priority) = irot_rdq-same sys s v h p priority
  case_of-same p me x d k (call.MrotRdq priority processor) = mrot_rdq-same sys s v h x d priority processor

  case_by-same : (p : ℕ) (who : Caller) (c : Call) → SameOutcome sys (case_by sys s p who c)
      (case_by sys (seen s v) p who c)
  case_by-same p (caller.Task me) c =
      let x = task_at s.tasks me in
      by_block (λ (y : TaskBlock). SameOutcome sys (case_of sys s p me x c) (case_of sys (seen s v) p me y c)) s.clock
      v.clock x
      (task_at v.tasks me) (blocks-at s.clock v.clock s.tasks v.tasks h.tasks me)
      (λ d k. case_of-same p me x d (λ i e. record { there = refl; time = k }) c)
  case_by-same p (caller.Handler i) c = case_of-same p 0 (task_at [] 0) None (λ n e. absurd (no_wakeup n e)) c

  seen-called : (p : ℕ) (who : Caller) (c : Call) → SameOutcome sys (called sys s p who c)
      (called sys (seen s v) p who c)
  seen-called p who c =
      refused_if-same sys s (seen s v) h (is_barred (permission (service_of c)) (processor_at s p) who c) er.Ctx _ _
      (case_by-same p who c)

pub called-same : (sys : SystemTables) (s u : KernelState) → AlikeStates sys s u → (p : ℕ) (who : Caller) (c : Call)
    → SameOutcome sys (called sys s p who c) (called sys u p who c)
called-same sys s u h p who c =
    by_view (λ (z : KernelState). SameOutcome sys (called sys s p who c) (called sys z p who c)) sys s u h
    (λ v k. seen-called sys s v k p who c)
