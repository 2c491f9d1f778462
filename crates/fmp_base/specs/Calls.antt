-- Every service call: the test of where it is called from, then its case.
use Rattle.std.specs.Prelude.{ℕ, [], true, false}
use Rattle.fmp_base.specs.declared.calls.Answer.TheVariants.{Ends}
use Rattle.fmp_base.specs.declared.calls.Call.{Call}
use Rattle.fmp_base.specs.declared.calls.Call.TheVariants as call
use Rattle.fmp_base.specs.declared.codes.Er.TheVariants as er
use Rattle.fmp_base.specs.declared.states.Caller.{Caller}
use Rattle.fmp_base.specs.declared.states.Caller.TheVariants as caller
use Rattle.fmp_base.specs.declared.states.TaskBlock.{TaskBlock}
use Rattle.fmp_base.specs.declared.states.TimeLimit.TheVariants.{Forever, Poll}
use Rattle.fmp_base.specs.Changes.{ended_itself}
use Rattle.fmp_base.specs.Outcomes.{CallOutcome, succeeds_in, refused_if}
use Rattle.fmp_base.specs.Permissions.{permission, is_barred}
use Rattle.fmp_base.specs.Services.{service_of}
use Rattle.fmp_base.specs.States.{KernelState, task_at, processor_at}
use Rattle.fmp_base.specs.Systems.{SystemTables}
use Rattle.fmp_base.specs.TaskCalls.{act_tsk, iact_tsk, can_act, ter_tsk, chg_pri, get_pri, mact_tsk, mig_tsk, slp_tsk}
use Rattle.fmp_base.specs.TaskCalls.{tslp_tsk, wup_tsk, iwup_tsk, can_wup, rel_wai, sus_tsk, rsm_tsk, dly_tsk, rot_rdq}
use Rattle.fmp_base.specs.TaskCalls.{irot_rdq, mrot_rdq, get_tid}
use Rattle.fmp_base.specs.SemaphoreCalls.{sig_sem, wai_sem, twai_sem, ld_shr, st_shr}
use Rattle.fmp_base.specs.FlagCalls.{set_flg, clr_flg, wai_flg, twai_flg}
use Rattle.fmp_base.specs.DataQueueCalls.{snd_dtq, tsnd_dtq, fsnd_dtq, rcv_dtq, trcv_dtq}
use Rattle.fmp_base.specs.MailboxCalls.{snd_mbx, rcv_mbx, trcv_mbx}
use Rattle.fmp_base.specs.ProcessorCalls.{sta_cyc, stp_cyc, loc_cpu, unl_cpu, dispatch_set, loc_spn, try_spn, unl_spn}

-- the effect of a call that may be made: by task me, whose block is x, or by a handler, on processor p
abbrev pub case_of : SystemTables → KernelState → (p me : ℕ) → TaskBlock → Call → CallOutcome
case_of sys s p me x (call.Put value) = succeeds_in s
case_of sys s p me x (call.LdShr word) = ld_shr s word
case_of sys s p me x (call.StShr word value) = st_shr s word value
case_of sys s p me x (call.ActTsk task) = act_tsk sys s me task
case_of sys s p me x (call.CanAct task) = can_act s me task
case_of sys s p me x call.ExtTsk = record { answer = Ends; progress = ended_itself sys s p me x }
case_of sys s p me x (call.TerTsk task) = ter_tsk sys s p me task
case_of sys s p me x (call.ChgPri task priority) = chg_pri sys s me task priority
case_of sys s p me x (call.GetPri task) = get_pri s me task
case_of sys s p me x (call.MactTsk task processor) = mact_tsk sys s me task processor
case_of sys s p me x (call.MigTsk task processor) = mig_tsk sys s p me task processor
case_of sys s p me x call.SlpTsk = slp_tsk s me x Forever
case_of sys s p me x (call.TslpTsk limit) = tslp_tsk s me x limit
case_of sys s p me x (call.WupTsk task) = wup_tsk sys s me task
case_of sys s p me x (call.CanWup task) = can_wup s me task
case_of sys s p me x (call.RelWai task) = rel_wai s task
case_of sys s p me x (call.SusTsk task) = sus_tsk s me task
case_of sys s p me x (call.RsmTsk task) = rsm_tsk s task
case_of sys s p me x (call.DlyTsk delay) = dly_tsk s me x delay
case_of sys s p me x (call.SigSem semaphore) = sig_sem sys s semaphore
case_of sys s p me x (call.WaiSem semaphore) = wai_sem s me x Forever semaphore
case_of sys s p me x (call.PolSem semaphore) = wai_sem s me x Poll semaphore
case_of sys s p me x (call.TwaiSem semaphore limit) = twai_sem s me x semaphore limit
case_of sys s p me x (call.SetFlg flag pattern) = set_flg sys s flag pattern
case_of sys s p me x (call.ClrFlg flag pattern) = clr_flg s flag pattern
case_of sys s p me x (call.WaiFlg flag pattern mode) = wai_flg sys s me x Forever flag pattern mode
case_of sys s p me x (call.PolFlg flag pattern mode) = wai_flg sys s me x Poll flag pattern mode
case_of sys s p me x (call.TwaiFlg flag pattern mode limit) = twai_flg sys s me x flag pattern mode limit
case_of sys s p me x (call.SndDtq queue word) = snd_dtq sys s me x Forever queue word
case_of sys s p me x (call.PsndDtq queue word) = snd_dtq sys s me x Poll queue word
case_of sys s p me x (call.TsndDtq queue word limit) = tsnd_dtq sys s me x queue word limit
case_of sys s p me x (call.FsndDtq queue word) = fsnd_dtq sys s queue word
case_of sys s p me x (call.RcvDtq queue) = rcv_dtq sys s me x Forever queue
case_of sys s p me x (call.PrcvDtq queue) = rcv_dtq sys s me x Poll queue
case_of sys s p me x (call.TrcvDtq queue limit) = trcv_dtq sys s me x queue limit
case_of sys s p me x (call.SndMbx mailbox message) = snd_mbx sys s mailbox message
case_of sys s p me x (call.RcvMbx mailbox) = rcv_mbx s me x Forever mailbox
case_of sys s p me x (call.PrcvMbx mailbox) = rcv_mbx s me x Poll mailbox
case_of sys s p me x (call.TrcvMbx mailbox limit) = trcv_mbx s me x mailbox limit
case_of sys s p me x (call.StaCyc cyclic) = sta_cyc sys s cyclic
case_of sys s p me x (call.StpCyc cyclic) = stp_cyc s cyclic
case_of sys s p me x (call.RotRdq priority) = rot_rdq s p x priority
case_of sys s p me x call.GetTid = get_tid s me
case_of sys s p me x call.LocCpu = loc_cpu s p
case_of sys s p me x call.UnlCpu = unl_cpu s p
case_of sys s p me x call.DisDsp = dispatch_set s p true
case_of sys s p me x call.EnaDsp = dispatch_set s p false
case_of sys s p me x (call.LocSpn lock) = loc_spn sys s p lock
case_of sys s p me x (call.TrySpn lock) = try_spn sys s p lock
case_of sys s p me x (call.UnlSpn lock) = unl_spn sys s p lock
case_of sys s p me x (call.IactTsk task) = iact_tsk sys s task
case_of sys s p me x (call.IwupTsk task) = iwup_tsk sys s task
case_of sys s p me x (call.IrelWai task) = rel_wai s task
case_of sys s p me x (call.IsigSem semaphore) = sig_sem sys s semaphore
case_of sys s p me x (call.IsetFlg flag pattern) = set_flg sys s flag pattern
case_of sys s p me x (call.IpsndDtq queue word) = snd_dtq sys s me x Poll queue word
case_of sys s p me x (call.IfsndDtq queue word) = fsnd_dtq sys s queue word
case_of sys s p me x (call.IrotRdq priority) = irot_rdq s p priority
case_of sys s p me x (call.MrotRdq priority processor) = mrot_rdq sys s x priority processor

-- the effect of a call of this caller on processor p that may be made; a handler is no task, and no call that it may
-- make looks at one that calls
abbrev pub case_by : SystemTables → KernelState → ℕ → Caller → Call → CallOutcome
case_by sys s p (caller.Task me) c = case_of sys s p me (task_at s.tasks me) c
case_by sys s p (caller.Handler h) c = case_of sys s p 0 (task_at [] 0) c

-- the effect of a call of the actor of processor p
abbrev pub called : SystemTables → KernelState → ℕ → Caller → Call → CallOutcome
called sys s p who c =
    refused_if (is_barred (permission (service_of c)) (processor_at s p) who c) s er.Ctx (case_by sys s p who c)
