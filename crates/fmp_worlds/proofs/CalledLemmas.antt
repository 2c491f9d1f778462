-- Every call has the effect that every call has, by cases.
use Rattle.std.proofs.Common.{◌≡◌, ℕ, ℤ, [], Some, None, true, false, ◌&&◌, not, refl}
use Rattle.fmp_base.specs.declared.calls.Call.{Call}
use Rattle.fmp_base.specs.declared.calls.Call.TheVariants as call
use Rattle.fmp_base.specs.declared.codes.Er.TheVariants as er
use Rattle.fmp_base.specs.declared.states.Caller.TheVariants as caller
use Rattle.fmp_base.specs.declared.states.Handler.{Handler}
use Rattle.fmp_base.specs.declared.states.Lock.{Lock}
use Rattle.fmp_base.specs.declared.states.Lock.TheVariants.{Free, Cpu, Spin}
use Rattle.fmp_base.specs.declared.states.TimeLimit.TheVariants.{Forever, Poll}
use Rattle.fmp_base.specs.Calls.{case_of, called}
use Rattle.fmp_base.specs.Outcomes.{CallOutcome, refused_if}
use Rattle.fmp_base.specs.Permissions.{permission, is_barred, is_caller}
use Rattle.fmp_base.specs.ProcessorCalls.{is_cpu_locked, is_free}
use Rattle.fmp_base.specs.Services.{service_of}
use Rattle.fmp_base.specs.States.{KernelState, task_at, processor_at}
use Rattle.fmp_base.specs.Systems.{SystemTables}
use Rattle.fmp_worlds.proofs.Bools.{or-false, and-false}
use Rattle.fmp_worlds.proofs.CallerLemmas.{Acts, MayLeave, may_wait, keeps-ter_tsk, keeps-ext_tsk, keeps-mig_tsk}
use Rattle.fmp_worlds.proofs.ObjectCallLemmas.{keeps-sig_sem, keeps-wai_sem, keeps-twai_sem, keeps-ld_shr, keeps-st_shr}
use Rattle.fmp_worlds.proofs.ObjectCallLemmas.{keeps-set_flg, keeps-clr_flg, keeps-wai_flg, keeps-twai_flg}
use Rattle.fmp_worlds.proofs.Outcomes.{Keeps, keeps-refused, keeps-succeeds_in, keeps-within, keeps-refused_if}
use Rattle.fmp_worlds.proofs.ProcessorCallLemmas.{keeps-sta_cyc, keeps-stp_cyc, keeps-loc_cpu, keeps-unl_cpu}
use Rattle.fmp_worlds.proofs.ProcessorCallLemmas.{keeps-dispatch_set, keeps-loc_spn, keeps-try_spn, keeps-unl_spn}
use Rattle.fmp_worlds.proofs.QueueCallLemmas.{keeps-snd_dtq, keeps-tsnd_dtq, keeps-fsnd_dtq, keeps-rcv_dtq}
use Rattle.fmp_worlds.proofs.QueueCallLemmas.{keeps-trcv_dtq, keeps-snd_mbx, keeps-rcv_mbx, keeps-trcv_mbx}
use Rattle.fmp_worlds.proofs.TaskCallLemmas.{keeps-act_tsk, keeps-iact_tsk, keeps-can_act, keeps-chg_pri, keeps-get_pri}
use Rattle.fmp_worlds.proofs.TaskCallLemmas.{keeps-mact_tsk, keeps-slp_tsk, keeps-tslp_tsk, keeps-wup_tsk}
use Rattle.fmp_worlds.proofs.TaskCallLemmas.{keeps-iwup_tsk, keeps-can_wup, keeps-rel_wai, keeps-sus_tsk, keeps-rsm_tsk}
use Rattle.fmp_worlds.proofs.TaskCallLemmas.{keeps-dly_tsk, keeps-rot_rdq, keeps-irot_rdq, keeps-mrot_rdq}
use Rattle.fmp_worlds.proofs.TaskCallLemmas.{keeps-get_tid}

-- a task that may make a call on itself that takes it off its processor can be taken off
may_leave : (s : KernelState) (p me : ℕ) (t c : ℤ)
    → is_barred (permission (service_of (call.MigTsk t c))) (processor_at s p) (caller.Task me) (call.MigTsk t c)
    ≡ false
    → MayLeave s p me t
may_leave s p me t c h self =
    let cpu = processor_at s p in
    let parts = or-false (is_cpu_locked cpu) (cpu.dispatch_disabled && is_caller me t) h in
    (parts.0, and-false cpu.dispatch_disabled (is_caller me t) parts.1 self)

-- where the context test lets a task call
-- a CPU that is not locked has no lock
unlocked : (l : Lock) → not (is_free l) ≡ false → l ≡ Free
unlocked Free h = refl
unlocked Cpu h = absurd (cc h)
unlocked (Spin i) h = absurd (cc h)

by_task : (sys : SystemTables) (s : KernelState) (p me : ℕ) (c : Call)
    → is_barred (permission (service_of c)) (processor_at s p) (caller.Task me) c ≡ false
    → Keeps (Acts sys s p me) p (Some me) sys s (case_of sys s p me (task_at s.tasks me) c)
by_task sys s p me (call.Put value) h = keeps-succeeds_in sys s s (λ a. a) (λ q. refl) (λ t r. r)
by_task sys s p me (call.LdShr word) h = keeps-ld_shr sys s word
by_task sys s p me (call.StShr word value) h = keeps-st_shr sys s word value
by_task sys s p me (call.ActTsk task) h = keeps-act_tsk sys s me task
by_task sys s p me (call.CanAct task) h = keeps-can_act sys s me task
by_task sys s p me call.ExtTsk h = keeps-ext_tsk sys s p me
by_task sys s p me (call.TerTsk task) h = keeps-ter_tsk sys s p me task
by_task sys s p me (call.ChgPri task priority) h = keeps-chg_pri sys s me task priority
by_task sys s p me (call.GetPri task) h = keeps-get_pri sys s me task
by_task sys s p me (call.MactTsk task processor) h = keeps-mact_tsk sys s me task processor
by_task sys s p me (call.MigTsk task processor) h = keeps-mig_tsk sys s p me task processor
    (may_leave s p me task processor h)
by_task sys s p me call.SlpTsk h = keeps-slp_tsk sys s me Forever (may_wait sys s p me h)
by_task sys s p me (call.TslpTsk limit) h = keeps-tslp_tsk sys s me limit (may_wait sys s p me h)
by_task sys s p me (call.WupTsk task) h = keeps-wup_tsk sys s me task
by_task sys s p me (call.CanWup task) h = keeps-can_wup sys s me task
by_task sys s p me (call.RelWai task) h = keeps-rel_wai sys s task
by_task sys s p me (call.SusTsk task) h = keeps-sus_tsk sys s me task
by_task sys s p me (call.RsmTsk task) h = keeps-rsm_tsk sys s task
by_task sys s p me (call.DlyTsk delay) h = keeps-dly_tsk sys s me delay (may_wait sys s p me h)
by_task sys s p me (call.SigSem semaphore) h = keeps-sig_sem sys s semaphore
by_task sys s p me (call.WaiSem semaphore) h = keeps-wai_sem sys s me Forever semaphore (may_wait sys s p me h)
by_task sys s p me (call.PolSem semaphore) h = keeps-wai_sem sys s me Poll semaphore tt
by_task sys s p me (call.TwaiSem semaphore limit) h = keeps-twai_sem sys s me semaphore limit (may_wait sys s p me h)
by_task sys s p me (call.SetFlg flag pattern) h = keeps-set_flg sys s flag pattern
by_task sys s p me (call.ClrFlg flag pattern) h = keeps-clr_flg sys s flag pattern
by_task sys s p me (call.WaiFlg flag pattern mode) h = keeps-wai_flg sys s me Forever flag pattern mode
    (may_wait sys s p me h)
by_task sys s p me (call.PolFlg flag pattern mode) h = keeps-wai_flg sys s me Poll flag pattern mode tt
by_task sys s p me (call.TwaiFlg flag pattern mode limit) h = keeps-twai_flg sys s me flag pattern mode limit
    (may_wait sys s p me h)
by_task sys s p me (call.SndDtq queue word) h = keeps-snd_dtq sys s me (task_at s.tasks me) Forever queue word
    (λ c. keeps-within sys s Forever me c (may_wait sys s p me h))
by_task sys s p me (call.PsndDtq queue word) h = keeps-snd_dtq sys s me (task_at s.tasks me) Poll queue word
    (λ c. keeps-within sys s Poll me c tt)
by_task sys s p me (call.TsndDtq queue word limit) h = keeps-tsnd_dtq sys s me queue word limit (may_wait sys s p me h)
by_task sys s p me (call.FsndDtq queue word) h = keeps-fsnd_dtq sys s queue word
by_task sys s p me (call.RcvDtq queue) h = keeps-rcv_dtq sys s me Forever queue (may_wait sys s p me h)
by_task sys s p me (call.PrcvDtq queue) h = keeps-rcv_dtq sys s me Poll queue tt
by_task sys s p me (call.TrcvDtq queue limit) h = keeps-trcv_dtq sys s me queue limit (may_wait sys s p me h)
by_task sys s p me (call.SndMbx mailbox message) h = keeps-snd_mbx sys s mailbox message
by_task sys s p me (call.RcvMbx mailbox) h = keeps-rcv_mbx sys s me Forever mailbox (may_wait sys s p me h)
by_task sys s p me (call.PrcvMbx mailbox) h = keeps-rcv_mbx sys s me Poll mailbox tt
by_task sys s p me (call.TrcvMbx mailbox limit) h = keeps-trcv_mbx sys s me mailbox limit (may_wait sys s p me h)
by_task sys s p me (call.StaCyc cyclic) h = keeps-sta_cyc sys s cyclic
by_task sys s p me (call.StpCyc cyclic) h = keeps-stp_cyc sys s cyclic
by_task sys s p me (call.RotRdq priority) h = keeps-rot_rdq sys s p (task_at s.tasks me) priority
by_task sys s p me call.GetTid h = keeps-get_tid sys s me
by_task sys s p me call.LocCpu h = keeps-loc_cpu sys s p
by_task sys s p me call.UnlCpu h = keeps-unl_cpu sys s p
by_task sys s p me call.DisDsp h = keeps-dispatch_set sys s p true
by_task sys s p me call.EnaDsp h = keeps-dispatch_set sys s p false
by_task sys s p me (call.LocSpn lock) h = keeps-loc_spn sys s p lock (unlocked (processor_at s p).lock h) tt
by_task sys s p me (call.TrySpn lock) h = keeps-try_spn sys s p lock
by_task sys s p me (call.UnlSpn lock) h = keeps-unl_spn sys s p lock
by_task sys s p me (call.MrotRdq priority processor) h = keeps-mrot_rdq sys s (task_at s.tasks me) priority processor
by_task sys s p me c h = cc

-- a call for handlers
unless_locked : (sys : SystemTables) (s : KernelState) (p : ℕ) (o : CallOutcome) → Keeps (Unit {0}) p None sys s o
    → Keeps (Unit {0}) p None sys s (refused_if (is_cpu_locked (processor_at s p)) s er.Ctx o)
unless_locked sys s p o h = keeps-refused_if sys s (is_cpu_locked (processor_at s p)) er.Ctx o (λ e. h)

-- the calls of a handler; the others are barred
pub keeps-handler_call : (sys : SystemTables) (s : KernelState) (p : ℕ) (i : Handler) (c : Call)
    → Keeps (Unit {0}) p None sys s (called sys s p (caller.Handler i) c)
keeps-handler_call sys s p i (call.Put value) = keeps-succeeds_in sys s s (λ a. a) (λ q. refl) (λ t r. r)
keeps-handler_call sys s p i (call.LdShr word) = keeps-ld_shr sys s word
keeps-handler_call sys s p i (call.StShr word value) = keeps-st_shr sys s word value
keeps-handler_call sys s p i (call.IactTsk task) = unless_locked sys s p _ (keeps-iact_tsk sys s task)
keeps-handler_call sys s p i (call.IwupTsk task) = unless_locked sys s p _ (keeps-iwup_tsk sys s task)
keeps-handler_call sys s p i (call.IrelWai task) = unless_locked sys s p _ (keeps-rel_wai sys s task)
keeps-handler_call sys s p i (call.IsigSem semaphore) = unless_locked sys s p _ (keeps-sig_sem sys s semaphore)
keeps-handler_call sys s p i (call.IsetFlg flag pattern) = unless_locked sys s p _ (keeps-set_flg sys s flag pattern)
keeps-handler_call sys s p i (call.IpsndDtq queue word) = unless_locked sys s p _
    (keeps-snd_dtq sys s 0 (task_at [] 0) Poll queue word (λ c. keeps-refused sys s er.Tmout))
keeps-handler_call sys s p i (call.IfsndDtq queue word) = unless_locked sys s p _ (keeps-fsnd_dtq sys s queue word)
keeps-handler_call sys s p i (call.IrotRdq priority) = unless_locked sys s p _ (keeps-irot_rdq sys s p priority)
keeps-handler_call sys s p i c = keeps-refused sys s er.Ctx

pub keeps-task_call : (sys : SystemTables) (s : KernelState) (p me : ℕ) (c : Call)
    → Keeps (Acts sys s p me) p (Some me) sys s (called sys s p (caller.Task me) c)
keeps-task_call sys s p me c =
    keeps-refused_if sys s (is_barred (permission (service_of c)) (processor_at s p) (caller.Task me) c) er.Ctx _
    (λ e. by_task sys s p me c e)
