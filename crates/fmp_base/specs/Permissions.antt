-- From where each service may be called, else E_CTX (uITRON 4.0, section 3.5; FMP kernel, spin locks).
use Rattle.std.specs.Prelude.{ℕ, zero, suc, ℤ, pos, negsuc, Bool, true, false, ◌&&◌, ◌||◌, nat_eq}
use Rattle.fmp_base.specs.declared.calls.Call.{Call}
use Rattle.fmp_base.specs.declared.services.Service.{Service}
use Rattle.fmp_base.specs.declared.services.Service.TheVariants as service
use Rattle.fmp_base.specs.declared.permissions.Permission.{Permission}
use Rattle.fmp_base.specs.declared.permissions.Permission.TheVariants.{Anywhere, LockedTasks, Tasks, TasksOnOthers}
use Rattle.fmp_base.specs.declared.permissions.Permission.TheVariants.{WaitingTasks, Handlers}
use Rattle.fmp_base.specs.declared.states.Caller.{Caller}
use Rattle.fmp_base.specs.declared.states.Caller.TheVariants as caller
use Rattle.fmp_base.specs.declared.states.Processor.{Processor}
use Rattle.fmp_base.specs.ProcessorCalls.{is_cpu_locked}
use Rattle.fmp_base.specs.Services.{argument, arguments_of}

-- one clause for each service, so that a new service has no permission until it has a clause here
abbrev pub permission : Service → Permission
permission service.Put = Anywhere
permission service.LdShr = Anywhere
permission service.StShr = Anywhere
permission service.ActTsk = Tasks
permission service.CanAct = Tasks
permission service.ExtTsk = LockedTasks
permission service.TerTsk = Tasks
permission service.ChgPri = Tasks
permission service.GetPri = Tasks
permission service.MactTsk = Tasks
permission service.MigTsk = TasksOnOthers
permission service.SlpTsk = WaitingTasks
permission service.TslpTsk = WaitingTasks
permission service.WupTsk = Tasks
permission service.CanWup = Tasks
permission service.RelWai = Tasks
permission service.SusTsk = TasksOnOthers
permission service.RsmTsk = Tasks
permission service.DlyTsk = WaitingTasks
permission service.SigSem = Tasks
permission service.WaiSem = WaitingTasks
permission service.PolSem = Tasks
permission service.TwaiSem = WaitingTasks
permission service.SetFlg = Tasks
permission service.ClrFlg = Tasks
permission service.WaiFlg = WaitingTasks
permission service.PolFlg = Tasks
permission service.TwaiFlg = WaitingTasks
permission service.SndDtq = WaitingTasks
permission service.PsndDtq = Tasks
permission service.TsndDtq = WaitingTasks
permission service.FsndDtq = Tasks
permission service.RcvDtq = WaitingTasks
permission service.PrcvDtq = Tasks
permission service.TrcvDtq = WaitingTasks
permission service.SndMbx = Tasks
permission service.RcvMbx = WaitingTasks
permission service.PrcvMbx = Tasks
permission service.TrcvMbx = WaitingTasks
permission service.StaCyc = Tasks
permission service.StpCyc = Tasks
permission service.RotRdq = Tasks
permission service.GetTid = Tasks
permission service.LocCpu = LockedTasks
permission service.UnlCpu = LockedTasks
permission service.DisDsp = Tasks
permission service.EnaDsp = Tasks
permission service.LocSpn = Tasks
permission service.TrySpn = Tasks
permission service.UnlSpn = LockedTasks
permission service.IactTsk = Handlers
permission service.IwupTsk = Handlers
permission service.IrelWai = Handlers
permission service.IsigSem = Handlers
permission service.IsetFlg = Handlers
permission service.IpsndDtq = Handlers
permission service.IfsndDtq = Handlers
permission service.IrotRdq = Handlers
permission service.MrotRdq = Tasks

-- whether a number names task me, which calls: 0 (TSK_SELF), or its own
abbrev pub is_caller : ℕ → ℤ → Bool
is_caller me (pos zero) = true
is_caller me (pos (suc n)) = nat_eq n me
is_caller me (negsuc n) = false

-- whether the first argument of a call by task me names the task itself
abbrev pub is_on_caller : ℕ → Call → Bool
is_on_caller me c = is_caller me (argument (arguments_of c) 0)

-- whether a call with this permission is refused to its caller, on the processor cpu. A task is refused what it may not
-- do while the CPU is locked or dispatching is disabled, and what is for handlers; a handler is refused what is for
-- tasks
abbrev pub is_barred : Permission → Processor → Caller → Call → Bool
is_barred Anywhere cpu who c = false
is_barred LockedTasks cpu (caller.Task me) c = false
is_barred Tasks cpu (caller.Task me) c = is_cpu_locked cpu
is_barred TasksOnOthers cpu (caller.Task me) c = is_cpu_locked cpu || (cpu.dispatch_disabled && is_on_caller me c)
is_barred WaitingTasks cpu (caller.Task me) c = is_cpu_locked cpu || cpu.dispatch_disabled
is_barred Handlers cpu (caller.Task me) c = true
is_barred LockedTasks cpu (caller.Handler h) c = true
is_barred Tasks cpu (caller.Handler h) c = true
is_barred TasksOnOthers cpu (caller.Handler h) c = true
is_barred WaitingTasks cpu (caller.Handler h) c = true
is_barred Handlers cpu (caller.Handler h) c = is_cpu_locked cpu
