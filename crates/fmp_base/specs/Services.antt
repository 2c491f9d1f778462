-- The service calls: function codes, names, parameters, arguments, and what they do.
use Rattle.std.specs.Prelude.{ℕ, ℤ, pos, List, [], ◌∷◌, length, Option, Some, None, Bool, true, false, not, codes}
use Rattle.std.specs.Prelude.{get_or}
use Rattle.std.specs.List.{filter, position}
use Rattle.fmp_base.specs.declared.services.Service.{Service}
use Rattle.fmp_base.specs.declared.services.Service.TheVariants as service
use Rattle.fmp_base.specs.declared.catalogue.Action.{Action}
use Rattle.fmp_base.specs.declared.catalogue.Action.TheVariants.{Activates, WakesUp, Migrates, Changes, Gives, Takes}
use Rattle.fmp_base.specs.declared.catalogue.ObjectKind.{ObjectKind}
use Rattle.fmp_base.specs.declared.catalogue.ObjectKind.TheVariants.{Task, Semaphore, Flag, DataQueue, Mailbox, Message}
use Rattle.fmp_base.specs.declared.catalogue.ObjectKind.TheVariants.{SharedWord, SpinLock, Cyclic}
use Rattle.fmp_base.specs.declared.catalogue.Parameter.{Parameter}
use Rattle.fmp_base.specs.declared.catalogue.Parameter.TheVariants.{Object, TaskOrCaller, Processor, Priority, Pattern}
use Rattle.fmp_base.specs.declared.catalogue.Parameter.TheVariants.{Mode, Number, Delay, Limit, Out}
use Rattle.fmp_base.specs.declared.calls.Call.{Call}
use Rattle.fmp_base.specs.declared.calls.Call.TheVariants as call

-- the function code
abbrev pub service_number : Service → ℕ
service_number service.Put = 1
service_number service.LdShr = 2
service_number service.StShr = 3
service_number service.ActTsk = 4
service_number service.CanAct = 5
service_number service.ExtTsk = 6
service_number service.TerTsk = 7
service_number service.ChgPri = 8
service_number service.GetPri = 9
service_number service.MactTsk = 10
service_number service.MigTsk = 11
service_number service.SlpTsk = 12
service_number service.TslpTsk = 13
service_number service.WupTsk = 14
service_number service.CanWup = 15
service_number service.RelWai = 16
service_number service.SusTsk = 17
service_number service.RsmTsk = 18
service_number service.DlyTsk = 19
service_number service.SigSem = 20
service_number service.WaiSem = 21
service_number service.PolSem = 22
service_number service.TwaiSem = 23
service_number service.SetFlg = 24
service_number service.ClrFlg = 25
service_number service.WaiFlg = 26
service_number service.PolFlg = 27
service_number service.TwaiFlg = 28
service_number service.SndDtq = 29
service_number service.PsndDtq = 30
service_number service.TsndDtq = 31
service_number service.FsndDtq = 32
service_number service.RcvDtq = 33
service_number service.PrcvDtq = 34
service_number service.TrcvDtq = 35
service_number service.SndMbx = 36
service_number service.RcvMbx = 37
service_number service.PrcvMbx = 38
service_number service.TrcvMbx = 39
service_number service.StaCyc = 40
service_number service.StpCyc = 41
service_number service.RotRdq = 42
service_number service.GetTid = 43
service_number service.LocCpu = 44
service_number service.UnlCpu = 45
service_number service.DisDsp = 46
service_number service.EnaDsp = 47
service_number service.LocSpn = 48
service_number service.TrySpn = 49
service_number service.UnlSpn = 50
service_number service.IactTsk = 51
service_number service.IwupTsk = 52
service_number service.IrelWai = 53
service_number service.IsigSem = 54
service_number service.IsetFlg = 55
service_number service.IpsndDtq = 56
service_number service.IfsndDtq = 57
service_number service.IrotRdq = 58
service_number service.MrotRdq = 59

-- the name that the texts and the trace use
abbrev pub service_name : Service → List ℕ
service_name service.Put = codes "put"
service_name service.LdShr = codes "ld_shr"
service_name service.StShr = codes "st_shr"
service_name service.ActTsk = codes "act_tsk"
service_name service.CanAct = codes "can_act"
service_name service.ExtTsk = codes "ext_tsk"
service_name service.TerTsk = codes "ter_tsk"
service_name service.ChgPri = codes "chg_pri"
service_name service.GetPri = codes "get_pri"
service_name service.MactTsk = codes "mact_tsk"
service_name service.MigTsk = codes "mig_tsk"
service_name service.SlpTsk = codes "slp_tsk"
service_name service.TslpTsk = codes "tslp_tsk"
service_name service.WupTsk = codes "wup_tsk"
service_name service.CanWup = codes "can_wup"
service_name service.RelWai = codes "rel_wai"
service_name service.SusTsk = codes "sus_tsk"
service_name service.RsmTsk = codes "rsm_tsk"
service_name service.DlyTsk = codes "dly_tsk"
service_name service.SigSem = codes "sig_sem"
service_name service.WaiSem = codes "wai_sem"
service_name service.PolSem = codes "pol_sem"
service_name service.TwaiSem = codes "twai_sem"
service_name service.SetFlg = codes "set_flg"
service_name service.ClrFlg = codes "clr_flg"
service_name service.WaiFlg = codes "wai_flg"
service_name service.PolFlg = codes "pol_flg"
service_name service.TwaiFlg = codes "twai_flg"
service_name service.SndDtq = codes "snd_dtq"
service_name service.PsndDtq = codes "psnd_dtq"
service_name service.TsndDtq = codes "tsnd_dtq"
service_name service.FsndDtq = codes "fsnd_dtq"
service_name service.RcvDtq = codes "rcv_dtq"
service_name service.PrcvDtq = codes "prcv_dtq"
service_name service.TrcvDtq = codes "trcv_dtq"
service_name service.SndMbx = codes "snd_mbx"
service_name service.RcvMbx = codes "rcv_mbx"
service_name service.PrcvMbx = codes "prcv_mbx"
service_name service.TrcvMbx = codes "trcv_mbx"
service_name service.StaCyc = codes "sta_cyc"
service_name service.StpCyc = codes "stp_cyc"
service_name service.RotRdq = codes "rot_rdq"
service_name service.GetTid = codes "get_tid"
service_name service.LocCpu = codes "loc_cpu"
service_name service.UnlCpu = codes "unl_cpu"
service_name service.DisDsp = codes "dis_dsp"
service_name service.EnaDsp = codes "ena_dsp"
service_name service.LocSpn = codes "loc_spn"
service_name service.TrySpn = codes "try_spn"
service_name service.UnlSpn = codes "unl_spn"
service_name service.IactTsk = codes "iact_tsk"
service_name service.IwupTsk = codes "iwup_tsk"
service_name service.IrelWai = codes "irel_wai"
service_name service.IsigSem = codes "isig_sem"
service_name service.IsetFlg = codes "iset_flg"
service_name service.IpsndDtq = codes "ipsnd_dtq"
service_name service.IfsndDtq = codes "ifsnd_dtq"
service_name service.IrotRdq = codes "irot_rdq"
service_name service.MrotRdq = codes "mrot_rdq"

-- what a text writes between the parentheses of a call
abbrev pub parameters : Service → List Parameter
parameters service.Put = Number ∷ []
parameters service.LdShr = Object SharedWord ∷ Out ∷ []
parameters service.StShr = Object SharedWord ∷ Number ∷ []
parameters service.ActTsk = TaskOrCaller ∷ []
parameters service.CanAct = TaskOrCaller ∷ []
parameters service.ExtTsk = []
parameters service.TerTsk = Object Task ∷ []
parameters service.ChgPri = TaskOrCaller ∷ Priority ∷ []
parameters service.GetPri = TaskOrCaller ∷ Out ∷ []
parameters service.MactTsk = TaskOrCaller ∷ Processor ∷ []
parameters service.MigTsk = TaskOrCaller ∷ Processor ∷ []
parameters service.SlpTsk = []
parameters service.TslpTsk = Limit ∷ []
parameters service.WupTsk = TaskOrCaller ∷ []
parameters service.CanWup = TaskOrCaller ∷ []
parameters service.RelWai = Object Task ∷ []
parameters service.SusTsk = TaskOrCaller ∷ []
parameters service.RsmTsk = Object Task ∷ []
parameters service.DlyTsk = Delay ∷ []
parameters service.SigSem = Object Semaphore ∷ []
parameters service.WaiSem = Object Semaphore ∷ []
parameters service.PolSem = Object Semaphore ∷ []
parameters service.TwaiSem = Object Semaphore ∷ Limit ∷ []
parameters service.SetFlg = Object Flag ∷ Pattern ∷ []
parameters service.ClrFlg = Object Flag ∷ Pattern ∷ []
parameters service.WaiFlg = Object Flag ∷ Pattern ∷ Mode ∷ Out ∷ []
parameters service.PolFlg = Object Flag ∷ Pattern ∷ Mode ∷ Out ∷ []
parameters service.TwaiFlg = Object Flag ∷ Pattern ∷ Mode ∷ Out ∷ Limit ∷ []
parameters service.SndDtq = Object DataQueue ∷ Number ∷ []
parameters service.PsndDtq = Object DataQueue ∷ Number ∷ []
parameters service.TsndDtq = Object DataQueue ∷ Number ∷ Limit ∷ []
parameters service.FsndDtq = Object DataQueue ∷ Number ∷ []
parameters service.RcvDtq = Object DataQueue ∷ Out ∷ []
parameters service.PrcvDtq = Object DataQueue ∷ Out ∷ []
parameters service.TrcvDtq = Object DataQueue ∷ Out ∷ Limit ∷ []
parameters service.SndMbx = Object Mailbox ∷ Object Message ∷ []
parameters service.RcvMbx = Object Mailbox ∷ Out ∷ []
parameters service.PrcvMbx = Object Mailbox ∷ Out ∷ []
parameters service.TrcvMbx = Object Mailbox ∷ Out ∷ Limit ∷ []
parameters service.StaCyc = Object Cyclic ∷ []
parameters service.StpCyc = Object Cyclic ∷ []
parameters service.RotRdq = Priority ∷ []
parameters service.GetTid = Out ∷ []
parameters service.LocCpu = []
parameters service.UnlCpu = []
parameters service.DisDsp = []
parameters service.EnaDsp = []
parameters service.LocSpn = Object SpinLock ∷ []
parameters service.TrySpn = Object SpinLock ∷ []
parameters service.UnlSpn = Object SpinLock ∷ []
parameters service.IactTsk = Object Task ∷ []
parameters service.IwupTsk = Object Task ∷ []
parameters service.IrelWai = Object Task ∷ []
parameters service.IsigSem = Object Semaphore ∷ []
parameters service.IsetFlg = Object Flag ∷ Pattern ∷ []
parameters service.IpsndDtq = Object DataQueue ∷ Number ∷ []
parameters service.IfsndDtq = Object DataQueue ∷ Number ∷ []
parameters service.IrotRdq = Priority ∷ []
parameters service.MrotRdq = Priority ∷ Processor ∷ []

-- whether a parameter is an argument that the kernel is passed
abbrev pub is_argument : Parameter → Bool
is_argument Out = false
is_argument _ = true

-- how many arguments the kernel is passed
abbrev pub arity : Service → ℕ
arity s = length (filter is_argument (parameters s))

-- the place of the out variable among what a text writes between the parentheses, if the call has one
abbrev pub out_place : Service → Option ℕ
out_place s = position (λ p. not (is_argument p)) (parameters s)

-- the kind of the objects of which a parameter names one
abbrev pub object_kind : Parameter → Option ObjectKind
object_kind (Object kind) = Some kind
object_kind TaskOrCaller = Some Task
object_kind _ = None

-- whether the variable before `=` receives the value in place of E_OK: the count of what was cancelled
abbrev pub gives_count : Service → Bool
gives_count service.CanAct = true
gives_count service.CanWup = true
gives_count _ = false

-- what a call does to what its first argument names
abbrev pub action : Service → Option Action
action service.ActTsk = Some Activates
action service.TerTsk = Some Changes
action service.ChgPri = Some Changes
action service.MactTsk = Some Activates
action service.MigTsk = Some Migrates
action service.WupTsk = Some WakesUp
action service.SusTsk = Some Changes
action service.RsmTsk = Some Changes
action service.SigSem = Some Gives
action service.WaiSem = Some Takes
action service.PolSem = Some Takes
action service.TwaiSem = Some Takes
action service.SetFlg = Some Gives
action service.WaiFlg = Some Takes
action service.PolFlg = Some Takes
action service.TwaiFlg = Some Takes
action service.SndDtq = Some Gives
action service.PsndDtq = Some Gives
action service.TsndDtq = Some Gives
action service.FsndDtq = Some Gives
action service.RcvDtq = Some Takes
action service.PrcvDtq = Some Takes
action service.TrcvDtq = Some Takes
action service.SndMbx = Some Gives
action service.RcvMbx = Some Takes
action service.PrcvMbx = Some Takes
action service.TrcvMbx = Some Takes
action service.IactTsk = Some Activates
action service.IwupTsk = Some WakesUp
action service.IsigSem = Some Gives
action service.IsetFlg = Some Gives
action service.IpsndDtq = Some Gives
action service.IfsndDtq = Some Gives
action _ = None

-- the call that does the same from the other side: from handlers if a call is for tasks, from tasks if it is for
-- handlers
abbrev pub counterpart : Service → Option Service
counterpart service.ActTsk = Some service.IactTsk
counterpart service.WupTsk = Some service.IwupTsk
counterpart service.RelWai = Some service.IrelWai
counterpart service.SigSem = Some service.IsigSem
counterpart service.SetFlg = Some service.IsetFlg
counterpart service.PsndDtq = Some service.IpsndDtq
counterpart service.FsndDtq = Some service.IfsndDtq
counterpart service.RotRdq = Some service.IrotRdq
counterpart service.IactTsk = Some service.ActTsk
counterpart service.IwupTsk = Some service.WupTsk
counterpart service.IrelWai = Some service.RelWai
counterpart service.IsigSem = Some service.SigSem
counterpart service.IsetFlg = Some service.SetFlg
counterpart service.IpsndDtq = Some service.PsndDtq
counterpart service.IfsndDtq = Some service.FsndDtq
counterpart service.IrotRdq = Some service.RotRdq
counterpart _ = None

-- the service of a call
abbrev pub service_of : Call → Service
service_of (call.Put value) = service.Put
service_of (call.LdShr word) = service.LdShr
service_of (call.StShr word value) = service.StShr
service_of (call.ActTsk task) = service.ActTsk
service_of (call.CanAct task) = service.CanAct
service_of call.ExtTsk = service.ExtTsk
service_of (call.TerTsk task) = service.TerTsk
service_of (call.ChgPri task priority) = service.ChgPri
service_of (call.GetPri task) = service.GetPri
service_of (call.MactTsk task processor) = service.MactTsk
service_of (call.MigTsk task processor) = service.MigTsk
service_of call.SlpTsk = service.SlpTsk
service_of (call.TslpTsk limit) = service.TslpTsk
service_of (call.WupTsk task) = service.WupTsk
service_of (call.CanWup task) = service.CanWup
service_of (call.RelWai task) = service.RelWai
service_of (call.SusTsk task) = service.SusTsk
service_of (call.RsmTsk task) = service.RsmTsk
service_of (call.DlyTsk delay) = service.DlyTsk
service_of (call.SigSem semaphore) = service.SigSem
service_of (call.WaiSem semaphore) = service.WaiSem
service_of (call.PolSem semaphore) = service.PolSem
service_of (call.TwaiSem semaphore limit) = service.TwaiSem
service_of (call.SetFlg flag pattern) = service.SetFlg
service_of (call.ClrFlg flag pattern) = service.ClrFlg
service_of (call.WaiFlg flag pattern mode) = service.WaiFlg
service_of (call.PolFlg flag pattern mode) = service.PolFlg
service_of (call.TwaiFlg flag pattern mode limit) = service.TwaiFlg
service_of (call.SndDtq queue word) = service.SndDtq
service_of (call.PsndDtq queue word) = service.PsndDtq
service_of (call.TsndDtq queue word limit) = service.TsndDtq
service_of (call.FsndDtq queue word) = service.FsndDtq
service_of (call.RcvDtq queue) = service.RcvDtq
service_of (call.PrcvDtq queue) = service.PrcvDtq
service_of (call.TrcvDtq queue limit) = service.TrcvDtq
service_of (call.SndMbx mailbox message) = service.SndMbx
service_of (call.RcvMbx mailbox) = service.RcvMbx
service_of (call.PrcvMbx mailbox) = service.PrcvMbx
service_of (call.TrcvMbx mailbox limit) = service.TrcvMbx
service_of (call.StaCyc cyclic) = service.StaCyc
service_of (call.StpCyc cyclic) = service.StpCyc
service_of (call.RotRdq priority) = service.RotRdq
service_of call.GetTid = service.GetTid
service_of call.LocCpu = service.LocCpu
service_of call.UnlCpu = service.UnlCpu
service_of call.DisDsp = service.DisDsp
service_of call.EnaDsp = service.EnaDsp
service_of (call.LocSpn lock) = service.LocSpn
service_of (call.TrySpn lock) = service.TrySpn
service_of (call.UnlSpn lock) = service.UnlSpn
service_of (call.IactTsk task) = service.IactTsk
service_of (call.IwupTsk task) = service.IwupTsk
service_of (call.IrelWai task) = service.IrelWai
service_of (call.IsigSem semaphore) = service.IsigSem
service_of (call.IsetFlg flag pattern) = service.IsetFlg
service_of (call.IpsndDtq queue word) = service.IpsndDtq
service_of (call.IfsndDtq queue word) = service.IfsndDtq
service_of (call.IrotRdq priority) = service.IrotRdq
service_of (call.MrotRdq priority processor) = service.MrotRdq

-- the arguments of a call, in order
abbrev pub arguments_of : Call → List ℤ
arguments_of (call.Put value) = value ∷ []
arguments_of (call.LdShr word) = word ∷ []
arguments_of (call.StShr word value) = word ∷ value ∷ []
arguments_of (call.ActTsk task) = task ∷ []
arguments_of (call.CanAct task) = task ∷ []
arguments_of call.ExtTsk = []
arguments_of (call.TerTsk task) = task ∷ []
arguments_of (call.ChgPri task priority) = task ∷ priority ∷ []
arguments_of (call.GetPri task) = task ∷ []
arguments_of (call.MactTsk task processor) = task ∷ processor ∷ []
arguments_of (call.MigTsk task processor) = task ∷ processor ∷ []
arguments_of call.SlpTsk = []
arguments_of (call.TslpTsk limit) = limit ∷ []
arguments_of (call.WupTsk task) = task ∷ []
arguments_of (call.CanWup task) = task ∷ []
arguments_of (call.RelWai task) = task ∷ []
arguments_of (call.SusTsk task) = task ∷ []
arguments_of (call.RsmTsk task) = task ∷ []
arguments_of (call.DlyTsk delay) = delay ∷ []
arguments_of (call.SigSem semaphore) = semaphore ∷ []
arguments_of (call.WaiSem semaphore) = semaphore ∷ []
arguments_of (call.PolSem semaphore) = semaphore ∷ []
arguments_of (call.TwaiSem semaphore limit) = semaphore ∷ limit ∷ []
arguments_of (call.SetFlg flag pattern) = flag ∷ pattern ∷ []
arguments_of (call.ClrFlg flag pattern) = flag ∷ pattern ∷ []
arguments_of (call.WaiFlg flag pattern mode) = flag ∷ pattern ∷ mode ∷ []
arguments_of (call.PolFlg flag pattern mode) = flag ∷ pattern ∷ mode ∷ []
arguments_of (call.TwaiFlg flag pattern mode limit) = flag ∷ pattern ∷ mode ∷ limit ∷ []
arguments_of (call.SndDtq queue word) = queue ∷ word ∷ []
arguments_of (call.PsndDtq queue word) = queue ∷ word ∷ []
arguments_of (call.TsndDtq queue word limit) = queue ∷ word ∷ limit ∷ []
arguments_of (call.FsndDtq queue word) = queue ∷ word ∷ []
arguments_of (call.RcvDtq queue) = queue ∷ []
arguments_of (call.PrcvDtq queue) = queue ∷ []
arguments_of (call.TrcvDtq queue limit) = queue ∷ limit ∷ []
arguments_of (call.SndMbx mailbox message) = mailbox ∷ message ∷ []
arguments_of (call.RcvMbx mailbox) = mailbox ∷ []
arguments_of (call.PrcvMbx mailbox) = mailbox ∷ []
arguments_of (call.TrcvMbx mailbox limit) = mailbox ∷ limit ∷ []
arguments_of (call.StaCyc cyclic) = cyclic ∷ []
arguments_of (call.StpCyc cyclic) = cyclic ∷ []
arguments_of (call.RotRdq priority) = priority ∷ []
arguments_of call.GetTid = []
arguments_of call.LocCpu = []
arguments_of call.UnlCpu = []
arguments_of call.DisDsp = []
arguments_of call.EnaDsp = []
arguments_of (call.LocSpn lock) = lock ∷ []
arguments_of (call.TrySpn lock) = lock ∷ []
arguments_of (call.UnlSpn lock) = lock ∷ []
arguments_of (call.IactTsk task) = task ∷ []
arguments_of (call.IwupTsk task) = task ∷ []
arguments_of (call.IrelWai task) = task ∷ []
arguments_of (call.IsigSem semaphore) = semaphore ∷ []
arguments_of (call.IsetFlg flag pattern) = flag ∷ pattern ∷ []
arguments_of (call.IpsndDtq queue word) = queue ∷ word ∷ []
arguments_of (call.IfsndDtq queue word) = queue ∷ word ∷ []
arguments_of (call.IrotRdq priority) = priority ∷ []
arguments_of (call.MrotRdq priority processor) = priority ∷ processor ∷ []

-- argument k of a list, 0 if there is none
abbrev pub argument : List ℤ → ℕ → ℤ
argument xs k = get_or xs k (pos 0)

-- the call of a service with these arguments
abbrev pub request : Service → List ℤ → Call
request service.Put xs = call.Put (argument xs 0)
request service.LdShr xs = call.LdShr (argument xs 0)
request service.StShr xs = call.StShr (argument xs 0) (argument xs 1)
request service.ActTsk xs = call.ActTsk (argument xs 0)
request service.CanAct xs = call.CanAct (argument xs 0)
request service.ExtTsk xs = call.ExtTsk
request service.TerTsk xs = call.TerTsk (argument xs 0)
request service.ChgPri xs = call.ChgPri (argument xs 0) (argument xs 1)
request service.GetPri xs = call.GetPri (argument xs 0)
request service.MactTsk xs = call.MactTsk (argument xs 0) (argument xs 1)
request service.MigTsk xs = call.MigTsk (argument xs 0) (argument xs 1)
request service.SlpTsk xs = call.SlpTsk
request service.TslpTsk xs = call.TslpTsk (argument xs 0)
request service.WupTsk xs = call.WupTsk (argument xs 0)
request service.CanWup xs = call.CanWup (argument xs 0)
request service.RelWai xs = call.RelWai (argument xs 0)
request service.SusTsk xs = call.SusTsk (argument xs 0)
request service.RsmTsk xs = call.RsmTsk (argument xs 0)
request service.DlyTsk xs = call.DlyTsk (argument xs 0)
request service.SigSem xs = call.SigSem (argument xs 0)
request service.WaiSem xs = call.WaiSem (argument xs 0)
request service.PolSem xs = call.PolSem (argument xs 0)
request service.TwaiSem xs = call.TwaiSem (argument xs 0) (argument xs 1)
request service.SetFlg xs = call.SetFlg (argument xs 0) (argument xs 1)
request service.ClrFlg xs = call.ClrFlg (argument xs 0) (argument xs 1)
request service.WaiFlg xs = call.WaiFlg (argument xs 0) (argument xs 1) (argument xs 2)
request service.PolFlg xs = call.PolFlg (argument xs 0) (argument xs 1) (argument xs 2)
request service.TwaiFlg xs = call.TwaiFlg (argument xs 0) (argument xs 1) (argument xs 2) (argument xs 3)
request service.SndDtq xs = call.SndDtq (argument xs 0) (argument xs 1)
request service.PsndDtq xs = call.PsndDtq (argument xs 0) (argument xs 1)
request service.TsndDtq xs = call.TsndDtq (argument xs 0) (argument xs 1) (argument xs 2)
request service.FsndDtq xs = call.FsndDtq (argument xs 0) (argument xs 1)
request service.RcvDtq xs = call.RcvDtq (argument xs 0)
request service.PrcvDtq xs = call.PrcvDtq (argument xs 0)
request service.TrcvDtq xs = call.TrcvDtq (argument xs 0) (argument xs 1)
request service.SndMbx xs = call.SndMbx (argument xs 0) (argument xs 1)
request service.RcvMbx xs = call.RcvMbx (argument xs 0)
request service.PrcvMbx xs = call.PrcvMbx (argument xs 0)
request service.TrcvMbx xs = call.TrcvMbx (argument xs 0) (argument xs 1)
request service.StaCyc xs = call.StaCyc (argument xs 0)
request service.StpCyc xs = call.StpCyc (argument xs 0)
request service.RotRdq xs = call.RotRdq (argument xs 0)
request service.GetTid xs = call.GetTid
request service.LocCpu xs = call.LocCpu
request service.UnlCpu xs = call.UnlCpu
request service.DisDsp xs = call.DisDsp
request service.EnaDsp xs = call.EnaDsp
request service.LocSpn xs = call.LocSpn (argument xs 0)
request service.TrySpn xs = call.TrySpn (argument xs 0)
request service.UnlSpn xs = call.UnlSpn (argument xs 0)
request service.IactTsk xs = call.IactTsk (argument xs 0)
request service.IwupTsk xs = call.IwupTsk (argument xs 0)
request service.IrelWai xs = call.IrelWai (argument xs 0)
request service.IsigSem xs = call.IsigSem (argument xs 0)
request service.IsetFlg xs = call.IsetFlg (argument xs 0) (argument xs 1)
request service.IpsndDtq xs = call.IpsndDtq (argument xs 0) (argument xs 1)
request service.IfsndDtq xs = call.IfsndDtq (argument xs 0) (argument xs 1)
request service.IrotRdq xs = call.IrotRdq (argument xs 0)
request service.MrotRdq xs = call.MrotRdq (argument xs 0) (argument xs 1)
