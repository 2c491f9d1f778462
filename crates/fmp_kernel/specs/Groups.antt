-- The service calls in the groups in which they are carried out.
use Rattle.fmp_base.specs.declared.services.Service.{Service}
use Rattle.fmp_base.specs.declared.services.Service.TheVariants as service
use Rattle.fmp_kernel.specs.declared.calls.groups.ServiceGroup.{ServiceGroup}
use Rattle.fmp_kernel.specs.declared.calls.groups.ServiceGroup.TheVariants as group

abbrev pub group_of : Service → ServiceGroup
group_of service.Put = group.Own
group_of service.LdShr = group.Own
group_of service.StShr = group.Own
group_of service.ActTsk = group.Management
group_of service.CanAct = group.Management
group_of service.ExtTsk = group.Management
group_of service.TerTsk = group.Management
group_of service.ChgPri = group.Management
group_of service.GetPri = group.Management
group_of service.MactTsk = group.Management
group_of service.MigTsk = group.Management
group_of service.RotRdq = group.Management
group_of service.GetTid = group.Management
group_of service.SlpTsk = group.Synchronization
group_of service.TslpTsk = group.Synchronization
group_of service.WupTsk = group.Synchronization
group_of service.CanWup = group.Synchronization
group_of service.RelWai = group.Synchronization
group_of service.SusTsk = group.Synchronization
group_of service.RsmTsk = group.Synchronization
group_of service.DlyTsk = group.Synchronization
group_of service.SigSem = group.Objects
group_of service.WaiSem = group.Objects
group_of service.PolSem = group.Objects
group_of service.TwaiSem = group.Objects
group_of service.SetFlg = group.Objects
group_of service.ClrFlg = group.Objects
group_of service.WaiFlg = group.Objects
group_of service.PolFlg = group.Objects
group_of service.TwaiFlg = group.Objects
group_of service.SndDtq = group.Queues
group_of service.PsndDtq = group.Queues
group_of service.TsndDtq = group.Queues
group_of service.FsndDtq = group.Queues
group_of service.RcvDtq = group.Queues
group_of service.PrcvDtq = group.Queues
group_of service.TrcvDtq = group.Queues
group_of service.SndMbx = group.Queues
group_of service.RcvMbx = group.Queues
group_of service.PrcvMbx = group.Queues
group_of service.TrcvMbx = group.Queues
group_of service.StaCyc = group.Processors
group_of service.StpCyc = group.Processors
group_of service.LocCpu = group.Processors
group_of service.UnlCpu = group.Processors
group_of service.DisDsp = group.Processors
group_of service.EnaDsp = group.Processors
group_of service.LocSpn = group.Processors
group_of service.TrySpn = group.Processors
group_of service.UnlSpn = group.Processors
group_of service.IactTsk = group.Handlers
group_of service.IwupTsk = group.Handlers
group_of service.IrelWai = group.Handlers
group_of service.IsigSem = group.Handlers
group_of service.IsetFlg = group.Handlers
group_of service.IpsndDtq = group.Handlers
group_of service.IfsndDtq = group.Handlers
group_of service.IrotRdq = group.Handlers
group_of service.MrotRdq = group.Management

-- the groups from which a handler may call
abbrev pub IsForHandlers : ServiceGroup → Type 0
IsForHandlers group.Own = Unit {0}
IsForHandlers group.Handlers = Unit {0}
IsForHandlers group.Management = ⊥
IsForHandlers group.Synchronization = ⊥
IsForHandlers group.Objects = ⊥
IsForHandlers group.Queues = ⊥
IsForHandlers group.Processors = ⊥

-- the groups from which a task may call
abbrev pub IsForTasks : ServiceGroup → Type 0
IsForTasks group.Handlers = ⊥
IsForTasks _ = Unit {0}
