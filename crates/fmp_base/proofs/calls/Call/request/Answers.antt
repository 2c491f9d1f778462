use Rattle.std.proofs.Common.{rules}
use Rattle.fmp_base.proofs.calls.Call.request.Goals as goal

pub returns-in-Put : goal.returns-in-Put
returns-in-Put c = rw c.in-Put.is (search rules)

pub returns-in-LdShr : goal.returns-in-LdShr
returns-in-LdShr c = rw c.in-LdShr.is (search rules)

pub returns-in-StShr : goal.returns-in-StShr
returns-in-StShr c = rw c.in-StShr.is (search rules)

pub returns-in-ActTsk : goal.returns-in-ActTsk
returns-in-ActTsk c = rw c.in-ActTsk.is (search rules)

pub returns-in-CanAct : goal.returns-in-CanAct
returns-in-CanAct c = rw c.in-CanAct.is (search rules)

pub returns-in-ExtTsk : goal.returns-in-ExtTsk
returns-in-ExtTsk c = rw c.in-ExtTsk.is (search rules)

pub returns-in-TerTsk : goal.returns-in-TerTsk
returns-in-TerTsk c = rw c.in-TerTsk.is (search rules)

pub returns-in-ChgPri : goal.returns-in-ChgPri
returns-in-ChgPri c = rw c.in-ChgPri.is (search rules)

pub returns-in-GetPri : goal.returns-in-GetPri
returns-in-GetPri c = rw c.in-GetPri.is (search rules)

pub returns-in-MactTsk : goal.returns-in-MactTsk
returns-in-MactTsk c = rw c.in-MactTsk.is (search rules)

pub returns-in-MigTsk : goal.returns-in-MigTsk
returns-in-MigTsk c = rw c.in-MigTsk.is (search rules)

pub returns-in-SlpTsk : goal.returns-in-SlpTsk
returns-in-SlpTsk c = rw c.in-SlpTsk.is (search rules)

pub returns-in-TslpTsk : goal.returns-in-TslpTsk
returns-in-TslpTsk c = rw c.in-TslpTsk.is (search rules)

pub returns-in-WupTsk : goal.returns-in-WupTsk
returns-in-WupTsk c = rw c.in-WupTsk.is (search rules)

pub returns-in-CanWup : goal.returns-in-CanWup
returns-in-CanWup c = rw c.in-CanWup.is (search rules)

pub returns-in-RelWai : goal.returns-in-RelWai
returns-in-RelWai c = rw c.in-RelWai.is (search rules)

pub returns-in-SusTsk : goal.returns-in-SusTsk
returns-in-SusTsk c = rw c.in-SusTsk.is (search rules)

pub returns-in-RsmTsk : goal.returns-in-RsmTsk
returns-in-RsmTsk c = rw c.in-RsmTsk.is (search rules)

pub returns-in-DlyTsk : goal.returns-in-DlyTsk
returns-in-DlyTsk c = rw c.in-DlyTsk.is (search rules)

pub returns-in-SigSem : goal.returns-in-SigSem
returns-in-SigSem c = rw c.in-SigSem.is (search rules)

pub returns-in-WaiSem : goal.returns-in-WaiSem
returns-in-WaiSem c = rw c.in-WaiSem.is (search rules)

pub returns-in-PolSem : goal.returns-in-PolSem
returns-in-PolSem c = rw c.in-PolSem.is (search rules)

pub returns-in-TwaiSem : goal.returns-in-TwaiSem
returns-in-TwaiSem c = rw c.in-TwaiSem.is (search rules)

pub returns-in-SetFlg : goal.returns-in-SetFlg
returns-in-SetFlg c = rw c.in-SetFlg.is (search rules)

pub returns-in-ClrFlg : goal.returns-in-ClrFlg
returns-in-ClrFlg c = rw c.in-ClrFlg.is (search rules)

pub returns-in-WaiFlg : goal.returns-in-WaiFlg
returns-in-WaiFlg c = rw c.in-WaiFlg.is (search rules)

pub returns-in-PolFlg : goal.returns-in-PolFlg
returns-in-PolFlg c = rw c.in-PolFlg.is (search rules)

pub returns-in-TwaiFlg : goal.returns-in-TwaiFlg
returns-in-TwaiFlg c = rw c.in-TwaiFlg.is (search rules)

pub returns-in-SndDtq : goal.returns-in-SndDtq
returns-in-SndDtq c = rw c.in-SndDtq.is (search rules)

pub returns-in-PsndDtq : goal.returns-in-PsndDtq
returns-in-PsndDtq c = rw c.in-PsndDtq.is (search rules)

pub returns-in-TsndDtq : goal.returns-in-TsndDtq
returns-in-TsndDtq c = rw c.in-TsndDtq.is (search rules)

pub returns-in-FsndDtq : goal.returns-in-FsndDtq
returns-in-FsndDtq c = rw c.in-FsndDtq.is (search rules)

pub returns-in-RcvDtq : goal.returns-in-RcvDtq
returns-in-RcvDtq c = rw c.in-RcvDtq.is (search rules)

pub returns-in-PrcvDtq : goal.returns-in-PrcvDtq
returns-in-PrcvDtq c = rw c.in-PrcvDtq.is (search rules)

pub returns-in-TrcvDtq : goal.returns-in-TrcvDtq
returns-in-TrcvDtq c = rw c.in-TrcvDtq.is (search rules)

pub returns-in-SndMbx : goal.returns-in-SndMbx
returns-in-SndMbx c = rw c.in-SndMbx.is (search rules)

pub returns-in-RcvMbx : goal.returns-in-RcvMbx
returns-in-RcvMbx c = rw c.in-RcvMbx.is (search rules)

pub returns-in-PrcvMbx : goal.returns-in-PrcvMbx
returns-in-PrcvMbx c = rw c.in-PrcvMbx.is (search rules)

pub returns-in-TrcvMbx : goal.returns-in-TrcvMbx
returns-in-TrcvMbx c = rw c.in-TrcvMbx.is (search rules)

pub returns-in-StaCyc : goal.returns-in-StaCyc
returns-in-StaCyc c = rw c.in-StaCyc.is (search rules)

pub returns-in-StpCyc : goal.returns-in-StpCyc
returns-in-StpCyc c = rw c.in-StpCyc.is (search rules)

pub returns-in-RotRdq : goal.returns-in-RotRdq
returns-in-RotRdq c = rw c.in-RotRdq.is (search rules)

pub returns-in-GetTid : goal.returns-in-GetTid
returns-in-GetTid c = rw c.in-GetTid.is (search rules)

pub returns-in-LocCpu : goal.returns-in-LocCpu
returns-in-LocCpu c = rw c.in-LocCpu.is (search rules)

pub returns-in-UnlCpu : goal.returns-in-UnlCpu
returns-in-UnlCpu c = rw c.in-UnlCpu.is (search rules)

pub returns-in-DisDsp : goal.returns-in-DisDsp
returns-in-DisDsp c = rw c.in-DisDsp.is (search rules)

pub returns-in-EnaDsp : goal.returns-in-EnaDsp
returns-in-EnaDsp c = rw c.in-EnaDsp.is (search rules)

pub returns-in-LocSpn : goal.returns-in-LocSpn
returns-in-LocSpn c = rw c.in-LocSpn.is (search rules)

pub returns-in-TrySpn : goal.returns-in-TrySpn
returns-in-TrySpn c = rw c.in-TrySpn.is (search rules)

pub returns-in-UnlSpn : goal.returns-in-UnlSpn
returns-in-UnlSpn c = rw c.in-UnlSpn.is (search rules)

pub returns-in-IactTsk : goal.returns-in-IactTsk
returns-in-IactTsk c = rw c.in-IactTsk.is (search rules)

pub returns-in-IwupTsk : goal.returns-in-IwupTsk
returns-in-IwupTsk c = rw c.in-IwupTsk.is (search rules)

pub returns-in-IrelWai : goal.returns-in-IrelWai
returns-in-IrelWai c = rw c.in-IrelWai.is (search rules)

pub returns-in-IsigSem : goal.returns-in-IsigSem
returns-in-IsigSem c = rw c.in-IsigSem.is (search rules)

pub returns-in-IsetFlg : goal.returns-in-IsetFlg
returns-in-IsetFlg c = rw c.in-IsetFlg.is (search rules)

pub returns-in-IpsndDtq : goal.returns-in-IpsndDtq
returns-in-IpsndDtq c = rw c.in-IpsndDtq.is (search rules)

pub returns-in-IfsndDtq : goal.returns-in-IfsndDtq
returns-in-IfsndDtq c = rw c.in-IfsndDtq.is (search rules)

pub returns-in-IrotRdq : goal.returns-in-IrotRdq
returns-in-IrotRdq c = rw c.in-IrotRdq.is (search rules)

pub returns-in-MrotRdq : goal.returns-in-MrotRdq
returns-in-MrotRdq c = rw c.in-MrotRdq.is (search rules)
