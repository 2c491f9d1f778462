-- A call looks at no argument after those that its service takes.
use Rattle.std.proofs.Common.{◌≡◌, ℤ, List, [], ◌∷◌, length, take, refl, arith}
use Rattle.fmp_base.specs.declared.services.Service.{Service}
use Rattle.fmp_base.specs.declared.services.Service.TheVariants as service
use Rattle.fmp_base.specs.Services.{arity, request}

pub padded : (s : Service) (a b c d : ℤ)
    → request s (take (arity s) (a ∷ b ∷ c ∷ d ∷ [])) ≡ request s (a ∷ b ∷ c ∷ d ∷ [])
padded service.Put a b c d = refl
padded service.LdShr a b c d = refl
padded service.StShr a b c d = refl
padded service.ActTsk a b c d = refl
padded service.CanAct a b c d = refl
padded service.ExtTsk a b c d = refl
padded service.TerTsk a b c d = refl
padded service.ChgPri a b c d = refl
padded service.GetPri a b c d = refl
padded service.MactTsk a b c d = refl
padded service.MigTsk a b c d = refl
padded service.SlpTsk a b c d = refl
padded service.TslpTsk a b c d = refl
padded service.WupTsk a b c d = refl
padded service.CanWup a b c d = refl
padded service.RelWai a b c d = refl
padded service.SusTsk a b c d = refl
padded service.RsmTsk a b c d = refl
padded service.DlyTsk a b c d = refl
padded service.SigSem a b c d = refl
padded service.WaiSem a b c d = refl
padded service.PolSem a b c d = refl
padded service.TwaiSem a b c d = refl
padded service.SetFlg a b c d = refl
padded service.ClrFlg a b c d = refl
padded service.WaiFlg a b c d = refl
padded service.PolFlg a b c d = refl
padded service.TwaiFlg a b c d = refl
padded service.SndDtq a b c d = refl
padded service.PsndDtq a b c d = refl
padded service.TsndDtq a b c d = refl
padded service.FsndDtq a b c d = refl
padded service.RcvDtq a b c d = refl
padded service.PrcvDtq a b c d = refl
padded service.TrcvDtq a b c d = refl
padded service.SndMbx a b c d = refl
padded service.RcvMbx a b c d = refl
padded service.PrcvMbx a b c d = refl
padded service.TrcvMbx a b c d = refl
padded service.StaCyc a b c d = refl
padded service.StpCyc a b c d = refl
padded service.RotRdq a b c d = refl
padded service.GetTid a b c d = refl
padded service.LocCpu a b c d = refl
padded service.UnlCpu a b c d = refl
padded service.DisDsp a b c d = refl
padded service.EnaDsp a b c d = refl
padded service.LocSpn a b c d = refl
padded service.TrySpn a b c d = refl
padded service.UnlSpn a b c d = refl
padded service.IactTsk a b c d = refl
padded service.IwupTsk a b c d = refl
padded service.IrelWai a b c d = refl
padded service.IsigSem a b c d = refl
padded service.IsetFlg a b c d = refl
padded service.IpsndDtq a b c d = refl
padded service.IfsndDtq a b c d = refl
padded service.IrotRdq a b c d = refl
padded service.MrotRdq a b c d = refl

pub padded_array : (s : Service) (xs : List ℤ) → length xs ≡ 4 → request s (take (arity s) xs) ≡ request s xs
padded_array s [] e = absurd (omega (arith, e))
padded_array s (a ∷ []) e = absurd (omega (arith, e))
padded_array s (a ∷ b ∷ []) e = absurd (omega (arith, e))
padded_array s (a ∷ b ∷ c ∷ []) e = absurd (omega (arith, e))
padded_array s (a ∷ b ∷ c ∷ d ∷ []) e = padded s a b c d
padded_array s (a ∷ b ∷ c ∷ d ∷ f ∷ xs) e = absurd (omega (arith, e))
