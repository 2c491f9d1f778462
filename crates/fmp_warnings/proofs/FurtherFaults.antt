-- What is told of two texts after their first fault.
use Rattle.std.proofs.Common.{◌≡◌, ◌≤◌, ◌++◌, ℕ, List, [], ◌∷◌, append_assoc, refl, subst, sym}
use Rattle.std.proofs.lemmas.List.{append-nil}
use Rattle.fmp_lex.specs.declared.fault.TextFile.{TextFile}
use Rattle.fmp_lex.specs.declared.fault.TextFile.TheVariants as file
use Rattle.fmp_diagnosis.specs.declared.sentence.Texts.{Texts}
use Rattle.fmp_diagnosis.specs.declared.reports.FaultReport.{FaultReport}
use Rattle.fmp_diagnosis.specs.Reports.{IsFinding, text_of}
use Rattle.fmp_warnings.specs.declared.further.ToldFault.{ToldFault}
use Rattle.fmp_warnings.specs.declared.left.Left.{Left}
use Rattle.fmp_warnings.specs.declared.verdicts.TextsFault.{TextsFault}
use Rattle.fmp_warnings.specs.Further.{AreFurther, BothTexts, IsAdded, IsFirst, IsLeft, IsNext, IsShownAs, IsToldOf}
use Rattle.fmp_warnings.specs.Further.{LeadsTo, MayFollow}
use Rattle.fmp_warnings.specs.Further.{both, both_left, left_out, one_of, with_one}
use Rattle.fmp_warnings.specs.Further.{no_more, told, passed_over, is_passed, is_told}

-- what is left without a construct, with its first fault
pub is_next : (l next : Left) (from to : ℕ) → from ≤ l.fault.position.start
    → both next.cfg.items next.src.items
    ≡ with_one (both_left l) l.fault.file (left_out (one_of (both_left l) l.fault.file) from to)
    → IsFirst (both_left next) next.fault → IsNext l next
is_next l next from to begins is first = (record { from = from; to = to; begins = begins; is = is }, first)

-- what is told of the fault of what is left is a finding of its text
pub told_is : (l : Left) (r : Texts) (f : FaultReport) (x : ToldFault) → r.cfg.now ≡ l.cfg.items
    → r.src.now ≡ l.src.items → x.file ≡ l.fault.file
    → IsFinding (text_of r l.fault.file) l.fault.position l.fault.kind f → IsShownAs f x.finding
    → IsToldOf (both_left l) l.fault x
told_is l r f x cfg src same found shown =
    record { file = same; finding = f; is_finding = go l.fault.file found; shown = shown }
  where
    go : (h : TextFile) → IsFinding (text_of r h) l.fault.position l.fault.kind f
        → IsFinding (one_of (both_left l) h) l.fault.position l.fault.kind f
    go file.Configuration finding = subst (λ t. IsFinding t l.fault.position l.fault.kind f) cfg finding
    go file.Source finding = subst (λ t. IsFinding t l.fault.position l.fault.kind f) src finding

-- a fault is told after others, or passed over
pub adds_told : (left : BothTexts) (g : TextsFault) (old new : List ToldFault) (x : ToldFault) → IsToldOf left g x
    → new ≡ old ++ x ∷ [] → IsAdded left g old new
adds_told left g old new x is added = is_told x is added

pub adds_passed : (left : BothTexts) (g : TextsFault) (old : List ToldFault) → MayFollow g.kind → IsAdded left g old old
adds_passed left g old follows = is_passed follows refl

-- one round more
pub leads_on : (all t left : BothTexts) (f0 f g : TextsFault) (old new : List ToldFault) → LeadsTo all f0 t f old
    → IsLeft t f left → IsFirst left g → IsAdded left g old new → LeadsTo all f0 left g new
leads_on all t left f0 f g old new so is first (is_told x tells e) = λ more further.
    subst (λ xs. AreFurther all f0 (xs ++ more)) (sym e)
    (subst (λ xs. AreFurther all f0 xs) (sym (append_assoc old (x ∷ []) more))
    (so (x ∷ more) (told left g is first tells further)))
leads_on all t left f0 f g old new so is first (is_passed follows e) = λ more further.
    subst (λ xs. AreFurther all f0 (xs ++ more)) (sym e) (so more (passed_over left g is first follows further))

-- the last round
pub leads_there : (all t : BothTexts) (f0 f : TextsFault) (xs : List ToldFault) → LeadsTo all f0 t f xs
    → AreFurther all f0 xs
leads_there all t f0 f xs so = subst (λ ys. AreFurther all f0 ys) (append-nil xs) (so [] no_more)
