-- What each task waits or spins for after an event of a run.
use Rattle.std.specs.Prelude.{ℕ, ◌≡◌, List, take, ⊤}
use Rattle.fmp_base.specs.Meanings.{Meaning}
use Rattle.fmp_base.specs.Steps.{Reaction}
use Rattle.fmp_frames.specs.Watches.{IsWhy}
use Rattle.fmp_kernel.specs.KernelViews.{KernelView}
use Rattle.fmp_looking.specs.declared.why.Why.{Why}
use Rattle.fmp_looking.specs.Looks.{IsUpTo}
use Rattle.fmp_warnings.specs.declared.verdicts.Form.{Form}
use Rattle.fmp_warnings.specs.declared.verdicts.Form.TheVariants as form

-- lines for readers are the text itself
abbrev pub IsToldIn : Form → (text out : List ℕ) → Type 0
IsToldIn form.Text text out = out ≡ text
IsToldIn form.Json text out = ⊤

-- this is said of a run after the event of a number, which is done; after the last one, where no number is given
pub record IsWhyAt {B C X : Type 0} (why : Why) (meaning : B → Meaning C) (reaction : KernelView B C → X → Reaction C)
    (k : KernelView B C) (xs : List X) (out : List ℕ) : Type 0 where
  pub count : ℕ
  pub up_to : IsUpTo reaction k xs why.at count
  pub text : List ℕ
  pub is : IsWhy k.system meaning reaction k (take count xs) text
  pub told : IsToldIn why.form text out
