-- Forbidden lines.
use Rattle.std.proofs.Common.{◌≡◌, ℕ, List, [], ◌∷◌, refl}
use Rattle.fmp_base.specs.declared.events.Line.TheVariants as line
use Rattle.fmp_question.specs.declared.question.Never.{Never}
use Rattle.fmp_question.specs.declared.question.Never.TheVariants as kind
use Rattle.fmp_question.specs.Forbidden.{forbids, tells}

tells-timeless : (never : Never) (a b : ℕ) → tells never (line.Tick a) ≡ tells never (line.Tick b)
tells-timeless (kind.Answer code) a b = refl
tells-timeless (kind.Put value) a b = refl
tells-timeless (kind.Fault fault) a b = refl
tells-timeless (kind.Acts t) a b = refl

-- no line of the clock tells what is asked about
pub forbids-timeless : (nevers : List Never) (a b : ℕ) → forbids nevers (line.Tick a) ≡ forbids nevers (line.Tick b)
forbids-timeless [] a b = refl
forbids-timeless (never ∷ rest) a b = rw (tells-timeless never a b, forbids-timeless rest a b)
