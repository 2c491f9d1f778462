-- Bodies that make a number of delays of one tick, and end: the context is the number of delays left.
use Rattle.std.specs.Prelude.{ℕ, zero, suc, ◌-◌, pos, Some}
use Rattle.fmp_base.specs.declared.calls.Call.TheVariants as call
use Rattle.fmp_base.specs.Meanings.{Meaning}
use Rattle.fmp_base.specs.Stretches.{Ending}
use Rattle.fmp_base.specs.Stretches as ends

-- a stretch takes one unit
abbrev pub beat : (bound left : ℕ) → Ending ℕ
beat zero left = ends.Over (Some left)
beat (suc bound) zero = ends.End zero
beat (suc bound) (suc left) = ends.Call (suc left) (call.DlyTsk (pos 1))

abbrev pub pulse_meaning : ℕ → Meaning ℕ
pulse_meaning beats =
    record {
      start = λ body exinf. beats;
      stretch = λ body bound left. beat bound left;
      deliver = λ body left reply. left - 1;
    }
