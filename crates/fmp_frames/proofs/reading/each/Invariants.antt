use Rattle.std.proofs.Common.{◌≡◌, ◌<◌, ℕ}
use Rattle.fmp_frames.specs.Frames as spec
use Rattle.fmp_frames.specs.contracts.reading.each.F-Fn as reader
use Rattle.fmp_frames.proofs.reading.each.Given as goal

abbrev pub invariant-loop-i : goal.invariant-loop-i
invariant-loop-i g l =
    (f : ℕ → g.row.T.Denot)
    → ((i : ℕ) (x : g.row.T.Denot) → i < l.count → (reader.words g.row.T g.row.F g.F.Fn).post l.read i x → x ≡ f i)
    → l.xs.items ≡ spec.each f l.i
