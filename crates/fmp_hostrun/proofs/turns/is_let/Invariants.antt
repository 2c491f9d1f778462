use Rattle.std.proofs.Common.{◌≡◌, ◌⊎◌}
use Rattle.fmp_hostrun.proofs.turns.is_let.Given as goal

-- if the gate was asked, it is not open
abbrev pub invariant-loop-asked : goal.invariant-loop-asked
invariant-loop-asked g l = (l._asked ≡ 0) ⊎ (g.G.Gate.is_open → ⊥)
