use Rattle.std.proofs.Common.{◌-◌}
use Rattle.fmp_looking.specs.Branches.{stretch_steps}
use Rattle.fmp_looking.proofs.BranchLemmas.{IsLeft}
use Rattle.fmp_looking.proofs.branches.add_laps.Given as goal

abbrev pub invariant-loop-turn : goal.invariant-loop-turn
invariant-loop-turn g l =
    record {
      steps : IsLeft l.laps.times l.initial.ways l.ways
          (stretch_steps (g.B.Body.meaning l.body) l.code.instructions.now l.code.number (l.laps.n - l._turn) l.here)
          (stretch_steps (g.B.Body.meaning l.body) l.code.instructions.now l.code.number l.laps.n l.laps.from);
      context : g.B.Body.is_context l.body l.code.number l.here;
    }
