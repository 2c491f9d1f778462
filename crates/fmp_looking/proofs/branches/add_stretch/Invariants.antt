use Rattle.std.proofs.Common.{◌-◌}
use Rattle.fmp_looking.specs.Branches.{stretch_steps}
use Rattle.fmp_looking.specs.Laps.{IsLap}
use Rattle.fmp_looking.proofs.BranchLemmas.{IsLeft}
use Rattle.fmp_looking.proofs.branches.add_stretch.Given as goal

abbrev pub invariant-loop-turn : goal.invariant-loop-turn
invariant-loop-turn g l =
    record {
      steps : IsLeft 1 l.initial.ways l.ways
          (stretch_steps (g.B.Body.meaning l.body) l.code.instructions.now l.code.number (l.stretch.n - l.turn) l.here)
          (stretch_steps (g.B.Body.meaning l.body) l.code.instructions.now l.code.number l.stretch.n l.stretch.from);
      context : g.B.Body.is_context l.body l.code.number l.here;
      lap : IsLap (g.B.Body.meaning l.body) l.code.number l.lap l.turn l.here;
    }
