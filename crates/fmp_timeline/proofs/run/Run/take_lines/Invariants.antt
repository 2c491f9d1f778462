use Rattle.std.proofs.Common.{◌≡◌}
use Rattle.fmp_timeline.proofs.run.Run.take_lines.Given as goal

abbrev pub invariant-loop-line : goal.invariant-loop-line
invariant-loop-line l =
    record {
      notes : l.self.notes ≡ l.initial.self.notes;
      text : l.self.text ≡ l.initial.self.text;
      tasks : l.self.tasks ≡ l.initial.self.tasks;
    }
