use Rattle.std.proofs.Common.{◌≡◌, ◌+◌, ◌++◌, drop, take}
use Rattle.fmp_slices.specs.Contents.{clock_numbers, drawn}
use Rattle.fmp_slices.proofs.contents.PageSource.write_clock_numbers.Given as goal

abbrev pub invariant-loop-event : goal.invariant-loop-event
invariant-loop-event l =
    record {
      before : l.writer.before ≡ l.initial.writer.before;
      tokens :
          l.writer.tokens ++ clock_numbers (drop l.event (take (l.self.page.last + 1) l.self.run.now.notes.items))
          ≡ l.initial.writer.tokens ++ clock_numbers (drawn l.self.page l.self.run.now);
    }
