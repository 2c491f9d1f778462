use Rattle.std.proofs.Common.{◌≡◌}
use Rattle.fmp_slices.specs.Contents.{Keeps}
use Rattle.fmp_slices.proofs.contents.PageSource.write_calls_of.Given as goal

abbrev pub invariant-loop-made : goal.invariant-loop-made
invariant-loop-made l =
    record {
      before : l.writer.before ≡ l.initial.writer.before;
      tokens : Keeps l.initial.writer.tokens l.writer.tokens;
    }
