use Rattle.std.proofs.Common.{◌≡◌}
use Rattle.fmp_slices.specs.Contents.{Keeps}
use Rattle.fmp_slices.proofs.contents.PageSource.write_objects.Given as goal

abbrev pub invariant-loop-object : goal.invariant-loop-object
invariant-loop-object l =
    record {
      before : l.writer.before ≡ l.initial.writer.before;
      tokens : Keeps l.initial.writer.tokens l.writer.tokens;
    }
