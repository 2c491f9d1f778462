use Rattle.std.proofs.Common.{◌≡◌}
use Rattle.fmp_slices.specs.Contents.{Keeps}
use Rattle.fmp_slices.proofs.contents.PageSource.write_handlers.Given as goal

abbrev pub invariant-loop-place : goal.invariant-loop-place
invariant-loop-place l =
    record {
      before : l.writer.before ≡ l.initial.writer.before;
      tokens : Keeps l.initial.writer.tokens l.writer.tokens;
    }

abbrev pub invariant-loop-config : goal.invariant-loop-config
invariant-loop-config l =
    record {
      before : l.writer.before ≡ l.initial.writer.before;
      tokens : Keeps l.initial.writer.tokens l.writer.tokens;
    }
