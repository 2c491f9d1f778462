use Rattle.std.proofs.Common.{◌≡◌, ◌++◌}
use Rattle.fmp_slices.specs.Resources.{contexts_to}
use Rattle.fmp_slices.proofs.resource_file.write_contexts.Given as goal

abbrev pub invariant-loop-processor : goal.invariant-loop-processor
invariant-loop-processor l =
    record {
      before : l.writer.before ≡ l.initial.writer.before;
      tokens : l.writer.tokens ≡ l.initial.writer.tokens ++ contexts_to l.processor;
    }
