use Rattle.std.proofs.Common.{◌≡◌, ◌++◌}
use Rattle.fmp_slices.specs.Traces.{processor_titles}
use Rattle.fmp_slices.proofs.tracing.SliceSource.append_processor_titles.Given as goal

abbrev pub invariant-loop-place : goal.invariant-loop-place
invariant-loop-place l =
    l.out.items ≡ l.initial.out.items ++ processor_titles l.place
