use Rattle.std.proofs.Common.{◌≡◌, ◌++◌, drop}
use Rattle.std.specs.Prelude.{flat_map}
use Rattle.fmp_timeline.specs.Tracks.{stays_of}
use Rattle.fmp_slices.specs.Tracks.{processor_lane}
use Rattle.fmp_slices.specs.Traces.{source_of, turn_text}
use Rattle.fmp_slices.proofs.tracing.SliceSource.append_processor.Given as goal

abbrev pub invariant-loop-number : goal.invariant-loop-number
invariant-loop-number l =
    l.out.items
    ++ flat_map (turn_text (source_of l.self) (processor_lane l.fn.place)) (drop l.number (stays_of l.track))
    ≡ l.initial.out.items ++ flat_map (turn_text (source_of l.self) (processor_lane l.fn.place)) (stays_of l.track)
