use Rattle.std.proofs.Common.{◌≡◌, ◌++◌, drop}
use Rattle.std.specs.Prelude.{flat_map}
use Rattle.fmp_timeline.specs.Tracks.{stays_of}
use Rattle.fmp_slices.specs.Tracks.{task_lane}
use Rattle.fmp_slices.specs.Traces.{source_of, task_text}
use Rattle.fmp_slices.proofs.tracing.SliceSource.append_task.Given as goal

abbrev pub invariant-loop-number : goal.invariant-loop-number
invariant-loop-number l =
    l.out.items
    ++ flat_map (task_text (source_of l.self) (task_lane l.fn.place)) (drop l.number (stays_of l.track))
    ≡ l.initial.out.items ++ flat_map (task_text (source_of l.self) (task_lane l.fn.place)) (stays_of l.track)
