use Rattle.std.proofs.Common.{drop}
use Rattle.fmp_recording.specs.Recordings.{came_lines}
use Rattle.fmp_recording.proofs.Replays.{Continues, Stands}
use Rattle.fmp_recording.proofs.replaying.replay.Given as goal

-- what is left leads to where all of the recording leads
abbrev pub invariant-loop-given : goal.invariant-loop-given
invariant-loop-given l = record {
  leads : Continues l.fn.hosted l.hosted l.recording (drop l.given-index l.recording) l.fn.trace.items l.trace.items;
  stands : Stands came_lines l.fn.hosted l.hosted l.recording (drop l.given-index l.recording) l.fn.trace.items
      l.trace.items;
}
