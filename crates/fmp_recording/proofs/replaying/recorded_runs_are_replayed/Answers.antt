use Rattle.fmp_recording.proofs.Replays.{lines_replayed, replayed_as_recorded, whole_runs_are_replayed}
use Rattle.fmp_recording.proofs.replaying.recorded_runs_are_replayed.Goals as goal

pub returns : goal.returns
returns c = record { printed = replayed_as_recorded; lines = lines_replayed; whole = whole_runs_are_replayed }
