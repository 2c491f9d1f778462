use Rattle.fmp_recording.proofs.RoundTrip.{timed_recordings_read_back}
use Rattle.fmp_recording.proofs.timed_printing.timed_recordings_read_back.Goals as goal

pub returns : goal.returns
returns c = timed_recordings_read_back
