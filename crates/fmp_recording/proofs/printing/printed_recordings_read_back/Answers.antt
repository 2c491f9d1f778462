use Rattle.fmp_recording.proofs.RoundTrip.{printed_lines_read_back, printed_recordings_read_back}
use Rattle.fmp_recording.proofs.printing.printed_recordings_read_back.Goals as goal

pub returns : goal.returns
returns c = record { recording = printed_recordings_read_back; lines = printed_lines_read_back }
