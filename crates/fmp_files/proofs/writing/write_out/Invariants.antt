-- Each turn writes some bytes, and those so far are written.
use Rattle.std.proofs.Common.{◌≡◌, ◌-◌, ◌≤◌, length, take}
use Rattle.std.specs.Io.KnownBytes.{Appends}
use Rattle.fmp_files.proofs.writing.write_out.Given as goal

abbrev pub invariant-loop-done : goal.invariant-loop-done
invariant-loop-done g l = record {
  within : l.done ≤ length l.bytes;
  written : Appends (g.W.Sink.written l.initial.sink) (g.W.Sink.written l.sink) (take l.done l.bytes);
  failed : g.W.Sink.failed l.sink ≡ g.W.Sink.failed l.initial.sink;
}

abbrev pub decreases-loop-done : goal.decreases-loop-done
decreases-loop-done g l = length l.bytes - l.done
