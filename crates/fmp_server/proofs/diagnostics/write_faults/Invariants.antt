use Rattle.std.proofs.Common.{◌≡◌}
use Rattle.fmp_server.specs.Messages.{Adds}
use Rattle.fmp_server.proofs.diagnostics.write_faults.Given as goal

abbrev pub invariant-loop-one : goal.invariant-loop-one
invariant-loop-one l = record {
  before : l.writer.before ≡ l.initial.writer.before;
  tokens : Adds l.initial.writer.tokens l.writer.tokens;
}
