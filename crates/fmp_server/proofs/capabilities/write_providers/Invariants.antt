use Rattle.std.proofs.Common.{◌≡◌}
use Rattle.fmp_server.specs.Messages.{Adds}
use Rattle.fmp_server.proofs.capabilities.write_providers.Given as goal

abbrev pub invariant-loop-name : goal.invariant-loop-name
invariant-loop-name l = record {
  before : l.writer.before ≡ l.initial.writer.before;
  tokens : Adds l.initial.writer.tokens l.writer.tokens;
}
