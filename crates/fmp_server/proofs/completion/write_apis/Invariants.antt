use Rattle.std.proofs.Common.{◌≡◌}
use Rattle.fmp_server.specs.Messages.{Adds}
use Rattle.fmp_server.proofs.completion.write_apis.Given as goal

abbrev pub invariant-loop-api : goal.invariant-loop-api
invariant-loop-api l = record {
  before : l.writer.before ≡ l.initial.writer.before;
  tokens : Adds l.initial.writer.tokens l.writer.tokens;
}
