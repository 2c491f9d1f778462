use Rattle.std.proofs.Common.{◌≡◌, ◌++◌, drop}
use Rattle.fmp_named.specs.Records.{number_tokens}
use Rattle.fmp_named.proofs.records.write_numbers.Given as goal

abbrev pub invariant-loop-number : goal.invariant-loop-number
invariant-loop-number l = record {
  before : l.writer.before ≡ l.initial.writer.before;
  tokens : l.writer.tokens ++ number_tokens (drop l.number-index l.numbers)
      ≡ l.initial.writer.tokens ++ number_tokens l.numbers;
}
