use Rattle.std.proofs.Common.{◌≡◌, ◌++◌, drop}
use Rattle.fmp_base.specs.Systems.{tables_of}
use Rattle.fmp_named.specs.Records.{name_tokens}
use Rattle.fmp_named.proofs.records.write_names.Given as goal

abbrev pub invariant-loop-parameter : goal.invariant-loop-parameter
invariant-loop-parameter l = record {
  before : l.writer.before ≡ l.initial.writer.before;
  tokens : l.writer.tokens ++ name_tokens (tables_of l.sys) (drop l.parameter-index l.parameters) l.rest
      ≡ l.initial.writer.tokens ++ name_tokens (tables_of l.sys) l.parameters l.numbers;
}
