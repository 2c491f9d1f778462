use Rattle.std.proofs.Common.{◌≡◌, ◌++◌, drop, map, string_bytes}
use Rattle.fmp_searching.specs.Members.{string_tokens}
use Rattle.fmp_searching.proofs.end_records.write_strings.Given as goal

abbrev pub invariant-loop-string : goal.invariant-loop-string
invariant-loop-string l = record {
  before : l.writer.before ≡ l.initial.writer.before;
  tokens : l.writer.tokens ++ string_tokens (map string_bytes (drop l.string-index l.strings))
      ≡ l.initial.writer.tokens ++ string_tokens (map string_bytes l.strings);
}
