use Rattle.std.proofs.Common.{◌≡◌, ◌++◌, drop}
use Rattle.fmp_searching.specs.ExtentRecords.{code_tokens}
use Rattle.fmp_searching.proofs.coverage_records.write_codes.Given as goal

abbrev pub invariant-loop-code : goal.invariant-loop-code
invariant-loop-code l =
    record {
      before : l.writer.before ≡ l.initial.writer.before;
      tokens : l.writer.tokens ++ code_tokens (drop l.code-index l.codes)
          ≡ l.initial.writer.tokens ++ code_tokens l.codes;
    }
