use Rattle.std.proofs.Common.{◌≡◌, ◌++◌, drop}
use Rattle.fmp_frames.specs.RefusalLines.{name_tokens}
use Rattle.fmp_frames.proofs.refusal_lines.write_names.Given as goal

abbrev pub invariant-loop-code : goal.invariant-loop-code
invariant-loop-code l = record {
  before : l.writer.before ≡ l.initial.writer.before;
  tokens : l.writer.tokens ++ name_tokens (drop l.code-index l.codes)
      ≡ l.initial.writer.tokens ++ name_tokens l.codes;
}
