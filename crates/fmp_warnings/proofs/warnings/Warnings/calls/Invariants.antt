use Rattle.std.proofs.Common.{◌≡◌}
use Rattle.fmp_diagnosis.specs.Tokens.{last_body}
use Rattle.fmp_warnings.specs.Marks.{structure_of}
use Rattle.fmp_warnings.proofs.warnings.Warnings.calls.Given as goal

abbrev pub invariant-loop-at : goal.invariant-loop-at
invariant-loop-at l = record {
  structure : l.landmarks.structure.items ≡ structure_of l.tokens l.at;
  body : l.landmarks.body ≡ last_body l.tokens l.at;
}
