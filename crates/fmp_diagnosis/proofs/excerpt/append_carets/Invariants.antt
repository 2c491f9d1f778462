use Rattle.std.proofs.Common.{◌≡◌, ◌++◌, replicate}
use Rattle.fmp_diagnosis.proofs.excerpt.append_carets.Given as goal

abbrev pub invariant-loop-caret : goal.invariant-loop-caret
invariant-loop-caret l = l.out.items ≡ l.fn.out.items ++ replicate l._caret 94
