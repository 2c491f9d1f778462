use Rattle.std.proofs.Common.{◌≡◌, drop}
use Rattle.fmp_base.specs.Systems.{tables_of}
use Rattle.fmp_looking.specs.CallSentences.{first_told}
use Rattle.fmp_looking.proofs.call_sentences.first_told.Given as goal

abbrev pub invariant-loop-one : goal.invariant-loop-one
invariant-loop-one l =
    first_told (tables_of l.sys) (drop l.one-index l.nevers) l.kernel.world l.line
    ≡ first_told (tables_of l.sys) l.nevers l.kernel.world l.line
