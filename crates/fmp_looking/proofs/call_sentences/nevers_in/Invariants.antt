use Rattle.std.proofs.Common.{◌≡◌, ◌++◌, drop}
use Rattle.fmp_instructions.specs.Instructions.{code_tables}
use Rattle.fmp_looking.specs.CallSentences.{nevers_in}
use Rattle.fmp_looking.proofs.call_sentences.nevers_in.Given as goal

abbrev pub invariant-loop-one : goal.invariant-loop-one
invariant-loop-one l =
    l.nevers.items ++ nevers_in (code_tables l.code) l.positions (drop l.one-index l.sentences)
    ≡ nevers_in (code_tables l.code) l.positions l.sentences
