use Rattle.std.proofs.Common.{◌≡◌, ◌++◌, drop}
use Rattle.std.specs.Prelude.{filter}
use Rattle.fmp_frames.specs.CallPositions.{position_of}
use Rattle.fmp_instructions.specs.Instructions.{code_tables}
use Rattle.fmp_looking.specs.CallSentences.{is_line}
use Rattle.fmp_looking.proofs.call_sentences.calls_among.Given as goal

abbrev pub invariant-loop-site : goal.invariant-loop-site
invariant-loop-site l =
    l.calls.items
    ++ filter (λ s. is_line l.line (position_of (code_tables l.code) l.positions s.body s.pc))
    (drop l.site-index l.sites)
    ≡ filter (λ s. is_line l.line (position_of (code_tables l.code) l.positions s.body s.pc)) l.sites
