use Rattle.std.proofs.Common.{◌≡◌, ◌++◌, drop, map}
use Rattle.std.specs.List.{flat_map}
use Rattle.fmp_instructions.specs.Instructions.{code_tables}
use Rattle.fmp_frames.specs.Answers.{codes_at}
use Rattle.fmp_frames.specs.Refusals.{refused_at, refused_of}
use Rattle.fmp_frames.proofs.refusals.refused_among.Given as goal

abbrev pub invariant-loop-site : goal.invariant-loop-site
invariant-loop-site l =
    map refused_of l.refused.items
    ++ flat_map (λ s. refused_at (code_tables l.code) s (codes_at l.answers s)) (drop l.site-index l.sites)
    ≡ flat_map (λ s. refused_at (code_tables l.code) s (codes_at l.answers s)) l.sites
