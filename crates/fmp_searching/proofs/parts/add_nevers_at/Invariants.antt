use Rattle.std.proofs.Common.{◌≡◌, ◌++◌, drop, map}
use Rattle.std.specs.List.{flat_map}
use Rattle.fmp_searching.specs.Claims.{claim_tables, never_at_text}
use Rattle.fmp_searching.specs.Parts.{part_of}
use Rattle.fmp_searching.proofs.parts.add_nevers_at.Given as goal

abbrev pub invariant-loop-never : goal.invariant-loop-never
invariant-loop-never l =
    map (λ p. p.items) l.parts.items
    ++ flat_map (λ n. part_of (never_at_text (claim_tables l.claim).image.system (claim_tables l.claim).image.code
    (claim_tables l.claim).bodies n)) (drop l.never-index l.nevers)
    ≡ map (λ p. p.items) l.initial.parts.items
    ++ flat_map (λ n. part_of (never_at_text (claim_tables l.claim).image.system (claim_tables l.claim).image.code
    (claim_tables l.claim).bodies n)) l.nevers
