use Rattle.std.proofs.Common.{◌≡◌, ◌++◌, drop, nat_eq}
use Rattle.std.specs.Prelude.{filter}
use Rattle.fmp_looking.proofs.source_expecting.nevers_at.Given as goal

abbrev pub invariant-loop-never : goal.invariant-loop-never
invariant-loop-never l =
    l.said.items ++ filter (λ n. nat_eq n.line l.line) (drop l.never-index l.nevers)
    ≡ filter (λ n. nat_eq n.line l.line) l.nevers
