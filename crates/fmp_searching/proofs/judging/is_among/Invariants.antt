use Rattle.std.proofs.Common.{◌≡◌, ◌==◌, drop}
use Rattle.std.specs.List.{list_any}
use Rattle.fmp_searching.proofs.judging.is_among.Given as goal

abbrev pub invariant-loop-other : goal.invariant-loop-other
invariant-loop-other l =
    list_any (λ other. l.place == other) (drop l.other-index l.places)
    ≡ list_any (λ other. l.place == other) l.places
