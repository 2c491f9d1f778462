use Rattle.std.proofs.Common.{◌≡◌, drop, map}
use Rattle.std.specs.List.{list_any}
use Rattle.std.specs.Str.{bytes_eq}
use Rattle.fmp_arguments.proofs.values.is_among.Given as goal

abbrev pub invariant-loop-one : goal.invariant-loop-one
invariant-loop-one l =
    list_any (λ one. bytes_eq one l.word) (map (λ one. one.now) (drop l.one-index l.words))
    ≡ list_any (λ one. bytes_eq one l.word) (map (λ one. one.now) l.words)
