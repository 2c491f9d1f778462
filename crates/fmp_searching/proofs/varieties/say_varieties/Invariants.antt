use Rattle.std.proofs.Common.{◌≡◌, ◌++◌, drop}
use Rattle.std.specs.List.{flat_map}
use Rattle.fmp_searching.specs.Extent.{varied_line}
use Rattle.fmp_searching.specs.Sources.{source_tables}
use Rattle.fmp_searching.proofs.varieties.say_varieties.Given as goal

abbrev pub invariant-loop-variety : goal.invariant-loop-variety
invariant-loop-variety l =
    l.out.items ++ flat_map (λ v. varied_line (source_tables l.sources) l.most v) (drop l.variety-index l.varieties)
    ≡ l.initial.out.items ++ flat_map (λ v. varied_line (source_tables l.sources) l.most v) l.varieties
