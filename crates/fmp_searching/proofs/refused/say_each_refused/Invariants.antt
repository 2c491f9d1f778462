use Rattle.std.proofs.Common.{◌≡◌, ◌++◌, drop, map}
use Rattle.std.specs.List.{flat_map}
use Rattle.fmp_frames.specs.Refusals.{refused_of}
use Rattle.fmp_searching.specs.Extent.{refused_line}
use Rattle.fmp_searching.specs.Sources.{source_tables}
use Rattle.fmp_searching.proofs.refused.say_each_refused.Given as goal

abbrev pub invariant-loop-call : goal.invariant-loop-call
invariant-loop-call l =
    l.out.items ++ flat_map (λ x. refused_line (source_tables l.sources) x) (map refused_of (drop l.call-index l.calls))
    ≡ l.initial.out.items ++ flat_map (λ x. refused_line (source_tables l.sources) x) (map refused_of l.calls)
