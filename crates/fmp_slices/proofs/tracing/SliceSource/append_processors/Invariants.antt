use Rattle.std.proofs.Common.{◌≡◌, ◌++◌, drop, take}
use Rattle.fmp_slices.specs.Traces.{source_of, turns_text, texts_from}
use Rattle.fmp_slices.proofs.tracing.SliceSource.append_processors.Given as goal

abbrev pub invariant-loop-place : goal.invariant-loop-place
invariant-loop-place l =
    l.out.items
    ++ texts_from (turns_text (source_of l.self)) l.place (drop l.place (take 255 l.self.run.now.occupants.items))
    ≡ l.initial.out.items ++ texts_from (turns_text (source_of l.self)) 0 (take 255 l.self.run.now.occupants.items)
