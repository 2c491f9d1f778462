use Rattle.std.proofs.Common.{◌≡◌, ◌++◌, drop}
use Rattle.fmp_import.specs.Written.{more_text}
use Rattle.fmp_import.proofs.writing.append_more.Given as goal

abbrev pub invariant-loop-item : goal.invariant-loop-item
invariant-loop-item l =
    l.out.items ++ more_text l.source (drop l.item-index l.items) ≡ l.initial.out.items ++ more_text l.source l.items
