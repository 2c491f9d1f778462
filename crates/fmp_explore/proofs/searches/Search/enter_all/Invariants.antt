use Rattle.std.specs.Prelude.{All}
use Rattle.std.specs.Prelude.{IfOk}
use Rattle.fmp_explore.specs.declared.searches.Search.{Search}
use Rattle.fmp_explore.specs.Slices.{IsInRound, IsSlice}
use Rattle.fmp_explore.proofs.searches.Search.enter_all.Given as goal
use Rattle.fmp_witness.specs.Asked.{asked_of}

abbrev pub invariant-loop-k : goal.invariant-loop-k
invariant-loop-k g l =
    (whole : Search) →
    IsInRound (asked_of l.subject) whole l.fn.progress.next l.fn.self →
    All (λ s. IfOk s (IsSlice (asked_of l.subject) whole)) l.slices →
    IsInRound (asked_of l.subject) whole l.progress.next l.self
