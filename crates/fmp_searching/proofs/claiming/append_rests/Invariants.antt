use Rattle.std.proofs.Common.{◌≡◌, ◌++◌, drop}
use Rattle.fmp_searching.specs.Claims.{rests_text}
use Rattle.fmp_searching.proofs.claiming.append_rests.Given as goal

abbrev pub invariant-loop-t : goal.invariant-loop-t
invariant-loop-t l =
    l.out.items ++ rests_text (drop l.t l.tasks) (drop l.t l.rest)
    ≡ l.initial.out.items ++ rests_text l.tasks l.rest
