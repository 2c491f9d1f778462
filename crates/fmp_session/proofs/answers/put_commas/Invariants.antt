use Rattle.std.proofs.Common.{◌≡◌, ◌++◌, map, take, drop}
use Rattle.fmp_session.specs.Answers.{comma_for}
use Rattle.fmp_session.proofs.answers.put_commas.Given as goal

abbrev pub invariant-loop-byte : goal.invariant-loop-byte
invariant-loop-byte l =
    l.bytes ≡ map comma_for (take l.byte-index l.initial.bytes) ++ drop l.byte-index l.initial.bytes
