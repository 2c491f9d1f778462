use Rattle.std.proofs.Common.{◌≡◌, ◌+◌, ◌≤◌, ◌++◌, length, vec_len, vec_capacity}
use Rattle.std.specs.Vec.Iter.{into_iter_items, into_iter_len}
use Rattle.fmp_hostrun.proofs.running.with_seats.Given as goal

abbrev pub invariant-loop-seat : goal.invariant-loop-seat
invariant-loop-seat l =
    let rest = l.seat-iterator in
    (l.back.items ++ into_iter_items rest ≡ l.fn.back.items ++ l.fn.more.items)
    × (into_iter_len rest ≡ length (into_iter_items rest))
    × (vec_len l.back + into_iter_len rest ≤ vec_capacity l.back)
