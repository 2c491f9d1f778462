use Rattle.std.proofs.Common.{◌≡◌, ◌+◌, ◌≤◌, All, map, length, vec_len, vec_capacity}
use Rattle.std.specs.Vec.Iter.{into_iter_items, into_iter_len}
use Rattle.fmp_board.specs.Boards.{IsAt}
use Rattle.fmp_hostrun.specs.Works.{job_of, seats_of}
use Rattle.fmp_hostrun.proofs.Joining.{ArePlaced}
use Rattle.fmp_hostrun.proofs.Starting.{Started}
use Rattle.fmp_hostrun.proofs.running.fn.run_threads.scope.Given as goal

abbrev pub invariant-loop-seat : goal.invariant-loop-seat
invariant-loop-seat g l =
    let first = l.initial.seat-iterator in
    let rest = l.seat-iterator in
    record {
      started : Started l.refused (into_iter_items first) (seats_of (map
          (λ h. job_of h.promise.part h.promise.seat.value) l.handles.items)) l.spared.items (into_iter_items rest);
      placed : ArePlaced l.load 0 (map (λ h. job_of h.promise.part h.promise.seat.value) l.handles.items);
      size : into_iter_len rest ≡ length (into_iter_items rest);
      at : All (IsAt g.B.Feed.row_id) (into_iter_items rest);
      count : vec_len l.handles + vec_len l.spared + into_iter_len rest ≤ into_iter_len first;
      room : into_iter_len first ≤ vec_capacity l.handles;
      spare_room : into_iter_len first ≤ vec_capacity l.spared;
    }
