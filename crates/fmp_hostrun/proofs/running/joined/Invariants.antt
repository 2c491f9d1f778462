use Rattle.std.proofs.Common.{◌≡◌, ◌+◌, ◌≤◌, ◌++◌, List, IfOk, map, length, vec_len, vec_capacity}
use Rattle.std.specs.Vec.Iter.{into_iter_items, into_iter_len}
use Rattle.fmp_hostrun.specs.Works.{Job, AllGave, job_of}
use Rattle.fmp_hostrun.proofs.Joining.{IsCount}
use Rattle.fmp_hostrun.proofs.running.joined.Given as goal

-- the seats so far are those of the first handles, and the count is theirs
abbrev pub invariant-loop-handle : goal.invariant-loop-handle
invariant-loop-handle g l =
    let rest = l.handle-iterator in
    record {
      first : List Job;
      are : first ++ map (λ h. job_of h.promise.part h.promise.seat.value) (into_iter_items rest)
          ≡ map (λ h. job_of h.promise.part h.promise.seat.value) l.fn.handles.items;
      joined : AllGave g.B.Feed.image g.B.Feed.bound g.B.Feed.row_id g.G.Gate.is_open first l.back.items l.journaled;
      mine : IfOk l.journaled (IsCount (vec_len l.back) first l.back.items);
      size : into_iter_len rest ≡ length (into_iter_items rest);
      count : vec_len l.back + into_iter_len rest ≡ vec_len l.fn.handles;
      room : vec_len l.back + into_iter_len rest ≤ vec_capacity l.back;
      capacity : vec_capacity l.back ≡ vec_capacity l.fn.back;
    }
