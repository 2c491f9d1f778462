use Rattle.std.proofs.Common.{◌≡◌, ◌+◌, [], ◌∷◌, ◌++◌, vec_len, sym, ◌∙◌, rules}
use Rattle.fmp_hostrun.specs.Works.{job_of}
use Rattle.fmp_hostrun.proofs.Joining.{all_counted, all_first, counts_fit, joined_as, more_of, none_counted}
use Rattle.fmp_hostrun.proofs.Joining.{none_joined, one_counted, one_fewer, one_joined}
use Rattle.fmp_hostrun.proofs.running.joined.Goals as goal

pub loop-handle-init : goal.loop-handle-init
loop-handle-init g c =
    record {
      first = [];
      are = search rules;
      joined = none_joined g.B.Feed.image g.B.Feed.bound g.B.Feed.row_id g.G.Gate.is_open _ c.requires.back.0;
      mine = search (none_counted, rules);
      size = search rules;
      count = search rules;
      room = search rules;
      capacity = search rules;
    }

pub with_more-journaled-requires : goal.with_more-journaled-requires
with_more-journaled-requires g c =
    let i = c.loop-handle.invariant in
    counts_fit _ _ _ _ (job_of c.in-Some.handle.promise.part c.in-Some.handle.promise.seat.value)
    c.join-worked.result.seat _ _ c.requires.room (search rules) i.mine
    (more_of g.B.Feed.image g.B.Feed.bound g.B.Feed.row_id g.G.Gate.is_open
    (job_of c.in-Some.handle.promise.part c.in-Some.handle.promise.seat.value) c.join-worked.result.seat
    c.join-worked.result.journaled c.join-worked.ensures)

pub loop-handle-preserved : goal.loop-handle-preserved
loop-handle-preserved g c =
    let i = c.loop-handle.invariant in
    let step = c.in-Some.ensures.steps in
    let x = job_of c.in-Some.handle.promise.part c.in-Some.handle.promise.seat.value in
    let more : vec_len c.push_reserved.new.self ≡ vec_len c.loop-handle.back + 1 = search rules in
    record {
      first = i.first ++ x ∷ [];
      are = one_fewer (λ h. job_of h.promise.part h.promise.seat.value) i.first _ _ _ _ i.are step.0;
      joined = one_joined g.B.Feed.image g.B.Feed.bound g.B.Feed.row_id g.G.Gate.is_open _ _ _ x
          c.join-worked.result.seat _ c.join-worked.result.journaled _ i.joined c.join-worked.ensures
          c.push_reserved.ensures.items c.with_more-journaled.ensures;
      mine =
          rw more
          (one_counted _ _ _ _ _ x _ _ _ _ c.requires.room i.mine (more_of g.B.Feed.image g.B.Feed.bound
          g.B.Feed.row_id g.G.Gate.is_open (job_of c.in-Some.handle.promise.part
          c.in-Some.handle.promise.seat.value) c.join-worked.result.seat c.join-worked.result.journaled
          c.join-worked.ensures) c.push_reserved.ensures.items c.with_more-journaled.ensures);
      size = search rules;
      count = search rules;
      room = search rules;
      capacity = search rules;
    }

pub returns-clause-joined : goal.returns-clause-joined
returns-clause-joined g c =
    let i = c.loop-handle.invariant in
    joined_as _ _ _ _ _ _ _ _ (all_first (λ h. job_of h.promise.part h.promise.seat.value) _ _ _ i.are
    (sym i.size ∙ search rules)) i.joined

pub returns-clause-mine : goal.returns-clause-mine
returns-clause-mine g c =
    let i = c.loop-handle.invariant in
    all_counted _ _ _ _ _ (all_first (λ h. job_of h.promise.part h.promise.seat.value) _ _ _ i.are
    (sym i.size ∙ search rules)) i.mine
