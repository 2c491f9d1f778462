use Rattle.std.proofs.Common.{◌≡◌, [], ◌∷◌, ◌++◌, map, refl, ap, sym, ◌∙◌, subst, rules}
use Rattle.std.proofs.lemmas.List.{length-map, map-append}
use Rattle.fmp_hostrun.specs.Works.{AllAdded, Job, job_of, seats_of}
use Rattle.fmp_hostrun.proofs.Joining.{ArePlaced, all_added, all_joined, not_refused, placed_more, seats_last}
use Rattle.fmp_hostrun.proofs.Starting.{all_back, all_but_one, all_started, all_worked, mine_back, one_refused}
use Rattle.fmp_hostrun.proofs.Starting.{one_spared, one_started, seats_at}
use Rattle.fmp_hostrun.proofs.running.fn.run_threads.scope.Goals as goal

pub loop-seat-init : goal.loop-seat-init
loop-seat-init g c =
    let crew = c.captures.crew in
    search (crew.handles, crew.spared, rules)

pub joined-back-requires-clause-few : goal.joined-back-requires-clause-few
joined-back-requires-clause-few g c κs within = let crew = c.captures.crew in search (crew.few, rules)

pub joined-back-requires-clause-back : goal.joined-back-requires-clause-back
joined-back-requires-clause-back g c κs within = let crew = c.captures.crew in search (crew.back, rules)

pub with_seats-back-requires : goal.with_seats-back-requires
with_seats-back-requires g c = let crew = c.captures.crew in search (crew.back, rules)

pub loop-seat-preserved-then-refused : goal.loop-seat-preserved-then-refused
loop-seat-preserved-then-refused g c =
    let i = c.loop-seat.invariant in
    let step = c.in-Some.ensures.steps in
    record {
      started = one_spared _ _ _ _ _ _ _ _ c.if-refused.true i.started step.0 c.push_reserved.ensures.items;
      placed = search rules;
      size = search rules;
      at = seats_at _ _ _ _ i.at step.0;
      count = search rules;
      room = search rules;
      spare_room = search rules;
    }

pub loop-seat-preserved-in-Ok : goal.loop-seat-preserved-in-Ok
loop-seat-preserved-in-Ok g c =
    let i = c.loop-seat.invariant in
    let step = c.in-Some.ensures.steps in
    let held : job_of c.in-Ok.handle.promise.part c.in-Ok.handle.promise.seat.value
    ≡ job_of c.part-part.result c.in-Some.seat = search rules in
    let jobs : map (λ h. job_of h.promise.part h.promise.seat.value) c.push_reserved-in-Ok.new.self.items
    ≡ map (λ h. job_of h.promise.part h.promise.seat.value) c.loop-seat.handles.items
    ++ job_of c.part-part.result c.in-Some.seat ∷ [] =
    ap (map (λ h. job_of h.promise.part h.promise.seat.value)) c.push_reserved-in-Ok.ensures.items
    ∙ map-append (λ h. job_of h.promise.part h.promise.seat.value) c.loop-seat.handles.items (c.in-Ok.handle ∷ [])
    ∙ ap (λ (x : Job). map (λ h. job_of h.promise.part h.promise.seat.value) c.loop-seat.handles.items ++ x ∷ []) held
    in
    record {
      started = one_started _ _ _ _ _ _ _ _ c.if-refused.false i.started step.0 (ap seats_of jobs ∙ seats_last _ _);
      placed = subst (ArePlaced _ 0) (sym jobs) (placed_more _ 0 _ (job_of c.part-part.result c.in-Some.seat) i.placed
          (search (length-map, rules)));
      size = search rules;
      at = seats_at _ _ _ _ i.at step.0;
      count = search rules;
      room = search rules;
      spare_room = search rules;
    }

pub loop-seat-preserved : goal.loop-seat-preserved
loop-seat-preserved g c =
    let i = c.loop-seat.invariant in
    let step = c.in-Some.ensures.steps in
    record {
      started = one_refused _ _ _ _ _ _ _ c.if-refused.false i.started step.0;
      placed = search rules;
      size = search rules;
      at = seats_at _ _ _ _ i.at step.0;
      count = search rules;
      room = search rules;
      spare_room = search rules;
    }

pub returns-then-refused-2 : goal.returns-then-refused-2
returns-then-refused-2 g c =
    let i = c.loop-seat.invariant in
    let added = all_added _ _ _ _ _ _ _ _ c.joined-back.ensures.joined i.placed in
    record {
      added =
          all_but_one (AllAdded g.B.Feed.image g.B.Feed.bound g.B.Feed.row_id _ 0) _ _ _ _ _ _ _ _ c.if-refused-2.true
          i.started (sym i.size ∙ search rules) (search rules)
          (search rules) added;
      mine = tt;
      worked = λ other. absurd (other refl);
    }

pub returns : goal.returns
returns g c =
    let i = c.loop-seat.invariant in
    let added = all_added _ _ _ _ _ _ _ _ c.joined-back.ensures.joined i.placed in
    record {
      added =
          all_back (AllAdded g.B.Feed.image g.B.Feed.bound g.B.Feed.row_id _ 0) _ _ _ _ _ _ _ _ _ c.if-refused-2.false
          i.started (sym i.size ∙ search rules) (search rules)
          (search rules) added (not_refused _ _ _ _ _ _ _ c.joined-back.ensures.joined);
      mine = mine_back _ _ _ _ _ _ _ _ _ c.if-refused-2.false i.started (sym i.size ∙ search rules) (search rules)
          (search rules) c.joined-back.ensures.mine;
      worked = λ other.
          all_joined _ _ _ _ _ _ _ _ _ _ c.joined-back.ensures.joined i.placed
          (all_started _ _ _ _ _ _ c.if-refused-2.false i.started (sym i.size ∙ search rules) (search rules))
          (all_worked _ [] _ _ _ _ _ _ c.if-refused-2.false i.started (search rules));
    }
