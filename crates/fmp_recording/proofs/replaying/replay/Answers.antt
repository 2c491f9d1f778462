use Rattle.std.proofs.Common.{◌+◌, ◌≤◌, add-one, arith, drop, drop-cons, length}
use Rattle.std.proofs.lemmas.List.{drop_all}
use Rattle.fmp_trace.proofs.Appending.{on_err_from}
use Rattle.fmp_recording.proofs.Replays.{begins, came_cut_off, came_first, came_more, ends, goes_on, tied}
use Rattle.fmp_recording.proofs.replaying.replay.Goals as goal

pub loop-given-init : goal.loop-given-init
loop-given-init c =
    let old = c.args.hosted.now in
    let gs = c.args.recording.now in
    let before = c.args.trace.now.items in
    record { leads = begins old gs before; stands = came_first old gs before }

pub take_one-requires : goal.take_one-requires
take_one-requires c = tied _ _ _ _ _ _ c.loop-given.invariant.leads c.requires

pub loop-given-preserved : goal.loop-given-preserved
loop-given-preserved c =
    let old = c.args.hosted.now in
    let h = c.loop-given.hosted in
    let gs = c.args.recording.now in
    let i = c.loop-given.given-index in
    let before = c.args.trace.now.items in
    let text = c.loop-given.trace.items in
    let new = c.take_one.new.hosted in
    let after = c.take_one.new.trace.items in
    record {
      leads = goes_on old h gs (drop i gs) before text c.loop-given.invariant.leads _ (drop (i + 1) gs) new after
          c.in_ok-take_one.ensures.ok (rw add-one (drop-cons gs i _ c.loop-given-test.true));
      stands = came_more old h gs (drop i gs) before text c.loop-given.invariant.stands _ (drop (i + 1) gs) new after
          c.in_ok-take_one.ensures.ok (rw add-one (drop-cons gs i _ c.loop-given-test.true));
    }

pub returns-clause-ok : goal.returns-clause-ok
returns-clause-ok c =
    let gs = c.args.recording.now in
    let i = c.loop-given.given-index in
    let past = c.loop-given-test.false in
    let none : length gs ≤ i = omega (arith, past) in
    ends c.args.hosted.now c.loop-given.hosted gs (drop i gs) c.args.trace.now.items c.loop-given.trace.items
    c.loop-given.invariant.leads (drop_all i gs none)

pub returns-in_err-take_one-clause-stopped : goal.returns-in_err-take_one-clause-stopped
returns-in_err-take_one-clause-stopped c =
    let gs = c.args.recording.now in
    on_err_from _ (came_cut_off c.args.hosted.now c.loop-given.hosted gs (drop c.loop-given.given-index gs)
    c.args.trace.now.items c.loop-given.trace.items c.take_one.new.trace.items c.loop-given.invariant.stands
    c.in_err-take_one.ensures.kept)
