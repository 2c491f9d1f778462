use Rattle.std.proofs.Common.{◌∙◌, ◌+◌, ◌≤◌, arith, sym}
use Rattle.fmp_session.proofs.Taking.{has_again, has_no_more, stays_there}
use Rattle.fmp_view.proofs.SessionLemmas.{no_deed}
use Rattle.fmp_view.proofs.answering.taken_text.Goals as goal

pub returns-then-not-branch-clause-has : goal.returns-then-not-branch-clause-has
returns-then-not-branch-clause-has c =
    let mid = c.loop-turn.session in
    let takes = c.in_ok-take_one.ensures.takes in
    let same = takes.events ∙ no_deed takes.taken c.args.e mid.events.items (sym takes.is ∙ c.if-not-branch.true) in
    let few : c.loop-turn._turn + 1 ≤ c.args.times = omega (arith, c.loop-turn-test.true) in
    has_no_more c.args.session.now c.take_one.new.session c.args.e (c.loop-turn._turn + 1) c.args.times few
    (has_again c.args.session.now mid c.take_one.new.session c.args.e c.loop-turn._turn c.loop-turn.invariant.has
    c.in_ok-take_one.ensures.has)
    (stays_there mid c.take_one.new.session c.args.e c.in_ok-take_one.ensures.has same)
