use Rattle.std.proofs.Common.{IfOk}
use Rattle.std.proofs.lemmas.List.Elements.{All-get_or}
use Rattle.fmp_explore.specs.Slices.{IsSlice}
use Rattle.fmp_explore.proofs.searches.Search.enter_all.Goals as goal
use Rattle.fmp_witness.specs.Asked.{asked_of}

pub loop-k-init : goal.loop-k-init
loop-k-init g c = λ whole round all. round

pub loop-k-preserved : goal.loop-k-preserved
loop-k-preserved g c = λ whole round all.
    let asked = asked_of c.args.subject.now in
    let l = c.loop-k in
    let made = All-get_or (λ r. IfOk r (IsSlice asked whole)) c.args.slices.now l.k
    c.index-slices-k.result c.loop-k-test.true all in
    c.in_ok-enter_made.ensures whole (rw c.index-slices-k.is made) (l.invariant whole round all)

pub returns-then-not-branch : goal.returns-then-not-branch
returns-then-not-branch g c = λ whole all round.
    let asked = asked_of c.args.subject.now in
    let l = c.loop-k in
    let made = All-get_or (λ r. IfOk r (IsSlice asked whole)) c.args.slices.now l.k
    c.index-slices-k.result c.loop-k-test.true all in
    rw c.put_off.ensures
    (c.in_ok-enter_made.ensures whole (rw c.index-slices-k.is made) (l.invariant whole round all))

pub returns : goal.returns
returns g c = λ whole all round. rw c.resume.ensures (c.loop-k.invariant whole round all)
