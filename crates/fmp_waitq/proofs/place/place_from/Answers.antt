use Rattle.std.proofs.Common.{◌<◌, ◌≤◌, Some, Option, ℕ, length, sym, subst, arith}
use Rattle.fmp_base.specs.Queues.{priority_in}
use Rattle.fmp_ring.specs.RingLists.{list_at, from_node}
use Rattle.fmp_ring.specs.Places.{Walked}
use Rattle.fmp_ring.specs.PlaceLaws.{Walked-step, Walked-shorter, Walked-in, Walked-stop}
use Rattle.fmp_waitq.proofs.place.place_from.Goals as goal

pub returns-then-priority_at-clause-place : goal.returns-then-priority_at-clause-place
returns-then-priority_at-clause-place c =
    let walked : Walked (priority_in c.args.blocks.now) c.args.t (list_at c.args.rings.now.lists c.args.head)
    (Some c.in-Some.u) = rw c.in-Some.is at c.loop-at.invariant.walked in
    let less : priority_in c.args.blocks.now c.args.t < priority_in c.args.blocks.now c.in-Some.u =
    rw (c.priority_at.ensures, c.priority_at-in-Some.ensures) at c.if-priority_at.true in
    Walked-stop _ _ _ _ _ c.requires.order walked less

pub loop-at-smaller : goal.loop-at-smaller
loop-at-smaller c =
    let walked : Walked (priority_in c.args.blocks.now) c.args.t (list_at c.args.rings.now.lists c.args.head)
    (Some c.in-Some.u) = rw c.in-Some.is at c.loop-at.invariant.walked in
    let there = Walked-in _ _ _ _ walked in
    let less = Walked-shorter _ _ _ _ _ _ c.requires.order walked (c.next-at.ensures.value c.args.head there) in
    subst (λ (o : Option ℕ). length (from_node c.next-at.result (list_at c.args.rings.now.lists c.args.head)) < length
    (from_node o (list_at c.args.rings.now.lists c.args.head))) (sym c.in-Some.is) less

pub loop-at-preserved : goal.loop-at-preserved
loop-at-preserved c =
    let list = list_at c.args.rings.now.lists c.args.head in
    let walked : Walked (priority_in c.args.blocks.now) c.args.t list (Some c.in-Some.u) = rw c.in-Some.is at
    c.loop-at.invariant.walked in
    let least : priority_in c.args.blocks.now c.in-Some.u ≤ priority_in c.args.blocks.now c.args.t =
    rw (c.priority_at.ensures, c.priority_at-in-Some.ensures) at c.if-priority_at.false in
    let follows = c.next-at.ensures.value c.args.head (Walked-in _ _ _ _ walked) in
    let less = Walked-shorter _ _ _ _ _ _ c.requires.order walked follows in
    let most = rw c.in-Some.is at c.loop-at.invariant.most in
    let before = c.loop-at.invariant.least in
    let counted = c.next-at.ensures.steps in
    record {
      walked = Walked-step _ _ _ _ _ _ c.requires.order walked least follows;
      least = omega arith;
      most = omega arith;
    }
