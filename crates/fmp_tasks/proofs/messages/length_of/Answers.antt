use Rattle.std.proofs.Common.{◌<◌, Some, Option, ℕ, arith, length, sym, subst}
use Rattle.fmp_ring.specs.RingLists.{list_at, from_node}
use Rattle.fmp_tasks.proofs.WalkLemmas.{Past, past-few, past-in, past-one-more, past-shorter}
use Rattle.fmp_tasks.proofs.messages.length_of.Goals as goal

pub overflow_add-count : goal.overflow_add-count
overflow_add-count c =
    let list = list_at c.args.rings.now.lists c.args.x in
    let past : Past list (Some c.in-Some.u) c.loop-at.count = rw c.in-Some.is at c.loop-at.invariant in
    let below : c.loop-at.count < c.args.rings.now.nodes = past-few _ _ _ _ c.first-at.ensures.order past in
    omega (arith, below, c.requires.few)

pub loop-at-smaller : goal.loop-at-smaller
loop-at-smaller c =
    let list = list_at c.args.rings.now.lists c.args.x in
    let past : Past list (Some c.in-Some.u) c.loop-at.count = rw c.in-Some.is at c.loop-at.invariant in
    let follows = c.next-at.ensures.value c.args.x (past-in _ _ _ past) in
    let less = past-shorter _ _ _ _ _ c.first-at.ensures.order past follows in
    subst (λ (o : Option ℕ). length (from_node c.next-at.result list) < length (from_node o list))
    (sym c.in-Some.is) less

pub loop-at-preserved : goal.loop-at-preserved
loop-at-preserved c =
    let list = list_at c.args.rings.now.lists c.args.x in
    let past : Past list (Some c.in-Some.u) c.loop-at.count = rw c.in-Some.is at c.loop-at.invariant in
    past-one-more _ _ _ _ _ c.first-at.ensures.order past (c.next-at.ensures.value c.args.x (past-in _ _ _ past))
