use Rattle.std.proofs.Common.{◌<◌, ◌≤◌, Some, Option, ℕ, length, sym, subst}
use Rattle.fmp_base.specs.MailboxCalls.{message_priority}
use Rattle.fmp_base.specs.Systems.{tables_of}
use Rattle.fmp_ring.specs.Places.{Walked}
use Rattle.fmp_ring.specs.PlaceLaws.{Walked-step, Walked-shorter, Walked-in, Walked-stop}
use Rattle.fmp_ring.specs.RingLists.{list_at, from_node}
use Rattle.fmp_tasks.proofs.messages.place.Goals as goal

pub returns-then-priority_of : goal.returns-then-priority_of
returns-then-priority_of c =
    let f = message_priority (tables_of c.args.sys.now) in
    let list = list_at c.args.rings.now.lists c.args.x in
    let walked : Walked f c.args.g list (Some c.in-Some.u) = rw c.in-Some.is at c.loop-at.invariant in
    let less : f c.args.g < f c.in-Some.u = rw (c.priority_of.ensures, c.priority_of-in-Some.ensures) at
    c.if-priority_of.true in
    Walked-stop _ _ _ _ _ c.first-at.ensures.order walked less

pub loop-at-smaller : goal.loop-at-smaller
loop-at-smaller c =
    let f = message_priority (tables_of c.args.sys.now) in
    let list = list_at c.args.rings.now.lists c.args.x in
    let walked : Walked f c.args.g list (Some c.in-Some.u) = rw c.in-Some.is at c.loop-at.invariant in
    let follows = c.next-at.ensures.value c.args.x (Walked-in _ _ _ _ walked) in
    let less = Walked-shorter _ _ _ _ _ _ c.first-at.ensures.order walked follows in
    subst (λ (o : Option ℕ). length (from_node c.next-at.result list) < length (from_node o list))
    (sym c.in-Some.is) less

pub loop-at-preserved : goal.loop-at-preserved
loop-at-preserved c =
    let f = message_priority (tables_of c.args.sys.now) in
    let list = list_at c.args.rings.now.lists c.args.x in
    let walked : Walked f c.args.g list (Some c.in-Some.u) = rw c.in-Some.is at c.loop-at.invariant in
    let least : f c.in-Some.u ≤ f c.args.g = rw (c.priority_of.ensures, c.priority_of-in-Some.ensures) at
    c.if-priority_of.false in
    let follows = c.next-at.ensures.value c.args.x (Walked-in _ _ _ _ walked) in
    Walked-step _ _ _ _ _ _ c.first-at.ensures.order walked least follows
