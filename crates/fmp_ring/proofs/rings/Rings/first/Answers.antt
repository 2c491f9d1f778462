use Rattle.std.proofs.Common.{◌<◌, length, arith}
use Rattle.fmp_ring.specs.Chains.{lists_of}
use Rattle.fmp_ring.proofs.LinkLemmas.{length-lists_of, AreRings-some, AreRings-none, AreRings-order}
use Rattle.fmp_ring.proofs.rings.Rings.first.Goals as goal

pub overflow_add-self-inside : goal.overflow_add-self-inside
overflow_add-self-inside c =
    let there : c.args.h < c.self.inside.heads = rw (← c.self.view_is, length-lists_of) at c.requires in
    omega arith

pub get-x-requires : goal.get-x-requires
get-x-requires c =
    let there : c.args.h < c.self.inside.heads = rw (← c.self.view_is, length-lists_of) at c.requires in
    omega arith

pub returns-then-x-self-clause-value : goal.returns-then-x-self-clause-value
returns-then-x-self-clause-value c =
    let there : c.args.h < c.self.inside.heads = rw (← c.self.view_is, length-lists_of) at c.requires in
    rw (← c.self.view_is, c.get-x.ensures.link) (AreRings-some _ _ _ _ _ c.self.invariant there
    (rw c.get-x.ensures.link at c.if-x-self.true))

pub returns-else-x-self-clause-value : goal.returns-else-x-self-clause-value
returns-else-x-self-clause-value c =
    let there : c.args.h < c.self.inside.heads = rw (← c.self.view_is, length-lists_of) at c.requires in
    rw (← c.self.view_is) (AreRings-none _ _ _ _ _ c.self.invariant there
    (rw c.get-x.ensures.link at c.if-x-self.false))

pub returns-then-x-self-clause-order : goal.returns-then-x-self-clause-order
returns-then-x-self-clause-order c =
    let low : c.args.h < length (lists_of c.self.inside.nodes c.self.inside.heads c.self.inside.next) = rw
    (← c.self.view_is) at c.requires in
    rw (← c.self.view_is) (AreRings-order _ _ _ _ _ c.self.invariant low)

pub returns-else-x-self-clause-order : goal.returns-else-x-self-clause-order
returns-else-x-self-clause-order c =
    let low : c.args.h < length (lists_of c.self.inside.nodes c.self.inside.heads c.self.inside.next) = rw
    (← c.self.view_is) at c.requires in
    rw (← c.self.view_is) (AreRings-order _ _ _ _ _ c.self.invariant low)
