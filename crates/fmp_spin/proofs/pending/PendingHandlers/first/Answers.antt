use Rattle.std.proofs.Common.{◌<◌, ◌-◌, arith}
use Rattle.fmp_spin.specs.Pending.{marks_view}
use Rattle.fmp_spin.proofs.PendingLemmas.{first-is_interrupt, first-is_cyclic, first-is_none, quiet-clear}
use Rattle.fmp_spin.proofs.pending.PendingHandlers.first.Goals as goal

pub returns-in-Some-clause-value : goal.returns-in-Some-clause-value
returns-in-Some-clause-value c =
    let there : c.args.p < c.self.inside.processors = rw (← c.self.view_is) at c.requires in
    rw (← c.self.view_is) (first-is_interrupt _ _ (marks_view c.self.inside) c.args.p c.in-Some.slot
    c.self.invariant.bitmaps there (rw c.as_slice.ensures.value at c.in-Some.ensures) c.if-slot-lt-CYCLICS.true).0

pub returns-in-Some-clause-there : goal.returns-in-Some-clause-there
returns-in-Some-clause-there c =
    let there : c.args.p < c.self.inside.processors = rw (← c.self.view_is) at c.requires in
    rw (← c.self.view_is) (first-is_interrupt _ _ (marks_view c.self.inside) c.args.p c.in-Some.slot
    c.self.invariant.bitmaps there (rw c.as_slice.ensures.value at c.in-Some.ensures) c.if-slot-lt-CYCLICS.true).1

pub returns-in-Some-2-clause-value : goal.returns-in-Some-2-clause-value
returns-in-Some-2-clause-value c =
    let there : c.args.p < c.self.inside.processors = rw (← c.self.view_is) at c.requires in
    rw (← c.self.view_is) (first-is_cyclic _ _ (marks_view c.self.inside) c.args.p c.in-Some.slot (c.in-Some.slot - 64)
    c.self.invariant.bitmaps there (omega (arith, c.self.invariant.interrupts))
    (rw c.as_slice.ensures.value at c.in-Some.ensures) (omega (arith, c.if-slot-lt-CYCLICS.false))).0

pub returns-in-Some-2-clause-there : goal.returns-in-Some-2-clause-there
returns-in-Some-2-clause-there c =
    let there : c.args.p < c.self.inside.processors = rw (← c.self.view_is) at c.requires in
    rw (← c.self.view_is) (first-is_cyclic _ _ (marks_view c.self.inside) c.args.p c.in-Some.slot (c.in-Some.slot - 64)
    c.self.invariant.bitmaps there (omega (arith, c.self.invariant.interrupts))
    (rw c.as_slice.ensures.value at c.in-Some.ensures) (omega (arith, c.if-slot-lt-CYCLICS.false))).1

pub returns-in-None-clause-value : goal.returns-in-None-clause-value
returns-in-None-clause-value c =
    let there : c.args.p < c.self.inside.processors = rw (← c.self.view_is) at c.requires in
    rw (← c.self.view_is) (first-is_none _ _ (marks_view c.self.inside) c.args.p c.self.invariant.bitmaps there
    (omega (arith, c.self.invariant.interrupts)) c.self.invariant.few
    (rw c.as_slice.ensures.value at c.in-None.ensures))

pub index-requires : goal.index-requires
index-requires c =
    let there : c.args.p < c.self.inside.processors = rw (← c.self.view_is) at c.requires in
    omega (arith, there, c.self.invariant.busy)

pub returns-then-not-index-clause-value : goal.returns-then-not-index-clause-value
returns-then-not-index-clause-value c =
    let there : c.args.p < c.self.inside.processors = rw (← c.self.view_is) at c.requires in
    rw (← c.self.view_is) (first-is_none _ _ (marks_view c.self.inside) c.args.p c.self.invariant.bitmaps there
    (omega (arith, c.self.invariant.interrupts)) c.self.invariant.few
    (quiet-clear c.self.inside.words.items c.self.inside.busy.items c.args.p c.index.result.now c.self.invariant.quiet
    c.index.ensures c.if-not-index.true
    (omega (arith, there, c.self.invariant.busy))))
