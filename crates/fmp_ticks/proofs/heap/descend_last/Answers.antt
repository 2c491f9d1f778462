use Rattle.std.proofs.Common.{◌≢◌, ℕ, ◌+◌, ◌*◌, ◌<◌, get_or, arith, length-set}
use Rattle.fmp_ticks.proofs.HeapLemmas.{descends}
use Rattle.fmp_ticks.proofs.HeldLemmas.{rows_moved, held_moved, first_whatever, only_child}
use Rattle.fmp_ticks.proofs.heap.descend_last.Goals as goal

pub returns-clause-rows : goal.returns-clause-rows
returns-clause-rows c =
    let a = c.args in
    let child = a.from * 2 + 1 in
    let there : child < a.count = omega (arith, c.if-child-count.false) in
    let apart : child ≢ a.from = λ z. absurd (omega (arith, z)) in
    λ before task rank h.
    rw (c.put.ensures.slots, c.put.ensures.ranks, c.put.ensures.positions)
    (rows_moved before a.slots.now a.ranks.now a.positions.now a.from child task rank h
    (omega (arith, c.requires.here, c.requires.within)) (omega (arith, there, c.requires.within)) apart)

pub returns-clause-open : goal.returns-clause-open
returns-clause-open c =
    let a = c.args in
    let child = a.from * 2 + 1 in
    let there : child < a.count = omega (arith, c.if-child-count.false) in
    let apart : child ≢ a.from = λ z. absurd (omega (arith, z)) in
    λ task rank h.
    rw (c.put.ensures.slots, c.put.ensures.ranks, length-set a.slots.now a.from (get_or a.slots.now child 0))
    (descends _ _ _ _ a.from child (first_whatever a.ranks.now a.count a.from child rank
    (only_child (λ (k : ℕ). get_or a.ranks.now k 0) a.count a.from there c.requires.few))
    (held_moved a.ranks.now a.from child rank (omega (arith, c.requires.here, c.requires.within, c.requires.long))
    (omega (arith, there, c.requires.within, c.requires.long)) apart) h)
