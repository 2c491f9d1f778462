use Rattle.std.proofs.Common.{ℕ, suc, ◌+◌, ◌*◌, ◌<◌, ◌≤◌, ◌≢◌, length, get_or, arith, length-set}
use Rattle.fmp_ticks.specs.Slots.{rows_of}
use Rattle.fmp_ticks.proofs.DepthLemmas.{shallow}
use Rattle.fmp_ticks.proofs.HeapLemmas.{descends}
use Rattle.fmp_ticks.proofs.HeldLemmas.{rows_moved, ranks_moved, first_of_two, first_whatever}
use Rattle.fmp_ticks.proofs.heap.descend.Goals as goal

pub loop-slot-preserved : goal.loop-slot-preserved
loop-slot-preserved c =
    let l = c.loop-slot in
    let child = c.first_child-child.result in
    let e = c.first_child-child.ensures in
    let first = first_of_two (λ (k : ℕ). get_or l.ranks k 0) c.args.count l.slot child e.low e.high
    (omega (arith, c.loop-slot-test.true)) e.left e.right in
    let task = get_or c.args.slots.now c.args.from 0 in
    let rank = get_or c.args.ranks.now c.args.from 0 in
    let low : l.slot * 2 + 1 ≤ child = first.low in
    let here : l.slot < length l.slots = omega (arith, l.invariant.open'.here, l.invariant.open'.within) in
    let there : child < length l.slots = omega (arith, first.there, l.invariant.open'.within) in
    let apart : child ≢ l.slot = λ z. absurd (omega (arith, low, z)) in
    let before = rows_of c.args.slots.now c.args.ranks.now in
    let x = ranks_moved before l.slots l.ranks l.positions l.slot child task rank l.invariant.rows here there apart in
    rw (c.put.ensures.slots, c.put.ensures.ranks, c.put.ensures.positions) (
    record {
      rows = rows_moved before l.slots l.ranks l.positions l.slot child task rank l.invariant.rows here there apart;
      open' = rw (length-set l.slots l.slot (get_or l.slots child 0))
          (descends _ _ _ _ l.slot child (first_whatever l.ranks c.args.count l.slot child rank first) x
          l.invariant.open');
      more = omega (arith, l.invariant.more, e.steps);
      counted = (
        suc l.invariant.counted.0,
        omega (arith, l.invariant.counted.1, low),
        omega (arith, l.invariant.counted.2, e.steps),
      );
    }
    )

pub returns-clause-steps : goal.returns-clause-steps
returns-clause-steps c =
    let l = c.loop-slot in
    let depth : l.invariant.counted.0 < 8 = shallow _ 8 (omega (
      arith,
      l.invariant.counted.1,
      l.invariant.open'.here,
      l.invariant.open'.within,
      l.invariant.rows.long,
      c.requires.inverse.few,
    )) in
    (l.invariant.more, omega (arith, depth, l.invariant.counted.2))
