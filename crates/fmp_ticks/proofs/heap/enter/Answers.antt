use Rattle.std.proofs.Common.{ℕ, ◌+◌, ◌<◌, List, length, get_or, set, refl, subst, arith, length-set}
use Rattle.fmp_ticks.specs.Slots.{AreInverse}
use Rattle.fmp_ticks.proofs.HeldLemmas.{only_below, exchanged_twice}
use Rattle.fmp_ticks.proofs.SlotLemmas.{AreInverse-exchange}
use Rattle.fmp_ticks.proofs.heap.enter.Goals as goal

pub rise-end-requires-clause-inverse : goal.rise-end-requires-clause-inverse
rise-end-requires-clause-inverse c =
    let a = c.args in
    let here : a.count < length a.slots.now = omega (arith, c.requires.outside, c.requires.there) in
    let positions = set (set a.positions.now (get_or a.slots.now a.count 0) a.slot)
    (get_or a.slots.now a.slot 0) a.count in
    rw (c.put.ensures.slots, c.put.ensures.positions)
    (subst (λ (xs : List ℕ). AreInverse xs positions) (exchanged_twice a.slots.now a.count a.slot)
    (AreInverse-exchange a.slots.now a.positions.now a.count a.slot _ _ c.requires.inverse here c.requires.there refl
    refl))

pub returns-clause-ranks : goal.returns-clause-ranks
returns-clause-ranks c =
    λ times r. rw (c.put-2.ensures.slots, c.put-2.ensures.ranks)
    (c.rise-end.ensures.rows.kept times (rw (c.put.ensures.slots, c.put.ensures.ranks) r))

pub returns-clause-heap : goal.returns-clause-heap
returns-clause-heap c =
    rw (c.put-2.ensures.slots, c.put-2.ensures.ranks, length-set)
    (c.rise-end.ensures.heap (c.args.count + 1) (rw (c.put.ensures.slots, c.put.ensures.ranks, length-set)
    (only_below _ _ _ _ (omega arith) c.requires.inside c.requires.open)))
