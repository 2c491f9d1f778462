use Rattle.std.proofs.Common.{◌≡◌, ◌<◌, ◌≤◌, ℕ, length, get_or, set, sym, subst, arith, length-set, get_or-set_same}
use Rattle.fmp_ticks.specs.Slots.{rows_of}
use Rattle.fmp_ticks.proofs.HeldLemmas.{only_below, in_positions}
use Rattle.fmp_ticks.proofs.heap.mend.Goals as goal

pub descend_last-leaf-requires-clause-tasks : goal.descend_last-leaf-requires-clause-tasks
descend_last-leaf-requires-clause-tasks c =
    let d = c.descend-low in
    let here : d.result < length d.new.slots = omega (arith, d.ensures.open.here, d.ensures.open.within) in
    λ k inside apart. in_positions (rows_of c.args.slots.now c.args.ranks.now) d.new.slots d.new.ranks d.new.positions
    d.result k
    (get_or c.args.slots.now c.args.slot 0) (get_or c.args.ranks.now c.args.slot 0) d.ensures.rows here inside apart

pub rise-end-requires-clause-here : goal.rise-end-requires-clause-here
rise-end-requires-clause-here c =
    let open' = c.descend_last-leaf.ensures.open (get_or c.args.slots.now c.args.slot 0)
    (get_or c.args.ranks.now c.args.slot 0) c.descend-low.ensures.open in
    omega (arith, open'.here, open'.within)

pub rise-end-requires-clause-inverse : goal.rise-end-requires-clause-inverse
rise-end-requires-clause-inverse c = (c.descend_last-leaf.ensures.rows _ _ _ c.descend-low.ensures.rows).inverse

pub returns-clause-ranks : goal.returns-clause-ranks
returns-clause-ranks c =
    let rows = c.descend_last-leaf.ensures.rows _ _ _ c.descend-low.ensures.rows in
    λ times r. rw (c.put.ensures.slots, c.put.ensures.ranks)
    (c.rise-end.ensures.rows.kept times (rows.kept times r))

pub returns-clause-heap : goal.returns-clause-heap
returns-clause-heap c =
    let d = c.descend_last-leaf in
    let leaf = d.result in
    let rank = get_or c.args.ranks.now c.args.slot 0 in
    let rows = d.ensures.rows _ _ _ c.descend-low.ensures.rows in
    let open' = d.ensures.open (get_or c.args.slots.now c.args.slot 0) rank c.descend-low.ensures.open in
    let wide : leaf < length d.new.ranks = omega (arith, open'.here, open'.within, rows.ranks_long) in
    let one : get_or (set d.new.ranks leaf rank) leaf 0 ≡ rank = get_or-set_same d.new.ranks leaf rank 0 wide in
    let ranked : 1 ≤ get_or (set d.new.ranks leaf rank) leaf 0 = subst (λ (n : ℕ). 1 ≤ n) (sym one) c.requires.inside in
    rw (c.put.ensures.slots, c.put.ensures.ranks, length-set)
    (c.rise-end.ensures.heap c.args.count (only_below _ _ _ _ d.ensures.childless ranked open'))
