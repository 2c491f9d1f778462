use Rattle.std.proofs.Common.{◌≡◌, List, ℕ, length, sym, ap, ◌∙◌, arith}
use Rattle.std.proofs.lemmas.List.{with_items_is}
use Rattle.fmp_ticks.specs.Slots.{Slots, exchanged, entered, rows_of}
use Rattle.fmp_ticks.proofs.HeldLemmas.{recount}
use Rattle.fmp_ticks.proofs.deadline_heap.DeadlineHeap.enter.Goals as goal

pub returns-clause-ranks : goal.returns-clause-ranks
returns-clause-ranks c =
    let first = c.as_mut_slice.ensures in
    let second = c.as_mut_slice-2.ensures in
    let m = c.enter in
    let slot = c.args.slot in
    let end = c.self.inside.count in
    let tasks : (entered c.args.self.now slot).tasks ≡ exchanged c.as_mut_slice.result.now slot end =
    ap (λ (s : Slots). exchanged s.tasks slot s.count) (sym c.self.view_is)
    ∙ ap (λ (xs : List ℕ). exchanged xs slot end) (sym first.value) in
    let ranks : (entered c.args.self.now slot).ranks ≡ exchanged c.as_mut_slice-2.result.now slot end =
    ap (λ (s : Slots). exchanged s.ranks slot s.count) (sym c.self.view_is)
    ∙ ap (λ (xs : List ℕ). exchanged xs slot end) (sym second.value) in
    let alike : length c.as_mut_slice-2.result.now ≡ length c.as_mut_slice.result.now =
    ap (λ (l : List ℕ). length l) second.value ∙ c.self.invariant.2
    ∙ sym (ap (λ (l : List ℕ). length l) first.value) in
    let wide : length m.new.slots ≡ c.self.inside.slots.len = omega (arith, m.ensures.slots, first.len) in
    let deep : length m.new.ranks ≡ c.self.inside.ranks.len =
    omega (arith, m.ensures.slots, m.ensures.long, alike, second.len) in
    λ times r. recount times (rows_of m.new.slots m.new.ranks) _
    (sym (with_items_is c.self.inside.slots m.new.slots wide)) (sym (with_items_is c.self.inside.ranks m.new.ranks
    deep))
    (m.ensures.ranks times (recount times (entered c.args.self.now slot)
    (rows_of (exchanged c.as_mut_slice.result.now slot end) (exchanged c.as_mut_slice-2.result.now slot end)) tasks
    ranks r))
