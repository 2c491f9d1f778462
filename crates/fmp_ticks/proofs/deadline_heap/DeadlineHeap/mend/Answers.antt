use Rattle.std.proofs.Common.{◌≡◌, List, ℕ, length, sym, ap, ◌∙◌, arith}
use Rattle.std.proofs.lemmas.List.{with_items_is}
use Rattle.fmp_ticks.specs.Slots.{Slots, rows_of}
use Rattle.fmp_ticks.proofs.HeldLemmas.{recount}
use Rattle.fmp_ticks.proofs.deadline_heap.DeadlineHeap.mend.Goals as goal

pub returns-clause-ranks : goal.returns-clause-ranks
returns-clause-ranks c =
    let first = c.as_mut_slice.ensures in
    let second = c.as_mut_slice-2.ensures in
    let tasks = sym (ap (λ (s : Slots). s.tasks) c.self.view_is) ∙ sym first.value in
    let ranks = sym (ap (λ (s : Slots). s.ranks) c.self.view_is) ∙ sym second.value in
    let alike : length c.as_mut_slice-2.result.now ≡ length c.as_mut_slice.result.now =
    ap (λ (l : List ℕ). length l) second.value ∙ c.self.invariant.2 ∙ sym (ap (λ (l : List ℕ). length l) first.value) in
    let wide : length c.mend.new.slots ≡ c.self.inside.slots.len = omega (arith, c.mend.ensures.slots, first.len) in
    let deep : length c.mend.new.ranks ≡ c.self.inside.ranks.len = omega
    (arith, c.mend.ensures.slots, c.mend.ensures.long, alike, second.len) in
    λ times r. recount times (rows_of c.mend.new.slots c.mend.new.ranks) _
    (sym (with_items_is c.self.inside.slots c.mend.new.slots wide)) (sym
    (with_items_is c.self.inside.ranks c.mend.new.ranks deep))
    (c.mend.ensures.ranks times (recount times c.args.self.now (rows_of c.as_mut_slice.result.now
    c.as_mut_slice-2.result.now) tasks ranks r))
