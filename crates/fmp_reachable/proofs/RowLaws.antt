-- States of which a row tells the same are alike.
use Rattle.std.proofs.Common.{◌≡◌, ◌≤◌, ℕ, [], Bool, true, false, refl, sym, ◌∙◌, subst, length, nat_lt}
use Rattle.fmp_base.specs.States.{KernelState}
use Rattle.fmp_base.specs.Systems.{SystemTables}
use Rattle.fmp_bisimulation.specs.Alike.{AlikeStates, SameBlocks, SameTimes, untimed}
use Rattle.fmp_reachable.specs.Behind.{IsOrderly, task_behind}
use Rattle.fmp_reachable.specs.Rows.{AreAhead, IsRegular, SameNumbers, SameRow}
use Rattle.fmp_reachable.specs.Values.{SameSizes}
use Rattle.fmp_reachable.proofs.HoldingLaws.{alike-told, beyond-behind, le_of, lt_of}
use Rattle.fmp_reachable.proofs.NumberLaws.{blocks-told, place-told, processors-told, times-told}
use Rattle.fmp_reachable.proofs.ValueLaws.{SameValues, values-told}

numbers-told : (sys : SystemTables) (s u : KernelState) → IsOrderly s → IsOrderly u → AreAhead s → AreAhead u
    → SameSizes s u
    → SameValues s u → SameNumbers sys s u → AlikeStates sys s u
numbers-told sys s u a b h k sizes values n = alike-told sys s u a b blocks behind times rest where
  blocks : SameBlocks s.clock u.clock s.tasks u.tasks
  blocks = blocks-told s.clock u.clock s.tasks u.tasks sizes.tasks h.tasks k.tasks n.tasks

  times : SameTimes s.clock u.clock s.due_times u.due_times
  times = times-told s.clock u.clock s.due_times u.due_times sizes.cyclics h.cyclics k.cyclics n.due_times

  processors : s.processors ≡ u.processors
  processors = processors-told s.processors u.processors sizes.processors n.processors

  rest : untimed s ≡ untimed u
  rest = λ i. record {
    tasks = [];
    order = [];
    semaphores = values.semaphores i;
    flags = values.flags i;
    data_queues = values.data_queues i;
    mailboxes = values.mailboxes i;
    shared_words = values.shared_words i;
    processors = processors i;
    due_times = [];
    pending_cyclics = values.pending_cyclics i;
    pending_interrupts = values.pending_interrupts i;
    clock = 0;
  }

  behind : (t : ℕ) → task_behind sys s t ≡ task_behind sys u t
  behind t = by_test (nat_lt t (length s.tasks)) refl where
    by_test : (c : Bool) → nat_lt t (length s.tasks) ≡ c → task_behind sys s t ≡ task_behind sys u t
    by_test true e = place-told (task_behind sys s t) (task_behind sys u t) (n.behind t (lt_of t (length s.tasks) e))
    by_test false e =
        let l : length s.tasks ≤ t = le_of t (length s.tasks) e in
        let m : length u.tasks ≤ t = subst (λ (x : ℕ). x ≤ t) sizes.tasks l in
        beyond-behind sys s t l ∙ sym (beyond-behind sys u t m)

pub rows-told : (sys : SystemTables) (s u : KernelState) → IsRegular sys s → IsRegular sys u → SameRow sys s u
    → AlikeStates sys s u
rows-told sys s u a b r =
    numbers-told sys s u a.orderly b.orderly a.ahead b.ahead r.sizes
    (values-told sys s u a.messages b.messages a.quiet b.quiet r.sizes r.values) r.numbers
