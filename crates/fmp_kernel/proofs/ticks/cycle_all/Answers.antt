use Rattle.std.proofs.Common.{◌≡◌, ◌+◌, ◌-◌, ◌∷◌, ℕ, List, arith, ap, length, refl, subst, sym, ◌∙◌}
use Rattle.std.proofs.Math.Nat.{sub-zero}
use Rattle.fmp_base.specs.States.{Progress, places_from}
use Rattle.fmp_base.specs.Systems.{SystemTables}
use Rattle.fmp_base.specs.Ticks.{all_cycled, cycled, with_clock_advanced}
use Rattle.fmp_kernel.specs.NextTicks.{at_tick}
use Rattle.fmp_kernel.proofs.CyclicLemmas.{AreCycled, cycled-more, cycled_none, none_cycled, none_due_cyclic, none_of}
use Rattle.fmp_kernel.proofs.PlaceLemmas.{places_next}
use Rattle.fmp_kernel.proofs.ticks.cycle_all.Goals as goal
use Rattle.fmp_tasks.specs.Tables.{progress}

pub returns-then-is_none-clause-progress : goal.returns-then-is_none-clause-progress
returns-then-is_none-clause-progress c =
    let now = at_tick (progress c.args.tables.now c.args.caused.now.items) in
    sym (none_cycled c.args.tables.now.system now 0 c.args.count
    (sym c.due_cyclic.ensures.value ∙ none_of c.due_cyclic.result (rw c.if-is_none.true at c.is_none.ensures)))

pub returns-then-is_none-clause-none_due : goal.returns-then-is_none-clause-none_due
returns-then-is_none-clause-none_due c =
    sym c.due_cyclic.ensures.value ∙ none_of c.due_cyclic.result (rw c.if-is_none.true at c.is_none.ensures)

pub loop-c-init : goal.loop-c-init
loop-c-init c =
    let g = at_tick (progress c.args.tables.now c.args.caused.now.items) in
    record {
      progress = ap (λ (n : ℕ). all_cycled c.args.tables.now.system g (places_from 0 n)) (sub-zero c.args.count);
      cycled = cycled_none _;
      shape = record { system = refl; clock = refl };
      room = omega arith;
      capacity = refl;
    }

pub loop-c-preserved : goal.loop-c-preserved
loop-c-preserved c =
    let sys : SystemTables = c.args.tables.now.system in
    let k : ℕ = c.loop-c.c in
    let s = with_clock_advanced c.args.tables.now.state in
    let rest : List ℕ = places_from (k + 1) (c.args.count - (k + 1)) in
    let g = at_tick (progress c.loop-c.tables c.loop-c.caused.items) in
    let same = c.loop-c.invariant.shape.system in
    let all : places_from k (c.args.count - k) ≡ k ∷ rest = places_next k c.args.count (omega arith) in
    let after = at_tick (progress c.cycle.new.tables c.cycle.new.caused.items) in
    let next : after ≡ cycled sys g k =
    subst (λ (t : SystemTables). after ≡ cycled t g k) same c.cycle.ensures.progress in
    record {
      progress =
          ap (λ (x : Progress). all_cycled sys x rest) next ∙ sym (ap (λ (ps : List ℕ). all_cycled sys g ps) all)
          ∙ c.loop-c.invariant.progress;
      cycled =
          subst (λ (x : Progress). AreCycled s x.state (k + 1)) (sym next)
          (cycled-more sys s g k c.requires.range c.loop-c.invariant.cycled);
      shape = record {
        system = c.cycle.ensures.shape.system ∙ same;
        clock = c.cycle.ensures.shape.clock ∙ c.loop-c.invariant.shape.clock;
      };
      room = omega (arith, c.cycle.ensures.few, c.loop-c.invariant.room);
      capacity = c.cycle.ensures.capacity ∙ c.loop-c.invariant.capacity;
    }

pub returns-clause-tasks : goal.returns-clause-tasks
returns-clause-tasks c = c.loop-c.invariant.cycled.tasks

pub returns-clause-none_due : goal.returns-clause-none_due
returns-clause-none_due c =
    let s = with_clock_advanced c.args.tables.now.state in
    let u = with_clock_advanced c.loop-c.tables.state in
    let last : c.loop-c.c ≡ c.args.count = omega arith in
    let long : length c.args.tables.now.state.due_times ≡ c.args.count =
    omega (arith, c.cyclic_count.ensures.due_times, c.cyclic_count.ensures.system, c.requires.count) in
    none_due_cyclic s u c.args.count (subst (λ (n : ℕ). AreCycled s u n) last c.loop-c.invariant.cycled) long
