use Rattle.std.proofs.Common.{◌≡◌, ◌∙◌, ◌<◌, ◌≤◌, ap, arith, length, sym, vec_len}
use Rattle.std.proofs.lemmas.Bool.Decides.{nat_tests}
use Rattle.fmp_base.specs.Outcomes.{code}
use Rattle.fmp_base.specs.States.{Progress, places_from, task_at}
use Rattle.fmp_base.specs.Systems.{SystemTables}
use Rattle.fmp_base.specs.Ticks.{all_timed_out, timeout_code}
use Rattle.fmp_kernel.specs.NextTicks.{at_tick}
use Rattle.fmp_kernel.proofs.TickLemmas.{IsFirstDue, first_is_due, late, none_due, passed-next, release_first, stay_all}
use Rattle.fmp_kernel.proofs.TickLemmas.{tick-released, timed-release}
use Rattle.fmp_kernel.proofs.ticks.time_out_all.Goals as goal
use Rattle.fmp_tasks.specs.Tables.{progress}

pub loop-t-preserved : goal.loop-t-preserved
loop-t-preserved c =
    let now = at_tick (progress c.loop-t.tables c.loop-t.caused.items) in
    let t = c.in-Some.t in
    let after = at_tick (progress c.time_out.new.tables c.time_out.new.caused.items) in
    let all = places_from 0 (length c.args.tables.now.state.tasks) in
    let first : IsFirstDue now.state.clock now.state.tasks t = first_is_due now.state.clock t now.state.tasks
    (sym c.in-Some.ensures.value) in
    let same : length c.loop-t.tables.system.tasks ≡ length c.args.tables.now.system.tasks = ap
    (λ (s : SystemTables). length s.tasks) c.loop-t.invariant.shape.system in
    let below : t < length c.args.tables.now.state.tasks = omega (
      arith,
      c.in-Some.ensures.there,
      same,
      c.task_count-count.ensures.count,
      c.task_count-count.ensures.configs,
    ) in
    let there : t < length c.loop-t.tables.system.tasks = c.in-Some.ensures.there in
    let low : vec_len c.loop-t.caused ≤ t = late now (vec_len c.loop-t.caused) t c.loop-t.invariant.passed first in
    let x = task_at now.state.tasks t in
    let is : after ≡ release_first now t =
    ap at_tick c.time_out.ensures.progress ∙ tick-released (progress c.loop-t.tables c.loop-t.caused.items) t x
    (code (timeout_code x.phase)) in
    record {
      progress = ap (λ (g : Progress). all_timed_out g all) is
          ∙ timed-release now t (length c.args.tables.now.state.tasks) first below ∙ c.loop-t.invariant.progress;
      shape = record {
        system = c.time_out.ensures.shape.system ∙ c.loop-t.invariant.shape.system;
        clock = c.time_out.ensures.shape.clock ∙ c.loop-t.invariant.shape.clock;
      };
      passed = rw c.time_out.ensures.one_more (passed-next now after t (vec_len c.loop-t.caused)
          c.loop-t.invariant.passed first is);
      few = omega (arith, low, there, same, c.time_out.ensures.one_more);
      capacity = c.time_out.ensures.capacity ∙ c.loop-t.invariant.capacity;
    }

pub returns-clause-progress : goal.returns-clause-progress
returns-clause-progress c =
    let now = at_tick (progress c.loop-t.tables c.loop-t.caused.items) in
    let count = length c.args.tables.now.state.tasks in
    sym (stay_all now 0 count (none_due now.state.clock now.state.tasks (sym c.in_default.ensures.value)))
    ∙ c.loop-t.invariant.progress

pub prove-unreachable-requires : goal.prove-unreachable-requires
prove-unreachable-requires c =
    let now = at_tick (progress c.loop-t.tables c.loop-t.caused.items) in
    let t = c.in-Some.t in
    let first : IsFirstDue now.state.clock now.state.tasks t = first_is_due now.state.clock t now.state.tasks
    (sym c.in-Some.ensures.value) in
    let same : length c.loop-t.tables.system.tasks ≡ length c.args.tables.now.system.tasks = ap
    (λ (s : SystemTables). length s.tasks) c.loop-t.invariant.shape.system in
    let low : vec_len c.loop-t.caused ≤ t = late now (vec_len c.loop-t.caused) t c.loop-t.invariant.passed first in
    grind (
      arith,
      nat_tests,
      low,
      same,
      c.in-Some.ensures.there,
      c.task_count-count.ensures.count,
      c.task_count-count.ensures.configs,
      c.if-prove.true,
    )
