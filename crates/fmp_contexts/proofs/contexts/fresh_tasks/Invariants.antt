use Rattle.std.proofs.Common.{◌≡◌, ◌++◌, drop, length, vec_capacity}
use Rattle.fmp_base.specs.Meanings.{task_body}
use Rattle.fmp_base.specs.Setups.{first_contexts}
use Rattle.fmp_base.specs.Systems.{tables_of}
use Rattle.fmp_contexts.specs.Contexts.{AllContexts, OfHeld}
use Rattle.fmp_contexts.proofs.contexts.fresh_tasks.Given as goal

abbrev pub invariant-loop-t : goal.invariant-loop-t
invariant-loop-t g l =
    let sys = tables_of l.sys in
    let all = (first_contexts sys (g.B.Body.meaning l.body)).tasks in
    record {
      items : l.places.items ++ drop l.t all ≡ all;
      long : length l.places.items ≡ l.t;
      room : vec_capacity l.places ≡ l.count;
      fits : AllContexts (λ t. OfHeld (g.B.Body.is_context l.body (task_body sys t))) l.places.items;
    }
