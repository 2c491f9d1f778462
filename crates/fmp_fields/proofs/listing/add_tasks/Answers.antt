use Rattle.std.proofs.Common.{◌≡◌, ℕ, ◌<◌, ap, ◌∙◌, arith, length, subst}
use Rattle.fmp_base.specs.declared.systems.TaskConfig.{TaskConfig}
use Rattle.fmp_base.specs.Meanings.{task_body}
use Rattle.fmp_base.specs.Systems.{body_of, tables_of}
use Rattle.fmp_fields.specs.Listing.{HasTask}
use Rattle.fmp_fields.proofs.Lists.{body-at, places-more, task-kept}
use Rattle.fmp_fields.proofs.listing.add_tasks.Goals as goal
use Rattle.fmp_instructions.specs.Instructions.{code_tables}

pub loop-t-preserved : goal.loop-t-preserved
loop-t-preserved c =
    let sys = tables_of c.args.sys.now in
    let bodies = code_tables c.args.code.now in
    let before = c.loop-t.fields.items in
    let after = c.add_task.new.fields.items in
    let kept = c.in_ok-add_task.ensures.kept in
    let lt = c.loop-t-test.true in
    let at : c.low_byte.result ≡ c.loop-t.t = omega (arith, c.low_byte.ensures, lt, c.len-t-end.ensures, c.requires) in
    let within : c.loop-t.t < length sys.tasks = omega (arith, lt, c.len-t-end.ensures) in
    let body : body_of c.index.result.now.entry ≡ task_body sys c.loop-t.t =
    ap (λ (x : TaskConfig). body_of x.entry) c.index.ensures ∙ body-at sys c.loop-t.t _ within in
    record {
      kept = λ f there. kept f (c.loop-t.invariant.kept f there);
      added = places-more (λ (t : ℕ). HasTask bodies t (task_body sys t) after) c.loop-t.t
          (λ t less. task-kept bodies t (task_body sys t) before after kept (c.loop-t.invariant.added t less))
          (subst (λ (b : ℕ). HasTask bodies c.loop-t.t b after) body
          (subst (λ (t : ℕ). HasTask bodies t (body_of c.index.result.now.entry) after) at
          c.in_ok-add_task.ensures.added));
    }
