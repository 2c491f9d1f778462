use Rattle.std.proofs.Common.{ℕ}
use Rattle.fmp_base.specs.Meanings.{task_body}
use Rattle.fmp_base.specs.Systems.{tables_of}
use Rattle.fmp_fields.specs.Listing.{HasProcessor}
use Rattle.fmp_fields.proofs.Lists.{places-more, processor-kept, task-kept}
use Rattle.fmp_fields.proofs.listing.add_actors.Goals as goal
use Rattle.fmp_instructions.specs.Instructions.{code_tables}

pub loop-p-preserved : goal.loop-p-preserved
loop-p-preserved c =
    let sys = tables_of c.args.sys.now in
    let bodies = code_tables c.args.code.now in
    let before = c.loop-p.fields.items in
    let after = c.add_processor.new.fields.items in
    let kept = c.in_ok-add_processor.ensures.kept in
    record {
      kept = λ f there. kept f (c.loop-p.invariant.kept f there);
      added = places-more (λ (p : ℕ). HasProcessor sys bodies p after) c.loop-p.p
          (λ p less. processor-kept sys bodies p before after kept (c.loop-p.invariant.added p less))
          c.in_ok-add_processor.ensures.added;
    }

pub returns-clause-kept : goal.returns-clause-kept
returns-clause-kept c = λ f there. c.loop-p.invariant.kept f (c.in_ok-add_tasks.ensures.kept f there)

pub returns-clause-tasks : goal.returns-clause-tasks
returns-clause-tasks c = λ t lt.
    task-kept (code_tables c.args.code.now) t (task_body (tables_of c.args.sys.now) t) c.add_tasks.new.fields.items
    c.loop-p.fields.items c.loop-p.invariant.kept (c.in_ok-add_tasks.ensures.added t lt)
