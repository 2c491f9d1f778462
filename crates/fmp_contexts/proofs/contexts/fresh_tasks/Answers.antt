use Rattle.std.proofs.Common.{◌<◌, length, rules}
use Rattle.fmp_base.specs.declared.bodies.Held.TheVariants.{Goes}
use Rattle.fmp_base.specs.Meanings.{task_body}
use Rattle.fmp_base.specs.Systems.{tables_of}
use Rattle.fmp_contexts.specs.Contexts.{OfHeld}
use Rattle.fmp_contexts.proofs.ContextLemmas.{more_fits, one_more}
use Rattle.fmp_contexts.proofs.contexts.fresh_tasks.Goals as goal

pub loop-t-preserved : goal.loop-t-preserved
loop-t-preserved g c =
    let sys = tables_of c.args.sys.now in
    let body = c.args.body.now in
    let places = c.loop-t.places.items in
    let i = c.loop-t.invariant in
    let within : c.loop-t.t < length sys.tasks = search rules in
    let context : g.B.Body.is_context body (task_body sys (length places)) c.first_context-context.result =
    rw i.long c.first_context-context.ensures.context in
    record {
      items = rw (c.push_reserved.ensures.items, c.going_from.ensures, c.first_context-context.ensures.value)
          (one_more sys (g.B.Body.meaning body) c.loop-t.t places within i.items);
      long = search rules;
      room = search rules;
      fits = rw (c.push_reserved.ensures.items, c.going_from.ensures)
          (more_fits (λ t. OfHeld (g.B.Body.is_context body (task_body sys t))) places
          (Goes c.first_context-context.result) i.fits context);
    }
