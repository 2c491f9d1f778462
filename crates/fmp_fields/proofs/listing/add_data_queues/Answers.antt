use Rattle.std.proofs.Common.{◌≡◌, ℕ, ◌<◌, ap, ◌∙◌, arith, length, subst}
use Rattle.fmp_base.specs.declared.systems.DataQueueConfig.{DataQueueConfig}
use Rattle.fmp_base.specs.Systems.{data_queue_config, tables_of}
use Rattle.fmp_fields.specs.Listing.{HasQueue}
use Rattle.fmp_fields.proofs.Lists.{capacity-at, places-more, queue-kept}
use Rattle.fmp_fields.proofs.listing.add_data_queues.Goals as goal

pub loop-d-preserved : goal.loop-d-preserved
loop-d-preserved c =
    let sys = tables_of c.args.sys.now in
    let before = c.loop-d.fields.items in
    let after = c.add_data_queue.new.fields.items in
    let kept = c.in_ok-add_data_queue.ensures.kept in
    let lt = c.loop-d-test.true in
    let at : c.low_byte.result ≡ c.loop-d.d = omega (arith, c.low_byte.ensures, lt, c.len-d-end.ensures, c.requires) in
    let within : c.loop-d.d < length sys.data_queues = omega (arith, lt, c.len-d-end.ensures) in
    let capacity : c.index.result.now.capacity ≡ (data_queue_config sys c.loop-d.d).capacity =
    ap (λ (x : DataQueueConfig). x.capacity) c.index.ensures ∙ capacity-at sys c.loop-d.d _ within in
    record {
      kept = λ f there. kept f (c.loop-d.invariant.kept f there);
      added = places-more (λ (d : ℕ). HasQueue d (data_queue_config sys d).capacity after) c.loop-d.d
          (λ d less. queue-kept d (data_queue_config sys d).capacity before after kept
          (c.loop-d.invariant.added d less))
          (subst (λ (n : ℕ). HasQueue c.loop-d.d n after) capacity
          (subst (λ (d : ℕ). HasQueue d c.index.result.now.capacity after) at c.in_ok-add_data_queue.ensures.added));
    }
