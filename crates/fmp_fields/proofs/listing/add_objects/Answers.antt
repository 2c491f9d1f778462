use Rattle.std.proofs.Common.{ℕ, ◌<◌, arith, of_calls}
use Rattle.std.specs.List.{Contains}
use Rattle.fmp_base.specs.Systems.{data_queue_config, tables_of}
use Rattle.fmp_fields.specs.declared.field.What.TheVariants as what
use Rattle.fmp_fields.specs.Listing.{AreAmong, HasObjects}
use Rattle.fmp_fields.proofs.Lists.{if-both, queue-kept}
use Rattle.fmp_fields.proofs.listing.add_objects.Goals as goal

pub returns-clause-added : goal.returns-clause-added
returns-clause-added c =
    let sys = tables_of c.args.sys.now in
    let counts = c.add_each.new.fields.items in
    let patterns = c.add_each-2.new.fields.items in
    let queues = c.add_data_queues.new.fields.items in
    let first = c.add_each-3.new.fields.items in
    let behind = c.add_each-4.new.fields.items in
    let all = c.add_each-5.new.fields.items in
    if-both (AreAmong behind all) ((i : ℕ) → i < c.len-5.result → Contains all (what.SharedWord i)) (HasObjects sys all)
    c.add_each-5.result
    (λ from_behind words.
    let from_first : AreAmong first all = λ f there. from_behind f (c.in_ok-add_each-4.ensures.kept f there) in
    let from_queues : AreAmong queues all = λ f there. from_first f (c.in_ok-add_each-3.ensures.kept f there) in
    let from_patterns : AreAmong patterns all =
    λ f there. from_queues f (c.in_ok-add_data_queues.ensures.kept f there) in
    let from_counts : AreAmong counts all = λ f there. from_patterns f (c.in_ok-add_each-2.ensures.kept f there) in
    record {
      counts = λ i lt.
          from_counts (what.Count i) (c.in_ok-add_each.ensures.added what.Count (λ k x below post. search of_calls) i
          (omega (arith, lt, c.len.ensures)));
      patterns = λ i lt.
          from_patterns (what.Pattern i) (c.in_ok-add_each-2.ensures.added what.Pattern
          (λ k x below post. search of_calls) i (omega (arith, lt, c.len-2.ensures)));
      queues = λ d lt.
          queue-kept d (data_queue_config sys d).capacity queues all from_queues
          (c.in_ok-add_data_queues.ensures.added d lt);
      first_messages = λ i lt.
          from_first (what.FirstMessage i) (c.in_ok-add_each-3.ensures.added what.FirstMessage
          (λ k x below post. search of_calls) i (omega (arith, lt, c.len-3.ensures)));
      messages_behind = λ i lt.
          from_behind (what.MessageBehind i) (c.in_ok-add_each-4.ensures.added what.MessageBehind
          (λ k x below post. search of_calls) i (omega (arith, lt, c.len-4.ensures)));
      shared_words = λ i lt. words i (omega (arith, lt, c.len-5.ensures));
    })
    c.add_each-5.ensures.kept
    (c.add_each-5.ensures.added what.SharedWord (λ k x below post. search of_calls))
