use Rattle.std.proofs.Common.{ℕ, ◌<◌, of_calls, rules, subst}
use Rattle.std.specs.List.{Contains}
use Rattle.fmp_fields.specs.declared.field.What.TheVariants as what
use Rattle.fmp_fields.specs.Listing.{AreAmong, HasQueue}
use Rattle.fmp_fields.proofs.Lists.{if-both, queue-added}
use Rattle.fmp_fields.proofs.listing.add_data_queue.Goals as goal

pub returns-clause-added : goal.returns-clause-added
returns-clause-added c =
    let a = c.args.fields.now.items in
    let b = c.push.new.self.items in
    let e = c.add_each.new.fields.items in
    let d = c.args.d in
    if-both (AreAmong b e) ((i : ℕ) → i < c.from.result → Contains e (what.Word d i)) (HasQueue d c.args.capacity e)
    c.add_each.result
    (λ be words. queue-added d c.args.capacity a b e c.in_ok-push.ensures.items be
    (λ i lt. words i (subst (λ (n : ℕ). i < n) (search rules) lt)))
    c.add_each.ensures.kept
    (c.add_each.ensures.added (what.Word d) (λ i x below post. search of_calls))
