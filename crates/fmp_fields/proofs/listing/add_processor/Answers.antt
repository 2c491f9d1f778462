use Rattle.std.proofs.Common.{ℕ, ◌<◌, of_calls, rules, subst}
use Rattle.std.specs.List.{Contains}
use Rattle.fmp_base.specs.Systems.{tables_of}
use Rattle.fmp_fields.specs.declared.field.What.TheVariants as what
use Rattle.fmp_fields.specs.Listing.{AreAmong, HasProcessor, processor_parts}
use Rattle.fmp_fields.proofs.Lists.{actor-kept, if-both, processor-added}
use Rattle.fmp_fields.proofs.listing.add_processor.Goals as goal
use Rattle.fmp_instructions.specs.Instructions.{code_tables}

pub returns-clause-kept : goal.returns-clause-kept
returns-clause-kept c =
    let a = c.args.fields.now.items in
    let b = c.extend_from_slice.new.self.items in
    let m = c.add_each.new.fields.items in
    let d = c.push.new.self.items in
    let e = c.add_each-2.new.fields.items in
    if-both (AreAmong d e) (AreAmong d e) (AreAmong a e) c.add_each-2.result
    (λ de _. actor-kept a b m d e c.in_ok-add_each.ensures.kept de (processor_parts c.args.p)
    (what.HandlerOperands c.args.p) c.in_ok-extend_from_slice.ensures.items c.in_ok-push.ensures.items)
    c.add_each-2.ensures.kept c.add_each-2.ensures.kept

pub returns-clause-added : goal.returns-clause-added
returns-clause-added c =
    let a = c.args.fields.now.items in
    let b = c.extend_from_slice.new.self.items in
    let m = c.add_each.new.fields.items in
    let d = c.push.new.self.items in
    let e = c.add_each-2.new.fields.items in
    let p = c.args.p in
    let sys = tables_of c.args.sys.now in
    let room = c.handler_room-room.result in
    let bodies = code_tables c.args.code.now in
    if-both (AreAmong d e) ((i : ℕ) → i < c.from-2.result → Contains e (what.HandlerOperand p i))
    (HasProcessor sys bodies p e) c.add_each-2.result
    (λ de operands. processor-added a b m d e c.in_ok-add_each.ensures.kept de sys bodies p room
    c.handler_room-room.ensures c.in_ok-extend_from_slice.ensures.items
    (λ l lt. c.in_ok-add_each.ensures.added (what.HandlerLocal p) (λ i x below post. search of_calls) l
    (subst (λ (n : ℕ). l < n) (search rules) lt))
    c.in_ok-push.ensures.items
    (λ i lt. operands i (subst (λ (n : ℕ). i < n) (search rules) lt)))
    c.add_each-2.ensures.kept
    (c.add_each-2.ensures.added (what.HandlerOperand p) (λ i x below post. search of_calls))
