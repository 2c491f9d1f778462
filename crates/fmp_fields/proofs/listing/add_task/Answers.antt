use Rattle.std.proofs.Common.{ℕ, ◌<◌, of_calls, rules, subst}
use Rattle.std.specs.List.{Contains}
use Rattle.fmp_base.specs.Systems.{body_of}
use Rattle.fmp_fields.specs.declared.field.What.TheVariants as what
use Rattle.fmp_fields.specs.Listing.{AreAmong, HasTask, task_parts}
use Rattle.fmp_fields.proofs.Lists.{actor-kept, if-both, task-added}
use Rattle.fmp_fields.proofs.listing.add_task.Goals as goal
use Rattle.fmp_instructions.specs.Instructions.{code_tables}

pub returns-clause-kept : goal.returns-clause-kept
returns-clause-kept c =
    let a = c.args.fields.now.items in
    let b = c.extend_from_slice.new.self.items in
    let m = c.add_each.new.fields.items in
    let d = c.push.new.self.items in
    let e = c.add_each-2.new.fields.items in
    if-both (AreAmong d e) (AreAmong d e) (AreAmong a e) c.add_each-2.result
    (λ de _. actor-kept a b m d e c.in_ok-add_each.ensures.kept de (task_parts c.args.t) (what.Operands c.args.t)
    c.in_ok-extend_from_slice.ensures.items c.in_ok-push.ensures.items)
    c.add_each-2.ensures.kept c.add_each-2.ensures.kept

pub returns-clause-added : goal.returns-clause-added
returns-clause-added c =
    let a = c.args.fields.now.items in
    let b = c.extend_from_slice.new.self.items in
    let m = c.add_each.new.fields.items in
    let d = c.push.new.self.items in
    let e = c.add_each-2.new.fields.items in
    let t = c.args.t in
    let room = c.room_of-room.result in
    let bodies = code_tables c.args.code.now in
    if-both (AreAmong d e) ((i : ℕ) → i < c.from-2.result → Contains e (what.Operand t i))
    (HasTask bodies t (body_of c.args.entry) e) c.add_each-2.result
    (λ de operands. task-added a b m d e c.in_ok-add_each.ensures.kept de bodies t (body_of c.args.entry) room
    c.room_of-room.ensures c.in_ok-extend_from_slice.ensures.items
    (λ l lt. c.in_ok-add_each.ensures.added (what.Local t) (λ i x below post. search of_calls) l
    (subst (λ (n : ℕ). l < n) (search rules) lt))
    c.in_ok-push.ensures.items
    (λ i lt. operands i (subst (λ (n : ℕ). i < n) (search rules) lt)))
    c.add_each-2.ensures.kept
    (c.add_each-2.ensures.added (what.Operand t) (λ i x below post. search of_calls))
