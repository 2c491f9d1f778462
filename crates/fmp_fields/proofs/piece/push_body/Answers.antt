use Rattle.std.proofs.Common.{map, ap, ◌∙◌, ◌++◌, ◌∷◌, []}
use Rattle.std.specs.List.{range_with_len}
use Rattle.fmp_fields.specs.declared.field.What.{What}
use Rattle.fmp_fields.specs.Pieces.{count_of, local_of, operand_of, pc_of}
use Rattle.fmp_fields.proofs.Pieces.{all-joined}
use Rattle.fmp_fields.proofs.piece.push_body.Goals as goal

pub returns : goal.returns
returns c =
    let o = c.args.owner in
    let a = c.args.fields.now.items in
    let b = c.push.new.self.items in
    let m = c.push_locals.new.fields.items in
    let d = c.push-2.new.self.items in
    let e = c.push_operands.new.fields.items in
    all-joined a b m d e (map (local_of o) (range_with_len 0 c.args.room.locals))
    (map (operand_of o) (range_with_len 0 c.args.room.operands)) (pc_of o) (count_of o)
    (c.in_ok-push.ensures.items ∙ ap (λ (f : What). a ++ f ∷ []) c.pc_of.ensures)
    c.in_ok-push_locals.ensures
    (c.in_ok-push-2.ensures.items ∙ ap (λ (f : What). m ++ f ∷ []) c.count_of.ensures)
    c.in_ok-push_operands.ensures
