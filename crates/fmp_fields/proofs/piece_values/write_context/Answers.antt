use Rattle.std.proofs.Common.{rules, ◌≡◌, ◌+◌, ◌∷◌, ◌++◌, [], ℕ, map, ap, ◌∙◌, take, arith}
use Rattle.std.specs.Prelude.{get_or, pos}
use Rattle.std.specs.List.{range_with_len}
use Rattle.fmp_live.specs.Zeroed.{zeroed_by}
use Rattle.fmp_reachable.specs.Numbers.{unsigned}
use Rattle.fmp_fields.proofs.Pieces.{all-joined}
use Rattle.fmp_fields.proofs.piece_values.write_context.Goals as goal

pub returns-clause-values : goal.returns-clause-values
returns-clause-values c =
    let x = c.args.context.now in
    let room = c.args.room in
    let at = c.args.at in
    let first = at + 1 in
    let middle = first + room.locals in
    let second = middle + 1 in
    let v0 = c.args.values.now in
    let v1 = c.write_value.new.values in
    let v2 = c.write_locals.new.values in
    let v3 = c.write_value-2.new.values in
    let v4 = c.write_operands.new.values in
    let pc : c.from.result ≡ x.pc = search rules in
    let count : c.from-2.result ≡ x.count = search rules in
    let end : at + (room.locals + room.operands + 2) ≡ second + room.operands = omega arith in
    ap (λ (k : ℕ). take k v4) end
    ∙ all-joined (take at v0) (take first v1) (take middle v2) (take second v3) (take (second + room.operands) v4)
    (map (λ (l : ℕ). unsigned (get_or (zeroed_by c.args.row.now x.locals) l (pos 0))) (range_with_len 0 room.locals))
    (map (λ (i : ℕ). unsigned (get_or x.operands i (pos 0))) (range_with_len 0 room.operands)) x.pc x.count
    (c.write_value.ensures.values ∙ ap (λ (n : ℕ). take at v0 ++ n ∷ []) pc) c.write_locals.ensures.values
    (c.write_value-2.ensures.values ∙ ap (λ (n : ℕ). take middle v2 ++ n ∷ []) count)
    c.write_operands.ensures.values
