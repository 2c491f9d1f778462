use Rattle.std.proofs.Common.{◌≡◌, ◌+◌, ◌-◌, ◌*◌, ◌/◌, ◌++◌, [], ℕ, length, refl, subst, append-nil, ◌∙◌, arith}
use Rattle.std.proofs.Common.{take}
use Rattle.fmp_visited.specs.Rows.{groups_from, row_of}
use Rattle.fmp_visited.proofs.RowLemmas.{pack-begun, pack-next}
use Rattle.fmp_visited.proofs.packing.pack.Goals as goal

pub loop-group-init : goal.loop-group-init
loop-group-init c =
    let f = c.args.first.now in
    let v = c.args.values.now in
    record {
      long = refl;
      room = omega arith;
      told = pack-begun (c.clear.new.self.items ++ []) f v (append-nil _ ∙ c.clear.ensures.items);
    }

pub loop-group-preserved : goal.loop-group-preserved
loop-group-preserved c =
    let l = c.loop-group in
    let f = c.args.first.now in
    let v = c.args.values.now in
    record {
      long = c.write_whole-end.ensures.length ∙ l.invariant.long;
      room = omega (arith, c.write_whole-end.ensures.room, c.in_ok-left.ensures.room);
      told =
          pack-next l.group (length f / 8 + 1) l.row.items c.make_room.new.row.items (take l.end l.block) _ _ f v
          (row_of f v) (omega arith) c.in_ok-left.ensures.bytes c.write_whole-end.ensures.bytes l.invariant.told;
    }

pub loop-part-init : goal.loop-part-init
loop-part-init c =
    let l = c.loop-group in
    let f = c.args.first.now in
    let v = c.args.values.now in
    let whole = c.min-whole.result / 8 in
    let all : l.group ≡ whole = omega arith in
    record {
      long = l.invariant.long;
      room = l.invariant.room;
      told =
          subst (λ (n : ℕ). (l.row.items ++ take l.end l.block) ++ groups_from (length f / 8 + 1 - n) (n * 8) f v
          ≡ row_of f v) all l.invariant.told;
    }

pub loop-part-preserved : goal.loop-part-preserved
loop-part-preserved c =
    let l = c.loop-part in
    let f = c.args.first.now in
    let v = c.args.values.now in
    record {
      long = c.write_part-end.ensures.length ∙ l.invariant.long;
      room = omega (arith, c.write_part-end.ensures.room, c.in_ok-left-2.ensures.room);
      told =
          pack-next l.part (length f / 8 + 1) l.row.items c.make_room-in-loop-part.new.row.items (take l.end l.block)
          _ _ f v (row_of f v) (omega arith) c.in_ok-left-2.ensures.bytes c.write_part-end.ensures.bytes
          l.invariant.told;
    }
