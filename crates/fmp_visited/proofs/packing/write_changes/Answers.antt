use Rattle.std.proofs.Common.{refl, sym, ◌∙◌, arith, take}
use lib.Count.{count_trailing_zeros}
use Rattle.fmp_visited.proofs.ChangeLemmas.{next-change, none-left, pushed-all, pushed-next}
use Rattle.fmp_visited.proofs.packing.write_changes.Goals as goal

pub overflow_add-field : goal.overflow_add-field
overflow_add-field c =
    let l = c.loop-change in
    let s = count_trailing_zeros 8 l.bits in
    let n =
    next-change l.field s l.bits c.args.first.now c.args.values.now c.requires.few l.invariant.mask c.if-bits-eq0.false
    refl in
    omega (arith, n.in_first, c.requires.few)

pub bounds-values-field : goal.bounds-values-field
bounds-values-field c =
    let l = c.loop-change in
    let s = count_trailing_zeros 8 l.bits in
    let n =
    next-change l.field s l.bits c.args.first.now c.args.values.now c.requires.few l.invariant.mask c.if-bits-eq0.false
    refl in
    n.in_values

pub offset_bounds-values-field : goal.offset_bounds-values-field
offset_bounds-values-field c =
    let l = c.loop-change in
    let s = count_trailing_zeros 8 l.bits in
    let n =
    next-change l.field s l.bits c.args.first.now c.args.values.now c.requires.few l.invariant.mask c.if-bits-eq0.false
    refl in
    omega (arith, n.in_first, c.requires.few)

pub overflow_add-field-in-loop-change : goal.overflow_add-field-in-loop-change
overflow_add-field-in-loop-change c =
    let l = c.loop-change in
    let s = count_trailing_zeros 8 l.bits in
    let n =
    next-change l.field s l.bits c.args.first.now c.args.values.now c.requires.few l.invariant.mask c.if-bits-eq0.false
    refl in
    omega (arith, n.in_first, c.requires.few)

pub loop-change-preserved : goal.loop-change-preserved
loop-change-preserved c =
    let l = c.loop-change in
    let f = c.args.first.now in
    let v = c.args.values.now in
    let s = count_trailing_zeros 8 l.bits in
    let n = next-change l.field s l.bits f v c.requires.few l.invariant.mask c.if-bits-eq0.false refl in
    record {
      done = omega (arith, l.invariant.done);
      long = c.write_number-end.ensures.length ∙ l.invariant.long;
      room = omega (arith, c.write_number-end.ensures.room, l.invariant.room);
      mask = n.masks;
      told =
          pushed-next (take l.end l.row) (take c.write_number-end.result c.write_number-end.new.row) _ _ _ _
          c.write_number-end.ensures.bytes n.changes l.invariant.told;
    }

pub write_number-end-requires : goal.write_number-end-requires
write_number-end-requires c =
    let l = c.loop-change in
    omega (arith, l.invariant.room, l.invariant.long, c.requires.room)

pub returns-then-bits-eq0-clause-bytes : goal.returns-then-bits-eq0-clause-bytes
returns-then-bits-eq0-clause-bytes c =
    let l = c.loop-change in
    pushed-all (take l.end l.row) _ l.field c.args.first.now c.args.values.now
    (sym l.invariant.mask ∙ c.if-bits-eq0.true) l.invariant.told

pub returns-clause-bytes : goal.returns-clause-bytes
returns-clause-bytes c =
    let l = c.loop-change in
    let f = c.args.first.now in
    let v = c.args.values.now in
    pushed-all (take l.end l.row) _ l.field f v
    (none-left l.field f v (omega (arith, l.invariant.done, c.requires.few))) l.invariant.told
