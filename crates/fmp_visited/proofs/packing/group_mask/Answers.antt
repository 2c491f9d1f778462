use Rattle.std.proofs.Common.{◌≡◌, ◌<◌, ◌+◌, ◌^◌, ℕ, length, ap, add-one, pow-suc, arith}
use Rattle.fmp_visited.specs.Rows.{mask_of}
use Rattle.fmp_visited.proofs.RowLemmas.{bit-clear, bit-set, mask-fits, mask-small, mask-whole}
use Rattle.fmp_visited.proofs.packing.group_mask.Goals as goal
use Rattle.fmp_visited.proofs.packing.group_mask.Goals.{then-values-k, else-values-k}

pub overflow_add-mask : goal.overflow_add-mask
overflow_add-mask c =
    let l = c.loop-k in
    let f = c.args.first.now in
    let v = c.args.values.now in
    let low : l.mask + l.bit < 4294967296 =
    mask-fits l.k l.mask l.bit f v c.requires (omega arith) l.invariant.unit l.invariant.told in
    omega (arith, low)

pub loop-k-preserved : goal.loop-k-preserved
loop-k-preserved c =
    let l = c.loop-k in
    let f = c.args.first.now in
    let v = c.args.values.now in
    let in_first : l.k < length f = omega arith in
    let in_values : l.k < length v = omega arith in
    record {
      told =
          elim c.if-values-k.branch [
            | then-values-k w ↦
                rw w.mask-is
                (bit-set l.k l.mask l.bit (mask_of f v) f v in_first in_values w.if-values-k.true l.invariant.told)
            | else-values-k w ↦
                rw w.mask-is
                (bit-clear l.k l.mask l.bit (mask_of f v) f v in_first in_values w.if-values-k.false l.invariant.told)
          ];
      unit = omega (arith, l.invariant.unit, pow-suc 2 l.k, ap (λ (n : ℕ). 2 ^ n) (add-one l.k));
    }

pub overflow_cast-result : goal.overflow_cast-result
overflow_cast-result c =
    let l = c.loop-k in
    let f = c.args.first.now in
    let v = c.args.values.now in
    let whole : l.mask ≡ mask_of f v = mask-whole l.k l.mask l.bit f v (omega arith) l.invariant.told in
    let small : mask_of f v < 256 = mask-small 8 f v c.requires in
    omega (arith, whole, small)

pub returns : goal.returns
returns c =
    let l = c.loop-k in
    mask-whole l.k l.mask l.bit c.args.first.now c.args.values.now (omega arith) l.invariant.told
