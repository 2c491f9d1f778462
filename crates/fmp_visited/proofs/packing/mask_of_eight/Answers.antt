use Rattle.std.proofs.Common.{◌≡◌, ◌<◌, ◌+◌, ◌^◌, ℕ, length, ap, add-one, pow-suc, arith}
use Rattle.fmp_visited.specs.Rows.{mask_of}
use Rattle.fmp_visited.proofs.RowLemmas.{bit-fits, bit-kept, bit-taken, eight-whole, mask-small}
use Rattle.fmp_visited.proofs.packing.mask_of_eight.Goals as goal
use Rattle.fmp_visited.proofs.packing.mask_of_eight.Goals.{then-values-k, else-values-k}

pub loop-k-preserved : goal.loop-k-preserved
loop-k-preserved c =
    let l = c.loop-k in
    let f = c.args.first.now in
    let v = c.args.values.now in
    let in_first : l.k < length f = omega (arith, c.requires.first) in
    let in_values : l.k < length v = omega (arith, c.requires.values) in
    let fits = bit-fits l.k l.mask l.bit (omega arith) l.invariant.unit l.invariant.low in
    record {
      told =
          elim c.if-values-k.branch [
            | then-values-k w ↦
                rw w.mask-is
                (bit-taken l.k l.mask l.bit (mask_of f v + 256) f v in_first in_values fits w.if-values-k.true
                l.invariant.told)
            | else-values-k w ↦
                rw w.mask-is
                (bit-kept l.k l.mask l.bit (mask_of f v + 256) f v in_first in_values w.if-values-k.false
                l.invariant.told)
          ];
      low =
          elim c.if-values-k.branch [
            | then-values-k w ↦ rw w.mask-is (omega (arith, fits, l.invariant.low))
            | else-values-k w ↦ rw w.mask-is (omega (arith, l.invariant.low))
          ];
      unit = omega (arith, l.invariant.unit, pow-suc 2 l.k, ap (λ (n : ℕ). 2 ^ n) (add-one l.k));
    }

pub overflow_cast-result : goal.overflow_cast-result
overflow_cast-result c =
    let l = c.loop-k in
    let f = c.args.first.now in
    let v = c.args.values.now in
    let whole : l.mask ≡ mask_of f v =
    eight-whole l.k l.mask l.bit f v (omega arith) c.requires.first l.invariant.unit l.invariant.told in
    let small : mask_of f v < 256 = mask-small 8 f v (omega (arith, c.requires.first)) in
    omega (arith, whole, small)

pub returns : goal.returns
returns c =
    let l = c.loop-k in
    eight-whole l.k l.mask l.bit c.args.first.now c.args.values.now (omega arith) c.requires.first l.invariant.unit
    l.invariant.told
