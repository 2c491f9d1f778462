use Rattle.std.proofs.Common.{◌≤◌, ◌*◌, ◌%◌, ◌^◌, ℕ, refl, ap, get_or, add-one, pow-suc, mul-le-mul_right, arith, lit<}
use Rattle.fmp_visited.proofs.ReadingLemmas.{power-small, reading-last, reading-there, read-fits, reading-begun}
use Rattle.fmp_visited.proofs.ReadingLemmas.{reading-end, reading-more}
use Rattle.fmp_visited.proofs.numbers.number_from.Goals as goal

pub loop-byte-init : goal.loop-byte-init
loop-byte-init c =
    record {
      power = refl;
      small = lit< tt;
      reads = λ number rest e. reading-begun c.args.row.now c.args.place number rest e;
    }

pub overflow_mul-number : goal.overflow_mul-number
overflow_mul-number c =
    let l = c.loop-byte in
    let low : 128 ^ l._byte ≤ 268435456 = power-small l._byte (omega arith) in
    let times : get_or c.args.row.now l.at 0 % 128 * l.unit ≤ 127 * l.unit = mul-le-mul_right l.unit (omega arith) in
    omega (arith, l.invariant.power, low, times)

pub overflow_add-number : goal.overflow_add-number
overflow_add-number c =
    let l = c.loop-byte in
    let low : 128 ^ l._byte ≤ 268435456 = power-small l._byte (omega arith) in
    omega (
      arith,
      l.invariant.power,
      low,
      read-fits l._byte l.number l.unit
          (get_or c.args.row.now l.at 0) l.invariant.power l.invariant.small,
    )

pub loop-byte-preserved : goal.loop-byte-preserved
loop-byte-preserved c =
    let l = c.loop-byte in
    record {
      power = omega (arith, l.invariant.power, pow-suc 128 l._byte, ap (λ (n : ℕ). 128 ^ n) (add-one l._byte));
      small = read-fits l._byte l.number l.unit (get_or c.args.row.now l.at 0) l.invariant.power l.invariant.small;
      reads = λ number rest e. reading-more c.args.row.now l._byte l.number l.unit l.at number rest (omega arith)
          (omega arith)
          (l.invariant.reads number rest e);
    }

pub returns-then-at-row : goal.returns-then-at-row
returns-then-at-row c number rest small e =
    let l = c.loop-byte in
    absurd (reading-there c.args.row.now l._byte l.number l.unit l.at number rest (omega arith) c.if-at-row.true
    (l.invariant.reads number rest e))

pub returns-then-byte-lt128 : goal.returns-then-byte-lt128
returns-then-byte-lt128 c number rest small e =
    let l = c.loop-byte in
    let got = reading-last c.args.row.now l._byte l.number l.unit l.at number rest (omega arith) c.if-byte-lt128.true
    (l.invariant.reads number rest e) in
    (omega (arith, got.0, small), got.1)

pub overflow_mul-unit : goal.overflow_mul-unit
overflow_mul-unit c =
    let l = c.loop-byte in
    let low : 128 ^ l._byte ≤ 268435456 = power-small l._byte (omega arith) in
    omega (arith, l.invariant.power, low)

pub returns : goal.returns
returns c number rest small e =
    let l = c.loop-byte in
    let got = reading-end c.args.row.now l._byte l.number l.unit l.at number rest (omega arith) l.invariant.power small
    (l.invariant.reads number rest e) in
    (omega (arith, got.0, small), got.1)
