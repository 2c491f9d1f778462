use Rattle.std.proofs.Common.{rules, ◌≡◌, ◌<◌, true, length, arith}
use Rattle.fmp_fields.proofs.Pieces.{all-same, take-same}
use Rattle.fmp_fields.proofs.field_plan.are_same.Goals as goal

pub loop-k-preserved : goal.loop-k-preserved
loop-k-preserved c =
    let l = c.loop-k in
    let in_a : l.k < length c.args.a.now = omega arith in
    let in_b : l.k < length c.args.b.now = omega arith in
    let is : c.is_same.result ≡ true = search rules in
    take-same c.args.a.now c.args.b.now l.k _ _ in_a in_b l.invariant (c.is_same.ensures is)

pub returns : goal.returns
returns c = λ yes. all-same c.args.a.now c.args.b.now c.loop-k.k (omega arith) (omega arith) c.loop-k.invariant
