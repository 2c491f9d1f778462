use Rattle.std.proofs.Common.{arith, refl}
use Rattle.fmp_visited.proofs.ExactLemmas.{number-between}
use Rattle.fmp_visited.proofs.numbers.has_bytes.Goals as goal

pub returns : goal.returns
returns c = λ yes.
    number-between c.args.row.now _ _ c.args.place c.args.end c.args.number (omega arith) (omega arith) refl
    (c.is_same.ensures yes) c.write_bytes-count.ensures.bytes
