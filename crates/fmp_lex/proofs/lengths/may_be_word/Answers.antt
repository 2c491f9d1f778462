use Rattle.std.proofs.Common.{rules, ◌≡◌, Some, None}
use Rattle.std.specs.Prelude.{slice_get}
use Rattle.fmp_lex.proofs.WordLengths.{no_first, not_short, no_length}
use Rattle.fmp_lex.proofs.lengths.may_be_word.Goals as goal

pub returns-in_default : goal.returns-in_default
returns-in_default c =
    let first : slice_get c.args.bytes.now 0 ≡ None = search rules in
    λ n. no_first c.args.bytes.now first

pub returns-then-bytes-lt16 : goal.returns-then-bytes-lt16
returns-then-bytes-lt16 c =
    let first : slice_get c.args.bytes.now 0 ≡ Some c.in-Some.first.now = search rules in
    λ n. no_length c.args.bytes.now c.in-Some.first.now first n

pub returns-else-bytes-lt16 : goal.returns-else-bytes-lt16
returns-else-bytes-lt16 c = λ n. not_short c.args.bytes.now n
