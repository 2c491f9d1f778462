use Rattle.std.proofs.Common.{◌≡◌, ◌+◌, ◌*◌, take, get_or}
use Rattle.std.proofs.lemmas.List.{take_more}
use Rattle.fmp_lex.specs.Scanning.{value_from, digit_of}
use Rattle.fmp_lex.proofs.Values.{value_from_push, saturated_step, saturated_stay}
use Rattle.fmp_lex.proofs.scanning.value_of.Goals as goal
use Rattle.fmp_lex.proofs.scanning.value_of.Goals.{then-value-le2147483647, else-value-le2147483647}

pub loop-b-preserved : goal.loop-b-preserved
loop-b-preserved c =
    let ds = c.args.digits.now in
    let base = c.args.base in
    let i = c.loop-b.b-index in
    let old = value_from base 0 (take i ds) in
    let more : value_from base 0 (take (i + 1) ds) ≡ old * base + digit_of (get_or ds i 0) =
    rw (take_more ds i 0 c.loop-b-test.true) (value_from_push base 0 (take i ds) (get_or ds i 0)) in
    rw more (elim c.if-value-le2147483647.branch [
      | then-value-le2147483647 w ↦
          let is : c.if-value-le2147483647.value ≡ c.loop-b.value * base
          + digit_of (get_or ds i 0) = cc (w.value-is, w.digit.ensures) in
          rw is (saturated_step c.loop-b.value old base (digit_of (get_or ds i 0)) w.if-value-le2147483647.true
          c.loop-b.invariant)
      | else-value-le2147483647 w ↦
          rw w.value-is (saturated_stay c.loop-b.value old base (digit_of (get_or ds i 0)) c.requires.base
          w.if-value-le2147483647.false c.loop-b.invariant)
    ])
