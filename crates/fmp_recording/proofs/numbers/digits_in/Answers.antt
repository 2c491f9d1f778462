use Rattle.std.proofs.Common.{◌+◌, ◌*◌, min, ap, sym, ◌∙◌}
use Rattle.fmp_recording.specs.Recordings.{capped}
use Rattle.fmp_trace.proofs.Numbers.{all_digits_more, not_digits}
use Rattle.fmp_recording.proofs.Decimals.{value_more}
use Rattle.fmp_recording.proofs.numbers.digits_in.Goals as goal

pub returns-then-not-is_ascii_digit : goal.returns-then-not-is_ascii_digit
returns-then-not-is_ascii_digit c =
    ap capped (sym (not_digits c.args.text.now c.loop-byte.byte-index c.loop-byte-test.true
    (sym c.if-not-is_ascii_digit.ensures.value)))

pub loop-byte-preserved : goal.loop-byte-preserved
loop-byte-preserved c =
    let text = c.args.text.now in
    let i = c.loop-byte.byte-index in
    let here = c.loop-byte-test.true in
    let digit = c.if-not-is_ascii_digit.ensures in
    record {
      digits = all_digits_more text i here c.loop-byte.invariant.digits (sym digit.value);
      value = c.min-value.ensures
          ∙ (ap (λ n. min (c.loop-byte.value * 10 + n) 9007199254740993) c.from.ensures
          ∙ value_more text i c.loop-byte.value here c.loop-byte.invariant.value digit.bound);
    }
