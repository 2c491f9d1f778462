use Rattle.std.proofs.Common.{◌≡◌, ◌≤◌, ◌<◌, ◌+◌, ◌-◌, ◌∙◌, ap, length, decimal, drop, take, take-take, take_at, arith}
use Rattle.std.proofs.Common.{rules}
use Rattle.std.proofs.lemmas.Fmt.{length-decimal-le, decimal_nonempty}
use Rattle.fmp_trace.proofs.Short.{short_number}
use Rattle.fmp_trace.proofs.numeral.Numeral.new.Goals as goal

pub write_digits-start-requires : goal.write_digits-start-requires
write_digits-start-requires c = rw c.from.ensures (search (rules, length-decimal-le 16))

pub invariant_of-result : goal.invariant_of-result
invariant_of-result c =
    let start = c.write_digits-start.result in
    let some : 0 < length (decimal c.from.result) = decimal_nonempty c.from.result (search rules) in
    let few : length (decimal c.from.result) ≤ 10 = short_number c.from.result (search rules) in
    let count : length (decimal c.from.result) ≡ 16 - start = omega (arith, c.write_digits-start.ensures.start) in (
      omega (arith, some, count),
      omega (arith, few, count),
      search rules,
      c.put_processor.ensures.digits
          ∙ ap (take (16 - start)) c.copy_from_slice.ensures.after
          ∙ take-take (16 - start) (start + 16 - start) (drop start c.write_digits-start.new.buf) (omega arith)
          ∙ ap (take (16 - start)) c.write_digits-start.ensures.written
          ∙ take_at (decimal c.from.result) _ (16 - start) count
          ∙ ap decimal c.from.ensures,
      c.put_processor.ensures.text,
    )

pub put_processor-requires-clause-room : goal.put_processor-requires-clause-room
put_processor-requires-clause-room c =
    let few : length (decimal c.from.result) ≤ 10 = short_number c.from.result (search rules) in
    let count : length (decimal c.from.result) ≡ 16 - c.write_digits-start.result = omega
    (arith, c.write_digits-start.ensures.start) in
    omega (arith, few, count)
