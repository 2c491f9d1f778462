use Rattle.std.proofs.Common.{arith}
use Rattle.std.proofs.lemmas.List.{length-map}
use Rattle.fmp_frames.specs.Compares.{events_of}
use Rattle.fmp_frames.proofs.Differences.{same-throughout}
use Rattle.fmp_frames.proofs.comparing.first_difference.Goals as goal

pub returns : goal.returns
returns c =
    let one = c.args.a.now.texts in
    let other = c.args.b.now.texts in
    same-throughout (events_of c.args.a.now) (events_of c.args.b.now) c.loop-number.number
    (omega (
      arith,
      c.loop-number-test.false,
      c.max-number-end.ensures,
      c.len.ensures,
      c.len-2.ensures,
      one.ok.0,
      length-map one.items (λ x. x.items),
    ))
    (omega (
      arith,
      c.loop-number-test.false,
      c.max-number-end.ensures,
      c.len.ensures,
      c.len-2.ensures,
      other.ok.0,
      length-map other.items (λ x. x.items),
    ))
    c.loop-number.invariant
