use Rattle.std.proofs.Common.{arith, rules}
use Rattle.fmp_recording.proofs.LineByLine.{next_number}
use Rattle.fmp_recording.proofs.reading.read_arguments.Goals as goal

pub loop-place-preserved : goal.loop-place-preserved
loop-place-preserved c =
    let i = c.loop-place.invariant in
    let few = c.requires in
    let lt = c.loop-place-test.true in
    let four = i.four in
    record {
      four = search rules;
      said = next_number c.args.count c.loop-place.place c.loop-place.numbers _ c.loop-place.rest.now
          c.in_ok-number.after.now _ lt
          (omega (arith, few, lt, four)) i.said (λ n. search rules);
    }
