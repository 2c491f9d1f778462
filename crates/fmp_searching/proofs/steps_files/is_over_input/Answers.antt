use Rattle.std.proofs.Common.{arith, string_bytes}
use Rattle.fmp_searching.specs.Files.{IsApart}
use Rattle.fmp_searching.proofs.Endings.{all_more, all_of}
use Rattle.fmp_searching.proofs.steps_files.is_over_input.Goals as goal

pub loop-i-preserved : goal.loop-i-preserved
loop-i-preserved g c =
    all_more (IsApart c.args.exploring.now) string_bytes c.args.names.now c.loop-i.i (omega (arith, c.loop-i-test.true))
    c.loop-i.invariant (c.is_read_at.ensures c.if-is_read_at.false)

pub returns : goal.returns
returns g c = λ _.
    all_of (IsApart c.args.exploring.now) string_bytes c.args.names.now c.loop-i.i (omega (arith, c.loop-i-test.false))
    c.loop-i.invariant
