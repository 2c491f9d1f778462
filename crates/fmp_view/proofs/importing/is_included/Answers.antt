use Rattle.std.proofs.Common.{arith, string_bytes}
use Rattle.fmp_searching.proofs.Endings.{all_more, all_of}
use Rattle.fmp_view.specs.Apart.{AreApart}
use Rattle.fmp_view.proofs.importing.is_included.Goals as goal

pub loop-i-preserved : goal.loop-i-preserved
loop-i-preserved g c =
    all_more (AreApart (g.O.Outside.files c.args.outside.now) c.args.out.now) (λ file. string_bytes file.path)
    c.args.included.now c.loop-i.i (omega (arith, c.loop-i-test.true)) c.loop-i.invariant
    (c.is_included_at.ensures c.if-is_included_at.false)

pub returns : goal.returns
returns g c = λ _.
    all_of (AreApart (g.O.Outside.files c.args.outside.now) c.args.out.now) (λ file. string_bytes file.path)
    c.args.included.now c.loop-i.i (omega (arith, c.loop-i-test.false)) c.loop-i.invariant
