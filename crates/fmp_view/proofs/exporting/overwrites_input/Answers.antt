use Rattle.std.proofs.Common.{arith}
use Rattle.fmp_searching.proofs.Endings.{all_more, all_of}
use Rattle.fmp_view.specs.Apart.{IsApartFromTexts}
use Rattle.fmp_view.specs.Exports.{in_folder}
use Rattle.fmp_view.proofs.exporting.overwrites_input.Goals as goal

pub loop-i-preserved : goal.loop-i-preserved
loop-i-preserved g c =
    all_more (IsApartFromTexts (g.O.Outside.files c.args.outside.now) c.args.names)
    (λ file. in_folder c.args.folder.now file.now) c.args.files.now c.loop-i.i (omega (arith, c.loop-i-test.true))
    c.loop-i.invariant (c.in_ok-is_input_at.ensures c.if-branch.false)

pub returns : goal.returns
returns g c = λ _.
    all_of (IsApartFromTexts (g.O.Outside.files c.args.outside.now) c.args.names)
    (λ file. in_folder c.args.folder.now file.now) c.args.files.now c.loop-i.i (omega (arith, c.loop-i-test.false))
    c.loop-i.invariant
