use Rattle.fmp_searching.proofs.Endings.{removes_then}
use Rattle.fmp_searching.proofs.steps_files.remove_earlier.Goals as goal

pub loop-i-preserved : goal.loop-i-preserved
loop-i-preserved g c =
    removes_then c.args.files.exploring.now c.args.files.out.now c.args.files.count _ _ _ c.loop-i.invariant
    c.remove.ensures
