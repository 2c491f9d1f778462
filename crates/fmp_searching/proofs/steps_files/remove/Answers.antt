use Rattle.fmp_searching.proofs.Endings.{removes_removed, removes_said, removes_then}
use Rattle.fmp_searching.proofs.steps_files.remove.Goals as goal

pub returns-in-Ok : goal.returns-in-Ok
returns-in-Ok g c =
    let files = c.args.files in
    removes_removed files.exploring.now files.out.now c.args.name.now files.count c.args.number c.remove.result _ _
    c.requires.later c.requires.name c.requires.apart c.remove.ensures.done

pub returns-in-Err : goal.returns-in-Err
returns-in-Err g c =
    let done = g.O.Outside.done in
    let files = c.args.files in
    removes_then files.exploring.now files.out.now files.count _ _ _
    (removes_removed files.exploring.now files.out.now c.args.name.now files.count c.args.number c.remove.result _ _
    c.requires.later c.requires.name c.requires.apart c.remove.ensures.done)
    (removes_said files.exploring.now files.out.now files.count (done c.remove.new.self) (done c.say.new.self)
    c.say.ensures.said)
