use Rattle.std.proofs.Common.{None, Some, arith}
use Rattle.fmp_searching.proofs.StepsNames.{after_last}
use Rattle.fmp_searching.proofs.steps_files.after_last_dot.Goals as goal

pub returns-in-Some : goal.returns-in-Some
returns-in-Some c = λ front back is free.
    after_last 46 c.args.name.now front back (Some (c.in-Some.field-0-0, c.in-Some.number)) (omega arith)
    c.in-Some.ensures.cases is free

pub returns-in-None : goal.returns-in-None
returns-in-None c = λ front back is free.
    after_last 46 c.args.name.now front back None (omega arith) c.in-None.ensures.cases is free
