use Rattle.std.specs.Fmt.{decimal}
use Rattle.fmp_searching.specs.Sources.{steps_name}
use Rattle.fmp_searching.proofs.StepsNames.{no_dot}
use Rattle.fmp_searching.proofs.steps_files.number_of.Goals as goal

pub returns-in-Some : goal.returns-in-Some
unfolding steps_name
returns-in-Some c = λ out n low small is.
    c.counted.ensures n low small (c.in-Some.ensures out (decimal n) is (no_dot n small))

pub returns-in-None : goal.returns-in-None
unfolding steps_name
returns-in-None c = λ out n low small is. c.in-None.ensures out (decimal n) is (no_dot n small)
