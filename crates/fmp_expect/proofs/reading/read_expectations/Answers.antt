use Rattle.std.proofs.Common.{◌∙◌, ◌+◌, List, Result, ap, subst, sym}
use Rattle.fmp_base.specs.Systems.{tables_of}
use Rattle.fmp_expect.specs.declared.expectation.Expected.{Expected}
use Rattle.fmp_expect.specs.declared.fault.ExpectFault.{ExpectFault}
use Rattle.fmp_expect.specs.Grammar.{IsFaultOf, after_all, expectations_from}
use Rattle.fmp_expect.specs.Words.{lines_of}
use Rattle.fmp_expect.proofs.reading.read_expectations.Goals as goal

pub returns-in-Err-clause-fault : goal.returns-in-Err-clause-fault
returns-in-Err-clause-fault c =
    let sys = tables_of c.args.sys.now in
    let n = c.loop-rest.number in
    subst (λ (r : Result (List Expected) ExpectFault). IsFaultOf c.in-Err.fault r)
    (sym (ap (after_all c.loop-rest.all.items) (c.first_line.ensures.lines sys n)) ∙ c.loop-rest.invariant.said)
    (c.in-Err.ensures.fault (expectations_from sys (n + 1) (lines_of c.first_line.result.1.now)))
