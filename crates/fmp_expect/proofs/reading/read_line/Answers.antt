use Rattle.std.proofs.Common.{List, Result, subst, sym}
use Rattle.fmp_expect.specs.declared.expectation.Expected.{Expected}
use Rattle.fmp_expect.specs.declared.fault.ExpectFault.{ExpectFault}
use Rattle.fmp_expect.specs.Grammar.{IsFaultOf, after_all}
use Rattle.fmp_expect.proofs.reading.read_line.Goals as goal

pub returns-in-Err-clause-fault : goal.returns-in-Err-clause-fault
returns-in-Err-clause-fault c = λ rest.
    subst (λ (r : Result (List Expected) ExpectFault). IsFaultOf c.in-Err.fault (after_all c.args.all.now.items r))
    (sym (c.in-Err.ensures.fault rest)) c.in-Err.ensures.kind
