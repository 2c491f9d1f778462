use Rattle.std.proofs.Common.{List, inr, subst, ℕ}
use Rattle.fmp_searching.specs.Claimed.{PrintsOnly}
use Rattle.fmp_searching.proofs.Doing.{printing_tells}
use Rattle.fmp_searching.proofs.Printing.{printing_only}
use Rattle.fmp_searching.proofs.reporting.print_fault.Goals as goal

pub returns-in-Ok-clause-shown : goal.returns-in-Ok-clause-shown
returns-in-Ok-clause-shown g c =
    let done = g.O.Outside.done in
    inr (record {
      shown = c.in-Ok.shown;
      is = c.in-Ok.ensures;
      prints =
          subst (λ (text : List ℕ). PrintsOnly text (done c.args.outside.now) (done c.print.new.outside))
          c.text_of.ensures (printing_only _ _ _ _ _ c.print.ensures);
    })

pub returns-in-Ok-clause-tells : goal.returns-in-Ok-clause-tells
returns-in-Ok-clause-tells g c = printing_tells _ _ _ _ _ c.print.ensures
