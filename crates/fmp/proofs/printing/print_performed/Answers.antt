use Rattle.std.proofs.Common.{rules}
use Rattle.fmp.proofs.Printed.{on_cut_then}
use Rattle.fmp.proofs.printing.print_performed.Goals as goal

pub returns-clause-err : goal.returns-clause-err
returns-clause-err g c =
    on_cut_then _ _ c.perform_into-performed.result
    (λ exit why. (why.0, let name = why.1.0 in let nothing = why.1.2.nothing tt in search rules))
    (λ why. (
      why.1.given.is_given.1,
      (
        why.0,
        record {
          text = why.1.text;
          made = why.1.holds;
          front = why.1.given.front;
          text_is = why.1.given.whole_is;
          printed = let name = why.1.given.is_given.0 in let printed = why.1.given.is_given.2 in search rules;
        },
      ),
    ))
    c.perform_into-performed.ensures.err
