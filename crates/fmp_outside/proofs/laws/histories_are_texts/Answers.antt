use Rattle.fmp_outside.proofs.Histories.{history_acts, history_bound}
use Rattle.fmp_outside.proofs.laws.histories_are_texts.Goals as goal

pub returns : goal.returns
returns c =
    record {
      acts = λ f sys n w p a. history_acts f sys n w p a;
      bound = λ f sys m n w e. history_bound f sys m n w e;
    }
