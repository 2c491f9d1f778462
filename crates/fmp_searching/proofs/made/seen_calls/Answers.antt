use Rattle.std.proofs.Common.{◌∙◌}
use Rattle.fmp_searching.proofs.made.seen_calls.Goals as goal

pub returns : goal.returns
returns c =
    record {
      unmade = rw (c.deref.ensures.value ∙ c.in_ok-sites.ensures) at c.in_ok-unmade.ensures;
      answered = rw (c.deref-2.ensures.value ∙ c.in_ok-sites.ensures) at c.in_ok-answered.ensures;
      answers = rw (c.deref-3.ensures.value ∙ c.in_ok-sites.ensures) at c.in_ok-answers.ensures;
    }
