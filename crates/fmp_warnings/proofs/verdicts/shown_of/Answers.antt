use Rattle.fmp_warnings.proofs.verdicts.shown_of.Goals as goal

pub returns : goal.returns
returns c = (
  c.in_ok-finding.finding,
  c.in_ok-further.further.items,
  c.in_ok-finding.ensures,
  c.in_ok-further.ensures,
  rw c.deref.ensures.value at c.in_ok-out.ensures,
)
