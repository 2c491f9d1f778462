use Rattle.fmp_warnings.proofs.verdicts.printed_sound.Goals as goal

pub returns : goal.returns
returns c = (
  c.in_ok-warnings.warnings.items,
  c.in_ok-idle.idle.items,
  c.in_ok-warnings.ensures,
  c.in_ok-idle.ensures,
  rw c.deref-2.ensures.value at (rw c.deref.ensures.value at c.in_ok-out.ensures),
)
