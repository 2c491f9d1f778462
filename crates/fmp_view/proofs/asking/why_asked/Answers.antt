use Rattle.std.proofs.Common.{refl}
use Rattle.fmp_view.proofs.asking.why_asked.Goals as goal

pub returns : goal.returns
returns c = (
  c.run_of-run.result,
  c.word32_of.result,
  c.form_of.result,
  refl,
  c.run_of-run.ensures,
  c.word32_of.ensures,
  c.form_of.ensures,
)
