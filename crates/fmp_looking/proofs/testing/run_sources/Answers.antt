use Rattle.std.proofs.Common.{refl}
use Rattle.fmp_looking.proofs.testing.run_sources.Goals as goal

pub returns : goal.returns
returns g c = λ done. (
  record { test = c.args.test; texts = record { src = c.deref.result; expectations = c.deref-2.result } },
  refl,
  c.deref.ensures.value,
  c.deref-2.ensures.value,
  c.run_read.ensures done,
)
