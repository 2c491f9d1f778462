use Rattle.std.proofs.Common.{refl}
use Rattle.fmp_contexts.proofs.ContextLemmas.{first_places}
use Rattle.fmp_kernel.proofs.runner.Runner.new.Goals as goal

pub invariant_of-result : goal.invariant_of-result
invariant_of-result g c = (
  rw c.in_ok-tables.ensures (record {
    range = c.requires.range;
    caused = c.in_ok-caused.ensures.exact;
    lines = c.in_ok-lines.ensures.exact;
  }),
  rw (c.in_ok-tables.ensures, c.in_ok-contexts.ensures.contexts) (first_places _ (g.B.Body.meaning c.args.body)),
  rw c.in_ok-tables.ensures c.requires.entries,
  rw c.in_ok-tables.ensures c.in_ok-contexts.ensures.fitting,
)

pub returns : goal.returns
returns g c =
    rw c.in_ok-contexts.ensures.contexts
    (rw (c.in_ok-tables.ensures, c.in_ok-caused.ensures.items, c.in_ok-lines.ensures.items) refl)
