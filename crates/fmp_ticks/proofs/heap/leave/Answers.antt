use Rattle.fmp_ticks.proofs.heap.leave.Goals as goal

pub returns-clause-ranks : goal.returns-clause-ranks
returns-clause-ranks c = λ times r. c.mend.ensures.ranks times (rw (
  c.exchange.ensures.slots,
  c.exchange.ensures.ranks,
) r)
