use Rattle.fmp_diagnosis.proofs.needs.operands_or_fault.Goals as goal

pub operands_in-requires : goal.operands_in-requires
operands_in-requires c = c.in_ok-configured.ensures.rules.ranges
