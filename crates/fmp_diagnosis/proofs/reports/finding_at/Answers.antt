use Rattle.fmp_diagnosis.proofs.reports.finding_at.Goals as goal

pub column_after-requires-clause-column : goal.column_after-requires-clause-column
column_after-requires-clause-column c = c.in_ok-excerpt.ensures.column
