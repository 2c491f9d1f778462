use Rattle.std.proofs.Common.{List, subst, sym}
use Rattle.fmp_witness.specs.declared.finding.Finding.{Finding}
use Rattle.fmp_searching.specs.Seen.{AreSeen}
use Rattle.fmp_searching.specs.Sources.{source_tables}
use Rattle.fmp_searching.specs.declared.seen.Seen.{Seen}
use Rattle.fmp_searching.proofs.exploring.explored_report.Goals as goal

pub explored_by-requires-clause-seen : goal.explored_by-requires-clause-seen
explored_by-requires-clause-seen c =
    let s = source_tables c.args.sources.now in
    subst (λ (xs : List Seen). AreSeen s c.args.report.now.findings.items xs) (sym c.deref-2.ensures.value)
    (subst (λ (fs : List Finding). AreSeen s fs c.in_ok-seen.seen.items) c.deref.ensures.value c.in_ok-seen.ensures)
