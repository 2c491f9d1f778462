use Rattle.std.proofs.Common.{◌≡◌, List, drop}
use Rattle.fmp_tasklang.specs.Trees.{BodyTree}
use Rattle.fmp_scopes.specs.Entries.{entries_offence}
use Rattle.fmp_scopes.specs.Headings.{AreHeadings}
use Rattle.fmp_scopes.proofs.entries.check_headings.Given as goal

abbrev pub invariant-loop-entry : goal.invariant-loop-entry
invariant-loop-entry l =
    (bodies : List BodyTree) → AreHeadings l.headings bodies →
    entries_offence bodies (drop l.entry-index l.entries) ≡ entries_offence bodies l.entries
