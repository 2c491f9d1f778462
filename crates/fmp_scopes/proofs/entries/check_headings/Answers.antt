use Rattle.std.proofs.Common.{sym, ◌∙◌}
use Rattle.fmp_scopes.proofs.Checking.{checked-stopped, entry-here}
use Rattle.fmp_scopes.proofs.entries.check_headings.Goals as goal

pub returns-in-Some : goal.returns-in-Some
returns-in-Some c = λ bodies are.
    let es = c.args.entries.now in
    let faulty = sym c.in-Some.is ∙ c.entry_fault.ensures bodies are in
    checked-stopped (Unit {0}) c.args.tokens.now bodies es _ c.in-Some.why c.offence_at.result c.offence_at.ensures
    (entry-here bodies es c.loop-entry.entry-index _ c.in-Some.why c.loop-entry-test.true faulty
    (c.loop-entry.invariant bodies are))
