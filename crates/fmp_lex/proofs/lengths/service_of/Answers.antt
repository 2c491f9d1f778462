use Rattle.std.proofs.Common.{sym, ◌∙◌}
use Rattle.fmp_lex.proofs.WordLengths.{no_service}
use Rattle.fmp_lex.proofs.lengths.service_of.Goals as goal

pub returns-else-begins_in : goal.returns-else-begins_in
returns-else-begins_in c = no_service c.args.bytes.now (sym c.begins_in.ensures ∙ c.if-begins_in.false)
