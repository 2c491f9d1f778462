use Rattle.std.proofs.Common.{arith}
use Rattle.fmp_export.proofs.Blocks.{many}
use Rattle.fmp_export.proofs.statements.is_chain.Goals as goal

pub returns-in_default-2 : goal.returns-in_default-2
returns-in_default-2 c = many c.args.statements.now (omega (arith, c.in_default.len_at_least))
