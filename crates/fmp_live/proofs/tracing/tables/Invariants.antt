use Rattle.std.proofs.Common.{◌≡◌, length}
use Rattle.fmp_instructions.specs.Instructions.{code_tables}
use Rattle.fmp_live.proofs.Tables.{HaveTables}
use Rattle.fmp_live.proofs.tracing.tables.Given as goal

abbrev pub invariant-loop-body : goal.invariant-loop-body
invariant-loop-body l = (length l.bodies.items ≡ l.body-index) × HaveTables l.outs (code_tables l.code) l.bodies.items
