use Rattle.std.proofs.Common.{◌≡◌, ◌+◌, ◌++◌, drop}
use Rattle.fmp_toppers.specs.Declarations.{message_rows}
use Rattle.fmp_toppers.proofs.tables.append_message_rows.Given as goal

abbrev pub invariant-loop-place : goal.invariant-loop-place
invariant-loop-place l =
    l.out.items ++ message_rows (l.place + 1) (drop l.place l.messages)
    ≡ l.initial.out.items ++ message_rows 1 l.messages
