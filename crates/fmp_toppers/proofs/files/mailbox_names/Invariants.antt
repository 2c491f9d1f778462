use Rattle.std.proofs.Common.{◌≡◌, map, take}
use Rattle.fmp_toppers.proofs.files.mailbox_names.Given as goal

abbrev pub invariant-loop-place : goal.invariant-loop-place
invariant-loop-place l = l.names.items ≡ map (λ m. m.name) (take l.place l.mailboxes)
