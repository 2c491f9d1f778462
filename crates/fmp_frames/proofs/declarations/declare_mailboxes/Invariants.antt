use Rattle.std.proofs.Common.{◌≡◌, ◌++◌, drop}
use Rattle.fmp_frames.specs.Declarations.{of_each, mailbox_scope}
use Rattle.fmp_frames.proofs.declarations.declare_mailboxes.Given as goal

abbrev pub invariant-loop-place : goal.invariant-loop-place
invariant-loop-place l =
    l.out.items ++ of_each mailbox_scope l.place (drop l.place l.sys.mailboxes.items)
    ≡ l.initial.out.items ++ of_each mailbox_scope 0 l.sys.mailboxes.items
