use Rattle.std.proofs.Common.{◌≡◌, ◌∙◌, sym, true, false}
use Rattle.fmp_ring.specs.RingLists.{is_linked}
use Rattle.fmp_tasks.proofs.HoldingLemmas.{message-behind-linked, message-behind-none}
use Rattle.fmp_tasks.proofs.kernel_state.KernelState.message_behind.Goals as goal

pub returns-then-not-is_linked-clause-value : goal.returns-then-not-is_linked-clause-value
returns-then-not-is_linked-clause-value c =
    let link : is_linked c.args.g c.self.inside.mailboxes.lists ≡ false = sym c.is_linked.ensures.value
    ∙ c.if-not-is_linked.true in
    rw (← c.self.view_is) (message-behind-none c.self.inside.mailboxes.lists c.args.g link)

pub returns-clause-value : goal.returns-clause-value
returns-clause-value c =
    let link : is_linked c.args.g c.self.inside.mailboxes.lists ≡ true = sym c.is_linked.ensures.value
    ∙ c.if-not-is_linked.false in
    rw (← c.self.view_is) (message-behind-linked c.self.inside.mailboxes.lists c.args.g c.as_byte.result link
    (λ h is. c.as_byte.ensures ∙ c.next.ensures.value h is))
