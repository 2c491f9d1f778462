use Rattle.std.proofs.Common.{◌≡◌, ◌∙◌, sym, true, false}
use Rattle.fmp_ring.specs.RingLists.{is_linked}
use Rattle.fmp_tasks.specs.Tables.{tables_view}
use Rattle.fmp_tasks.proofs.HoldingLemmas.{behind-linked, behind-none}
use Rattle.fmp_tasks.proofs.kernel_state.KernelState.behind.Goals as goal

pub returns-then-not-is_linked-clause-value : goal.returns-then-not-is_linked-clause-value
returns-then-not-is_linked-clause-value c =
    let link : is_linked c.args.t c.self.inside.rings.lists ≡ false = sym c.is_linked.ensures.value
    ∙ c.if-not-is_linked.true in
    rw (← c.self.view_is) (behind-none (tables_view c.self.inside).state c.self.invariant.tasks c.args.t link)

pub returns-clause-value : goal.returns-clause-value
returns-clause-value c =
    let link : is_linked c.args.t c.self.inside.rings.lists ≡ true = sym c.is_linked.ensures.value
    ∙ c.if-not-is_linked.false in
    rw (← c.self.view_is) (behind-linked (tables_view c.self.inside).state c.self.invariant.tasks c.args.t
    c.as_byte.result link (λ h is. c.as_byte.ensures ∙ c.next.ensures.value h is))
