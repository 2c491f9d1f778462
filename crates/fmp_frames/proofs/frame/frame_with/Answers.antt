use Rattle.std.proofs.Common.{◌∙◌, refl, ap, rules}
use Rattle.fmp_frames.proofs.FrameLemmas.{same-frame}
use Rattle.fmp_frames.proofs.frame.frame_with.Goals as goal

pub returns : goal.returns
returns g c =
    let state = c.tables-tables.ensures.state in
    let system = c.tables-tables.ensures.system in
    let all = rw (system, state) at c.in_ok-processors.ensures in
    same-frame _ _ (search rules) refl (c.clock.ensures.value ∙ ap (λ s. s.clock) state) c.in_ok-states.ensures
    (rw (system, state) at c.in_ok-blocks.ensures)
    all
    (rw (c.deref.ensures.value ∙ all) at c.in_ok-spins.ensures)
    (rw (system, state) at c.in_ok-semaphores.ensures)
    (rw (system, state) at c.in_ok-flags.ensures)
    (rw (system, state) at c.in_ok-data_queues.ensures)
    (rw (system, state) at c.in_ok-mailboxes.ensures)
    (rw (system, state) at c.in_ok-shared_words.ensures)
    (rw (system, state) at c.in_ok-pending_cyclics.ensures)
    (rw state at c.in_ok-pending_interrupts.ensures)
