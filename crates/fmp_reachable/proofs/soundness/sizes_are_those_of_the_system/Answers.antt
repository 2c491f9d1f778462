use Rattle.std.proofs.Common.{sym, ◌∙◌}
use Rattle.fmp_reachable.proofs.TestedLaws.{sizes_same}
use Rattle.fmp_reachable.proofs.soundness.sizes_are_those_of_the_system.Goals as goal

pub returns : goal.returns
returns c =
    let cyclics = c.cyclic_count.ensures in
    sizes_same c.args.tables.now.system c.args.tables.now.state
    (sym c.task_count.ensures.count ∙ c.task_count.ensures.configs)
    (sym c.processor_count.ensures.state ∙ c.processor_count.ensures.system) (sym cyclics.due_times ∙ cyclics.system)
    (sym c.semaphore_count.ensures.state ∙ c.semaphore_count.ensures.system)
    (sym c.flag_count.ensures.state ∙ c.flag_count.ensures.system)
    (sym c.data_queue_count.ensures.state ∙ c.data_queue_count.ensures.system)
    (sym c.mailbox_count.ensures.state ∙ c.mailbox_count.ensures.system)
    (sym c.shared_word_count.ensures.state ∙ c.shared_word_count.ensures.system)
    (sym cyclics.pending ∙ cyclics.system) c.interrupts_are_all_there.ensures
