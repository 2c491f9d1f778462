use Rattle.std.proofs.Common.{◌≡◌, ◌++◌, [], rules}
use Rattle.fmp_image_bytes.specs.Rows.{context_of, task_form, semaphore_form, flag_form, data_queue_form, mailbox_form}
use Rattle.fmp_image_bytes.specs.Rows.{message_form, shared_word_form, spin_lock_form, cyclic_form, interrupt_form}
use Rattle.fmp_image_bytes.specs.Images.{table_of}
use Rattle.fmp_image_bytes.proofs.Chains.{chain_10}
use Rattle.fmp_image_bytes.proofs.storing.put_tables.Goals as goal

pub returns : goal.returns
returns c =
    let s = c.args.system.now in
    let e1 : c.put_table.new.out.items ≡ c.args.out.now.items
    ++ (table_of task_form (context_of 0 0 []) []).spell s.tasks.items = search rules in
    let e2 : c.put_table-2.new.out.items ≡ c.put_table.new.out.items
    ++ (table_of semaphore_form (context_of 0 0 []) []).spell s.semaphores.items = search rules in
    let e3 : c.put_table-3.new.out.items ≡ c.put_table-2.new.out.items
    ++ (table_of flag_form (context_of 0 0 []) []).spell s.flags.items = search rules in
    let e4 : c.put_table-4.new.out.items ≡ c.put_table-3.new.out.items
    ++ (table_of data_queue_form (context_of 0 0 []) []).spell s.data_queues.items = search rules in
    let e5 : c.put_table-5.new.out.items ≡ c.put_table-4.new.out.items
    ++ (table_of mailbox_form (context_of 0 0 []) []).spell s.mailboxes.items = search rules in
    let e6 : c.put_table-6.new.out.items ≡ c.put_table-5.new.out.items
    ++ (table_of message_form (context_of 0 0 []) []).spell s.messages.items = search rules in
    let e7 : c.put_table-7.new.out.items ≡ c.put_table-6.new.out.items
    ++ (table_of shared_word_form (context_of 0 0 []) []).spell s.shared_words.items = search rules in
    let e8 : c.put_table-8.new.out.items ≡ c.put_table-7.new.out.items
    ++ (table_of spin_lock_form (context_of 0 0 []) []).spell s.spin_locks.items = search rules in
    let e9 : c.put_table-9.new.out.items ≡ c.put_table-8.new.out.items
    ++ (table_of cyclic_form (context_of 0 0 []) []).spell s.cyclics.items = search rules in
    let e10 : c.put_table-10.new.out.items ≡ c.put_table-9.new.out.items
    ++ (table_of interrupt_form (context_of 0 0 []) []).spell s.interrupts.items = search rules in
    rw (e10, e9, e8, e7, e6, e5, e4, e3, e2, e1)
    (chain_10 c.args.out.now.items ((table_of task_form (context_of 0 0 []) []).spell s.tasks.items)
    ((table_of semaphore_form (context_of 0 0 []) []).spell s.semaphores.items)
    ((table_of flag_form (context_of 0 0 []) []).spell s.flags.items)
    ((table_of data_queue_form (context_of 0 0 []) []).spell s.data_queues.items)
    ((table_of mailbox_form (context_of 0 0 []) []).spell s.mailboxes.items)
    ((table_of message_form (context_of 0 0 []) []).spell s.messages.items)
    ((table_of shared_word_form (context_of 0 0 []) []).spell s.shared_words.items)
    ((table_of spin_lock_form (context_of 0 0 []) []).spell s.spin_locks.items)
    ((table_of cyclic_form (context_of 0 0 []) []).spell s.cyclics.items)
    ((table_of interrupt_form (context_of 0 0 []) []).spell s.interrupts.items))
