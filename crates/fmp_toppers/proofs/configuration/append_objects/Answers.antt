use Rattle.std.proofs.Common.{◌++◌, ap, ◌∙◌, List, map}
use Rattle.std.proofs.lemmas.Result.{on_ok_weaker}
use Rattle.fmp_base.specs.declared.systems.SemaphoreConfig.{SemaphoreConfig}
use Rattle.fmp_base.specs.declared.systems.FlagConfig.{FlagConfig}
use Rattle.fmp_base.specs.declared.systems.DataQueueConfig.{DataQueueConfig}
use Rattle.fmp_base.specs.declared.systems.MailboxConfig.{MailboxConfig}
use Rattle.fmp_base.specs.declared.systems.SpinLockConfig.{SpinLockConfig}
use Rattle.fmp_tasklang.specs.Views.{body_view}
use Rattle.fmp_export.proofs.Appended.{two}
use Rattle.fmp_toppers.specs.Configuration.{data_queue_line, flag_line, mailbox_line, object_lines, semaphore_line}
use Rattle.fmp_toppers.specs.Configuration.{spin_lock_line}
use Rattle.fmp_toppers.specs.Lines.{lines}
use Rattle.fmp_toppers.proofs.configuration.append_objects.Goals as goal

pub returns : goal.returns
unfolding object_lines
returns c =
    let k = c.args.target in
    let sys = c.args.system.now in
    let bs = map body_view c.args.bodies.now in
    let t1 = lines (semaphore_line k bs) sys.semaphores.items in
    let t2 = lines (flag_line k bs) sys.flags.items in
    let t3 = lines (data_queue_line k bs) sys.data_queues.items in
    let t4 = lines (mailbox_line k bs) sys.mailboxes.items in
    let t5 = lines (spin_lock_line k bs) sys.spin_locks.items in
    let e1 = c.in_ok-append_lines.ensures
    ∙ ap (λ (xs : List SemaphoreConfig). c.args.out.now.items ++ lines (semaphore_line k bs) xs)
    c.deref.ensures.value in
    let e2 = c.in_ok-append_lines-2.ensures
    ∙ ap (λ (xs : List FlagConfig). c.append_lines.new.out.items ++ lines (flag_line k bs) xs)
    c.deref-2.ensures.value in
    let e3 = c.in_ok-append_lines-3.ensures
    ∙ ap (λ (xs : List DataQueueConfig). c.append_lines-2.new.out.items ++ lines (data_queue_line k bs) xs)
    c.deref-3.ensures.value in
    let e4 = c.in_ok-append_lines-4.ensures
    ∙ ap (λ (xs : List MailboxConfig). c.append_lines-3.new.out.items ++ lines (mailbox_line k bs) xs)
    c.deref-4.ensures.value in
    on_ok_weaker c.append_lines-5.result
    (λ e. two c.args.out.now.items t1 (t2 ++ (t3 ++ (t4 ++ t5))) _ _ e1
    (two c.append_lines.new.out.items t2 (t3 ++ (t4 ++ t5)) _ _ e2
    (two c.append_lines-2.new.out.items t3 (t4 ++ t5) _ _ e3
    (two c.append_lines-3.new.out.items t4 t5 _ _ e4
    (e
    ∙ ap (λ (xs : List SpinLockConfig). c.append_lines-4.new.out.items ++ lines (spin_lock_line k bs) xs)
    c.deref-5.ensures.value)))))
    c.append_lines-5.ensures
