use Rattle.std.proofs.Common.{◌++◌, ap, ◌∙◌, codes, List, map}
use Rattle.std.proofs.lemmas.Result.{on_ok_weaker}
use Rattle.fmp_base.specs.declared.systems.TaskConfig.{TaskConfig}
use Rattle.fmp_base.specs.declared.systems.SemaphoreConfig.{SemaphoreConfig}
use Rattle.fmp_base.specs.declared.systems.FlagConfig.{FlagConfig}
use Rattle.fmp_base.specs.declared.systems.DataQueueConfig.{DataQueueConfig}
use Rattle.fmp_base.specs.declared.systems.MailboxConfig.{MailboxConfig}
use Rattle.fmp_base.specs.declared.systems.MessageConfig.{MessageConfig}
use Rattle.fmp_base.specs.declared.systems.SharedWordConfig.{SharedWordConfig}
use Rattle.fmp_base.specs.declared.systems.SpinLockConfig.{SpinLockConfig}
use Rattle.fmp_base.specs.declared.systems.CyclicConfig.{CyclicConfig}
use Rattle.fmp_export.specs.Files.{c_kind, c_kinds}
use Rattle.fmp_export.proofs.Appended.{two}
use Rattle.fmp_export.proofs.objects.append_kinds.Goals as goal

pub returns : goal.returns
unfolding c_kinds
returns c =
    let sys = c.args.system.now in
    let a = c_kind (codes "Tasks.") (map (λ (t : TaskConfig). t.name) sys.tasks.items) in
    let b = c_kind (codes "Semaphores.") (map (λ (t : SemaphoreConfig). t.name) sys.semaphores.items) in
    let d = c_kind (codes "Eventflags.") (map (λ (t : FlagConfig). t.name) sys.flags.items) in
    let f = c_kind (codes "Data queues.") (map (λ (t : DataQueueConfig). t.name) sys.data_queues.items) in
    let g = c_kind (codes "Mailboxes.") (map (λ (t : MailboxConfig). t.name) sys.mailboxes.items) in
    let h = c_kind (codes "Messages.") (map (λ (t : MessageConfig). t.name) sys.messages.items) in
    let i = c_kind (codes "Shared words.") (map (λ (t : SharedWordConfig). t.name) sys.shared_words.items) in
    let j = c_kind (codes "Spin locks.") (map (λ (t : SpinLockConfig). t.name) sys.spin_locks.items) in
    let k = c_kind (codes "Cyclic handlers.") (map (λ (t : CyclicConfig). t.name) sys.cyclics.items) in
    let a-e = c.in_ok-append_kind.ensures
    ∙ ap (λ (xs : List TaskConfig). c.args.out.now.items ++
    c_kind (codes "Tasks.") (map (λ (t : TaskConfig). t.name) xs)) c.deref.ensures.value in
    let b-e = c.in_ok-append_kind-2.ensures
    ∙ ap (λ (xs : List SemaphoreConfig). c.append_kind.new.out.items ++
    c_kind (codes "Semaphores.") (map (λ (t : SemaphoreConfig). t.name) xs)) c.deref-2.ensures.value in
    let d-e = c.in_ok-append_kind-3.ensures
    ∙ ap (λ (xs : List FlagConfig). c.append_kind-2.new.out.items ++
    c_kind (codes "Eventflags.") (map (λ (t : FlagConfig). t.name) xs)) c.deref-3.ensures.value in
    let f-e = c.in_ok-append_kind-4.ensures
    ∙ ap (λ (xs : List DataQueueConfig). c.append_kind-3.new.out.items ++
    c_kind (codes "Data queues.") (map (λ (t : DataQueueConfig). t.name) xs)) c.deref-4.ensures.value in
    let g-e = c.in_ok-append_kind-5.ensures
    ∙ ap (λ (xs : List MailboxConfig). c.append_kind-4.new.out.items ++
    c_kind (codes "Mailboxes.") (map (λ (t : MailboxConfig). t.name) xs)) c.deref-5.ensures.value in
    let h-e = c.in_ok-append_kind-6.ensures
    ∙ ap (λ (xs : List MessageConfig). c.append_kind-5.new.out.items ++
    c_kind (codes "Messages.") (map (λ (t : MessageConfig). t.name) xs)) c.deref-6.ensures.value in
    let i-e = c.in_ok-append_kind-7.ensures
    ∙ ap (λ (xs : List SharedWordConfig). c.append_kind-6.new.out.items ++
    c_kind (codes "Shared words.") (map (λ (t : SharedWordConfig). t.name) xs)) c.deref-7.ensures.value in
    let j-e = c.in_ok-append_kind-8.ensures
    ∙ ap (λ (xs : List SpinLockConfig). c.append_kind-7.new.out.items ++
    c_kind (codes "Spin locks.") (map (λ (t : SpinLockConfig). t.name) xs)) c.deref-8.ensures.value in
    on_ok_weaker c.append_kind-9.result
    (λ e. two c.args.out.now.items a (b ++ (d ++ (f ++ (g ++ (h ++ (i ++ (j ++ k))))))) _ _ a-e
    (two c.append_kind.new.out.items b (d ++ (f ++ (g ++ (h ++ (i ++ (j ++ k)))))) _ _ b-e
    (two c.append_kind-2.new.out.items d (f ++ (g ++ (h ++ (i ++ (j ++ k))))) _ _ d-e
    (two c.append_kind-3.new.out.items f (g ++ (h ++ (i ++ (j ++ k)))) _ _ f-e
    (two c.append_kind-4.new.out.items g (h ++ (i ++ (j ++ k))) _ _ g-e
    (two c.append_kind-5.new.out.items h (i ++ (j ++ k)) _ _ h-e
    (two c.append_kind-6.new.out.items i (j ++ k) _ _ i-e
    (two c.append_kind-7.new.out.items j k _ _ j-e
    (e ∙ ap (λ (xs : List CyclicConfig). c.append_kind-8.new.out.items ++
    c_kind (codes "Cyclic handlers.") (map (λ (t : CyclicConfig). t.name) xs)) c.deref-9.ensures.value)))))))))
    c.append_kind-9.ensures
