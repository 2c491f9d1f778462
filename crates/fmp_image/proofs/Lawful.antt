-- What is built keeps the rules of images.
use Rattle.std.proofs.Common.{◌≡◌, ℕ, ◌<◌, ◌≤◌, List, [], ◌∷◌, length, map, Some, None, refl, ap, ◌∙◌, arith}
use Rattle.std.specs.List.{AllByRecursion}
use Rattle.std.proofs.lemmas.List.{length-map}
use Rattle.fmp_base.specs.declared.systems.CyclicConfig.{CyclicConfig}
use Rattle.fmp_base.specs.declared.systems.Entry.{Entry}
use Rattle.fmp_base.specs.declared.systems.Entry.TheVariants as entry
use Rattle.fmp_base.specs.declared.systems.InterruptConfig.{InterruptConfig}
use Rattle.fmp_base.specs.declared.systems.TaskConfig.{TaskConfig}
use Rattle.fmp_base.specs.Ranges.{IsTable, TaskInRange, CyclicInRange, InterruptInRange}
use Rattle.fmp_base.specs.Systems.{SystemTables}
use Rattle.fmp_cfgparse.specs.Tables.{IsConfiguration, TaskConfigured, CyclicConfigured, task_name, cyclic_name}
use Rattle.fmp_tasklang.specs.declared.trees.BodyKind.TheVariants.{Task, Handler}
use Rattle.fmp_tasklang.specs.Trees.{BodyTree}
use Rattle.fmp_instructions.specs.Instructions.{BodyTables}
use Rattle.fmp_instructions.specs.Verify.{Verified}
use Rattle.fmp_codegen.specs.Compiling.{compiled_body, compiled}
use Rattle.fmp_scopes.specs.Depths.{body_depth}
use Rattle.fmp_scopes.specs.DepthTables.{body_depths}
use Rattle.fmp_codegen.specs.Laws as codegen
use Rattle.fmp_image_bytes.specs.declared.heads.BodyHead.{BodyHead}
use Rattle.fmp_image_bytes.specs.Images.{image_tables, keys_of, KeepRules, IsImage}
use Rattle.fmp_image_bytes.specs.Instructions.{HasWord}
use Rattle.fmp_image_bytes.specs.Versions.{newest}
use Rattle.fmp_image_bytes.specs.Keys.{are_new}
use Rattle.fmp_image_bytes.specs.Rows.{RowContext, context_of, row, task_form, cyclic_form, interrupt_form}
use Rattle.fmp_image_bytes.specs.Rows.{semaphore_form, flag_form, data_queue_form, mailbox_form, message_form}
use Rattle.fmp_image_bytes.specs.Rows.{shared_word_form, spin_lock_form}
use Rattle.fmp_image.specs.Building.{built_entry, built_task, built_cyclic, built_interrupt, built_tables, built_heads}
use Rattle.fmp_image.specs.Building.{built_image}
use Rattle.fmp_image.proofs.Entering.{Enters, TaskEnters, CyclicEnters, InterruptEnters, EachEnters}
use Rattle.fmp_image.proofs.BodyRules.{are_bodies}
use Rattle.fmp_image.proofs.EntryRules.{number, number_below, enters_task, enters_handler}
use Rattle.fmp_image.proofs.FittingBodies.{IsTask, IsCyclic, task_fits, cyclic_fits, interrupt_fits}
use Rattle.fmp_image.proofs.FittingRows.{lies_in_range, both_all, semaphore_fits, flag_fits, data_queue_fits}
use Rattle.fmp_image.proofs.FittingRows.{mailbox_fits, message_fits, shared_word_fits, spin_lock_fits, table_keeps}
use Rattle.fmp_image.proofs.NamedRows.{AreNamed, has_names}
use Rattle.fmp_image.proofs.NewKeys.{keys_new}
use Rattle.fmp_image.proofs.SameNames.{kept}

module _ (bodies : List BodyTree) (processors : ℕ) (few : length bodies ≤ 255) (small : processors ≤ 8) where
  abbrev context : RowContext
  context = context_of newest processors (built_heads bodies)

  task_row :
      (t : TaskConfig) (e : Entry) → IsTask processors t → Enters bodies Task (Some t.stack) e →
      (row task_form context).fits (record t { entry = built_entry bodies e })
  task_row t (entry.Named n) ok h =
      let below = number_below bodies n Task (Some t.stack) h in
      task_fits context t (number bodies n) small ok (omega (arith, below, few)) (enters_task bodies n t.stack h)
  task_row t (entry.Body k) ok h = absurd h

  cyclic_row :
      (c : CyclicConfig) (e : Entry) → IsCyclic processors c → Enters bodies Handler None e →
      (row cyclic_form context).fits (record c { entry = built_entry bodies e })
  cyclic_row c (entry.Named n) ok h =
      let below = number_below bodies n Handler None h in
      cyclic_fits context c (number bodies n) small ok (omega (arith, below, few)) (enters_handler bodies n h)
  cyclic_row c (entry.Body k) ok h = absurd h

  interrupt_row :
      (i : InterruptConfig) (e : Entry) → InterruptInRange processors i → Enters bodies Handler None e →
      (row interrupt_form context).fits (record i { entry = built_entry bodies e })
  interrupt_row i (entry.Named n) ok h =
      let below = number_below bodies n Handler None h in
      interrupt_fits context i (number bodies n) small ok (omega (arith, below, few)) (enters_handler bodies n h)
  interrupt_row i (entry.Body k) ok h = absurd h

  each_row :
      {A : Type 0} (P Q R : A → Type 0) (change : A → A) → ((a : A) → P a → Q a → R (change a)) →
      (rows : List A) → AllByRecursion P rows → AllByRecursion Q rows → AllByRecursion R (map change rows)
  each_row P Q R change f [] p q = tt
  each_row P Q R change f (a ∷ rows) p q = (f a p.0 q.0, each_row P Q R change f rows p.1 q.1)

  fewer : {A : Type 0} (change : A → A) (rows : List A) → length rows ≤ 255 → length (map change rows) < 256
  fewer change rows h = omega (arith, h, length-map rows change)

  tasks_keep : (rows : List TaskConfig) → IsTable (TaskInRange processors) rows → AreNamed task_name rows
      → AllByRecursion TaskConfigured rows → AllByRecursion (TaskEnters bodies) rows →
      KeepRules task_form context (map (built_task bodies) rows)
  tasks_keep rows h named given enters =
      let ok = both_all (TaskInRange processors) _ rows h.each (both_all _ TaskConfigured rows named given) in
      record {
        count = fewer (built_task bodies) rows h.count;
        each = each_row (IsTask processors) (TaskEnters bodies) (row task_form context).fits (built_task bodies)
            (λ a p q. task_row a a.entry p q) rows ok enters;
      }

  cyclics_keep : (rows : List CyclicConfig) → IsTable (CyclicInRange processors) rows → AreNamed cyclic_name rows
      → AllByRecursion CyclicConfigured rows → AllByRecursion (CyclicEnters bodies) rows →
      KeepRules cyclic_form context (map (built_cyclic bodies) rows)
  cyclics_keep rows h named given enters =
      let ok = both_all (CyclicInRange processors) _ rows h.each (both_all _ CyclicConfigured rows named given) in
      record {
        count = fewer (built_cyclic bodies) rows h.count;
        each = each_row (IsCyclic processors) (CyclicEnters bodies) (row cyclic_form context).fits
            (built_cyclic bodies) (λ a p q. cyclic_row a a.entry p q) rows ok enters;
      }

  interrupts_keep : (rows : List InterruptConfig) → IsTable (InterruptInRange processors) rows
      → AllByRecursion (InterruptEnters bodies) rows →
      KeepRules interrupt_form context (map (built_interrupt bodies) rows)
  interrupts_keep rows h enters = record {
    count = fewer (built_interrupt bodies) rows h.count;
    each = each_row (InterruptInRange processors) (InterruptEnters bodies) (row interrupt_form context).fits
        (built_interrupt bodies) (λ a p q. interrupt_row a a.entry p q) rows h.each enters;
  }

keys_kept : (bodies : List BodyTree) (t : SystemTables) → keys_of (built_tables bodies t) ≡ keys_of t
keys_kept bodies t =
    let tasks = kept task_form.key_of (built_task bodies) (λ x. refl) t.tasks in
    let cyclics = kept cyclic_form.key_of (built_cyclic bodies) (λ x. refl) t.cyclics in
    let interrupts = kept interrupt_form.key_of (built_interrupt bodies) (λ x. refl) t.interrupts in
    cc

pub lawful :
    ((body : BodyTree) → codegen.greatest (body_depths body) ≡ body_depth body) →
    (t : SystemTables) (bodies : List BodyTree) (code : List BodyTables) → IsConfiguration t → EachEnters bodies t
    → length bodies ≤ 255 →
    code ≡ compiled t bodies → Verified code → AllByRecursion (λ (b : BodyTables). AllByRecursion HasWord
    b.instructions) code →
    IsImage (image_tables newest (built_tables bodies t) (built_heads bodies) code)
lawful needed t bodies code h enters few is verified words =
    let p = t.processors in
    let r = h.ranges in
    let n = has_names t h.names in
    let small : p ≤ 8 = r.processors.most in
    let context = context_of newest p (built_heads bodies) in
    let many : length code ≡ length (compiled t bodies) = ap length is in
    record {
      version = refl;
      processors = lies_in_range 1 8 p r.processors;
      queue_limit = h.queue_limit;
      count = omega (arith, few, many, length-map bodies (compiled_body t));
      bodies = are_bodies needed t bodies code is verified words;
      tasks = tasks_keep bodies p few small t.tasks r.tasks n.tasks h.tasks enters.tasks;
      semaphores = table_keeps semaphore_form context (semaphore_fits context) t.semaphores r.semaphores.count
          r.semaphores.each n.semaphores;
      flags = table_keeps flag_form context (flag_fits context) t.flags r.flags.count r.flags.each n.flags;
      data_queues = table_keeps data_queue_form context (data_queue_fits context) t.data_queues r.data_queues.count
          r.data_queues.each n.data_queues;
      mailboxes = table_keeps mailbox_form context (mailbox_fits context) t.mailboxes r.mailboxes.count
          r.mailboxes.each n.mailboxes;
      messages = table_keeps message_form context (message_fits context) t.messages r.messages.count r.messages.each
          n.messages;
      shared_words = table_keeps shared_word_form context (shared_word_fits context) t.shared_words r.shared_words
          h.shared_words n.shared_words;
      spin_locks = table_keeps spin_lock_form context (λ l name same. spin_lock_fits context l name) t.spin_locks
          r.spin_locks n.spin_locks n.spin_locks;
      cyclics = cyclics_keep bodies p few small t.cyclics r.cyclics n.cyclics h.cyclics enters.cyclics;
      interrupts = interrupts_keep bodies p few small t.interrupts r.interrupts enters.interrupts;
      once = ap (are_new []) (keys_kept bodies t) ∙ keys_new t h;
    }

-- the same of tables, heads and code that are those
pub lawful_made :
    (made : SystemTables) (heads : List BodyHead) (code : List BodyTables) (t : SystemTables) (bodies : List BodyTree) →
    made ≡ built_tables bodies t → heads ≡ built_heads bodies → code ≡ compiled t bodies →
    IsImage (built_image t bodies) → IsImage (image_tables newest made heads code)
lawful_made made heads code t bodies e f g h = rw (e, f, g) h
