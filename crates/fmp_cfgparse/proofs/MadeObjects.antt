-- One more object keeps the rules of a configuration.
use Rattle.std.proofs.Common.{◌≡◌, ◌<◌, ◌≤◌, nat_le, nat_eq, true, false, List, [], ◌∷◌, ◌++◌, map, refl, arith}
use Rattle.std.proofs.lemmas.List.Sorted.{IsPermutation-trans, IsPermutation-append_left}
use Rattle.std.specs.List.{AllByRecursion, IsDistinct}
use Rattle.std.specs.List.Sorted.{IsPermutation}
use Rattle.fmp_base.specs.declared.names.Name.{Name}
use Rattle.fmp_base.specs.Ranges.{IsInRange, TaskInRange, SemaphoreInRange, FlagInRange, DataQueueInRange}
use Rattle.fmp_base.specs.Ranges.{MailboxInRange, MessageInRange, CyclicInRange, InterruptInRange}
use Rattle.fmp_base.specs.Systems.{SystemTables}
use Rattle.fmp_base.specs.declared.words.Api.{Api}
use Rattle.fmp_base.specs.declared.words.Api.TheVariants as api
use Rattle.fmp_cfgparse.specs.declared.places.ClassProcessors.{ClassProcessors}
use Rattle.fmp_cfgparse.specs.Apis.{count_of, gives_name, parameters_fit, is_taken, with_object, with_name}
use Rattle.fmp_cfgparse.specs.Tables.{TaskConfigured, SharedWordConfigured, CyclicConfigured, InterruptConfigured}
use Rattle.fmp_cfgparse.specs.Tables.{object_names, interrupt_number, task_name, semaphore_name, flag_name}
use Rattle.fmp_cfgparse.specs.Tables.{data_queue_name, mailbox_name, message_name, shared_word_name, spin_lock_name}
use Rattle.fmp_cfgparse.specs.Tables.{cyclic_name}
use Rattle.fmp_cfgparse.specs.Trees.{FieldTree}
use Rattle.fmp_cfgparse.specs.Values.{number_at, name_at, between, held}
use Rattle.fmp_cfgparse.proofs.KnownTrees.{IsKnownField, number_fits}
use Rattle.fmp_cfgparse.proofs.OneMore.{both, held_lies, all_more, count_more, row_more, name_here, name_last}
use Rattle.fmp_cfgparse.proofs.OneMore.{name_later, number_more}

module _ (c : ClassProcessors) (f : List FieldTree) (t : SystemTables) where
  pub ranges_more : (k : Api) → c.processor < t.processors → nat_le 255 (count_of k t) ≡ false → parameters_fit k f
      ≡ true → IsInRange t → IsInRange (with_object c k f t)
  ranges_more api.CreTsk inside room fits h =
      let fit = both (between 1 16 (number_at f 4)) (between 1 65536 (number_at f 5)) fits in
      record {
        processors = h.processors;
        queue_limit = h.queue_limit;
        tasks = row_more (TaskInRange t.processors) t.tasks _ h.tasks room (record {
          priority = held_lies 255 1 16 (number_at f 4) (omega arith) fit.0;
          stack = held_lies 4294967295 1 65536 (number_at f 5) (omega arith) fit.1;
          processor = inside;
        });
        semaphores = h.semaphores;
        flags = h.flags;
        data_queues = h.data_queues;
        mailboxes = h.mailboxes;
        messages = h.messages;
        shared_words = h.shared_words;
        spin_locks = h.spin_locks;
        cyclics = h.cyclics;
        interrupts = h.interrupts;
      }
  ranges_more api.CreSem inside room fits h =
      let fit = both _ _ fits in
      let most = held_lies 65535 1 65535 (number_at f 3) (omega arith) fit.0 in
      let below : held 65535 (number_at f 3) ≤ 65535 = most.most in
      let initial = held_lies 65535 0 (held 65535 (number_at f 3)) (number_at f 2) below fit.1 in
      record {
        processors = h.processors;
        queue_limit = h.queue_limit;
        tasks = h.tasks;
        semaphores = row_more SemaphoreInRange t.semaphores _ h.semaphores room (record {
          initial = initial.most;
          most = most;
        });
        flags = h.flags;
        data_queues = h.data_queues;
        mailboxes = h.mailboxes;
        messages = h.messages;
        shared_words = h.shared_words;
        spin_locks = h.spin_locks;
        cyclics = h.cyclics;
        interrupts = h.interrupts;
      }
  ranges_more api.CreFlg inside room fits h =
      let initial = held_lies 65535 0 65535 (number_at f 2) (omega arith) fits in
      record {
        processors = h.processors;
        queue_limit = h.queue_limit;
        tasks = h.tasks;
        semaphores = h.semaphores;
        flags = row_more FlagInRange t.flags _ h.flags room (record { initial = initial.most });
        data_queues = h.data_queues;
        mailboxes = h.mailboxes;
        messages = h.messages;
        shared_words = h.shared_words;
        spin_locks = h.spin_locks;
        cyclics = h.cyclics;
        interrupts = h.interrupts;
      }
  ranges_more api.CreDtq inside room fits h =
      let capacity = held_lies 255 0 255 (number_at f 2) (omega arith) fits in
      record {
        processors = h.processors;
        queue_limit = h.queue_limit;
        tasks = h.tasks;
        semaphores = h.semaphores;
        flags = h.flags;
        data_queues = row_more DataQueueInRange t.data_queues _ h.data_queues room
            (record { capacity = capacity.most });
        mailboxes = h.mailboxes;
        messages = h.messages;
        shared_words = h.shared_words;
        spin_locks = h.spin_locks;
        cyclics = h.cyclics;
        interrupts = h.interrupts;
      }
  ranges_more api.CreMbx inside room fits h =
      record {
        processors = h.processors;
        queue_limit = h.queue_limit;
        tasks = h.tasks;
        semaphores = h.semaphores;
        flags = h.flags;
        data_queues = h.data_queues;
        mailboxes = row_more MailboxInRange t.mailboxes _ h.mailboxes room
            (record { most = held_lies 255 1 16 (number_at f 2) (omega arith) fits });
        messages = h.messages;
        shared_words = h.shared_words;
        spin_locks = h.spin_locks;
        cyclics = h.cyclics;
        interrupts = h.interrupts;
      }
  ranges_more api.CreMsg inside room fits h =
      record {
        processors = h.processors;
        queue_limit = h.queue_limit;
        tasks = h.tasks;
        semaphores = h.semaphores;
        flags = h.flags;
        data_queues = h.data_queues;
        mailboxes = h.mailboxes;
        messages = row_more MessageInRange t.messages _ h.messages room
            (record { priority = held_lies 255 1 16 (number_at f 1) (omega arith) fits });
        shared_words = h.shared_words;
        spin_locks = h.spin_locks;
        cyclics = h.cyclics;
        interrupts = h.interrupts;
      }
  ranges_more api.CreShr inside room fits h =
      record {
        processors = h.processors;
        queue_limit = h.queue_limit;
        tasks = h.tasks;
        semaphores = h.semaphores;
        flags = h.flags;
        data_queues = h.data_queues;
        mailboxes = h.mailboxes;
        messages = h.messages;
        shared_words = count_more t.shared_words _ room;
        spin_locks = h.spin_locks;
        cyclics = h.cyclics;
        interrupts = h.interrupts;
      }
  ranges_more api.CreSpn inside room fits h =
      record {
        processors = h.processors;
        queue_limit = h.queue_limit;
        tasks = h.tasks;
        semaphores = h.semaphores;
        flags = h.flags;
        data_queues = h.data_queues;
        mailboxes = h.mailboxes;
        messages = h.messages;
        shared_words = h.shared_words;
        spin_locks = count_more t.spin_locks _ room;
        cyclics = h.cyclics;
        interrupts = h.interrupts;
      }
  ranges_more api.CreCyc inside room fits h =
      let fit = both (between 1 1073741824 (number_at f 4)) (between 0 1073741824 (number_at f 5)) fits in
      let phase = held_lies 4294967295 0 1073741824 (number_at f 5) (omega arith) fit.1 in
      record {
        processors = h.processors;
        queue_limit = h.queue_limit;
        tasks = h.tasks;
        semaphores = h.semaphores;
        flags = h.flags;
        data_queues = h.data_queues;
        mailboxes = h.mailboxes;
        messages = h.messages;
        shared_words = h.shared_words;
        spin_locks = h.spin_locks;
        cyclics = row_more (CyclicInRange t.processors) t.cyclics _ h.cyclics room (record {
          period = held_lies 4294967295 1 1073741824 (number_at f 4) (omega arith) fit.0;
          phase = phase.most;
          processor = inside;
        });
        interrupts = h.interrupts;
      }
  ranges_more api.DefInh inside room fits h =
      record {
        processors = h.processors;
        queue_limit = h.queue_limit;
        tasks = h.tasks;
        semaphores = h.semaphores;
        flags = h.flags;
        data_queues = h.data_queues;
        mailboxes = h.mailboxes;
        messages = h.messages;
        shared_words = h.shared_words;
        spin_locks = h.spin_locks;
        cyclics = h.cyclics;
        interrupts = row_more (InterruptInRange t.processors) t.interrupts _ h.interrupts room (record {
          number = held_lies 255 1 32 (number_at f 0) (omega arith) fits;
          processor = inside;
        });
      }

  -- the processors and the bound of the queues stay
  pub processors_stay : (k : Api) → (with_object c k f t).processors ≡ t.processors
  processors_stay api.CreTsk = refl
  processors_stay api.CreSem = refl
  processors_stay api.CreFlg = refl
  processors_stay api.CreDtq = refl
  processors_stay api.CreMbx = refl
  processors_stay api.CreMsg = refl
  processors_stay api.CreShr = refl
  processors_stay api.CreSpn = refl
  processors_stay api.CreCyc = refl
  processors_stay api.DefInh = refl

  pub queue_limit_stays : (k : Api) → (with_object c k f t).queue_limit ≡ t.queue_limit
  queue_limit_stays api.CreTsk = refl
  queue_limit_stays api.CreSem = refl
  queue_limit_stays api.CreFlg = refl
  queue_limit_stays api.CreDtq = refl
  queue_limit_stays api.CreMbx = refl
  queue_limit_stays api.CreMsg = refl
  queue_limit_stays api.CreShr = refl
  queue_limit_stays api.CreSpn = refl
  queue_limit_stays api.CreCyc = refl
  queue_limit_stays api.DefInh = refl

  pub tasks_more : (k : Api) → AllByRecursion IsKnownField f → AllByRecursion TaskConfigured t.tasks
      → AllByRecursion TaskConfigured (with_object c k f t).tasks
  tasks_more api.CreTsk known h = all_more TaskConfigured t.tasks _ h (record {
    exinf = number_fits f 2 known;
    entry = tt;
  })
  tasks_more api.CreSem known h = h
  tasks_more api.CreFlg known h = h
  tasks_more api.CreDtq known h = h
  tasks_more api.CreMbx known h = h
  tasks_more api.CreMsg known h = h
  tasks_more api.CreShr known h = h
  tasks_more api.CreSpn known h = h
  tasks_more api.CreCyc known h = h
  tasks_more api.DefInh known h = h

  pub shared_words_more : (k : Api) → AllByRecursion IsKnownField f
      → AllByRecursion SharedWordConfigured t.shared_words → AllByRecursion SharedWordConfigured
      (with_object c k f t).shared_words
  shared_words_more api.CreTsk known h = h
  shared_words_more api.CreSem known h = h
  shared_words_more api.CreFlg known h = h
  shared_words_more api.CreDtq known h = h
  shared_words_more api.CreMbx known h = h
  shared_words_more api.CreMsg known h = h
  shared_words_more api.CreShr known h = all_more SharedWordConfigured t.shared_words _ h
      (record { initial = number_fits f 1 known })
  shared_words_more api.CreSpn known h = h
  shared_words_more api.CreCyc known h = h
  shared_words_more api.DefInh known h = h

  pub cyclics_more : (k : Api) → AllByRecursion IsKnownField f → AllByRecursion CyclicConfigured t.cyclics
      → AllByRecursion CyclicConfigured (with_object c k f t).cyclics
  cyclics_more api.CreTsk known h = h
  cyclics_more api.CreSem known h = h
  cyclics_more api.CreFlg known h = h
  cyclics_more api.CreDtq known h = h
  cyclics_more api.CreMbx known h = h
  cyclics_more api.CreMsg known h = h
  cyclics_more api.CreShr known h = h
  cyclics_more api.CreSpn known h = h
  cyclics_more api.CreCyc known h = all_more CyclicConfigured t.cyclics _ h
      (record { exinf = number_fits f 2 known; entry = tt })
  cyclics_more api.DefInh known h = h

  pub interrupts_more : (k : Api) → AllByRecursion InterruptConfigured t.interrupts
      → AllByRecursion InterruptConfigured (with_object c k f t).interrupts
  interrupts_more api.CreTsk h = h
  interrupts_more api.CreSem h = h
  interrupts_more api.CreFlg h = h
  interrupts_more api.CreDtq h = h
  interrupts_more api.CreMbx h = h
  interrupts_more api.CreMsg h = h
  interrupts_more api.CreShr h = h
  interrupts_more api.CreSpn h = h
  interrupts_more api.CreCyc h = h
  interrupts_more api.DefInh h = all_more InterruptConfigured t.interrupts _ h (record { entry = tt })

  pub numbers_more : (k : Api) → is_taken k f t ≡ false → IsDistinct nat_eq (map interrupt_number t.interrupts)
      → IsDistinct nat_eq (map interrupt_number (with_object c k f t).interrupts)
  numbers_more api.CreTsk free h = h
  numbers_more api.CreSem free h = h
  numbers_more api.CreFlg free h = h
  numbers_more api.CreDtq free h = h
  numbers_more api.CreMbx free h = h
  numbers_more api.CreMsg free h = h
  numbers_more api.CreShr free h = h
  numbers_more api.CreSpn free h = h
  numbers_more api.CreCyc free h = h
  numbers_more api.DefInh free h = number_more t.interrupts _ h free

  module _ (names : List Name) (listed : IsPermutation names (object_names t)) where
    -- where a name is put last
    put_last : (n : Name) (new : List Name) → IsPermutation (object_names t ++ n ∷ []) new
        → IsPermutation (names ++ n ∷ []) new
    put_last n new moved =
        IsPermutation-trans (names ++ n ∷ []) (object_names t ++ n ∷ []) new
        (IsPermutation-append_left (n ∷ []) names (object_names t) listed) moved

    -- the names are those of the tables
    pub names_more : (k : Api) → IsPermutation (with_name (gives_name k) (name_at f 0) names)
        (object_names (with_object c k f t))
    names_more api.CreTsk = let n = name_at f 0 in put_last n _ (name_here task_name t.tasks _ _)
    names_more api.CreSem = let n = name_at f 0 in put_last n _ (name_later (map task_name t.tasks) _ _ n
        (name_here semaphore_name t.semaphores _ _))
    names_more api.CreFlg = let n = name_at f 0 in put_last n _ (name_later (map task_name t.tasks) _ _ n
        (name_later (map semaphore_name t.semaphores) _ _ n (name_here flag_name t.flags _ _)))
    names_more api.CreDtq =
        let n = name_at f 0 in put_last n _ (name_later (map task_name t.tasks) _ _ n
        (name_later (map semaphore_name t.semaphores) _ _ n (name_later (map flag_name t.flags) _ _ n
        (name_here data_queue_name t.data_queues _ _))))
    names_more api.CreMbx = let n = name_at f 0 in put_last n _ (name_later (map task_name t.tasks) _ _ n
        (name_later (map semaphore_name t.semaphores) _ _ n (name_later (map flag_name t.flags) _ _ n
        (name_later (map data_queue_name t.data_queues) _ _ n (name_here mailbox_name t.mailboxes _ _)))))
    names_more api.CreMsg = let n = name_at f 0 in put_last n _ (name_later (map task_name t.tasks) _ _ n
        (name_later (map semaphore_name t.semaphores) _ _ n (name_later (map flag_name t.flags) _ _ n
        (name_later (map data_queue_name t.data_queues) _ _ n (name_later (map mailbox_name t.mailboxes) _ _ n
        (name_here message_name t.messages _ _))))))
    names_more api.CreShr = let n = name_at f 0 in put_last n _ (name_later (map task_name t.tasks) _ _ n
        (name_later (map semaphore_name t.semaphores) _ _ n (name_later (map flag_name t.flags) _ _ n
        (name_later (map data_queue_name t.data_queues) _ _ n (name_later (map mailbox_name t.mailboxes) _ _ n
        (name_later (map message_name t.messages) _ _ n (name_here shared_word_name t.shared_words _ _)))))))
    names_more api.CreSpn = let n = name_at f 0 in put_last n _ (name_later (map task_name t.tasks) _ _ n
        (name_later (map semaphore_name t.semaphores) _ _ n (name_later (map flag_name t.flags) _ _ n
        (name_later (map data_queue_name t.data_queues) _ _ n (name_later (map mailbox_name t.mailboxes) _ _ n
        (name_later (map message_name t.messages) _ _ n (name_later (map shared_word_name t.shared_words) _ _ n
        (name_here spin_lock_name t.spin_locks _ _))))))))
    names_more api.CreCyc = let n = name_at f 0 in put_last n _ (name_later (map task_name t.tasks) _ _ n
        (name_later (map semaphore_name t.semaphores) _ _ n (name_later (map flag_name t.flags) _ _ n
        (name_later (map data_queue_name t.data_queues) _ _ n (name_later (map mailbox_name t.mailboxes) _ _ n
        (name_later (map message_name t.messages) _ _ n (name_later (map shared_word_name t.shared_words) _ _ n
        (name_later (map spin_lock_name t.spin_locks) _ _ n (name_last cyclic_name t.cyclics _)))))))))
    names_more api.DefInh = listed
