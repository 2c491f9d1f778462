-- What is read is an image that the bytes spell, and what spells an image is read.
use Rattle.std.proofs.Common.{◌≡◌, ℕ, ◌+◌, ◌^◌, ◌<◌, ◌≤◌, true, List, [], ◌∷◌, ◌++◌, map, Result, Ok, refl, sym, ap}
use Rattle.std.proofs.Common.{subst, ◌∙◌, arith}
use Rattle.std.proofs.lemmas.Bool.{leb-true}
use Rattle.std.proofs.lemmas.List.{append-nil}
use Rattle.std.proofs.lemmas.Slice.Eq.{bytes_eq-Decides}
use Rattle.fmp_image_bytes.specs.declared.fault.ImageFault.{ImageFault}
use Rattle.fmp_image_bytes.specs.declared.keys.Key.{Key}
use Rattle.fmp_image_bytes.specs.Fields.{Field, chained}
use Rattle.fmp_image_bytes.specs.Keys.{are_new}
use Rattle.fmp_image_bytes.specs.Fields.{in_range}
use Rattle.fmp_image_bytes.specs.Rows.{RowContext, context_of, RowForm, row, task_form, semaphore_form, flag_form}
use Rattle.fmp_image_bytes.specs.Rows.{data_queue_form, mailbox_form, message_form, shared_word_form, spin_lock_form}
use Rattle.fmp_image_bytes.specs.Rows.{cyclic_form, interrupt_form}
use Rattle.fmp_image_bytes.specs.Tables.{AreRows}
use Rattle.fmp_image_bytes.specs.Bodies.{bodies}
use Rattle.fmp_image_bytes.specs.Versions.{is_version}
use Rattle.fmp_image_bytes.specs.Header.{plain, magic, is_magic, header}
use Rattle.fmp_image_bytes.specs.Images.{◌▹◌, ImageTables, table_of, also, tables, Parts, layout, parts_of, image_of}
use Rattle.fmp_image_bytes.specs.Images.{spelling, all_read, image_at, KeepRules, IsImage, Spells}
use Rattle.fmp_image_bytes.proofs.FieldLaws.{IsBytes, Exact, bind_ok, pair_is, byte_exact, short_exact, bytes_take}
use Rattle.fmp_image_bytes.proofs.FieldLaws.{bytes_again, tested_exact, both_exact, chained_exact}
use Rattle.fmp_image_bytes.proofs.RowLaws.{GoesBack, row_exact, task_back, semaphore_back, flag_back_row}
use Rattle.fmp_image_bytes.proofs.RowLaws.{data_queue_back, mailbox_back_row, message_back, shared_word_back}
use Rattle.fmp_image_bytes.proofs.RowLaws.{spin_lock_back, cyclic_back, interrupt_back}
use Rattle.fmp_image_bytes.proofs.TableLaws.{table_exact, new_append}
use Rattle.fmp_image_bytes.proofs.BodyLaws.{bodies_exact}
use Rattle.fmp_image_bytes.proofs.Names.{and_true}
use Rattle.fmp_image_bytes.proofs.Verification.{both_true}

plain_exact : (size : ℕ) → Exact (plain size)
plain_exact size = record {
  takes = λ bytes a rest h e. bytes_take size bytes a rest e;
  again = λ a rest fits. bytes_again size a rest fits;
}

header_exact : Exact header
header_exact = both_exact _ _ (tested_exact _ _ _ (plain_exact 4)) (both_exact _ _ (tested_exact _ _ _ short_exact)
    (tested_exact _ _ _ byte_exact))

one_table : {F A : Type 0} (form : RowForm F A) → ((context : RowContext) → GoesBack form context)
    → (context : RowContext) (taken : List Key) → Exact (table_of form context taken)
one_table form back context taken = table_exact (row form context) form.key_of
    (row_exact form context (back context)) taken

also_exact : {F A B : Type 0} (form : RowForm F A) (later : RowContext → List Key → Field B)
    → ((context : RowContext) → GoesBack form context) → ((context : RowContext) (taken : List Key)
    → Exact (later context taken))
    → (context : RowContext) (taken : List Key) → Exact (also form later context taken)
also_exact form later back rest context taken =
    chained_exact (table_of form context taken) (λ rows. later context (taken ++ map form.key_of rows))
    (one_table form back context taken) (λ rows. rest context (taken ++ map form.key_of rows))

tables_exact : (context : RowContext) (taken : List Key) → Exact (tables context taken)
tables_exact = also_exact _ _ task_back (also_exact _ _ semaphore_back (also_exact _ _ flag_back_row
    (also_exact _ _ data_queue_back (also_exact _ _ mailbox_back_row
    (also_exact _ _ message_back (also_exact _ _ shared_word_back (also_exact _ _ spin_lock_back
    (also_exact _ _ cyclic_back (one_table _ interrupt_back)))))))))

layout_exact : Exact layout
layout_exact =
    chained_exact header (λ h. chained (bodies h.1.0) (λ b. tables (context_of h.1.0 h.1.1 b.0) [])) header_exact
    (λ h. chained_exact
    (bodies h.1.0) (λ b. tables (context_of h.1.0 h.1.1 b.0) []) (bodies_exact h.1.0)
    (λ b. tables_exact (context_of h.1.0 h.1.1 b.0) []))

magic_is : (m : List ℕ) → is_magic m ≡ true → m ≡ magic
magic_is m e = (bytes_eq-Decides m magic).0 e

version_fits : (n : ℕ) → is_version n ≡ true → n < 2 ^ 16
version_fits n h = let high : n ≤ 3 = leb-true _ _ (and_true _ _ h).1 in omega arith

processors_fit : (n : ℕ) → in_range 1 8 n ≡ true → n < 256
processors_fit n h = let high : n ≤ 8 = leb-true _ _ (and_true _ _ h).1 in omega arith

-- ---- the rules of an image, table by table

module _ {F A : Type 0} (form : RowForm F A) (context : RowContext) (taken : List Key) (rows : List A) where
  -- the keys of a table are new, and those after it are new with them
  peel : (later : List Key) → KeepRules form context rows → are_new taken (map form.key_of rows ++ later) ≡ true
      → AreRows (row form context) form.key_of taken rows × (are_new (taken ++ map form.key_of rows) later ≡ true)
  peel later rules new =
      let parts = and_true _ _ (sym (new_append taken (map form.key_of rows) later) ∙ new) in
      (record { count = rules.count; each = rules.each; once = parts.0 }, parts.1)

  gather : (later : List Key) → AreRows (row form context) form.key_of taken rows
      → are_new (taken ++ map form.key_of rows) later ≡ true
      → are_new taken (map form.key_of rows ++ later) ≡ true
  gather later rules new = new_append taken (map form.key_of rows) later ∙ both_true _ _ rules.once new

  rules_of : AreRows (row form context) form.key_of taken rows → KeepRules form context rows
  rules_of rules = record { count = rules.count; each = rules.each }

parts_fit : (i : ImageTables) → IsImage i → layout.fits (parts_of i)
parts_fit i h =
    let s = i.system in
    let context = context_of i.version s.processors i.heads in
    let k1 = [] ++ map task_form.key_of s.tasks in
    let k2 = k1 ++ map semaphore_form.key_of s.semaphores in
    let k3 = k2 ++ map flag_form.key_of s.flags in
    let k4 = k3 ++ map data_queue_form.key_of s.data_queues in
    let k5 = k4 ++ map mailbox_form.key_of s.mailboxes in
    let k6 = k5 ++ map message_form.key_of s.messages in
    let k7 = k6 ++ map shared_word_form.key_of s.shared_words in
    let k8 = k7 ++ map spin_lock_form.key_of s.spin_locks in
    let k9 = k8 ++ map cyclic_form.key_of s.cyclics in
    let t1 = peel task_form context [] s.tasks _ h.tasks h.once in
    let t2 = peel semaphore_form context k1 s.semaphores _ h.semaphores t1.1 in
    let t3 = peel flag_form context k2 s.flags _ h.flags t2.1 in
    let t4 = peel data_queue_form context k3 s.data_queues _ h.data_queues t3.1 in
    let t5 = peel mailbox_form context k4 s.mailboxes _ h.mailboxes t4.1 in
    let t6 = peel message_form context k5 s.messages _ h.messages t5.1 in
    let t7 = peel shared_word_form context k6 s.shared_words _ h.shared_words t6.1 in
    let t8 = peel spin_lock_form context k7 s.spin_locks _ h.spin_locks t7.1 in
    let t9 = peel cyclic_form context k8 s.cyclics _ h.cyclics t8.1 in
    let t10 : AreRows (row interrupt_form context) interrupt_form.key_of k9 s.interrupts =
    record { count = h.interrupts.count; each = h.interrupts.each; once = t9.1 } in (
      (
        (refl, refl),
        (
          (version_fits i.version h.version, h.version),
          (
            processors_fit s.processors h.processors,
            h.processors,
          ),
        ),
      ),
      ((h.count, h.bodies), (t1.0, (t2.0, (t3.0, (t4.0, (t5.0, (t6.0, (t7.0, (t8.0, (t9.0, t10)))))))))),
    )

image_back : (i : ImageTables) → IsImage i → image_of (parts_of i) ≡ i
image_back i h =
    let s = i.system in
    let with_limit : ℕ → ImageTables = λ (q : ℕ). record {
      version = i.version;
      system = record {
        processors = s.processors;
        queue_limit = q;
        tasks = s.tasks;
        semaphores = s.semaphores;
        flags = s.flags;
        data_queues = s.data_queues;
        mailboxes = s.mailboxes;
        messages = s.messages;
        shared_words = s.shared_words;
        spin_locks = s.spin_locks;
        cyclics = s.cyclics;
        interrupts = s.interrupts;
      };
      heads = i.heads;
      code = i.code;
    } in
    ap with_limit (sym h.queue_limit)

image_fits : (p : Parts) → layout.fits p → IsImage (image_of p) × (parts_of (image_of p) ≡ p)
image_fits ((m ▹ version ▹ processors) ▹ (heads ▹ code) ▹ tasks ▹ semaphores ▹ flags ▹ data_queues ▹ mailboxes ▹
    messages ▹ shared_words ▹ spin_locks ▹ cyclics ▹ interrupts) f =
    let context = context_of version processors heads in
    let k1 = [] ++ map task_form.key_of tasks in
    let k2 = k1 ++ map semaphore_form.key_of semaphores in
    let k3 = k2 ++ map flag_form.key_of flags in
    let k4 = k3 ++ map data_queue_form.key_of data_queues in
    let k5 = k4 ++ map mailbox_form.key_of mailboxes in
    let k6 = k5 ++ map message_form.key_of messages in
    let k7 = k6 ++ map shared_word_form.key_of shared_words in
    let k8 = k7 ++ map spin_lock_form.key_of spin_locks in
    let t = f.1.1 in
    let t1 = t.0 in
    let t2 = t.1.0 in
    let t3 = t.1.1.0 in
    let t4 = t.1.1.1.0 in
    let t5 = t.1.1.1.1.0 in
    let t6 = t.1.1.1.1.1.0 in
    let t7 = t.1.1.1.1.1.1.0 in
    let t8 = t.1.1.1.1.1.1.1.0 in
    let t9 = t.1.1.1.1.1.1.1.1.0 in
    let t10 = t.1.1.1.1.1.1.1.1.1 in
    let n9 = gather cyclic_form context k8 cyclics _ t9 t10.once in
    let n8 = gather spin_lock_form context k7 spin_locks _ t8 n9 in
    let n7 = gather shared_word_form context k6 shared_words _ t7 n8 in
    let n6 = gather message_form context k5 messages _ t6 n7 in
    let n5 = gather mailbox_form context k4 mailboxes _ t5 n6 in
    let n4 = gather data_queue_form context k3 data_queues _ t4 n5 in
    let n3 = gather flag_form context k2 flags _ t3 n4 in
    let n2 = gather semaphore_form context k1 semaphores _ t2 n3 in
    let n1 = gather task_form context [] tasks _ t1 n2 in
    let m-is : m ≡ magic = magic_is m f.0.0.1 in (
      record {
        version = f.0.1.0.1;
        processors = f.0.1.1.1;
        queue_limit = refl;
        count = f.1.0.0;
        bodies = f.1.0.1;
        tasks = rules_of task_form context [] tasks t1;
        semaphores = rules_of semaphore_form context k1 semaphores t2;
        flags = rules_of flag_form context k2 flags t3;
        data_queues = rules_of data_queue_form context k3 data_queues t4;
        mailboxes = rules_of mailbox_form context k4 mailboxes t5;
        messages = rules_of message_form context k5 messages t6;
        shared_words = rules_of shared_word_form context k6 shared_words t7;
        spin_locks = rules_of spin_lock_form context k7 spin_locks t8;
        cyclics = rules_of cyclic_form context k8 cyclics t9;
        interrupts = rules_of interrupt_form context (k8 ++ map cyclic_form.key_of cyclics) interrupts t10;
        once = n1;
      },
      rw m-is refl,
    )

read_all : (i j : ImageTables) (rest : List ℕ) → all_read (i, rest) ≡ Ok j → (rest ≡ []) × (i ≡ j)
read_all i j [] e = (refl, cc)
read_all i j (b ∷ rest) e = absurd cc

pub image_takes : (bytes : List ℕ) (i : ImageTables) → IsBytes bytes → image_at bytes ≡ Ok i → Spells i bytes
unfolding image_at spelling
image_takes bytes i h e =
    let a = bind_ok (layout.read bytes) (λ parts. all_read (image_of parts.0, parts.1)) i e in
    let p = a.0.0 in
    let t = layout_exact.takes bytes p a.0.1 h a.1 in
    let all = read_all (image_of p) i a.0.1 a.2 in
    let f = image_fits p t.0 in
    let whole : bytes ≡ layout.spell p = t.1 ∙ ap (λ r. layout.spell p ++ r) all.0 ∙ append-nil (layout.spell p) in
    subst (λ (j : ImageTables). Spells j bytes) all.1 (record {
      lawful = f.0;
      spelled = whole ∙ ap layout.spell (sym
          f.1);
    })

parts_again : (i : ImageTables) (rest : List ℕ) → IsImage i → layout.read (spelling i ++ rest) ≡ Ok (parts_of i, rest)
unfolding spelling
parts_again i rest h = layout_exact.again (parts_of i) rest (parts_fit i h)

pub image_again : (bytes : List ℕ) (i : ImageTables) → Spells i bytes → image_at bytes ≡ Ok i
unfolding image_at
image_again bytes i h =
    let read : layout.read bytes ≡ Ok (parts_of i, []) = ap layout.read (h.spelled ∙ sym (append-nil (spelling i)))
    ∙ parts_again i [] h.lawful in
    rw read (ap Ok (image_back i h.lawful))

-- ---- one spelling

pub one_text : (i : ImageTables) (a b : List ℕ) → Spells i a → Spells i b → a ≡ b
one_text i a b p q = p.spelled ∙ sym q.spelled

pub one_image : (i j : ImageTables) (a : List ℕ) → Spells i a → Spells j a → i ≡ j
one_image i j a p q = same i j (sym (image_again a i p) ∙ image_again a j q) where
  same : (i j : ImageTables) → ◌≡◌ {A = Result ImageTables ImageFault} (Ok i) (Ok j) → i ≡ j
  same i j e = cc

pub no_front : (i j : ImageTables) (a b more : List ℕ) → Spells i a → Spells j b → b ≡ a ++ more → more ≡ []
no_front i j a b more p q e =
    let one : layout.read b ≡ Ok (parts_of i, more) = ap layout.read (e ∙ ap (λ x. x ++ more) p.spelled)
    ∙ parts_again i more p.lawful in
    let two : layout.read b ≡ Ok (parts_of j, []) = ap layout.read (q.spelled ∙ sym (append-nil (spelling j)))
    ∙ parts_again j [] q.lawful in
    (pair_is (parts_of i) (parts_of j) more [] (sym one ∙ two)).1
