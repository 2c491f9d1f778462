-- Rows in range keep the rules of an image.
use Rattle.std.proofs.Common.{◌≡◌, ℕ, ◌+◌, ◌%◌, ◌/◌, ◌<◌, ◌≤◌, nat_le, ◌==◌, Bool, true, false, ◌||◌, is_some, List, []}
use Rattle.std.proofs.Common.{◌∷◌, length, Option, Some, None, option_map, refl, ap, ap₂, arith}
use Rattle.std.proofs.lemmas.Bool.{le-leb}
use Rattle.std.specs.List.{AllByRecursion}
use Rattle.std.specs.Option.{option_or}
use Rattle.fmp_base.specs.Names.{name_text}
use Rattle.fmp_base.specs.Ranges.{Lies, SemaphoreInRange, FlagInRange, DataQueueInRange, MailboxInRange, MessageInRange}
use Rattle.fmp_base.specs.declared.services.Service.{Service}
use Rattle.fmp_base.specs.declared.names.Name.{Name}
use Rattle.fmp_base.specs.declared.systems.QueueOrder.{QueueOrder}
use Rattle.fmp_base.specs.declared.systems.QueueOrder.TheVariants.{Fifo, Priority}
use Rattle.fmp_base.specs.declared.systems.SemaphoreConfig.{SemaphoreConfig}
use Rattle.fmp_base.specs.declared.systems.FlagConfig.{FlagConfig}
use Rattle.fmp_base.specs.declared.systems.DataQueueConfig.{DataQueueConfig}
use Rattle.fmp_base.specs.declared.systems.MailboxConfig.{MailboxConfig}
use Rattle.fmp_base.specs.declared.systems.MessageConfig.{MessageConfig}
use Rattle.fmp_base.specs.declared.systems.SharedWordConfig.{SharedWordConfig}
use Rattle.fmp_base.specs.declared.systems.SpinLockConfig.{SpinLockConfig}
use Rattle.fmp_base.specs.Words.{constant_named, api_named, service_named, keyword_named}
use Rattle.fmp_lex.specs.declared.token.TokenKind.TheVariants as kind
use Rattle.fmp_base.specs.declared.words.Api.{Api}
use Rattle.fmp_base.specs.declared.words.Constant.{Constant}
use Rattle.fmp_base.specs.declared.words.Keyword.{Keyword}
use Rattle.fmp_cfgparse.specs.Tables.{is_identifier, IsObjectName, SharedWordConfigured}
use Rattle.fmp_image_bytes.specs.Images.{KeepRules}
use Rattle.fmp_image_bytes.specs.Keys.{begins_and_goes_on, is_service_of, is_reserved, is_name}
use Rattle.fmp_image_bytes.specs.Fields.{in_range}
use Rattle.fmp_image_bytes.specs.Rows.{RowContext, RowForm, row, bit, order_bit, order_of, semaphore_form, flag_form}
use Rattle.fmp_image_bytes.specs.Rows.{data_queue_form, mailbox_form, message_form, shared_word_form, spin_lock_form}
use Rattle.fmp_image_bytes.proofs.Verification.{both_true}

-- ---- names

goes_on : (text : List ℕ) → is_identifier text ≡ true → begins_and_goes_on text ≡ true
goes_on [] e = e
goes_on (b ∷ bs) e = e

no_word : (version : ℕ) (a : Option Constant) (b : Option Api) (c : Option Service) (d : Option Keyword) →
    option_or (option_map kind.Constant a) (option_or (option_map kind.Api b)
    (option_or (option_map kind.Service c) (option_map kind.Keyword d))) ≡ None →
    (is_some a || is_some b || is_service_of version c || is_some d) ≡ false
no_word version (Some x) b c d e = cc
no_word version None (Some x) c d e = cc
no_word version None None (Some x) d e = cc
no_word version None None None (Some x) e = cc
no_word version None None None None e = refl

-- a name of a configuration is a word of no version
pub object_is_name : (version : ℕ) (n : Name) → IsObjectName n → is_name version (name_text n) ≡ true
unfolding is_name
object_is_name version n h =
    let goes = goes_on (name_text n) h.identifier in
    let free : is_reserved version (name_text n) ≡ false = no_word version (constant_named (name_text n))
    (api_named (name_text n)) (service_named (name_text n)) (keyword_named (name_text n)) h.unreserved in
    rw (le-leb (length (name_text n)) 31 h.short, goes, free) refl

pub name_room : (n : Name) → IsObjectName n → length (name_text n) < 256
name_room n h = let short = h.short in omega arith

pub lies_in_range : (low high n : ℕ) → Lies low high n → in_range low high n ≡ true
lies_in_range low high n h = both_true _ _ (le-leb low n h.least) (le-leb n high h.most)

order_again : (o : QueueOrder) → order_of (order_bit o 1 == 1) ≡ o
order_again Fifo = refl
order_again Priority = refl

order_small : (o : QueueOrder) → order_bit o 1 ≤ 1
order_small Fifo = omega arith
order_small Priority = omega arith

-- ---- rows

pub semaphore_fits : (context : RowContext) (s : SemaphoreConfig) → SemaphoreInRange s → IsObjectName s.name
    → (row semaphore_form context).fits s
semaphore_fits context s h name =
    let small = order_small s.order in
    let most : s.most ≤ 65535 = h.most.most in
    let initial : s.initial ≤ s.most = h.initial in (
      (name_room s.name name, (omega arith, (omega arith, omega arith))),
      both_true _ _ (object_is_name context.version s.name name)
          (both_true _ _ (both_true _ _ (le-leb (order_bit s.order 1) 1 small) (le-leb 1 s.most h.most.least))
          (le-leb s.initial s.most initial)),
      ap₂ (λ n o. record { name = n; order = o; initial = s.initial; most = s.most }) name.canonical
          (order_again s.order),
    )

flag_attributes : QueueOrder → Bool → Bool → ℕ
flag_attributes o m c = order_bit o 1 + bit m 2 + bit c 4

record FlagBack (o : QueueOrder) (m c : Bool) : Type 0 where
  small : flag_attributes o m c ≤ 7
  order : order_of (flag_attributes o m c % 2 == 1) ≡ o
  multiple : (flag_attributes o m c / 2 % 2 == 1) ≡ m
  clears : nat_le 4 (flag_attributes o m c) ≡ c

flag_back : (o : QueueOrder) (m c : Bool) → FlagBack o m c
unfolding flag_attributes
flag_back Fifo false false = record { small = omega arith; order = refl; multiple = refl; clears = refl }
flag_back Fifo false true = record { small = omega arith; order = refl; multiple = refl; clears = refl }
flag_back Fifo true false = record { small = omega arith; order = refl; multiple = refl; clears = refl }
flag_back Fifo true true = record { small = omega arith; order = refl; multiple = refl; clears = refl }
flag_back Priority false false = record { small = omega arith; order = refl; multiple = refl; clears = refl }
flag_back Priority false true = record { small = omega arith; order = refl; multiple = refl; clears = refl }
flag_back Priority true false = record { small = omega arith; order = refl; multiple = refl; clears = refl }
flag_back Priority true true = record { small = omega arith; order = refl; multiple = refl; clears = refl }

pub flag_fits : (context : RowContext) (f : FlagConfig) → FlagInRange f → IsObjectName f.name
    → (row flag_form context).fits f
unfolding flag_attributes
flag_fits context f h name =
    let back = flag_back f.order f.multiple f.clears in
    let small : flag_attributes f.order f.multiple f.clears ≤ 7 = back.small in
    let initial : f.initial ≤ 65535 = h.initial in (
      (name_room f.name name, (omega arith, omega arith)),
      both_true _ _ (object_is_name context.version f.name name) (le-leb
          (flag_attributes f.order f.multiple f.clears) 7 small),
      ap₂ (λ n (x : QueueOrder × (Bool × Bool)). record {
        name = n;
        order = x.0;
        multiple = x.1.0;
        clears = x.1.1;
        initial = f.initial;
      }) name.canonical
          (ap₂ (λ a b. (a, b)) back.order (ap₂ (λ a b. (a, b)) back.multiple back.clears)),
    )

pub data_queue_fits : (context : RowContext) (d : DataQueueConfig) → DataQueueInRange d → IsObjectName d.name
    → (row data_queue_form context).fits d
data_queue_fits context d h name =
    let small = order_small d.order in
    let capacity : d.capacity ≤ 255 = h.capacity in (
      (name_room d.name name, (omega arith, omega arith)),
      both_true _ _ (object_is_name context.version d.name name) (le-leb (order_bit d.order 1) 1 small),
      ap₂ (λ n o. record { name = n; order = o; capacity = d.capacity }) name.canonical (order_again d.order),
    )

mailbox_attributes : QueueOrder → QueueOrder → ℕ
mailbox_attributes o p = order_bit o 1 + order_bit p 2

record MailboxBack (o p : QueueOrder) : Type 0 where
  small : mailbox_attributes o p ≤ 3
  order : order_of (mailbox_attributes o p % 2 == 1) ≡ o
  message_order : order_of (nat_le 2 (mailbox_attributes o p)) ≡ p

mailbox_back : (o p : QueueOrder) → MailboxBack o p
unfolding mailbox_attributes
mailbox_back Fifo Fifo = record { small = omega arith; order = refl; message_order = refl }
mailbox_back Fifo Priority = record { small = omega arith; order = refl; message_order = refl }
mailbox_back Priority Fifo = record { small = omega arith; order = refl; message_order = refl }
mailbox_back Priority Priority = record { small = omega arith; order = refl; message_order = refl }

pub mailbox_fits : (context : RowContext) (m : MailboxConfig) → MailboxInRange m → IsObjectName m.name
    → (row mailbox_form context).fits m
unfolding mailbox_attributes
mailbox_fits context m h name =
    let back = mailbox_back m.order m.message_order in
    let small : mailbox_attributes m.order m.message_order ≤ 3 = back.small in
    let most : m.most ≤ 16 = h.most.most in (
      (name_room m.name name, (omega arith, omega arith)),
      both_true _ _ (object_is_name context.version m.name name)
          (both_true _ _ (le-leb (mailbox_attributes m.order m.message_order) 3 small)
          (lies_in_range 1 16 m.most h.most)),
      ap₂ (λ n (x : QueueOrder × QueueOrder). record { name = n; order = x.0; message_order = x.1; most = m.most })
          name.canonical
          (ap₂ (λ a b. (a, b)) back.order back.message_order),
    )

pub message_fits : (context : RowContext) (m : MessageConfig) → MessageInRange m → IsObjectName m.name
    → (row message_form context).fits m
message_fits context m h name =
    let most : m.priority ≤ 16 = h.priority.most in (
      (name_room m.name name, omega arith),
      both_true _ _ (object_is_name context.version m.name name) (lies_in_range 1 16 m.priority h.priority),
      ap (λ n. record { name = n; priority = m.priority }) name.canonical,
    )

pub shared_word_fits : (context : RowContext) (w : SharedWordConfig) → SharedWordConfigured w → IsObjectName w.name
    → (row shared_word_form context).fits w
shared_word_fits context w h name = (
  (name_room w.name name, h.initial),
  object_is_name context.version w.name name,
  ap
      (λ n. record { name = n; initial = w.initial }) name.canonical,
)

pub spin_lock_fits : (context : RowContext) (l : SpinLockConfig) → IsObjectName l.name
    → (row spin_lock_form context).fits l
spin_lock_fits context l name = (
  name_room l.name name,
  object_is_name context.version l.name name,
  ap
      (λ n. record { name = n }) name.canonical,
)

-- ---- tables

pub both_all : {A : Type 0} (P Q : A → Type 0) (rows : List A) → AllByRecursion P rows → AllByRecursion Q rows
    → AllByRecursion (λ a. P a × Q a) rows
both_all P Q [] p q = tt
both_all P Q (a ∷ rows) p q = ((p.0, q.0), both_all P Q rows p.1 q.1)

each_fits : {A : Type 0} {P Q R : A → Type 0} → ((a : A) → P a → Q a → R a) → (rows : List A) → AllByRecursion P rows
    → AllByRecursion Q rows → AllByRecursion R rows
each_fits f [] p q = tt
each_fits f (a ∷ rows) p q = (f a p.0 q.0, each_fits f rows p.1 q.1)

pub table_keeps : {F A : Type 0} (form : RowForm F A) (context : RowContext) {P Q : A → Type 0}
    → ((a : A) → P a → Q a → (row form context).fits a) →
    (rows : List A) → length rows ≤ 255 → AllByRecursion P rows → AllByRecursion Q rows → KeepRules form context rows
table_keeps form context fits rows count p q = record { count = omega arith; each = each_fits fits rows p q }
