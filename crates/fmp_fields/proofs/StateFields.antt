-- States whose fields have the same numbers are told the same by a row.
use Rattle.std.proofs.Common.{◌≡◌, ℕ, ◌<◌, ◌≤◌, List, Option, Some, None, Bool, true, false, ◌&&◌, length, refl, sym}
use Rattle.std.proofs.Common.{ap, ◌∙◌, subst, arith}
use Rattle.std.specs.Prelude.{get_or, map, nat_lt}
use Rattle.std.specs.List.{Contains}
use Rattle.std.proofs.lemmas.Bool.Decides.{nat_tests}
use Rattle.std.proofs.lemmas.List.{get_or-map}
use Rattle.std.proofs.lemmas.Option.{slice_get_past}
use Rattle.fmp_base.specs.declared.systems.InterruptConfig.{InterruptConfig}
use Rattle.fmp_base.specs.Meanings.{World}
use Rattle.fmp_base.specs.States.{processor_at, task_at}
use Rattle.fmp_base.specs.Systems.{SystemTables, found, interrupt_config}
use Rattle.fmp_base.specs.Ticks.{is_pending}
use Rattle.fmp_fields.specs.declared.field.What.{What}
use Rattle.fmp_fields.specs.declared.field.What.TheVariants as what
use Rattle.fmp_fields.specs.FieldNumbers.{number_of}
use Rattle.fmp_reachable.specs.Readable.{IsReadable}
use Rattle.fmp_fields.specs.Fields.{IsField}
use Rattle.fmp_instructions.specs.declared.instructions.MachineContext.{MachineContext}
use Rattle.fmp_instructions.specs.Instructions.{BodyTables}
use Rattle.fmp_reachable.specs.Numbers.{SameProcessorNumbers, SameTaskNumbers, bit}
use Rattle.fmp_reachable.specs.Rows.{SameNumbers, SameRow}
use Rattle.fmp_reachable.specs.Values.{SameSizes, SameValueNumbers}
use Rattle.fmp_worlds.specs.Settled.{IsThere}

-- what two maps give of an element is the same where the maps are
pub same-at : (f g : What → ℕ) (fields : List What) (x : What) → map f fields ≡ map g fields → Contains fields x → f x
    ≡ g x
same-at f g fields x e there =
    let k = there.0 in
    let lt = there.1 in
    let is = there.2 in
    ap f (sym is) ∙ sym (get_or-map f fields k x (f x) lt) ∙ ap (λ (l : List ℕ). get_or l k (f x)) e
    ∙ get_or-map g fields k x (f x) lt ∙ ap g is

-- each field has the same number in both worlds
pub record SameFields (sys : SystemTables) (bodies : List BodyTables) (v w : World MachineContext) (came other : ℕ)
    : Type 0 where
  pub each : (f : What) → IsField sys bodies f → number_of sys v came f ≡ number_of sys w other f

pub within : (m n k : ℕ) → m ≡ n → k < m → k < n
within m n k e lt = subst (λ (i : ℕ). k < i) e lt

none-pending : (xs : List Bool) (i : ℕ) → length xs ≤ i → is_pending xs i ≡ false
none-pending xs i le = ap (λ (o : Option Bool). found false o) (slice_get_past xs i le)

not_below : (i : ℕ) → nat_lt i 32 ≡ false → 32 ≤ i
not_below i e = grind (arith, nat_tests)

pending-same : (xs ys : List Bool) (i : ℕ) → length xs ≡ 32 → length ys ≡ 32
    → bit (nat_lt i 32 && is_pending xs i) ≡ bit (nat_lt i 32 && is_pending ys i)
    → bit (is_pending xs i) ≡ bit (is_pending ys i)
pending-same xs ys i a b e = by_test (nat_lt i 32) refl e where
  by_test : (t : Bool) → nat_lt i 32 ≡ t → bit (t && is_pending xs i) ≡ bit (t && is_pending ys i)
      → bit (is_pending xs i) ≡ bit (is_pending ys i)
  by_test true q h = h
  by_test false q h =
      let le : 32 ≤ i = not_below i q in
      ap (λ (t : Bool). bit t) (none-pending xs i (omega (arith, le, a))
      ∙ sym (none-pending ys i (omega (arith, le, b))))

there-is : (o : Option InterruptConfig) (c : InterruptConfig) → o ≡ Some c → IsThere o
there-is None c e = absurd (cc e)
there-is (Some d) c e = tt

module _ (sys : SystemTables) (bodies : List BodyTables) (v w : World MachineContext) (came other : ℕ)
    (a : IsReadable sys bodies v) (b : IsReadable sys bodies w) (h : SameFields sys bodies v w came other) where
  sizes-same : SameSizes v.state w.state
  sizes-same =
      record {
        tasks = a.sizes.tasks ∙ sym b.sizes.tasks;
        processors = a.sizes.processors ∙ sym b.sizes.processors;
        cyclics = a.sizes.cyclics ∙ sym b.sizes.cyclics;
        semaphores = a.sizes.semaphores ∙ sym b.sizes.semaphores;
        flags = a.sizes.flags ∙ sym b.sizes.flags;
        data_queues = a.sizes.data_queues ∙ sym b.sizes.data_queues;
        mailboxes = a.sizes.mailboxes ∙ sym b.sizes.mailboxes;
        shared_words = a.sizes.shared_words ∙ sym b.sizes.shared_words;
        pending_cyclics = a.sizes.pending_cyclics ∙ sym b.sizes.pending_cyclics;
        pending_interrupts = a.sizes.pending_interrupts ∙ sym b.sizes.pending_interrupts;
      }

  task-same : (t : ℕ) → t < length sys.tasks
      → SameTaskNumbers v.state.clock w.state.clock (task_at v.state.tasks t) (task_at w.state.tasks t)
  task-same t lt =
      record {
        phase = h.each (what.Phase t) lt;
        object = h.each (what.Object t) lt;
        wanted = h.each (what.Wanted t) lt;
        suspended = h.each (what.Suspended t) lt;
        priority = h.each (what.Priority t) lt;
        processor = h.each (what.Processor t) lt;
        activations = h.each (what.Activations t) lt;
        next_processor = h.each (what.NextProcessor t) lt;
        wakeups = h.each (what.Wakeups t) lt;
        ticks_left = h.each (what.TicksLeft t) lt;
      }

  processor-same : (p : ℕ) → p < sys.processors → SameProcessorNumbers (processor_at v.state p) (processor_at w.state p)
  processor-same p lt =
      record {
        runs = h.each (what.Runs p) lt;
        lock = h.each (what.Lock p) lt;
        dispatch_disabled = h.each (what.DispatchDisabled p) lt;
        interrupt_handler = h.each (what.InterruptHandler p) lt;
        cyclic_handler = h.each (what.CyclicHandler p) lt;
      }

  numbers-same : SameNumbers sys v.state w.state
  numbers-same =
      record {
        tasks = λ t lt. task-same t (within _ _ t a.sizes.tasks lt);
        behind = λ t lt. h.each (what.Behind t) (within _ _ t a.sizes.tasks lt);
        processors = λ p lt. processor-same p (within _ _ p a.sizes.processors lt);
        due_times = λ c lt. h.each (what.TicksToDue c) (within _ _ c a.sizes.cyclics lt);
      }

  values-same : SameValueNumbers sys v.state w.state
  values-same =
      record {
        semaphores = λ i lt. h.each (what.Count i) (within _ _ i a.sizes.semaphores lt);
        flags = λ i lt. h.each (what.Pattern i) (within _ _ i a.sizes.flags lt);
        lengths = λ d lt. h.each (what.Words d) (within _ _ d a.sizes.data_queues lt);
        words = λ d lt i below.
            let most = a.sizes.words d in
            h.each (what.Word d i) (within _ _ d a.sizes.data_queues lt, omega (arith, below, most));
        first_messages = λ x lt. h.each (what.FirstMessage x) (within _ _ x a.sizes.mailboxes lt);
        behind = λ g lt. h.each (what.MessageBehind g) lt;
        shared_words = λ i lt. h.each (what.SharedWord i) (within _ _ i a.sizes.shared_words lt);
        pending_cyclics = λ c lt. h.each (what.PendingCyclic c) (within _ _ c a.sizes.pending_cyclics lt);
        pending_interrupts = λ i c e.
            pending-same v.state.pending_interrupts w.state.pending_interrupts i a.sizes.pending_interrupts
            b.sizes.pending_interrupts (h.each (what.PendingInterrupt i) (there-is (interrupt_config sys i) c e));
      }

  pub row-same : SameRow sys v.state w.state
  row-same = record { sizes = sizes-same; numbers = numbers-same; values = values-same }
