-- Lists of fields that gain more.
use Rattle.std.proofs.Common.{◌≡◌, ℕ, ◌+◌, ◌-◌, ◌<◌, List, [], ◌∷◌, ◌++◌, Option, Some, None, true, length, refl, sym}
use Rattle.std.proofs.Common.{subst, arith, ⊎_elim}
use Rattle.std.specs.Prelude.{IfOk, Result, Ok, Err, get_or, nat_lt}
use Rattle.std.specs.List.{Contains}
use Rattle.std.proofs.lemmas.Bool.{cases_lt}
use Rattle.std.proofs.lemmas.Bool.Decides.{nat_tests}
use Rattle.std.proofs.lemmas.List.Elements.{Contains-append_left, Contains-append_right}
use Rattle.std.proofs.lemmas.Option.{slice_get-get_or, slice_get_within}
use Rattle.fmp_base.specs.declared.systems.DataQueueConfig.{DataQueueConfig}
use Rattle.fmp_base.specs.declared.systems.InterruptConfig.{InterruptConfig}
use Rattle.fmp_base.specs.declared.systems.TaskConfig.{TaskConfig}
use Rattle.fmp_base.specs.Meanings.{task_body}
use Rattle.fmp_base.specs.Systems.{SystemTables, body_of, data_queue_config, interrupt_config}
use Rattle.fmp_fields.specs.declared.field.What.{What}
use Rattle.fmp_fields.specs.declared.field.What.TheVariants as what
use Rattle.fmp_fields.specs.declared.room.Room.{Room}
use Rattle.fmp_fields.specs.Listing.{AreAmong, HasHandlerRoom, HasInterrupts, HasProcessor, HasQueue, HasRoom, HasTask}
use Rattle.fmp_fields.specs.Listing.{processor_parts, task_parts}
use Rattle.fmp_fields.proofs.Places.{EachBefore}
use Rattle.fmp_fields.proofs.Rooms.{defined-at}
use Rattle.fmp_instructions.specs.Instructions.{BodyTables}
use Rattle.fmp_worlds.specs.Settled.{IsThere}

-- what follows from two promises of a call that succeeds
pub if-both : {T E : Type 0} (P Q R : Type 0) (r : Result T E) → (P → Q → R) → IfOk r (λ _. P) → IfOk r (λ _. Q)
    → IfOk r (λ _. R)
if-both P Q R (Ok a) f p q = f p q
if-both P Q R (Err e) f p q = tt

below : (k n : ℕ) → nat_lt k n ≡ true → k < n
below k n e = grind (arith, nat_tests)

-- a field that stands at a place of a list is among them
pub at-place : (xs : List What) (k : ℕ) (f : What) → nat_lt k (length xs) ≡ true → get_or xs k f ≡ f → Contains xs f
at-place xs k f lt is = (k, below k (length xs) lt, is)

-- a list that more is added to has what it had, and what is added
pub among-more : (b c ys : List What) → c ≡ b ++ ys → AreAmong b c
among-more b c ys e f there = subst (λ (l : List What). Contains l f) (sym e) (Contains-append_left b ys f there)

pub among-added : (b c ys : List What) → c ≡ b ++ ys → AreAmong ys c
among-added b c ys e f there = subst (λ (l : List What). Contains l f) (sym e) (Contains-append_right b ys f there)

pub pushed : (b c : List What) (f : What) → c ≡ b ++ f ∷ [] → Contains c f
pushed b c f e = among-added b c (f ∷ []) e f (at-place (f ∷ []) 0 f refl refl)

-- what holds of each place below i, and of i
pub places-more : (P : ℕ → Type 0) (i : ℕ) → ((k : ℕ) → k < i → P k) → P i → (k : ℕ) → k < i + 1 → P k
places-more P i before now k lt =
    ⊎_elim (λ less. before k less)
    (λ le. let at : i ≡ k = omega (arith, lt, le) in subst P at now)
    (cases_lt k i)

-- the fields of a task, of a processor and of a data queue stay among more fields
pub task-kept : (bodies : List BodyTables) (t body : ℕ) (a b : List What) → AreAmong a b → HasTask bodies t body a
    → HasTask bodies t body b
task-kept bodies t body a b ab h =
    record {
      parts = λ f is. ab f (h.parts f is);
      locals = λ l lt. ab (what.Local t l) (h.locals l lt);
      count = ab (what.Operands t) h.count;
      operands = λ i is. ab (what.Operand t i) (h.operands i is);
    }

pub processor-kept : (sys : SystemTables) (bodies : List BodyTables) (p : ℕ) (a b : List What) → AreAmong a b
    → HasProcessor sys bodies p a → HasProcessor sys bodies p b
processor-kept sys bodies p a b ab h =
    record {
      parts = λ f is. ab f (h.parts f is);
      locals = λ l is. ab (what.HandlerLocal p l) (h.locals l is);
      count = ab (what.HandlerOperands p) h.count;
      operands = λ i is. ab (what.HandlerOperand p i) (h.operands i is);
    }

pub queue-kept : (d capacity : ℕ) (a b : List What) → AreAmong a b → HasQueue d capacity a → HasQueue d capacity b
queue-kept d capacity a b ab h =
    record { count = ab (what.Words d) h.count; words = λ i lt. ab (what.Word d i) (h.words i lt) }

-- the fields of an actor are added: its own, those of its locals, the number of operands, and those of its operands
module _ (a b c d e : List What) (bc : AreAmong b c) (de : AreAmong d e) where
  pub actor-kept : (parts : List What) (count : What) → b ≡ a ++ parts → d ≡ c ++ count ∷ [] → AreAmong a e
  actor-kept parts count eb ed f there =
      de f (among-more c d (count ∷ []) ed f (bc f (among-more a b parts eb f there)))

  pub task-added : (bodies : List BodyTables) (t body : ℕ) (room : Room) → HasRoom bodies body room
      → b ≡ a ++ task_parts t
      → ((l : ℕ) → l < room.locals → Contains c (what.Local t l)) → d ≡ c ++ what.Operands t ∷ []
      → ((i : ℕ) → i < room.operands → Contains e (what.Operand t i)) → HasTask bodies t body e
  task-added bodies t body room has eb locals ed operands =
      let ce : AreAmong c e = λ f there. de f (among-more c d (what.Operands t ∷ []) ed f there) in
      record {
        parts = λ f there. ce f (bc f (among-added a b (task_parts t) eb f there));
        locals = λ l lt. let most = has.locals in ce (what.Local t l) (locals l (omega (arith, lt, most)));
        count = de (what.Operands t) (pushed c d (what.Operands t) ed);
        operands = λ i is.
            let most = has.operands is.place is.depth is.there in
            let under = is.below in
            operands i (omega (arith, under, most));
      }

  pub processor-added : (sys : SystemTables) (bodies : List BodyTables) (p : ℕ) (room : Room)
      → HasHandlerRoom sys bodies p room
      → b ≡ a ++ processor_parts p → ((l : ℕ) → l < room.locals → Contains c (what.HandlerLocal p l))
      → d ≡ c ++ what.HandlerOperands p ∷ []
      → ((i : ℕ) → i < room.operands → Contains e (what.HandlerOperand p i)) → HasProcessor sys bodies p e
  processor-added sys bodies p room has eb locals ed operands =
      let ce : AreAmong c e = λ f there. de f (among-more c d (what.HandlerOperands p ∷ []) ed f there) in
      record {
        parts = λ f there. ce f (bc f (among-added a b (processor_parts p) eb f there));
        locals = λ l is.
            let most = (has is.start is.runs).locals in
            let under = is.below in
            ce (what.HandlerLocal p l) (locals l (omega (arith, under, most)));
        count = de (what.HandlerOperands p) (pushed c d (what.HandlerOperands p) ed);
        operands = λ i is.
            let most = (has is.start is.runs).operands is.operand.place is.operand.depth is.operand.there in
            let under = is.operand.below in
            operands i (omega (arith, under, most));
      }

pub queue-added : (d capacity : ℕ) (a b c : List What) → b ≡ a ++ what.Words d ∷ [] → AreAmong b c
    → ((i : ℕ) → i < capacity → Contains c (what.Word d i)) → HasQueue d capacity c
queue-added d capacity a b c e bc words =
    record { count = bc (what.Words d) (pushed a b (what.Words d) e); words = words }

-- the body of the task at a place, and the capacity of the data queue there
pub body-at : (sys : SystemTables) (t : ℕ) (x : TaskConfig) → t < length sys.tasks
    → body_of (get_or sys.tasks t x).entry ≡ task_body sys t
body-at sys t x lt = rw (slice_get-get_or sys.tasks t x lt) refl

pub capacity-at : (sys : SystemTables) (d : ℕ) (x : DataQueueConfig) → d < length sys.data_queues
    → (get_or sys.data_queues d x).capacity ≡ (data_queue_config sys d).capacity
capacity-at sys d x lt = rw (slice_get-get_or sys.data_queues d x lt) refl

-- each handler's interrupt has its field
pub interrupts-added : (sys : SystemTables) (fields : List What)
    → EachBefore (λ (x : InterruptConfig). Contains fields (what.PendingInterrupt (x.number - 1))) sys.interrupts
    (length sys.interrupts)
    → HasInterrupts sys fields
interrupts-added sys fields each i there = by_config (interrupt_config sys i) refl there where
  by_config : (o : Option InterruptConfig) → interrupt_config sys i ≡ o → IsThere o
      → Contains fields (what.PendingInterrupt i)
  by_config None e is = absurd is
  by_config (Some x) e is =
      let at = defined-at (i + 1) sys.interrupts x e in
      let number = at.2 in
      let place : x.number - 1 ≡ i = omega (arith, number) in
      subst (λ (k : ℕ). Contains fields (what.PendingInterrupt k)) place
      (each at.0 x (slice_get_within sys.interrupts at.0 x at.1) at.1)
