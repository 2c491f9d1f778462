-- A list that has the fields of each kind has all fields.
use Rattle.std.proofs.Common.{◌≡◌, ℕ, ◌<◌, List, Bool, true, length, refl}
use Rattle.std.specs.Prelude.{get_or, nat_lt}
use Rattle.std.specs.List.{Contains}
use Rattle.fmp_base.specs.Systems.{SystemTables}
use Rattle.fmp_fields.specs.declared.field.What.{What}
use Rattle.fmp_fields.specs.declared.field.What.TheVariants as what
use Rattle.fmp_fields.specs.Fields.{AreAllFields, IsField}
use Rattle.fmp_fields.specs.Listing.{AreAmong, HasCyclics, HasInterrupts, HasObjects, HasProcessors, HasTasks}
use Rattle.fmp_fields.specs.Listing.{processor_parts, task_parts}
use Rattle.fmp_fields.proofs.Lists.{at-place}
use Rattle.fmp_instructions.specs.Instructions.{BodyTables}

module _ (sys : SystemTables) (bodies : List BodyTables) (a b c d : List What) (ab : AreAmong a b) (bc : AreAmong b c)
    (cd : AreAmong c d) (tasks : HasTasks sys bodies a) (processors : HasProcessors sys bodies a)
    (objects : HasObjects sys b) (cyclics : HasCyclics sys c) (interrupts : HasInterrupts sys d) where
  bd : AreAmong b d
  bd f there = cd f (bc f there)

  ad : AreAmong a d
  ad f there = bd f (ab f there)

  task-part : (t : ℕ) → t < length sys.tasks → (k : ℕ) (f : What) → nat_lt k (length (task_parts t)) ≡ true
      → get_or (task_parts t) k f ≡ f → Contains d f
  task-part t lt k f below is = ad f ((tasks t lt).parts f (at-place (task_parts t) k f below is))

  processor-part : (p : ℕ) → p < sys.processors → (k : ℕ) (f : What) → nat_lt k (length (processor_parts p)) ≡ true
      → get_or (processor_parts p) k f ≡ f → Contains d f
  processor-part p lt k f below is = ad f ((processors p lt).parts f (at-place (processor_parts p) k f below is))

  pub each-field : (f : What) → IsField sys bodies f → Contains d f
  each-field what.Interrupts is = absurd is
  each-field (what.Phase t) is = task-part t is 0 (what.Phase t) refl refl
  each-field (what.Object t) is = task-part t is 1 (what.Object t) refl refl
  each-field (what.Wanted t) is = task-part t is 2 (what.Wanted t) refl refl
  each-field (what.Suspended t) is = task-part t is 3 (what.Suspended t) refl refl
  each-field (what.Priority t) is = task-part t is 4 (what.Priority t) refl refl
  each-field (what.Processor t) is = task-part t is 5 (what.Processor t) refl refl
  each-field (what.Activations t) is = task-part t is 6 (what.Activations t) refl refl
  each-field (what.NextProcessor t) is = task-part t is 7 (what.NextProcessor t) refl refl
  each-field (what.Wakeups t) is = task-part t is 8 (what.Wakeups t) refl refl
  each-field (what.TicksLeft t) is = task-part t is 9 (what.TicksLeft t) refl refl
  each-field (what.Behind t) is = task-part t is 10 (what.Behind t) refl refl
  each-field (what.Pc t) is = task-part t is 11 (what.Pc t) refl refl
  each-field (what.Local t l) is = ad (what.Local t l) ((tasks t is.0).locals l is.1)
  each-field (what.Operands t) is = ad (what.Operands t) (tasks t is).count
  each-field (what.Operand t i) is = ad (what.Operand t i) ((tasks t is.0).operands i is.1)
  each-field (what.Runs p) is = processor-part p is 0 (what.Runs p) refl refl
  each-field (what.Lock p) is = processor-part p is 1 (what.Lock p) refl refl
  each-field (what.DispatchDisabled p) is = processor-part p is 2 (what.DispatchDisabled p) refl refl
  each-field (what.InterruptHandler p) is = processor-part p is 3 (what.InterruptHandler p) refl refl
  each-field (what.CyclicHandler p) is = processor-part p is 4 (what.CyclicHandler p) refl refl
  each-field (what.HandlerPc p) is = processor-part p is 5 (what.HandlerPc p) refl refl
  each-field (what.HandlerLocal p l) is = ad (what.HandlerLocal p l) ((processors p is.0).locals l is.1)
  each-field (what.HandlerOperands p) is = ad (what.HandlerOperands p) (processors p is).count
  each-field (what.HandlerOperand p i) is = ad (what.HandlerOperand p i) ((processors p is.0).operands i is.1)
  each-field (what.Count i) is = bd (what.Count i) (objects.counts i is)
  each-field (what.Pattern i) is = bd (what.Pattern i) (objects.patterns i is)
  each-field (what.Words d) is = bd (what.Words d) (objects.queues d is).count
  each-field (what.Word d i) is = bd (what.Word d i) ((objects.queues d is.0).words i is.1)
  each-field (what.FirstMessage i) is = bd (what.FirstMessage i) (objects.first_messages i is)
  each-field (what.MessageBehind i) is = bd (what.MessageBehind i) (objects.messages_behind i is)
  each-field (what.SharedWord i) is = bd (what.SharedWord i) (objects.shared_words i is)
  each-field (what.TicksToDue k) is = cd (what.TicksToDue k) (cyclics.ticks k is)
  each-field (what.PendingCyclic k) is = cd (what.PendingCyclic k) (cyclics.pending k is)
  each-field (what.PendingInterrupt i) is = interrupts i is

  pub all-fields : (limited : Bool) → (limited ≡ true → Contains a what.Interrupts) → AreAllFields sys bodies limited d
  all-fields limited counted =
      record { each = each-field; interrupts = λ is. ad what.Interrupts (counted is) }
