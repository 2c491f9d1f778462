-- Tasks and handlers in range whose bodies fit keep the rules of an image.
use Rattle.std.proofs.Common.{◌≡◌, ℕ, ◌+◌, ◌-◌, ◌<◌, ◌≤◌, ◌==◌, Bool, true, false, slice_get, refl, ap, ap₂, arith}
use Rattle.std.proofs.lemmas.Bool.{le-leb}
use Rattle.fmp_base.specs.declared.systems.Entry.TheVariants as entry
use Rattle.fmp_base.specs.declared.systems.TaskConfig.{TaskConfig}
use Rattle.fmp_base.specs.declared.systems.CyclicConfig.{CyclicConfig}
use Rattle.fmp_base.specs.declared.systems.InterruptConfig.{InterruptConfig}
use Rattle.fmp_base.specs.Ranges.{TaskInRange, CyclicInRange, InterruptInRange}
use Rattle.fmp_cfgparse.specs.Tables.{IsObjectName, TaskConfigured, CyclicConfigured}
use Rattle.fmp_image_bytes.specs.Fields.{in_range}
use Rattle.fmp_image_bytes.specs.Ranges.{is_start_bit}
use Rattle.fmp_image_bytes.specs.Rows.{RowContext, row, bit, is_task_body, is_handler_body, task_form, cyclic_form}
use Rattle.fmp_image_bytes.specs.Rows.{interrupt_form}
use Rattle.fmp_image_bytes.proofs.Verification.{both_true}
use Rattle.fmp_image.proofs.FittingRows.{object_is_name, name_room, lies_in_range}

start_again : (b : Bool) → (bit b 2 == 2) ≡ b
start_again true = refl
start_again false = refl

start_bit : (b : Bool) → is_start_bit (bit b 2) ≡ true
start_bit true = refl
start_bit false = refl

start_small : (b : Bool) → bit b 2 ≤ 2
start_small true = omega arith
start_small false = omega arith

only_again : (b : Bool) → (bit b 1 == 1) ≡ b
only_again true = refl
only_again false = refl

only_small : (b : Bool) → bit b 1 ≤ 1
only_small true = omega arith
only_small false = omega arith

from_one : (processor processors : ℕ) → processor < processors → in_range 1 processors (processor + 1) ≡ true
from_one processor processors lt = lies_in_range 1 processors (processor + 1)
    (record { least = omega arith; most = omega arith })

back_one : (processor : ℕ) → (processor + 1) - 1 ≡ processor
back_one processor = omega arith

-- a task and a cyclic handler of a configuration
abbrev pub IsTask : ℕ → TaskConfig → Type 0
IsTask processors t = TaskInRange processors t × (IsObjectName t.name × TaskConfigured t)

abbrev pub IsCyclic : ℕ → CyclicConfig → Type 0
IsCyclic processors c = CyclicInRange processors c × (IsObjectName c.name × CyclicConfigured c)

pub task_fits : (context : RowContext) (t : TaskConfig) (body : ℕ) → context.processors ≤ 8
    → IsTask context.processors t → body < 256 → is_task_body (slice_get context.heads body) t.stack ≡ true →
    (row task_form context).fits (record t { entry = entry.Body body })
task_fits context t body few (h, (name, given)) low fits =
    let priority : t.priority ≤ 16 = h.priority.most in
    let stack : t.stack ≤ 65536 = h.stack.most in
    let inside : t.processor < context.processors = h.processor in
    let small = start_small t.activated in
    let single = only_small t.only in
    let numbers =
    both_true _ _ (both_true _ _ (both_true _ _ (start_bit t.activated) (lies_in_range 1 16 t.priority h.priority))
    (lies_in_range 1 65536 t.stack h.stack)) (le-leb (bit t.only 1) 1 single) in (
      (
        name_room t.name name,
        (
          omega arith,
          (
            given.exinf,
            (
              low,
              (
                omega arith,
                (omega arith, (omega arith, omega arith)),
              ),
            ),
          ),
        ),
      ),
      both_true _ _ (object_is_name context.version t.name name) (both_true _ _ (both_true _ _ numbers fits)
          (from_one t.processor context.processors inside)),
      ap₂ (λ n (x : Bool × (Bool × ℕ)). record {
        name = n;
        activated = x.0;
        exinf = t.exinf;
        entry = entry.Body body;
        priority = t.priority;
        stack = t.stack;
        processor = x.1.1;
        only = x.1.0;
      })
          name.canonical (ap₂ (λ a b. (a, b)) (start_again t.activated)
          (ap₂ (λ a b. (a, b)) (only_again t.only) (back_one t.processor))),
    )

pub cyclic_fits : (context : RowContext) (c : CyclicConfig) (body : ℕ) → context.processors ≤ 8
    → IsCyclic context.processors c → body < 256 → is_handler_body (slice_get context.heads body) ≡ true →
    (row cyclic_form context).fits (record c { entry = entry.Body body })
cyclic_fits context c body few (h, (name, given)) low fits =
    let period : c.period ≤ 1073741824 = h.period.most in
    let phase : c.phase ≤ 1073741824 = h.phase in
    let inside : c.processor < context.processors = h.processor in
    let small = start_small c.started in
    let numbers = both_true _ _ (both_true _ _ (start_bit c.started) (lies_in_range 1 1073741824 c.period h.period))
    (le-leb c.phase 1073741824 phase) in (
      (name_room c.name name, (omega arith, (given.exinf, (low, (omega arith, (omega arith, omega arith)))))),
      both_true _ _ (object_is_name context.version c.name name) (both_true _ _ (both_true _ _ numbers fits)
          (from_one c.processor context.processors inside)),
      ap₂ (λ n (x : Bool × ℕ). record {
        name = n;
        started = x.0;
        exinf = c.exinf;
        entry = entry.Body body;
        period = c.period;
        phase = c.phase;
        processor = x.1;
      })
          name.canonical (ap₂ (λ a b. (a, b)) (start_again c.started) (back_one c.processor)),
    )

pub interrupt_fits : (context : RowContext) (i : InterruptConfig) (body : ℕ) → context.processors ≤ 8
    → InterruptInRange context.processors i → body < 256 → is_handler_body (slice_get context.heads body) ≡ true →
    (row interrupt_form context).fits (record i { entry = entry.Body body })
interrupt_fits context i body few h low fits =
    let number : i.number ≤ 32 = h.number.most in
    let inside : i.processor < context.processors = h.processor in (
      (omega arith, (low, omega arith)),
      both_true _ _ (both_true _ _ (lies_in_range 1 32 i.number h.number) fits)
          (from_one i.processor context.processors inside),
      ap (λ p. record { number = i.number; entry = entry.Body body; processor = p }) (back_one i.processor),
    )
