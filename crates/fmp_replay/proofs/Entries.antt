-- The body of each task and handler of an image is there.
use Rattle.std.proofs.Common.{ℕ, zero, suc, ◌+◌, ◌<◌, List, [], ◌∷◌, Option, Some, Bool, true, false, length, arith}
use Rattle.std.specs.Prelude.{if◌then◌else◌, nat_eq, slice_get}
use Rattle.std.specs.List.{AllByRecursion}
use Rattle.fmp_base.specs.declared.states.Handler.{Handler}
use Rattle.fmp_base.specs.declared.states.Handler.TheVariants as handler
use Rattle.fmp_base.specs.declared.systems.TaskConfig.{TaskConfig}
use Rattle.fmp_base.specs.declared.systems.CyclicConfig.{CyclicConfig}
use Rattle.fmp_base.specs.declared.systems.InterruptConfig.{InterruptConfig}
use Rattle.fmp_base.specs.Meanings.{cyclic_start, interrupt_start, handler_start}
use Rattle.fmp_base.specs.Systems.{body_of, defined_for, found}
use Rattle.fmp_instructions.specs.Instructions.{BodyTables}
use Rattle.fmp_image_bytes.specs.Images.{ImageTables, IsImage}
use Rattle.fmp_image_bytes.proofs.Entries.{task_bodies, cyclic_bodies, interrupt_bodies}
use Rattle.fmp_contexts.specs.Contexts.{BeginsIn, Entered}

module _ (n : ℕ) where
  task_at : (other : TaskConfig) (ts : List TaskConfig) (t : ℕ) → AllByRecursion (λ x. body_of x.entry < n) ts
      → t < length ts
      → body_of (found other (slice_get ts t)).entry < n
  task_at other [] t h lt = absurd (omega (arith, lt))
  task_at other (x ∷ ts) zero h lt = h.0
  task_at other (x ∷ ts) (suc t) h lt = task_at other ts t h.1 (omega (arith, lt))

  cyclic_at : (cs : List CyclicConfig) (c : ℕ) → AllByRecursion (λ x. body_of x.entry < n) cs
      → BeginsIn (λ b. b < n) (cyclic_start (slice_get cs c))
  cyclic_at [] c h = tt
  cyclic_at (x ∷ cs) zero h = h.0
  cyclic_at (x ∷ cs) (suc c) h = cyclic_at cs c h.1

  by_number : (same : Bool) (x : InterruptConfig) (rest : Option InterruptConfig) → body_of x.entry < n
      → BeginsIn (λ b. b < n) (interrupt_start rest) → BeginsIn (λ b. b < n)
      (interrupt_start (if same then Some x else rest))
  by_number true x rest h k = h
  by_number false x rest h k = k

  interrupt_at : (number : ℕ) (is : List InterruptConfig) → AllByRecursion (λ x. body_of x.entry < n) is
      → BeginsIn (λ b. b < n) (interrupt_start (defined_for number is))
  interrupt_at number [] h = tt
  interrupt_at number (x ∷ is) h =
      by_number (nat_eq x.number number) x (defined_for number is) h.0 (interrupt_at number is h.1)

handler_at : (i : ImageTables) → IsImage i → (h : Handler) → BeginsIn (λ b. b < length i.code)
    (handler_start i.system h)
handler_at i lawful (handler.Interrupt k) = interrupt_at (length i.code) (k + 1) i.system.interrupts
    (interrupt_bodies i lawful)
handler_at i lawful (handler.Cyclic c) = cyclic_at (length i.code) i.system.cyclics c (cyclic_bodies i lawful)

pub entered : (i : ImageTables) → IsImage i → Entered (λ (bodies : List BodyTables) (body : ℕ). body < length bodies)
    i.code i.system
entered i lawful =
    record {
      tasks = λ t lt. task_at (length i.code) _ i.system.tasks t (task_bodies i lawful) lt;
      handlers = λ h. handler_at i lawful h;
    }
