-- The code of an image has rooms, and the bodies of its tasks and handlers.
use Rattle.std.proofs.Common.{◌≡◌, ℕ, zero, suc, ◌+◌, ◌<◌, ◌≤◌, List, [], ◌∷◌, Option, Some, None, Bool, true, false}
use Rattle.std.proofs.Common.{length, subst, arith, nat_eq, if◌then◌else◌}
use Rattle.std.specs.Prelude.{slice_get}
use Rattle.std.specs.List.{AllByRecursion}
use Rattle.fmp_base.specs.declared.bodies.HandlerStart.{HandlerStart}
use Rattle.fmp_base.specs.declared.states.Handler.{Handler}
use Rattle.fmp_base.specs.declared.states.Handler.TheVariants as handler
use Rattle.fmp_base.specs.declared.systems.TaskConfig.{TaskConfig}
use Rattle.fmp_base.specs.declared.systems.CyclicConfig.{CyclicConfig}
use Rattle.fmp_base.specs.declared.systems.InterruptConfig.{InterruptConfig}
use Rattle.fmp_base.specs.Meanings.{cyclic_start, handler_start, interrupt_start}
use Rattle.fmp_base.specs.Systems.{body_of, defined_for, found}
use Rattle.fmp_worlds.specs.Settled.{IsThere}
use Rattle.fmp_instructions.specs.Instructions.{BodyTables}
use Rattle.fmp_image_bytes.specs.declared.heads.BodyHead.{BodyHead}
use Rattle.fmp_image_bytes.specs.Bodies.{IsBody}
use Rattle.fmp_image_bytes.specs.Pairs.{AllPairs}
use Rattle.fmp_image_bytes.proofs.BodyLaws.{all_verified}
use Rattle.fmp_image_bytes.specs.Images.{ImageTables, IsImage}
use Rattle.fmp_image_bytes.proofs.Entries.{task_bodies, cyclic_bodies, interrupt_bodies}
use Rattle.fmp_reachable.specs.Rooms.{HasBodies, HasRooms}

some-locals : (version : ℕ) (hs : List BodyHead) (bs : List BodyTables) → AllPairs (IsBody version) hs bs
    → (k : ℕ) (b : BodyTables)
    → slice_get bs k ≡ Some b → 1 ≤ b.locals
some-locals version [] [] h k b e = cc
some-locals version [] (c ∷ bs) h k b e = absurd h
some-locals version (x ∷ hs) [] h k b e = absurd h
some-locals version (x ∷ hs) (c ∷ bs) h zero b e =
    let same : c ≡ b = cc in subst (λ (y : BodyTables). 1 ≤ y.locals) same h.0.locals
some-locals version (x ∷ hs) (c ∷ bs) h (suc k) b e = some-locals version hs bs h.1 k b e

pub image-rooms : (i : ImageTables) → IsImage i → HasRooms i.code
image-rooms i lawful =
    let verified = all_verified i.version i.heads i.code lawful.bodies in
    record { each = verified.each; locals = some-locals i.version i.heads i.code lawful.bodies }

module _ (code : List BodyTables) where
  there : (k : ℕ) → k < length code → IsThere (slice_get code k)
  there = go code where
    go : (bs : List BodyTables) (k : ℕ) → k < length bs → IsThere (slice_get bs k)
    go [] k lt = absurd (omega (arith, lt))
    go (b ∷ bs) zero lt = tt
    go (b ∷ bs) (suc k) lt = go bs k (omega (arith, lt))

  task-there : (other : TaskConfig) (ts : List TaskConfig) (t : ℕ)
      → AllByRecursion (λ x. body_of x.entry < length code) ts
      → t < length ts → IsThere (slice_get code (body_of (found other (slice_get ts t)).entry))
  task-there other [] t h lt = absurd (omega (arith, lt))
  task-there other (x ∷ ts) zero h lt = there (body_of x.entry) h.0
  task-there other (x ∷ ts) (suc t) h lt = task-there other ts t h.1 (omega (arith, lt))

  -- the body of a handler that begins so is there
  abbrev Enters : Option HandlerStart → Type 0
  Enters None = Unit {0}
  Enters (Some start) = IsThere (slice_get code start.body)

  cyclic-enters : (cs : List CyclicConfig) (c : ℕ) → AllByRecursion (λ x. body_of x.entry < length code) cs
      → Enters (cyclic_start (slice_get cs c))
  cyclic-enters [] c h = tt
  cyclic-enters (x ∷ cs) zero h = there (body_of x.entry) h.0
  cyclic-enters (x ∷ cs) (suc c) h = cyclic-enters cs c h.1

  by_number : (same : Bool) (x : InterruptConfig) (rest : Option InterruptConfig) → Enters (interrupt_start (Some x))
      → Enters (interrupt_start rest) → Enters (interrupt_start (if same then Some x else rest))
  by_number true x rest h k = h
  by_number false x rest h k = k

  interrupt-enters : (number : ℕ) (is : List InterruptConfig) → AllByRecursion (λ x. body_of x.entry < length code) is
      → Enters (interrupt_start (defined_for number is))
  interrupt-enters number [] h = tt
  interrupt-enters number (x ∷ is) h =
      by_number (nat_eq x.number number) x (defined_for number is) (there (body_of x.entry) h.0)
      (interrupt-enters number is h.1)

pub image-bodies : (i : ImageTables) → IsImage i → HasBodies i.system i.code
image-bodies i lawful =
    record {
      tasks = λ t lt. task-there i.code _ i.system.tasks t (task_bodies i lawful) lt;
      handlers = λ h start e. subst (λ (o : Option HandlerStart). Enters i.code o) e (enters h);
    } where
      enters : (h : Handler) → Enters i.code (handler_start i.system h)
      enters (handler.Interrupt k) = interrupt-enters i.code (k + 1) i.system.interrupts (interrupt_bodies i lawful)
      enters (handler.Cyclic c) = cyclic-enters i.code i.system.cyclics c (cyclic_bodies i lawful)
