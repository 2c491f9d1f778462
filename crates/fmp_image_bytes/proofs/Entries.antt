-- Each body that a row of an image names is there.
use Rattle.std.proofs.Common.{◌≡◌, refl, ℕ, ◌<◌, true, List, Option, Some, None, length, subst}
use Rattle.std.specs.Prelude.{slice_get}
use Rattle.std.specs.List.{AllByRecursion}
use Rattle.std.proofs.lemmas.Option.{slice_get_within}
use Rattle.fmp_base.specs.declared.systems.TaskConfig.{TaskConfig}
use Rattle.fmp_base.specs.declared.systems.CyclicConfig.{CyclicConfig}
use Rattle.fmp_base.specs.declared.systems.InterruptConfig.{InterruptConfig}
use Rattle.fmp_base.specs.Systems.{body_of}
use Rattle.fmp_image_bytes.specs.declared.heads.BodyHead.{BodyHead}
use Rattle.fmp_image_bytes.specs.Bodies.{IsBody}
use Rattle.fmp_image_bytes.specs.Images.{ImageTables, IsImage}
use Rattle.fmp_image_bytes.specs.Rows.{RowContext, context_of, row, is_task_body, is_handler_body, task_form}
use Rattle.fmp_image_bytes.specs.Rows.{cyclic_form, interrupt_form}
use Rattle.fmp_image_bytes.proofs.InRange.{all_map}
use Rattle.fmp_image_bytes.proofs.Names.{and_true}
use Rattle.fmp_image_bytes.proofs.PairLists.{same_length}

task_there : (heads : List BodyHead) (body stack : ℕ) (o : Option BodyHead) → slice_get heads body ≡ o
    → is_task_body o stack ≡ true → body < length heads
task_there heads body stack None e h = absurd cc
task_there heads body stack (Some head) e h = slice_get_within heads body head e

handler_there : (heads : List BodyHead) (body : ℕ) (o : Option BodyHead) → slice_get heads body ≡ o
    → is_handler_body o ≡ true → body < length heads
handler_there heads body None e h = absurd cc
handler_there heads body (Some head) e h = slice_get_within heads body head e

module _ (context : RowContext) where
  task_enters : (t : TaskConfig) → (row task_form context).fits t → body_of t.entry < length context.heads
  task_enters t h =
      let rules = and_true _ _ (and_true _ _ h.1).1 in
      task_there context.heads (body_of t.entry) t.stack _ refl (and_true _ _ rules.0).1

  cyclic_enters : (c : CyclicConfig) → (row cyclic_form context).fits c → body_of c.entry < length context.heads
  cyclic_enters c h =
      let rules = and_true _ _ (and_true _ _ h.1).1 in
      handler_there context.heads (body_of c.entry) _ refl (and_true _ _ rules.0).1

  interrupt_enters : (i : InterruptConfig) → (row interrupt_form context).fits i
      → body_of i.entry < length context.heads
  interrupt_enters i h = handler_there context.heads (body_of i.entry) _ refl (and_true _ _ (and_true _ _ h.1).0).1

module _ (i : ImageTables) (h : IsImage i) where
  abbrev context : RowContext
  context = context_of i.version i.system.processors i.heads

  there : (body : ℕ) → body < length i.heads → body < length i.code
  there body lt = subst (λ (n : ℕ). body < n) (same_length (IsBody i.version) i.heads i.code h.bodies) lt

  pub task_bodies : AllByRecursion (λ t. body_of t.entry < length i.code) i.system.tasks
  task_bodies = all_map (λ t fits. there (body_of t.entry) (task_enters context t fits)) i.system.tasks h.tasks.each

  pub cyclic_bodies : AllByRecursion (λ c. body_of c.entry < length i.code) i.system.cyclics
  cyclic_bodies = all_map (λ c fits. there (body_of c.entry) (cyclic_enters context c fits)) i.system.cyclics
      h.cyclics.each

  pub interrupt_bodies : AllByRecursion (λ k. body_of k.entry < length i.code) i.system.interrupts
  interrupt_bodies = all_map (λ k fits. there (body_of k.entry) (interrupt_enters context k fits)) i.system.interrupts
      h.interrupts.each
