-- What is seen on a kernel that has taken events is seen in what the events have left.
use Rattle.std.proofs.Common.{ℕ, List, Bool, subst}
use Rattle.fmp_base.specs.declared.events.Event.{Event}
use Rattle.fmp_witness.specs.Findings.{HasBroken, HasForbidden}
use Rattle.fmp_image_bytes.specs.Images.{ImageTables}
use Rattle.fmp_instructions.specs.Instructions.{BodyTables}
use Rattle.fmp_instructions.specs.Machine.{code_meaning}
use Rattle.fmp_instructions.specs.declared.instructions.MachineContext.{MachineContext}
use Rattle.fmp_kernel.specs.KernelViews.{KernelView}
use Rattle.fmp_witness.specs.Followed.{IsFollowed}
use Rattle.fmp_question.specs.declared.question.Question.{Question}
use Rattle.fmp_question.specs.Endless.{IsEndlessOn}
use Rattle.fmp_replay.specs.Replays.{replay}
use Rattle.fmp_schedules.specs.declared.monitor.Monitor.{Monitor}
use Rattle.fmp_schedules.specs.Deadlocks.{IsDeadlock}

abbrev Kernels : Type 0
Kernels = KernelView (List BodyTables) MachineContext

module _ (i : ImageTables) (n : ℕ) (es : List Event) (k : Kernels) (f : IsFollowed i n es k) where
  pub deadlock_there : (rest : List Bool) (interrupts : Bool)
      → IsDeadlock k.system (code_meaning k.body) k.bound k.world rest interrupts
      → IsDeadlock i.system (code_meaning i.code) n (replay i n es).world rest interrupts
  deadlock_there rest interrupts d =
      subst (λ (x : Kernels). IsDeadlock x.system (code_meaning x.body) x.bound x.world rest interrupts) f.kernel d

  pub endless_there : (p : ℕ) → IsEndlessOn k.system (code_meaning k.body) k.world p
      → IsEndlessOn i.system (code_meaning i.code) (replay i n es).world p
  endless_there p h =
      subst (λ (x : Kernels). IsEndlessOn x.system (code_meaning x.body) x.world p) f.kernel h

  pub line_there : (q : Question) (place : ℕ) → HasForbidden i.system q k.world k.lines place
      → HasForbidden i.system q (replay i n es).world (replay i n es).lines place
  line_there q place h = subst (λ (x : Kernels). HasForbidden i.system q x.world x.lines place) f.kernel h

  pub state_there : (ms : List Monitor) (place : ℕ) → HasBroken ms k.world place
      → HasBroken ms (replay i n es).world place
  state_there ms place h = subst (λ (x : Kernels). HasBroken ms x.world place) f.kernel h
