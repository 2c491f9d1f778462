-- A kernel may go to another thread where its body and the contexts of its bodies may.
use denote.RattleType.{RattleType}
use denote.Struct.Declared.{shape}
use denote.Param.Send.{IsSend, recorded_send, struct_send, view_send, sendable}
use Rattle.std.proofs.Crossing.{crosses}
use Rattle.fmp_base.proofs.events.Line.TheSendSync as line
use Rattle.fmp_base.specs.declared.body.Body.{Ghosts}
use Rattle.fmp_contexts.proofs.contexts.BodyContexts.TheSendSync as contexts
use Rattle.fmp_kernel.specs.contracts.kernel.Kernel as Kernel
use Rattle.fmp_kernel.specs.contracts.kernel.Kernel.TheInside as kernel
use Rattle.fmp_kernel.specs.contracts.runner.Runner as Runner
use Rattle.fmp_kernel.specs.contracts.runner.Runner.TheInside as runner
use Rattle.fmp_tasks.proofs.Crossing.{tables_send}

module _ (B C : RattleType) (g : Ghosts B.Denot C.Denot) where
  runner_send : IsSend B → IsSend C → IsSend (Runner.the_row B C g)
  runner_send b c =
      view_send (runner.the_row B C g) _ _ _ _
      (recorded_send (runner.the_field B C g).row _ _ (runner.the_type B C g).to_one
      (struct_send (shape (runner.the_type B C g)) (search (
        tables_send,
        contexts.the_send,
        line.the_send,
        crosses,
        sendable,
      ) depth 40)))

  pub kernel_send : IsSend B → IsSend C → IsSend (Kernel.the_row B C g)
  kernel_send b c =
      view_send (kernel.the_row B C g) _ _ _ _
      (recorded_send (kernel.the_field B C g).row _ _ (kernel.the_type B C g).to_one
      (struct_send (shape (kernel.the_type B C g)) (search (runner_send, crosses, sendable) depth 40)))
