-- The numbers of the fields of a block.
use Rattle.std.proofs.Common.{◌≡◌, ℕ, Some}
use Rattle.fmp_base.specs.Meanings.{World}
use Rattle.fmp_base.specs.States.{task_at}
use Rattle.fmp_base.specs.Systems.{SystemTables}
use Rattle.fmp_fields.specs.declared.field.What.{What}
use Rattle.fmp_fields.specs.declared.field.What.TheVariants as what
use Rattle.fmp_fields.specs.FieldNumbers.{block_number, number_of, task_of}
use Rattle.fmp_instructions.specs.declared.instructions.MachineContext.{MachineContext}

-- a field that a block tells has the number that the block gives it
pub block-told : (sys : SystemTables) (w : World MachineContext) (came : ℕ) (f : What) (t : ℕ) → task_of f ≡ Some t
    → number_of sys w came f ≡ block_number w.state.clock (task_at w.state.tasks t) f
block-told sys w came what.Interrupts t e = absurd cc
block-told sys w came (what.Phase u) t e = cc
block-told sys w came (what.Object u) t e = cc
block-told sys w came (what.Wanted u) t e = cc
block-told sys w came (what.Suspended u) t e = cc
block-told sys w came (what.Priority u) t e = cc
block-told sys w came (what.Processor u) t e = cc
block-told sys w came (what.Activations u) t e = cc
block-told sys w came (what.NextProcessor u) t e = cc
block-told sys w came (what.Wakeups u) t e = cc
block-told sys w came (what.TicksLeft u) t e = cc
block-told sys w came (what.Behind u) t e = absurd cc
block-told sys w came (what.Pc u) t e = absurd cc
block-told sys w came (what.Local u k) t e = absurd cc
block-told sys w came (what.Operands u) t e = absurd cc
block-told sys w came (what.Operand u k) t e = absurd cc
block-told sys w came (what.Runs u) t e = absurd cc
block-told sys w came (what.Lock u) t e = absurd cc
block-told sys w came (what.DispatchDisabled u) t e = absurd cc
block-told sys w came (what.InterruptHandler u) t e = absurd cc
block-told sys w came (what.CyclicHandler u) t e = absurd cc
block-told sys w came (what.HandlerPc u) t e = absurd cc
block-told sys w came (what.HandlerLocal u k) t e = absurd cc
block-told sys w came (what.HandlerOperands u) t e = absurd cc
block-told sys w came (what.HandlerOperand u k) t e = absurd cc
block-told sys w came (what.Count u) t e = absurd cc
block-told sys w came (what.Pattern u) t e = absurd cc
block-told sys w came (what.Words u) t e = absurd cc
block-told sys w came (what.Word u k) t e = absurd cc
block-told sys w came (what.FirstMessage u) t e = absurd cc
block-told sys w came (what.MessageBehind u) t e = absurd cc
block-told sys w came (what.SharedWord u) t e = absurd cc
block-told sys w came (what.TicksToDue u) t e = absurd cc
block-told sys w came (what.PendingCyclic u) t e = absurd cc
block-told sys w came (what.PendingInterrupt u) t e = absurd cc
