-- The tables of a kernel may go to another thread.
use denote.Struct.Declared.{shape}
use denote.Param.Send.{IsSend, recorded_send, struct_send, view_send, sendable}
use Rattle.std.proofs.Crossing.{crosses}
use Rattle.fmp_base.proofs.states.TaskBlock.TheSendSync as block
use Rattle.fmp_base.proofs.systems.System.TheSendSync as system
use Rattle.fmp_ready.proofs.queues.ReadyQueues.TheSendSync as ready
use Rattle.fmp_ring.proofs.rings.Rings.TheSendSync as rings
use Rattle.fmp_spin.proofs.pending.PendingHandlers.TheSendSync as pending
use Rattle.fmp_spin.proofs.processors.Processors.TheSendSync as processors
use Rattle.fmp_tasks.proofs.words.QueueWords.TheSendSync as words
use Rattle.fmp_tasks.specs.contracts.order.Order as Order
use Rattle.fmp_tasks.specs.contracts.kernel_state.KernelState as KernelState
use Rattle.fmp_tasks.specs.contracts.kernel_state.KernelState.TheInside as tables
use Rattle.fmp_ticks.proofs.cyclics.Cyclics.TheSendSync as cyclics
use Rattle.fmp_ticks.proofs.deadlines.TickQueue.TheSendSync as deadlines
use Rattle.fmp_waitq.proofs.queues.WaitQueues.TheSendSync as waits

order_send : IsSend Order.the_row
order_send = search (crosses, sendable) depth 20

-- the parts of a kernel's tables, whatever their order
ruleset queues = (order_send, rings.the_send, ready.the_send, waits.the_field_send, deadlines.the_send, words.the_send)

ruleset parts = (queues, system.the_field_send, block.the_send, processors.the_send, cyclics.the_send, pending.the_send)

pub tables_send : IsSend KernelState.the_row
tables_send =
    view_send tables.the_row _ _ _ _
    (recorded_send tables.the_field.row _ _ tables.the_type.to_one
    (struct_send (shape tables.the_type) (search (parts, crosses, sendable) depth 40)))
