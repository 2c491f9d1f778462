use Rattle.fmp_server.proofs.Taking.{taken_next}
use Rattle.fmp_server.proofs.workspace.Workspace.take.Goals as goal

pub loop-message-preserved : goal.loop-message-preserved
loop-message-preserved c =
    taken_next (λ m. m.items) (λ b. b.items) c.args.messages.now c.loop-message.message-index c.message-item.result
    c.deref.result.now _ c.loop-message.self c.take_message.new.self c.loop-message.out.items
    c.take_message.new.out.items c.loop-message-test.true c.message-item.is c.deref.ensures.value
    c.loop-message.invariant c.in_ok-take_message.ensures
