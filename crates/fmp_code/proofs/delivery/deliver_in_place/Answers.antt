use Rattle.std.proofs.Common.{◌≡◌, Some}
use Rattle.fmp_instructions.specs.declared.instructions.Instruction.TheVariants.{Call}
use Rattle.fmp_instructions.specs.Instructions.{body_tables}
use Rattle.fmp_instructions.specs.Machine.{call_before}
use Rattle.fmp_instructions.proofs.Places.{call_fits}
use Rattle.fmp_code.proofs.delivery.deliver_in_place.Goals as goal

pub give_reply-requires-clause-out : goal.give_reply-requires-clause-out
give_reply-requires-clause-out c =
    let call = c.in-Some-Call in
    let here : call_before c.args.body.now.instructions.items c.args.context.now.pc
    ≡ Some (Call call.service call.out call.receiver) = cc in
    (call_fits (body_tables c.args.body.now) c.args.context.now.pc call.service call.out call.receiver c.requires
    here).0

pub give_reply-requires-clause-receiver : goal.give_reply-requires-clause-receiver
give_reply-requires-clause-receiver c =
    let call = c.in-Some-Call in
    let here : call_before c.args.body.now.instructions.items c.args.context.now.pc
    ≡ Some (Call call.service call.out call.receiver) = cc in
    (call_fits (body_tables c.args.body.now) c.args.context.now.pc call.service call.out call.receiver c.requires
    here).1
