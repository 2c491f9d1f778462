use Rattle.fmp_base.specs.Systems.{tables_of}
use Rattle.fmp_fields.proofs.Rooms.{handlers-room, room-kept}
use Rattle.fmp_fields.proofs.room.handler_room.Goals as goal
use Rattle.fmp_instructions.specs.Instructions.{code_tables}

pub returns : goal.returns
returns c =
    let bodies = code_tables c.args.code.now in
    let room = c.or.result in
    handlers-room (tables_of c.args.sys.now) bodies c.args.p room
    (λ k start own e. room-kept bodies start.body c.cyclic_room.result room c.or.ensures.own_locals
    c.or.ensures.own_operands (c.cyclic_room.ensures k start own e))
    (λ i start own e. room-kept bodies start.body c.interrupt_room.result room c.or.ensures.other_locals
    c.or.ensures.other_operands (c.interrupt_room.ensures i start own e))
