use Rattle.std.proofs.Common.{◌≡◌}
use Rattle.fmp_base.specs.declared.systems.InterruptConfig.{InterruptConfig}
use Rattle.fmp_base.specs.Systems.{body_of}
use Rattle.fmp_fields.specs.Listing.{HasRoom}
use Rattle.fmp_fields.proofs.Places.{EachBefore}
use Rattle.fmp_fields.proofs.room.interrupt_room.Given as goal
use Rattle.fmp_instructions.specs.Instructions.{code_tables}

abbrev pub invariant-loop-handler : goal.invariant-loop-handler
invariant-loop-handler l =
    EachBefore
    (λ (h : InterruptConfig). h.processor ≡ l.fn.p → HasRoom (code_tables l.fn.code) (body_of h.entry) l.room)
    l.fn.sys.interrupts.items l.handler-index
