use Rattle.std.proofs.Common.{◌≡◌, ap, ◌∙◌, arith, subst}
use Rattle.fmp_base.specs.declared.systems.InterruptConfig.{InterruptConfig}
use Rattle.fmp_base.specs.Systems.{body_of, tables_of}
use Rattle.fmp_fields.specs.Listing.{HasRoom}
use Rattle.fmp_fields.proofs.Places.{each-more, read-at}
use Rattle.fmp_fields.proofs.Rooms.{interrupts-room, room-kept}
use Rattle.fmp_fields.proofs.room.interrupt_room.Goals as goal
use Rattle.fmp_fields.proofs.room.interrupt_room.Goals.{then-handler-p, else-handler-p}
use Rattle.fmp_instructions.specs.Instructions.{code_tables}

pub loop-handler-preserved : goal.loop-handler-preserved
loop-handler-preserved c =
    let bodies = code_tables c.args.code.now in
    let xs = c.args.sys.now.interrupts.items in
    let i = c.loop-handler.handler-index in
    let before = c.loop-handler.invariant in
    elim c.if-handler-p.branch [
      | then-handler-p w ↦
          rw w.room-is
          (each-more
          (λ (h : InterruptConfig). h.processor ≡ c.args.p → HasRoom bodies (body_of h.entry) c.loop-handler.room)
          (λ (h : InterruptConfig). h.processor ≡ c.args.p → HasRoom bodies (body_of h.entry) w.or-room.result)
          xs i before
          (λ h had own. room-kept bodies (body_of h.entry) c.loop-handler.room w.or-room.result
          w.or-room.ensures.own_locals w.or-room.ensures.own_operands (had own))
          (λ h at own. room-kept bodies (body_of h.entry) w.room_of.result w.or-room.result
          w.or-room.ensures.other_locals w.or-room.ensures.other_operands
          (subst (λ (z : InterruptConfig). HasRoom bodies (body_of z.entry) w.room_of.result)
          (read-at c.deref-handler-items.result.now xs i _ h c.deref-handler-items.ensures.value at)
          w.room_of.ensures)))
      | else-handler-p w ↦
          rw w.room-is
          (each-more
          (λ (h : InterruptConfig). h.processor ≡ c.args.p → HasRoom bodies (body_of h.entry) c.loop-handler.room)
          (λ (h : InterruptConfig). h.processor ≡ c.args.p → HasRoom bodies (body_of h.entry) c.loop-handler.room)
          xs i before
          (λ h had. had)
          (λ h at own. absurd (w.if-handler-p.false
          (ap (λ (z : InterruptConfig). z.processor)
          (read-at c.deref-handler-items.result.now xs i _ h c.deref-handler-items.ensures.value at) ∙ own))))
    ]

pub returns : goal.returns
returns c =
    interrupts-room (tables_of c.args.sys.now) (code_tables c.args.code.now) c.args.p c.loop-handler.room
    (λ k h lt e own. c.loop-handler.invariant k h (omega (arith, lt, c.loop-handler-test.false)) e own)
