-- Instructions at the positions of a body.
use Rattle.std.specs.Prelude.{Bool, get_or}
use Rattle.fmp_instructions.specs.declared.instructions.Instruction.{Instruction}
use Rattle.fmp_instructions.specs.Verify.{fits}
use Rattle.fmp_image_bytes.specs.declared.instructions.Slot.{Slot}

-- whether an instruction is fit to stand at a position, with the operands that stand before it there
abbrev pub fits_slot : Slot → Instruction → Bool
fits_slot slot instruction =
    fits slot.locals slot.depths.now slot.position (get_or slot.depths.now slot.position 0) instruction
