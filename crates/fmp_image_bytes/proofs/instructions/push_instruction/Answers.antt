use Rattle.std.proofs.Common.{◌≡◌, ℤ, ap, ◌∙◌}
use Rattle.std.specs.Int.{w32, cast_unsigned}
use Rattle.std.proofs.lemmas.Int.{to_z-of_z}
use Rattle.fmp_image_bytes.proofs.Arguments.{instruction_of_bits}
use Rattle.fmp_image_bytes.proofs.instructions.push_instruction.Goals as goal

pub returns-clause-pushed : goal.returns-clause-pushed
returns-clause-pushed c =
    let is = instruction_of_bits c.args.opcode c.args.argument c.ranges.argument c.if-opcode-eq1.false in
    let bits : c.cast_unsigned.result ≡ cast_unsigned w32 c.args.argument =
    c.cast_unsigned.ensures ∙ ap (λ (z : ℤ). cast_unsigned w32 z) (to_z-of_z w32 c.args.argument c.ranges.argument) in
    rw (is, ← bits) c.push_numbered.ensures.pushed
