use Rattle.std.proofs.Common.{◌≡◌, ℕ, ℤ, List, ap, sym, ◌∙◌, drop, get_or, rules, Ok}
use Rattle.std.specs.Int.{w32, cast_signed, cast_unsigned}
use Rattle.byteorder.specs.Endian.{little_number}
use Rattle.std.proofs.lemmas.Int.{to_z-of_z}
use Rattle.std.proofs.lemmas.List.{take_rest}
use Rattle.fmp_instructions.specs.Verify.{fits}
use Rattle.fmp_image_bytes.specs.Bodies.{named, step_at}
use Rattle.fmp_image_bytes.specs.Fields.{◌>>=◌}
use Rattle.fmp_image_bytes.specs.Instructions.{instruction_in}
use Rattle.fmp_image_bytes.proofs.StepReads.{step_of_six, six_pushed, six_refused}
use Rattle.fmp_image_bytes.proofs.bodies.push_step.Goals as goal

pub returns-clause-pushed : goal.returns-clause-pushed
returns-clause-pushed c =
    let bytes = c.args.bytes.now in
    let value : c.read_i32-argument.result ≡ cast_signed w32 (little_number 4 (drop 1 bytes)) =
    c.read_i32-argument.ensures ∙ ap (λ (xs : List ℕ). cast_signed w32 (little_number 4 xs)) (take_rest bytes 1) in
    let number = cast_signed w32 (cast_unsigned w32 c.read_i32-argument.result) in
    let same : number ≡ c.read_i32-argument.result = to_z-of_z w32 c.read_i32-argument.result (search rules) in
    let o = instruction_in c.args.slot.version (get_or bytes 0 0) number in
    let is : step_at c.args.slot.version bytes ≡ (named o >>= λ i. Ok ((i, get_or bytes 5 0), drop 6 bytes)) =
    step_of_six c.args.slot.version bytes c.requires.bytes
    ∙ ap (λ (k : ℤ). named (instruction_in c.args.slot.version (get_or bytes 0 0) k) >>= λ i. Ok
    ((i, get_or bytes 5 0), drop 6 bytes))
    (sym (same ∙ value)) in
    rw is (six_pushed (fits c.args.slot.locals c.args.slot.depths.now c.args.slot.position) o
    (get_or c.args.slot.depths.now c.args.slot.position 0)
    (get_or bytes 5 0) (drop 6 bytes)
    c.push_instruction.result _ _ c.push_instruction.ensures.pushed c.requires.depth)

pub returns-clause-refused : goal.returns-clause-refused
returns-clause-refused c =
    let bytes = c.args.bytes.now in
    let value : c.read_i32-argument.result ≡ cast_signed w32 (little_number 4 (drop 1 bytes)) =
    c.read_i32-argument.ensures ∙ ap (λ (xs : List ℕ). cast_signed w32 (little_number 4 xs)) (take_rest bytes 1) in
    let number = cast_signed w32 (cast_unsigned w32 c.read_i32-argument.result) in
    let same : number ≡ c.read_i32-argument.result = to_z-of_z w32 c.read_i32-argument.result (search rules) in
    let o = instruction_in c.args.slot.version (get_or bytes 0 0) number in
    let is : step_at c.args.slot.version bytes ≡ (named o >>= λ i. Ok ((i, get_or bytes 5 0), drop 6 bytes)) =
    step_of_six c.args.slot.version bytes c.requires.bytes
    ∙ ap (λ (k : ℤ). named (instruction_in c.args.slot.version (get_or bytes 0 0) k) >>= λ i. Ok
    ((i, get_or bytes 5 0), drop 6 bytes))
    (sym (same ∙ value)) in
    rw is (six_refused (fits c.args.slot.locals c.args.slot.depths.now c.args.slot.position) o
    (get_or c.args.slot.depths.now c.args.slot.position 0)
    (get_or bytes 5 0) (drop 6 bytes)
    c.push_instruction.result _ _ c.push_instruction.ensures.pushed)
