-- Arguments of instructions, as their bits.
use Rattle.std.proofs.Common.{◌≡◌, ℕ, ℤ, pos, negsuc, ◌<◌, ◌≤◌, Bool, true, false, ◌&&◌, Option, None, FitsSigned, eqb}
use Rattle.std.proofs.Common.{refl, sym, arith}
use Rattle.std.specs.Prelude.{◌==◌, if◌then◌else◌}
use Rattle.std.specs.Int.{w32, cast_unsigned}
use Rattle.std.proofs.lemmas.Bool.{le-ltb, ne_eqb}
use Rattle.fmp_instructions.specs.declared.instructions.Instruction.{Instruction}
use Rattle.fmp_instructions.specs.declared.instructions.Instruction.TheVariants.{LoadIndexed, StoreIndexed}
use Rattle.fmp_image_bytes.specs.Instructions.{array_of, below, unary_of, binary_operator_of, call_of, instruction_of}
use Rattle.fmp_image_bytes.specs.Instructions.{numbered, signed_numbered}

unlike : (k m : ℕ) → k < m → eqb k m ≡ false
unlike k m lt = ne_eqb k m (λ e. omega (arith, lt, e))

no_unary : (m : ℕ) → 14 ≤ m → unary_of m ≡ None
unfolding unary_of
no_unary m le =
    let three : eqb m 3 ≡ false = ne_eqb m 3 (λ e. omega (arith, le, e)) in
    rw (three, unlike 0 m (omega (arith, le)), unlike 1 m (omega (arith, le)), unlike 2 m (omega (arith, le))) refl

no_binary : (m : ℕ) → 14 ≤ m → binary_operator_of m ≡ None
unfolding binary_operator_of
no_binary m le =
    rw (
      unlike 0 m (omega (arith, le)),
      unlike 1 m (omega (arith, le)),
      unlike 2 m (omega (arith, le)),
      unlike 3 m (omega (arith, le)),
      unlike 4 m (omega (arith, le)),
      unlike 5 m (omega (arith, le)),
      unlike 6 m (omega (arith, le)),
      unlike 7 m (omega (arith, le)),
      unlike 8 m (omega (arith, le)),
      unlike 9 m (omega (arith, le)),
      unlike 10 m (omega (arith, le)),
      unlike 11 m (omega (arith, le)),
      unlike 12 m (omega (arith, le)),
      unlike 13 m (omega (arith, le)),
    ) refl

no_call : (m : ℕ) → 16777216 ≤ m → call_of m ≡ None
unfolding call_of
no_call m le = rw (le-ltb m 16777216 le) refl

no_place : (limit m : ℕ) → limit ≤ m → below limit m ≡ None
no_place limit m le = rw (le-ltb m limit le) refl

no_array : (make : ℕ → ℕ → Instruction) (m : ℕ) → 65536 ≤ m → array_of make m ≡ None
no_array make m le = rw (le-ltb m 65536 le) refl

not_zero : (b : Bool) (m : ℕ) → 1 ≤ m → (b && (m == 0)) ≡ false
not_zero true m le = ne_eqb m 0 (λ e. omega (arith, le, e))
not_zero false m le = refl

either_way : {A : Type 0} (b : Bool) (x : Option A) → x ≡ None → (if b then None else x) ≡ None
either_way true x h = refl
either_way false x h = h

-- no instruction but `Push` has an argument so great
not_numbered : (opcode m : ℕ) → 16777216 ≤ m → numbered opcode m ≡ None
unfolding numbered
not_numbered opcode m le =
    let bytes = no_place 256 m (omega (arith, le)) in
    let places = no_place 65536 m (omega (arith, le)) in
    let unary = no_unary m (omega (arith, le)) in
    let binary = no_binary m (omega (arith, le)) in
    let call = no_call m le in
    let end = not_zero (opcode == 9) m (omega (arith, le)) in
    let loaded = no_array LoadIndexed m (omega (arith, le)) in
    let stored = no_array StoreIndexed m (omega (arith, le)) in
    rw (bytes, places, unary, binary, call, loaded, stored, end)
    (either_way (opcode == 2) _ (either_way (opcode == 3) _ (either_way (opcode == 4) _ (either_way (opcode == 5) _
    (either_way (opcode == 6) _ (either_way (opcode == 7) _ (either_way (opcode == 8) _
    (either_way (opcode == 10) _ (either_way (opcode == 11) _ refl)))))))))

-- the bits of an argument tell the instruction as its value does
numbered_of_bits : (opcode : ℕ) (argument : ℤ) → FitsSigned w32 argument
    → numbered opcode (cast_unsigned w32 argument) ≡ signed_numbered opcode argument
numbered_of_bits opcode (pos n) fits = refl
numbered_of_bits opcode (negsuc n) fits = not_numbered opcode (cast_unsigned w32 (negsuc n)) (omega (arith, fits.sfits))

-- the instruction of an opcode, but for `Push`, by the bits of its argument
pub instruction_of_bits : (opcode : ℕ) (argument : ℤ) → FitsSigned w32 argument → (opcode ≡ 1 → ⊥)
    → instruction_of opcode argument ≡ numbered opcode (cast_unsigned w32 argument)
instruction_of_bits opcode argument fits other =
    let no : eqb opcode 1 ≡ false = ne_eqb opcode 1 other in
    rw no (sym (numbered_of_bits opcode argument fits))
