-- An instruction and its depth, read from six bytes at once.
use Rattle.std.proofs.Common.{◌≡◌, ℕ, ◌≤◌, Bool, false, List, [], ◌∷◌, ◌++◌, length, drop, get_or, Option, Some, None}
use Rattle.std.proofs.Common.{MatchOption, Ok, refl, sym, ap, ◌∙◌, arith}
use Rattle.std.specs.Prelude.{IfOk, IfErr}
use Rattle.std.specs.Int.{w32, cast_signed}
use Rattle.std.proofs.lemmas.Bool.{le-ltb}
use Rattle.byteorder.specs.Endian.{little_number}
use Rattle.fmp_instructions.specs.declared.instructions.Instruction.{Instruction}
use Rattle.fmp_image_bytes.specs.declared.fault.ImageFault.TheVariants as fault
use Rattle.fmp_image_bytes.specs.Fields.{◌>>=◌}
use Rattle.fmp_image_bytes.specs.Instructions.{instruction_in}
use Rattle.fmp_image_bytes.specs.Bodies.{named, step, step_at}

-- the fields of an instruction that is there
fields_at : (bytes : List ℕ) → 6 ≤ length bytes
    → step.read bytes ≡ Ok (
      (get_or bytes 0 0, (cast_signed w32 (little_number 4 (drop 1 bytes)), get_or bytes 5 0)),
      drop 6 bytes,
    )
fields_at [] h = absurd (omega (arith, h))
fields_at (a ∷ []) h = absurd (omega (arith, h))
fields_at (a ∷ b ∷ []) h = absurd (omega (arith, h))
fields_at (a ∷ b ∷ c ∷ []) h = absurd (omega (arith, h))
fields_at (a ∷ b ∷ c ∷ d ∷ []) h = absurd (omega (arith, h))
fields_at (a ∷ b ∷ c ∷ d ∷ e ∷ []) h = absurd (omega (arith, h))
fields_at (a ∷ b ∷ c ∷ d ∷ e ∷ f ∷ rest) h = rw (le-ltb (length (b ∷ c ∷ d ∷ e ∷ f ∷ rest)) 4 (omega arith)) refl

-- the instruction that six bytes spell, with its depth
pub step_of_six : (version : ℕ) (bytes : List ℕ) → 6 ≤ length bytes → step_at version bytes
    ≡ (named (instruction_in version (get_or bytes 0 0) (cast_signed w32 (little_number 4 (drop 1 bytes)))) >>= λ i.
    Ok ((i, get_or bytes 5 0), drop 6 bytes))
unfolding step_at
step_of_six version bytes h = rw (fields_at bytes h) refl

-- what was appended, where there is an instruction
pub six_pushed : (fit : ℕ → Instruction → Bool) (o : Option Instruction) (entry depth : ℕ) (after : List ℕ) (t : Bool)
    (is is' : List Instruction)
    → MatchOption o (t ≡ false) (λ i. (t ≡ fit entry i) × (is' ≡ is ++ i ∷ [])) → entry ≡ depth
    → IfOk {T = (Instruction × ℕ) × List ℕ} (named o >>= λ i. Ok ((i, depth), after))
    (λ x. (t ≡ fit x.0.1 x.0.0) × (x.0.1 ≡ entry) × (x.1 ≡ after) × (is' ≡ is ++ x.0.0 ∷ []))
six_pushed fit None entry depth after t is is' h e = tt
six_pushed fit (Some i) entry depth after t is is' h e = (h.0 ∙ ap (λ d. fit d i) e, sym e, refl, h.1)

-- the fault, where there is none
pub six_refused : (fit : ℕ → Instruction → Bool) (o : Option Instruction) (entry depth : ℕ) (after : List ℕ)
    (t : Bool) (is is' : List Instruction)
    → MatchOption o (t ≡ false) (λ i. (t ≡ fit entry i) × (is' ≡ is ++ i ∷ []))
    → IfErr {T = (Instruction × ℕ) × List ℕ} (named o >>= λ i. Ok ((i, depth), after))
    (λ f. (t ≡ false) × (f ≡ fault.Code))
six_refused fit None entry depth after t is is' h = (h, refl)
six_refused fit (Some i) entry depth after t is is' h = tt
