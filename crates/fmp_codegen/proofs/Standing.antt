-- Code that stands at a place of other code: its parts stand there too.
use Rattle.std.proofs.Common.{◌≡◌, ℕ, ◌+◌, ◌<◌, List, [], ◌∷◌, ◌++◌, length, Some, refl, ap, ◌∙◌, subst, arith}
use Rattle.std.proofs.Common.{append_assoc, length-append}
use Rattle.std.proofs.Math.Seq.{get_or-append_seam}
use Rattle.std.proofs.lemmas.Option.{slice_get-get_or}
use Rattle.fmp_instructions.specs.declared.instructions.Instruction.{Instruction}
use Rattle.fmp_codegen.specs.Tie.{HasAt}

pub has_front : (code : List Instruction) (at : ℕ) (a b : List Instruction) → HasAt code at (a ++ b) → HasAt code at a
has_front code at [] b h = tt
has_front code at (i ∷ a) b h = (h.0, has_front code (at + 1) a b h.1)

pub has_back :
    (code : List Instruction) (at n : ℕ) (a b : List Instruction) → length a ≡ n → HasAt code at (a ++ b) →
    HasAt code (at + n) b
has_back code at n [] b e h = let e : at ≡ at + n = omega arith in subst (λ n. HasAt code n b) e h
has_back code at n (i ∷ a) b e h =
    let e' : at + 1 + length a ≡ at + n = omega arith in
    subst (λ n. HasAt code n b) e' (has_back code (at + 1) (length a) a b refl h.1)

-- code stands after what comes before it
pub has_all : (is before : List Instruction) → HasAt (before ++ is) (length before) is
has_all [] before = tt
has_all (i ∷ is) before =
    let within : length before < length (before ++ i ∷ is) = omega (arith, length-append before (i ∷ is)) in
    let here = slice_get-get_or (before ++ i ∷ is) (length before) i within
    ∙ ap Some (get_or-append_seam before i is i) in
    let n : length (before ++ i ∷ []) ≡ length before + 1 = omega (arith, length-append before (i ∷ [])) in
    let rest = has_all is (before ++ i ∷ []) in
    let rest' = subst (λ l. HasAt l (length (before ++ i ∷ [])) is) (append_assoc before (i ∷ []) is) rest in
    (here, subst (λ m. HasAt (before ++ i ∷ is) m is) n rest')
