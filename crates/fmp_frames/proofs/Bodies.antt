-- Lists of tokens from a place on.
use Rattle.std.proofs.Common.{◌≡◌, ℕ, suc, zero, ◌+◌, ◌<◌, List, [], ◌∷◌, ◌++◌, length, drop, cond}
use Rattle.std.proofs.Common.{map, refl, ap, ◌∙◌, arith}
use Rattle.fmp_lex.specs.declared.token.Token.{Token}
use Rattle.fmp_frames.specs.declared.call_positions.BodyCalls.{BodyCalls}
use Rattle.fmp_frames.specs.declared.call_positions.CallPosition.{CallPosition}
use Rattle.fmp_frames.specs.CallPositions.{TextBody, bodies_in, body_at, call_position_at, call_positions, calls_of}
use Rattle.fmp_frames.specs.CallPositions.{head_at, is_service_at, line_at, position_at, text_body}

next : (i : ℕ) → suc (i + 1) ≡ suc i + 1
next i = omega arith

pub call_position_by : (begins : List ℕ) (ts : List Token) (i : ℕ)
    → call_position_at begins ts i
    ≡ cond (is_service_at ts i) (position_at begins ts i ∷ []) []
call_position_by begins [] i = refl
call_position_by begins (t ∷ ts) zero = refl
call_position_by begins (t ∷ ts) (suc i) = call_position_by begins ts i

pub call_positions_at : (begins : List ℕ) (ts : List Token) (i : ℕ)
    → call_positions begins (drop i ts)
    ≡ cond (head_at ts i) [] (call_position_at begins ts i ++ call_positions begins (drop (i + 1) ts))
call_positions_at begins [] zero = refl
call_positions_at begins [] (suc i) = ap (λ (k : ℕ). call_positions begins (drop k [])) (next i)
call_positions_at begins (t ∷ ts) zero = refl
call_positions_at begins (t ∷ ts) (suc i) =
    call_positions_at begins ts i
    ∙ ap
    (λ k. cond (head_at ts i) [] (call_position_at begins ts i ++ call_positions begins (drop k (t ∷ ts))))
    (next i)

pub bodies_in_at : (begins : List ℕ) (ts : List Token) (i : ℕ) → i < length ts
    → bodies_in begins (drop i ts) ≡ body_at begins ts i ++ bodies_in begins (drop (i + 1) ts)
bodies_in_at begins [] i h = absurd (omega arith)
bodies_in_at begins (t ∷ ts) zero h = refl
bodies_in_at begins (t ∷ ts) (suc i) h =
    bodies_in_at begins ts i (omega arith)
    ∙ ap
    (λ k. cond (head_at ts i) (record { head = line_at ts i; calls = call_positions begins (drop k (t ∷ ts)) } ∷ []) []
    ++ bodies_in begins (drop k (t ∷ ts)))
    (next i)

-- the calls of bodies
pub calls_of_bodies : (bs : List BodyCalls) → map calls_of bs ≡ map (λ (b : TextBody). b.calls) (map text_body bs)
calls_of_bodies [] = refl
calls_of_bodies (b ∷ bs) = ap (λ (xs : List (List CallPosition)). b.calls.items ∷ xs) (calls_of_bodies bs)
