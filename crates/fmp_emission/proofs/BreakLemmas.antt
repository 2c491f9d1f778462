-- Where the jumps of `break`s are led to a place, code is as if they had been emitted so.
use Rattle.std.proofs.Common.{◌≡◌, ℕ, ◌+◌, List, [], ◌∷◌, ◌++◌, length, refl, ap, sym, ◌∙◌, arith, append_assoc}
use Rattle.std.proofs.Common.{length-append}
use Rattle.std.specs.Prelude.{slice_set}
use Rattle.std.proofs.lemmas.List.{append-nil}
use Rattle.std.proofs.Math.Seq.{set-append_seam}
use Rattle.fmp_tasklang.specs.Trees.{StatementTree, assign, assign_element, service_call, if_then, if_else, while}
use Rattle.fmp_tasklang.specs.Trees.{break, continue, return, Block, empty, next}
use Rattle.fmp_tasklang.specs.Scopes.{Scope}
use Rattle.fmp_instructions.specs.declared.instructions.Instruction.{Instruction}
use Rattle.fmp_instructions.specs.declared.instructions.Instruction.TheVariants.{Jump, JumpIfZero}
use Rattle.fmp_scopes.specs.Scheme.{expression_code, statement_code, block_code}
use Rattle.fmp_scopes.specs.Sizes.{expression_size, statement_size, block_size}
use Rattle.fmp_emission.specs.Breaks.{statement_breaks, block_breaks, led_to}
use Rattle.fmp_emission.proofs.Lengths.{length-expression_code, length-statement_code, length-block_code}

module _ (to : ℕ) where
  -- one list of places after the other
  pub led-append : (ps qs : List ℕ) (code : List Instruction) → led_to to (ps ++ qs) code
      ≡ led_to to qs (led_to to ps code)
  led-append [] qs code = refl
  led-append (p ∷ ps) qs code = led-append ps qs (slice_set code p (Jump to))

-- a test, and what stands after it up to the end
shape :
    {A : Type 0} (before first : List A) (test : A) (rest after : List A) →
    before ++ ((first ++ (test ∷ rest)) ++ after) ≡ (before ++ (first ++ test ∷ [])) ++ (rest ++ after)
shape before first test rest after =
    ap (λ c. before ++ c) (append_assoc first (test ∷ rest) after)
    ∙ sym (append_assoc before (first ++ test ∷ []) (rest ++ after)
    ∙ ap (λ c. before ++ c) (append_assoc first (test ∷ []) (rest ++ after)))

-- two pieces, and what stands after them
pieces :
    {A : Type 0} (before first second after : List A) →
    before ++ ((first ++ second) ++ after) ≡ before ++ (first ++ (second ++ after))
pieces before first second after = ap (λ c. before ++ c) (append_assoc first second after)

module _ (scope : Scope) (again to : ℕ) where
  abbrev LedStatement : StatementTree → Type 0
  LedStatement s =
      (before after : List Instruction) (at : ℕ) → at ≡ length before →
      led_to to (statement_breaks s at) (before ++ (statement_code scope s at again 0 ++ after))
      ≡ before ++ (statement_code scope s at again to ++ after)

  abbrev LedBlock : Block → Type 0
  LedBlock b =
      (before after : List Instruction) (at : ℕ) → at ≡ length before →
      led_to to (block_breaks b at) (before ++ (block_code scope b at again 0 ++ after))
      ≡ before ++ (block_code scope b at again to ++ after)

  mutual
    pub led-statement : (s : StatementTree) → LedStatement s
    led-statement (assign w e) before after at here = refl
    led-statement (assign_element w i e) before after at here = refl
    led-statement (service_call c) before after at here = refl
    led-statement (if_then e s) before after at here =
        let code = expression_code scope e at in
        let first = at + expression_size e + 1 in
        let test = JumpIfZero (first + block_size s) in
        let head = before ++ (code ++ test ∷ []) in
        let long : first ≡ length head = omega (
          arith,
          here,
          length-append before
              (code ++ test ∷ []),
          length-append code (test ∷ []),
          length-expression_code scope e at,
        ) in
        ap (led_to to (block_breaks s first)) (shape before code test (block_code scope s first again 0) after)
        ∙ led-block s head after first long
        ∙ sym (shape before code test (block_code scope s first again to) after)
    led-statement (if_else e s r) before after at here =
        let code = expression_code scope e at in
        let first = at + expression_size e + 1 in
        let second = first + block_size s + 1 in
        let test = JumpIfZero second in
        let jump = Jump (second + block_size r) in
        let then_ = block_code scope s first again 0 in
        let then_led = block_code scope s first again to in
        let other = block_code scope r second again 0 in
        let other_led = block_code scope r second again to in
        let head = before ++ (code ++ test ∷ []) in
        let long : first ≡ length head = omega (
          arith,
          here,
          length-append before
              (code ++ test ∷ []),
          length-append code (test ∷ []),
          length-expression_code scope e at,
        ) in
        let head' = head ++ (then_led ++ jump ∷ []) in
        let long' : second ≡ length head' = omega (
          arith,
          long,
          length-append head
              (then_led ++ jump ∷ []),
          length-append then_led (jump ∷ []),
          length-block_code scope s first again to,
        ) in
        led-append to (block_breaks s first) (block_breaks r second) (before
        ++ ((code ++ (test ∷ (then_ ++ (jump ∷ other)))) ++ after))
        ∙ ap (λ c. led_to to (block_breaks r second) (led_to to (block_breaks s first) c))
        (shape before code test (then_ ++ (jump ∷ other)) after ∙ pieces head then_ (jump ∷ other) after)
        ∙ ap (led_to to (block_breaks r second)) (led-block s head ((jump ∷ other) ++ after) first long)
        ∙ ap (led_to to (block_breaks r second)) (sym (pieces head then_led (jump ∷ other) after)
        ∙ shape head then_led jump other after)
        ∙ led-block r head' after second long'
        ∙ sym (shape before code test (then_led ++ (jump ∷ other_led)) after ∙ shape head then_led jump other_led after)
    led-statement (while e s) before after at here = refl
    led-statement break before after at here =
        ap (λ k. slice_set (before ++ (Jump 0 ∷ after)) k (Jump to)) here
        ∙ set-append_seam before (Jump 0) after (Jump to)
    led-statement continue before after at here = refl
    led-statement return before after at here = refl

    pub led-block : (b : Block) → LedBlock b
    led-block empty before after at here = refl
    led-block (next s rest) before after at here =
        let one = statement_code scope s at again 0 in
        let one_led = statement_code scope s at again to in
        let behind = at + statement_size s in
        let more = block_code scope rest behind again 0 in
        let more_led = block_code scope rest behind again to in
        let head = before ++ one_led in
        let long : behind ≡ length head = omega (
          arith,
          here,
          length-append before one_led,
          length-statement_code
              scope s at again to,
        ) in
        led-append to (statement_breaks s at) (block_breaks rest behind) (before ++ ((one ++ more) ++ after))
        ∙ ap (λ c. led_to to (block_breaks rest behind) (led_to to (statement_breaks s at) c))
        (pieces before one more after)
        ∙ ap (led_to to (block_breaks rest behind)) (led-statement s before (more ++ after) at here
        ∙ sym (append_assoc before one_led (more ++ after)))
        ∙ led-block rest head after behind long
        ∙ append_assoc before one_led (more_led ++ after)
        ∙ sym (pieces before one_led more_led after)

-- a whole body, before which nothing stands
pub body-led :
    (scope : Scope) (b : Block) (end : ℕ) (begun made whole : List Instruction) (old noted : List ℕ) → begun ≡ [] →
    old ≡ [] → block_size b ≡ end → made ≡ begun ++ block_code scope b (length begun) end 0 →
    noted ≡ old ++ block_breaks b (length begun) → whole ≡ led_to (length made) noted made →
    whole ≡ block_code scope b 0 end end
body-led scope b end begun made whole old noted first none size did notes leads =
    let made_is : made ≡ block_code scope b 0 end 0 = did ∙ ap (λ is. is ++ block_code scope b (length is) end 0)
    first in
    let noted_is : noted ≡ block_breaks b 0 =
    notes ∙ ap (λ ps. ps ++ block_breaks b (length begun)) none
    ∙ ap (λ (is : List Instruction). block_breaks b (length is)) first in
    let long : length made ≡ end = ap length made_is ∙ length-block_code scope b 0 end 0 ∙ size in
    leads ∙ ap (λ n. led_to n noted made) long ∙ ap (λ ps. led_to end ps made) noted_is
    ∙ ap (led_to end (block_breaks b 0)) (made_is ∙ sym (append-nil (block_code scope b 0 end 0)))
    ∙ led-block scope end end b [] [] 0 refl
    ∙ append-nil (block_code scope b 0 end end)
