-- What the arms of the emitter of statements have put together.
use Rattle.std.proofs.Common.{◌≡◌, ℕ, ◌+◌, List, [], ◌∷◌, ◌++◌, length, ap, sym, ◌∙◌, arith, append_assoc, drop}
use Rattle.std.proofs.Common.{length-append}
use Rattle.std.specs.Prelude.{slice_set}
use Rattle.std.proofs.Math.Seq.{drop-append_seam, set-append_seam}
use Rattle.fmp_tasklang.specs.Trees.{ExpressionTree, Block, if_then, if_else, while}
use Rattle.fmp_tasklang.specs.Scopes.{Scope}
use Rattle.fmp_instructions.specs.declared.instructions.Instruction.{Instruction}
use Rattle.fmp_instructions.specs.declared.instructions.Instruction.TheVariants.{Jump, JumpIfZero}
use Rattle.fmp_scopes.specs.Chains.{test_code}
use Rattle.fmp_scopes.specs.DepthTables.{expression_depths, statement_depths, block_depths}
use Rattle.fmp_scopes.specs.Scheme.{expression_code, statement_code, block_code}
use Rattle.fmp_scopes.specs.Sizes.{expression_size, block_size}
use Rattle.fmp_emission.specs.Breaks.{block_breaks, led_to}
use Rattle.fmp_emission.proofs.BreakLemmas.{led-block}
use Rattle.fmp_emission.proofs.Lengths.{length-expression_code, length-block_code}

-- a test and what stands after it
tested : {A : Type 0} (begun first : List A) (test : A) (rest : List A) → (begun ++ (first ++ test ∷ [])) ++ rest
    ≡ begun ++ (first ++ (test ∷ rest))
tested begun first test rest =
    append_assoc begun (first ++ test ∷ []) rest ∙ ap (λ c. begun ++ c) (append_assoc first (test ∷ []) rest)

-- a second piece after it
piled : {A : Type 0} (begun first second third : List A) → (begun ++ (first ++ second)) ++ third ≡ begun
    ++ (first ++ (second ++ third))
piled begun first second third =
    append_assoc begun (first ++ second) third ∙ ap (λ c. begun ++ c) (append_assoc first second third)

-- what stands after a list of this length becomes another
changed : {A : Type 0} (xs ys : List A) (y a : A) (n : ℕ) → n ≡ length xs → slice_set (xs ++ y ∷ ys) n a ≡ xs ++ a ∷ ys
changed xs ys y a n e = ap (λ k. slice_set (xs ++ y ∷ ys) k a) e ∙ set-append_seam xs y ys a

module _ (scope : Scope) (e : ExpressionTree) (b : Block) (begun made made' : List Instruction) (over again exit : ℕ)
    (did : made ≡ begun ++ test_code scope e (length begun) over) (len : length made ≡ length begun
    + expression_size e + 1)
    (then_did : made' ≡ made ++ block_code scope b (length made) again exit) where
  abbrev inner : List Instruction
  inner = block_code scope b (length begun + expression_size e + 1) again exit

  -- a test and a block
  pub tested-block :
      made' ≡ begun ++ (expression_code scope e (length begun)
      ++ (JumpIfZero (length begun + expression_size e + 1 + over) ∷ inner))
  tested-block =
      then_did ∙ ap (λ n. made ++ block_code scope b n again exit) len ∙ ap (λ c. c ++ inner) did
      ∙ tested begun (expression_code scope e (length begun)) (JumpIfZero
      (length begun + expression_size e + 1 + over)) inner

  -- the test leads elsewhere
  retested :
      (rest : List Instruction) (at to : ℕ) → at + 1 ≡ length made →
      slice_set (begun ++ (expression_code scope e (length begun)
      ++ (JumpIfZero (length begun + expression_size e + 1 + over) ∷ rest))) at (JumpIfZero to)
      ≡ begun ++ (expression_code scope e (length begun) ++ (JumpIfZero to ∷ rest))
  retested rest at to place =
      let code = expression_code scope e (length begun) in
      let test = JumpIfZero (length begun + expression_size e + 1 + over) in
      let here : at ≡ length (begun ++ code) =
      omega (arith, place, len, length-append begun code, length-expression_code scope e (length begun)) in
      ap (λ c. slice_set c at (JumpIfZero to)) (sym (append_assoc begun code (test ∷ rest)))
      ∙ changed (begun ++ code) rest test (JumpIfZero to) at here
      ∙ append_assoc begun code (JumpIfZero to ∷ rest)

  pub if-emitted :
      (whole : List Instruction) (at : ℕ) → at + 1 ≡ length made → length made' ≡ length made + block_size b →
      whole ≡ slice_set made' at (JumpIfZero (length made')) →
      whole ≡ begun ++ statement_code scope (if_then e b) (length begun) again exit
  if-emitted whole at place more ends =
      let there : length made' ≡ length begun + expression_size e + 1 + block_size b = omega (arith, len, more) in
      ends ∙ ap (λ c. slice_set c at (JumpIfZero (length made'))) tested-block
      ∙ retested inner at (length made') place
      ∙ ap (λ t. begun ++ (expression_code scope e (length begun) ++ (JumpIfZero t ∷ inner))) there

  -- a test, a block and a jump
  tested-jump :
      (whole : List Instruction) (to : ℕ) → whole ≡ made' ++ Jump to ∷ [] →
      whole ≡ begun ++ (expression_code scope e (length begun)
      ++ (JumpIfZero (length begun + expression_size e + 1 + over) ∷ (inner ++ Jump to ∷ [])))
  tested-jump whole to jumps =
      jumps ∙ ap (λ c. c ++ Jump to ∷ []) tested-block
      ∙ piled begun (expression_code scope e (length begun)) (JumpIfZero (length begun + expression_size e + 1 + over)
      ∷ inner) (Jump to ∷ [])

  -- the test leads past the jump back, and the jumps of `break`s lead there too
  pub while-emitted :
      exit ≡ 0 → (jumped turned whole : List Instruction) (at outer : ℕ) (old noted : List ℕ) → at + 1 ≡ length made →
      length made' ≡ length made + block_size b → again ≡ length begun → jumped ≡ made' ++ Jump again ∷ [] →
      length jumped ≡ length made' + 1 → turned ≡ slice_set jumped at (JumpIfZero (length jumped)) →
      length turned ≡ length jumped → outer ≡ length old → noted ≡ old ++ block_breaks b (length made) →
      whole ≡ led_to (length turned) (drop outer noted) turned → (again' exit' : ℕ) →
      whole ≡ begun ++ statement_code scope (while e b) (length begun) again' exit'
  while-emitted none jumped turned whole at outer old noted place more back jumps longer turns same before notes ends
      again' exit' =
      let first = length begun + expression_size e + 1 in
      let after = first + block_size b + 1 in
      let code = expression_code scope e (length begun) in
      let here : length jumped ≡ after = omega (arith, len, more, longer) in
      let there : length turned ≡ after = omega (arith, same, here) in
      let inner0 = block_code scope b first again 0 in
      let turned_is : turned ≡ begun ++ (code ++ (JumpIfZero after ∷ (inner0 ++ Jump again ∷ []))) =
      turns ∙ ap (λ c. slice_set c at (JumpIfZero (length jumped))) (tested-jump jumped again jumps)
      ∙ retested (inner ++ Jump again ∷ []) at (length jumped) place
      ∙ ap (λ t. begun ++ (code ++ (JumpIfZero t ∷ (inner ++ Jump again ∷ [])))) here
      ∙ ap (λ x. begun ++ (code ++ (JumpIfZero after ∷ (block_code scope b first again x ++ Jump again ∷ [])))) none in
      let places : drop outer noted ≡ block_breaks b first =
      ap (λ k. drop k noted) before ∙ ap (drop (length old)) notes ∙ drop-append_seam old (block_breaks b (length made))
      ∙ ap (block_breaks b) len in
      let head = begun ++ (code ++ JumpIfZero after ∷ []) in
      let long : first ≡ length head =
      omega (
        arith,
        length-append begun (code ++ JumpIfZero after ∷ []),
        length-append code (JumpIfZero after ∷ []),
        length-expression_code scope e (length begun),
      ) in
      ends ∙ ap (λ n. led_to n (drop outer noted) turned) there ∙ ap (λ ps. led_to after ps turned) places
      ∙ ap (led_to after (block_breaks b first)) (turned_is ∙ sym (tested begun code (JumpIfZero after)
      (inner0 ++ Jump again ∷ [])))
      ∙ led-block scope again after b head (Jump again ∷ []) first long
      ∙ tested begun code (JumpIfZero after) (block_code scope b first again after ++ Jump again ∷ [])
      ∙ ap (λ a. begun ++ (code ++ (JumpIfZero after ∷ (block_code scope b first a after ++ Jump a ∷ [])))) back

  pub else-emitted :
      (r : Block) (before turned last whole : List Instruction) (at jump : ℕ) → at + 1 ≡ length made →
      length made' ≡ length made + block_size b → before ≡ made' ++ Jump 0 ∷ [] → length before ≡ length made' + 1 →
      jump + 1 ≡ length before → turned ≡ slice_set before at (JumpIfZero (length before)) →
      length turned ≡ length before → last ≡ turned ++ block_code scope r (length turned) again exit →
      length last ≡ length turned + block_size r → whole ≡ slice_set last jump (Jump (length last)) →
      whole ≡ begun ++ statement_code scope (if_else e b r) (length begun) again exit
  else-emitted r before turned last whole at jump place more jumps longer behind turns same goes most ends =
      let first = length begun + expression_size e + 1 in
      let second = first + block_size b + 1 in
      let code = expression_code scope e (length begun) in
      let other = block_code scope r second again exit in
      let here : length before ≡ second = omega (arith, len, more, longer) in
      let there : length turned ≡ second = omega (arith, same, here) in
      let end : length last ≡ second + block_size r = omega (arith, most, there) in
      let head = begun ++ (code ++ (JumpIfZero second ∷ inner)) in
      let turned_is : turned ≡ begun ++ (code ++ (JumpIfZero second ∷ (inner ++ Jump 0 ∷ []))) =
      turns ∙ ap (λ c. slice_set c at (JumpIfZero (length before))) (tested-jump before 0 jumps)
      ∙ retested (inner ++ Jump 0 ∷ []) at (length before) place
      ∙ ap (λ t. begun ++ (code ++ (JumpIfZero t ∷ (inner ++ Jump 0 ∷ [])))) here in
      let last_is : last ≡ head ++ Jump 0 ∷ other =
      goes ∙ ap (λ n. turned ++ block_code scope r n again exit) there
      ∙ ap (λ c. c ++ other) turned_is
      ∙ piled begun code (JumpIfZero second ∷ (inner ++ Jump 0 ∷ [])) other
      ∙ ap (λ c. begun ++ (code ++ (JumpIfZero second ∷ c))) (append_assoc inner (Jump 0 ∷ []) other)
      ∙ sym (piled begun code (JumpIfZero second ∷ inner) (Jump 0 ∷ other)) in
      let long : length head ≡ length begun + (expression_size e + (1 + block_size b)) =
      omega (
        arith,
        length-append begun (code ++ (JumpIfZero second ∷ inner)),
        length-append code (JumpIfZero second ∷ inner),
        length-expression_code scope e (length begun),
        length-block_code scope b first again exit,
      ) in
      let at_jump : jump ≡ length head = omega (arith, behind, here, long) in
      ends ∙ ap (λ c. slice_set c jump (Jump (length last))) last_is
      ∙ changed head other (Jump 0) (Jump (length last)) jump at_jump
      ∙ piled begun code (JumpIfZero second ∷ inner) (Jump (length last) ∷ other)
      ∙ ap (λ t. begun ++ (code ++ (JumpIfZero second ∷ (inner ++ (Jump t ∷ other))))) end

-- their depths
module _ (e : ExpressionTree) (b : Block) (begun made made' : List ℕ) (did : made ≡ begun
    ++ (expression_depths e 0 ++ 1 ∷ []))
    (then_did : made' ≡ made ++ block_depths b) where
  pub if-deep : made' ≡ begun ++ statement_depths (if_then e b)
  if-deep =
      then_did ∙ ap (λ c. c ++ block_depths b) did ∙ tested begun (expression_depths e 0) 1 (block_depths b)

  tested-deep : (whole : List ℕ) → whole ≡ made' ++ 0 ∷ [] → whole ≡ begun
      ++ (expression_depths e 0 ++ (1 ∷ (block_depths b ++ 0 ∷ [])))
  tested-deep whole jumps =
      jumps ∙ ap (λ c. c ++ 0 ∷ []) if-deep ∙ piled begun (expression_depths e 0) (1 ∷ block_depths b) (0 ∷ [])

  pub while-deep : (whole : List ℕ) → whole ≡ made' ++ 0 ∷ [] → whole ≡ begun ++ statement_depths (while e b)
  while-deep whole jumps = tested-deep whole jumps

  pub else-deep :
      (r : Block) (before whole : List ℕ) → before ≡ made' ++ 0 ∷ [] → whole ≡ before ++ block_depths r →
      whole ≡ begun ++ statement_depths (if_else e b r)
  else-deep r before whole jumps last =
      last ∙ ap (λ c. c ++ block_depths r) (tested-deep before jumps)
      ∙ piled begun (expression_depths e 0) (1 ∷ (block_depths b ++ 0 ∷ [])) (block_depths r)
      ∙ ap (λ c. begun ++ (expression_depths e 0 ++ (1 ∷ c))) (append_assoc (block_depths b) (0 ∷ []) (block_depths r))

-- the `break`s of two blocks, one after the other
pub both-noted :
    (noted : List ℕ) (b r : Block) (first : ℕ) (more last : List ℕ) (at behind : ℕ) → at ≡ first →
    behind ≡ first + block_size b + 1 → more ≡ noted ++ block_breaks b at → last ≡ more ++ block_breaks r behind →
    last ≡ noted ++ (block_breaks b first ++ block_breaks r (first + block_size b + 1))
both-noted noted b r first more last at behind here there one two =
    two ∙ ap (λ ps. ps ++ block_breaks r behind) (one ∙ ap (λ n. noted ++ block_breaks b n) here)
    ∙ ap (λ n. (noted ++ block_breaks b first) ++ block_breaks r n) there
    ∙ append_assoc noted (block_breaks b first) (block_breaks r (first + block_size b + 1))
