-- Code that is judged as it is read.
use Rattle.std.proofs.Common.{◌≡◌, ℕ, zero, suc, ◌+◌, ◌-◌, ◌*◌, ◌<◌, ◌≤◌, Bool, true, false, ◌&&◌, nat_eq, nat_le, List}
use Rattle.std.proofs.Common.{[], ◌∷◌, ◌++◌, length, drop, take, get_or, Option, Some, None, Result, Ok, Err, refl, sym}
use Rattle.std.proofs.Common.{ap, subst, ◌∙◌, append_assoc, arith}
use Rattle.std.specs.Prelude.{IfOk, IfErr, slice_get}
use Rattle.std.specs.Int.{w32, cast_signed}
use Rattle.std.proofs.lemmas.Bool.{leb-true, le-leb, eqb-true, eq-eqb}
use Rattle.std.proofs.lemmas.List.{ext_get_or, get_or-drop, drop-drop, length-append, length-drop, length-take-le}
use Rattle.std.proofs.lemmas.List.{take_all, take_more}
use Rattle.byteorder.specs.Endian.{little_number}
use Rattle.fmp_instructions.specs.declared.instructions.Instruction.{Instruction}
use Rattle.fmp_instructions.specs.Verify.{AreLow, depth_is, fits, wants}
use Rattle.fmp_image_bytes.specs.declared.fault.ImageFault.{ImageFault}
use Rattle.fmp_image_bytes.specs.declared.fault.ImageFault.TheVariants as fault
use Rattle.fmp_image_bytes.specs.declared.fault.LoadFault.TheVariants as load_fault
use Rattle.fmp_image_bytes.specs.Fields.{◌>>=◌}
use Rattle.fmp_image_bytes.specs.Instructions.{instruction_in}
use Rattle.fmp_image_bytes.specs.Pairs.{pairs_at, pairs_pass}
use Rattle.fmp_image_bytes.specs.Bodies.{AreDepths, greatest, keeps_table, kept_code, named, step_at, tables_of_code}
use Rattle.fmp_image_bytes.proofs.FieldLaws.{ok_is}
use Rattle.fmp_image_bytes.proofs.Names.{and_true}
use Rattle.fmp_image_bytes.proofs.PairLoops.{with_fronts, goes_on, ends, is_done}
use Rattle.fmp_image_bytes.proofs.StepReads.{step_of_six}
use Rattle.fmp_image_bytes.proofs.Verification.{both_true, from_zero}

abbrev Reading : Type 0
Reading = Result ((List Instruction × List ℕ) × List ℕ) ImageFault

-- ---- tests joined

and_no : (a : Bool) → (a && false) ≡ false
and_no true = refl
and_no false = refl

and_assoc : (a b c : Bool) → (a && (b && c)) ≡ ((a && b) && c)
and_assoc true b c = refl
and_assoc false b c = refl

module _ {A B : Type 0} (test : ℕ → A → B → Bool) where
  pass_append : (place : ℕ) (xs xs' : List A) (ys ys' : List B) → length xs ≡ length ys
      → pairs_pass test place (xs ++ xs') (ys ++ ys') ≡ (pairs_pass test place xs ys
      && pairs_pass test (place + length xs) xs' ys')
  pass_append place [] xs' [] ys' e =
      let same : place ≡ place + 0 = omega arith in
      ap (λ k. pairs_pass test k xs' ys') same
  pass_append place [] xs' (y ∷ ys) ys' e = absurd (omega (arith, e))
  pass_append place (x ∷ xs) xs' [] ys' e = absurd (omega (arith, e))
  pass_append place (x ∷ xs) xs' (y ∷ ys) ys' e =
      let same : (place + 1) + length xs ≡ place + suc (length xs) = omega arith in
      let more = pass_append (place + 1) xs xs' ys ys' (omega (arith, e)) in
      ap (λ b. test place x y && b) more
      ∙ and_assoc (test place x y) (pairs_pass test (place + 1) xs ys) (pairs_pass test
      ((place + 1) + length xs) xs' ys')
      ∙ ap (λ k. (test place x y && pairs_pass test (place + 1) xs ys) && pairs_pass test k xs' ys') same

  -- one more pair passes
  pass_more : (xs : List A) (ys : List B) (x : A) (y : B) → length xs ≡ length ys → pairs_pass test 0 xs ys ≡ true
      → test (length xs) x y ≡ true → pairs_pass test 0 (xs ++ x ∷ []) (ys ++ y ∷ []) ≡ true
  pass_more xs ys x y e before here =
      pass_append 0 xs (x ∷ []) ys (y ∷ []) e
      ∙ ap (λ k. pairs_pass test 0 xs ys && pairs_pass test k (x ∷ []) (y ∷ [])) (from_zero (length xs))
      ∙ both_true _ _ before (both_true _ _ here refl)

  -- a pair that does not
  pass_not : (xs xs' : List A) (ys ys' : List B) (x : A) (y : B) → length xs ≡ length ys → test (length xs) x y ≡ false
      → pairs_pass test 0 (xs ++ x ∷ xs') (ys ++ y ∷ ys') ≡ false
  pass_not xs xs' ys ys' x y e here =
      pass_append 0 xs (x ∷ xs') ys (y ∷ ys') e
      ∙ ap (λ k. pairs_pass test 0 xs ys && pairs_pass test k (x ∷ xs') (y ∷ ys')) (from_zero (length xs))
      ∙ ap (λ b. pairs_pass test 0 xs ys && (b && pairs_pass test (length xs + 1) xs' ys')) here
      ∙ and_no (pairs_pass test 0 xs ys)

-- ---- what steps that are all there give

abbrev Steps : ℕ → List ℕ → Reading → Type 0
Steps n bytes (Ok x) = AreDepths n bytes x.0.1
Steps n bytes (Err f) = f ≡ fault.Code

one_more : (i : Instruction) (d n : ℕ) (bytes : List ℕ) (r : Reading) → d ≡ get_or bytes 5 0 → Steps n (drop 6 bytes) r
    → Steps (suc n) bytes (r >>= λ others. Ok ((i ∷ others.0.0, d ∷ others.0.1), others.1))
one_more i d n bytes (Err f) e h = h
one_more i d n bytes (Ok x) e h = (ap suc h.0, at) where
  at : (place : ℕ) → place < suc n → get_or (d ∷ x.0.1) place 0 ≡ get_or bytes (6 * place + 5) 0
  at zero lt = e
  at (suc place) lt =
      let same : 6 + (6 * place + 5) ≡ 6 * suc place + 5 = omega arith in
      h.1 place (omega (arith, lt)) ∙ get_or-drop 6 bytes (6 * place + 5) 0 ∙ ap (λ k. get_or bytes k 0) same

module _ (version : ℕ) where
  module _ (n : ℕ) (bytes : List ℕ) where
    abbrev after_first : Result ((Instruction × ℕ) × List ℕ) ImageFault → Reading
    after_first r = r >>= λ first. pairs_at (step_at version) n first.1 >>= λ others. Ok
        ((first.0.0 ∷ others.0.0, first.0.1 ∷ others.0.1), others.1)

    abbrev first_of : Option Instruction → Result ((Instruction × ℕ) × List ℕ) ImageFault
    first_of o = named o >>= λ i. Ok ((i, get_or bytes 5 0), drop 6 bytes)

    steps_after : (o : Option Instruction) → Steps n (drop 6 bytes) (pairs_at (step_at version) n (drop 6 bytes))
        → Steps (suc n) bytes (after_first (first_of o))
    steps_after None h = refl
    steps_after (Some i) h = one_more i (get_or bytes 5 0) n bytes (pairs_at (step_at version) n (drop 6 bytes)) refl h

  steps_are : (n : ℕ) (bytes : List ℕ) → 6 * n ≤ length bytes → Steps n bytes (pairs_at (step_at version) n bytes)
  unfolding pairs_at
  steps_are zero bytes le = (refl, λ place lt. absurd (omega (arith, lt)))
  steps_are (suc n) bytes le =
      let six : 6 ≤ length bytes = omega (arith, le) in
      let others : 6 * n ≤ length (drop 6 bytes) = omega (arith, le, length-drop 6 bytes) in
      let o = instruction_in version (get_or bytes 0 0) (cast_signed w32 (little_number 4 (drop 1 bytes))) in
      let first : step_at version bytes ≡ first_of n bytes o = step_of_six version bytes six in
      subst (λ (r : Result ((Instruction × ℕ) × List ℕ) ImageFault). Steps (suc n) bytes (after_first n bytes r))
      (sym first) (steps_after n bytes o (steps_are n (drop 6 bytes) others))

  same_depths : (n : ℕ) (bytes ds es : List ℕ) → AreDepths n bytes ds → AreDepths n bytes es → ds ≡ es
  same_depths n bytes ds es g h =
      ext_get_or 0 ds es (g.0 ∙ sym h.0) (λ k lt.
      let inside : k < n = omega (arith, lt, g.0) in
      g.1 k inside ∙ sym (h.1 k inside))

  -- the fault, where no code with these depths that is read keeps to them
  pub refused : (locals n : ℕ) (bytes depths : List ℕ) → 6 * n ≤ length bytes → AreDepths n bytes depths
      → ((code : List Instruction) (rest : List ℕ) → pairs_at (step_at version) n bytes ≡ Ok ((code, depths), rest)
      → keeps_table (tables_of_code locals (code, depths)) ≡ false)
      → kept_code locals (pairs_at (step_at version) n bytes) ≡ Err fault.Code
  refused locals n bytes depths le are never = at_reading (pairs_at (step_at version) n bytes)
      (steps_are n bytes le) never where
        at_reading : (r : Reading) → Steps n bytes r
            → ((code : List Instruction) (rest : List ℕ) → r ≡ Ok ((code, depths), rest)
            → keeps_table (tables_of_code locals (code, depths)) ≡ false)
            → kept_code locals r ≡ Err fault.Code
        at_reading (Err f) h never = ap Err h
        at_reading (Ok x) h never =
            let same : x.0.1 ≡ depths = same_depths n bytes x.0.1 depths h are in
            let read : Ok x ≡ Ok ((x.0.0, depths), x.1) = ap (λ ds. Ok ((x.0.0, ds), x.1)) same in
            let kept : keeps_table (tables_of_code locals x.0) ≡ false =
            ap (λ ds. keeps_table (tables_of_code locals (x.0.0, ds))) same ∙ never x.0.0 x.1 read in
            rw kept refl

-- ---- depths that no code keeps to

pub low_depths : (depths : List ℕ) → greatest depths ≤ 64 → AreLow depths
low_depths [] h place d here = absurd cc
low_depths (x ∷ depths) h zero d here =
    let same : x ≡ d = cc in
    omega (arith, h, same)
low_depths (x ∷ depths) h (suc place) d here = low_depths depths (omega (arith, h)) place d here

passes_low : (test : ℕ → Instruction → ℕ → Bool) (place : ℕ) (code : List Instruction) (depths : List ℕ)
    → length depths ≡ length code
    → pairs_pass (λ k i d. nat_le d 64 && test k i d) place code depths ≡ true → greatest depths ≤ 64
passes_low test place [] [] long e = omega arith
passes_low test place [] (d ∷ depths) long e = absurd (omega (arith, long))
passes_low test place (i ∷ code) [] long e = absurd (omega (arith, long))
passes_low test place (i ∷ code) (d ∷ depths) long e =
    let parts = and_true _ _ e in
    let low : d ≤ 64 = leb-true _ _ (and_true _ _ parts.0).0 in
    let more = passes_low test (place + 1) code depths (omega (arith, long)) parts.1 in
    omega (arith, low, more)

pub too_deep : (locals : ℕ) (code : List Instruction) (depths : List ℕ) → nat_le (greatest depths) 64 ≡ false
    → keeps_table (tables_of_code locals (code, depths)) ≡ false
unfolding keeps_table
too_deep locals code depths deep = at_test (keeps_table (tables_of_code locals (code, depths))) refl where
  at_test : (b : Bool) → keeps_table (tables_of_code locals (code, depths)) ≡ b → b ≡ false
  at_test false e = refl
  at_test true e =
      let parts = and_true _ _ e in
      let long : length depths ≡ length code = eqb-true _ _ (and_true _ _ parts.0).1 in
      let low = passes_low (λ place i d. wants locals depths place d i) 0 code depths long parts.1 in
      sym (le-leb _ _ low) ∙ deep

pub begins_otherwise : (locals : ℕ) (code : List Instruction) (depths : List ℕ) → depth_is (slice_get depths 0) 0
    ≡ false → keeps_table (tables_of_code locals (code, depths)) ≡ false
unfolding keeps_table
begins_otherwise locals code depths other = rw other refl

module _ (version : ℕ) where
  -- ---- the pass

  -- this code and these depths stand before the rest
  abbrev Reads : (bytes depths : List ℕ) (place : ℕ) (rest : List ℕ) → List Instruction → List ℕ → Type 0
  Reads bytes depths place rest code ds =
      with_fronts code ds (pairs_at (step_at version) (length depths - place) rest)
      ≡ pairs_at (step_at version) (length depths) bytes

  abbrev Passes : ℕ → List ℕ → List Instruction → List ℕ → Type 0
  Passes locals depths code ds = pairs_pass (λ place i d. fits locals depths place d i) 0 code ds ≡ true

  -- n instructions are read, and each of them is fit
  pub record SoFar (locals : ℕ) (bytes depths : List ℕ) (place : ℕ) (code : List Instruction) : Type 0 where
    pub reading : Reads bytes depths place (drop (6 * place) bytes) code (take place depths)
    pub kept : Passes locals depths code (take place depths)
    pub count : length code ≡ place

  module _ (locals : ℕ) (bytes depths : List ℕ) where
    pub begins : SoFar locals bytes depths 0 []
    begins = record {
      reading =
          let same : length depths - 0 ≡ length depths = omega arith in
          ap (λ n. with_fronts [] [] (pairs_at (step_at version) n bytes)) same
          ∙ all (pairs_at (step_at version) (length depths) bytes);
      kept = refl;
      count = refl;
    } where
      all : (r : Reading) → with_fronts [] [] r ≡ r
      all (Ok x) = refl
      all (Err f) = refl

    module _ (place : ℕ) (code code' : List Instruction) (t : Bool) (lt : place < length depths) where
      taken : length (take place depths) ≡ place
      taken = length-take-le place depths (omega (arith, lt))

      -- the step is read
      read_on : (i : Instruction) (d : ℕ) (after : List ℕ) → step_at version (drop (6 * place) bytes)
          ≡ Ok ((i, d), after)
          → SoFar locals bytes depths place code
          → Reads bytes depths (place + 1) after (code ++ i ∷ []) (take place depths ++ d ∷ [])
      read_on i d after read so_far =
          goes_on (step_at version) code (take place depths) (length depths) place (drop (6 * place) bytes)
          (pairs_at (step_at version) (length depths) bytes) i d after lt read so_far.reading

      pub goes : (r : Result ((Instruction × ℕ) × List ℕ) ImageFault) → step_at version (drop (6 * place) bytes) ≡ r
          → t ≡ true
          → IfOk r (λ x. (t ≡ fits locals depths place x.0.1 x.0.0) × (x.0.1 ≡ get_or depths place 0)
          × (x.1 ≡ drop 6 (drop (6 * place) bytes)) × (code' ≡ code ++ x.0.0 ∷ []))
          → IfErr r (λ f. (t ≡ false) × (f ≡ fault.Code))
          → SoFar locals bytes depths place code → SoFar locals bytes depths (place + 1) code'
      goes (Err f) read accepted pushed declined so_far = absurd cc
      goes (Ok x) read accepted pushed declined so_far =
          let i = x.0.0 in
          let d = x.0.1 in
          let depth : take place depths ++ d ∷ [] ≡ take (place + 1) depths =
          ap (λ k. take place depths ++ k ∷ []) pushed.1 ∙ sym (take_more depths place 0 lt) in
          let after : x.1 ≡ drop (6 * (place + 1)) bytes =
          let same : 6 * place + 6 ≡ 6 * (place + 1) = omega arith in
          pushed.2 ∙ drop-drop 6 (6 * place) bytes ∙ ap (λ k. drop k bytes) same in
          let lengths : length code ≡ length (take place depths) = so_far.count ∙ sym taken in
          let fit : fits locals depths (length code) d i ≡ true =
          ap (λ k. fits locals depths k d i) so_far.count ∙ sym pushed.0 ∙ accepted in
          let passes = pass_more (λ place i d. fits locals depths place d i) code
          (take place depths) i d lengths so_far.kept fit in
          record {
            reading =
                subst (λ (c : List Instruction). Reads bytes depths (place + 1) (drop (6 * (place + 1)) bytes) c
                (take (place + 1) depths)) (sym pushed.3)
                (subst (λ (ds : List ℕ). Reads bytes depths (place + 1) (drop (6 * (place + 1)) bytes)
                (code ++ i ∷ []) ds) depth
                (subst (λ (rest : List ℕ). Reads bytes depths (place + 1) rest (code ++ i ∷ [])
                (take place depths ++ d ∷ [])) after
                (read_on i d x.1 read so_far)));
            kept =
                subst (λ (c : List Instruction). Passes locals depths c (take (place + 1) depths)) (sym pushed.3)
                (subst (λ (ds : List ℕ). Passes locals depths (code ++ i ∷ []) ds) depth passes);
            count = ap length pushed.3 ∙ length-append code (i ∷ []) ∙ ap (λ k. k + 1) so_far.count;
          }

      -- an instruction that is not fit stands in all code that is read
      unfit : (i : Instruction) (d : ℕ) (more : Reading) (all : List Instruction) (rest : List ℕ)
          → fits locals depths place d i ≡ false → length code ≡ place
          → with_fronts (code ++ i ∷ []) (take place depths ++ d ∷ []) more ≡ Ok ((all, depths), rest)
          → keeps_table (tables_of_code locals (all, depths)) ≡ false
      unfolding keeps_table
      unfit i d (Err f) all rest fails count e = absurd cc
      unfit i d (Ok y) all rest fails count e =
          let same = ok_is (((code ++ i ∷ []) ++ y.0.0, (take place depths ++ d ∷ []) ++ y.0.1), y.1)
          ((all, depths), rest) e in
          let code_is : (code ++ i ∷ []) ++ y.0.0 ≡ all = ap (λ x. x.0.0) same in
          let depths_are : (take place depths ++ d ∷ []) ++ y.0.1 ≡ depths = ap (λ x. x.0.1) same in
          let code_parts : code ++ (i ∷ y.0.0) ≡ all = sym (append_assoc code (i ∷ []) y.0.0) ∙ code_is in
          let depth_parts : take place depths ++ (d ∷ y.0.1) ≡ depths = sym
          (append_assoc (take place depths) (d ∷ []) y.0.1) ∙ depths_are in
          let here : fits locals depths (length code) d i ≡ false = ap (λ k. fits locals depths k d i) count ∙ fails in
          let passes : pairs_pass (λ place i d. fits locals depths place d i) 0 all depths ≡ false =
          sym (ap (λ c. pairs_pass (λ place i d. fits locals depths place d i) 0 c depths) code_parts)
          ∙ sym (ap (λ ds. pairs_pass (λ place i d. fits locals depths place d i) 0 (code ++ (i ∷ y.0.0)) ds)
          depth_parts)
          ∙ pass_not (λ place i d. fits locals depths place d i) code y.0.0 (take place depths) y.0.1 i d
          (count ∙ sym taken) here in
          rw passes (and_no _)

      pub stops : (r : Result ((Instruction × ℕ) × List ℕ) ImageFault) → step_at version (drop (6 * place) bytes) ≡ r
          → t ≡ false
          → IfOk r (λ x. (t ≡ fits locals depths place x.0.1 x.0.0) × (x.0.1 ≡ get_or depths place 0)
          × (x.1 ≡ drop 6 (drop (6 * place) bytes)) × (code' ≡ code ++ x.0.0 ∷ []))
          → IfErr r (λ f. (t ≡ false) × (f ≡ fault.Code))
          → 6 * length depths ≤ length bytes → AreDepths (length depths) bytes depths
          → SoFar locals bytes depths place code
          → kept_code locals (pairs_at (step_at version) (length depths) bytes) ≡ Err fault.Code
      stops (Err f) read declined pushed nothing le are so_far =
          let end = ends (step_at version) code (take place depths) (length depths) place (drop (6 * place) bytes)
          (pairs_at (step_at version) (length depths) bytes) (load_fault.Image f) lt read so_far.reading in
          rw end (ap Err nothing.1)
      stops (Ok x) read declined pushed nothing le are so_far =
          refused version locals (length depths) bytes depths le are (λ all rest whole.
          unfit x.0.0 x.0.1 (pairs_at (step_at version) (length depths - (place + 1)) x.1) all rest
          (sym pushed.0 ∙ declined) so_far.count
          (read_on x.0.0 x.0.1 x.1 read so_far ∙ whole))

    pub done : (place : ℕ) (code : List Instruction) → place ≡ length depths → length depths < 65536
        → slice_get depths 0 ≡ Some 0
        → SoFar locals bytes depths place code
        → kept_code locals (pairs_at (step_at version) (length depths) bytes)
        ≡ Ok ((code, depths), drop (6 * length depths) bytes)
    unfolding keeps_table
    done place code end size first so_far =
        let whole : take place depths ≡ depths = take_all place depths (omega (arith, end)) in
        let read : pairs_at (step_at version) (length depths) bytes
        ≡ Ok ((code, take place depths), drop (6 * place) bytes) =
        is_done (step_at version) code (take place depths) (length depths) place (drop (6 * place) bytes)
        (pairs_at (step_at version) (length depths) bytes) (omega (arith, end)) so_far.reading in
        let passes : Passes locals depths code depths =
        subst (λ (ds : List ℕ). Passes locals depths code ds) whole so_far.kept in
        let starts : depth_is (slice_get depths 0) 0 ≡ true = rw first refl in
        let small : nat_le (length code) 65535 ≡ true = le-leb _ _ (omega (arith, size, end, so_far.count)) in
        let long : nat_eq (length depths) (length code) ≡ true = eq-eqb _ _ (sym end ∙ sym so_far.count) in
        let keeps : keeps_table (tables_of_code locals (code, depths)) ≡ true =
        both_true _ _ (both_true _ _ (both_true _ _ starts small) long) passes in
        let here : pairs_at (step_at version) (length depths) bytes
        ≡ Ok ((code, depths), drop (6 * length depths) bytes) =
        read ∙ ap (λ ds. Ok ((code, ds), drop (6 * place) bytes)) whole
        ∙ ap (λ k. Ok ((code, depths), drop (6 * k) bytes)) end in
        rw (here, keeps) refl
