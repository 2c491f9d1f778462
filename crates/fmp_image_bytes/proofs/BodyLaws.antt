-- A body that is read is the body that is spelled.
use Rattle.std.proofs.Common.{◌≡◌, ℕ, ℤ, pos, zero, suc, ◌+◌, ◌-◌, ◌*◌, ◌^◌, ◌<◌, ◌≤◌, max, lit<, Bool, true, false}
use Rattle.std.proofs.Common.{cond, ltb, nat_le, List, [], ◌∷◌, ◌++◌, length, Option, Some, None, Result, Ok, Err}
use Rattle.std.proofs.Common.{FitsSigned, refl, sym, ap, subst, ◌∙◌, append_assoc, arith}
use Rattle.std.specs.Prelude.{IfSome, slice_get, ◌==◌}
use Rattle.std.specs.Int.{w32}
use Rattle.std.specs.List.{AllByRecursion}
use Rattle.std.proofs.lemmas.Bool.{leb-true, le-leb, ltb-true, le-ltb, eqb-true, eq-eqb}
use Rattle.std.proofs.lemmas.Int.{fits_signed_from_abs}
use Rattle.std.proofs.lemmas.List.{length-append}
use Rattle.fmp_base.specs.declared.operators.UnaryOperator.{UnaryOperator}
use Rattle.fmp_base.specs.declared.operators.UnaryOperator.TheVariants as unary
use Rattle.fmp_instructions.specs.declared.instructions.Instruction.{Instruction}
use Rattle.fmp_instructions.specs.declared.instructions.Instruction.TheVariants.{Push, Load, Store, LoadIndexed}
use Rattle.fmp_instructions.specs.declared.instructions.Instruction.TheVariants.{StoreIndexed, Unary, Truth, Binary}
use Rattle.fmp_instructions.specs.declared.instructions.Instruction.TheVariants.{Jump, JumpIfZero, Call, End}
use Rattle.fmp_instructions.specs.Instructions.{BodyTables}
use Rattle.fmp_instructions.specs.Verify.{array_fits, entry_is, local_fits, wants, fits, VerifiedBody, Verified}
use Rattle.fmp_image_bytes.specs.declared.fault.ImageFault.{ImageFault}
use Rattle.fmp_image_bytes.specs.declared.fault.ImageFault.TheVariants as fault
use Rattle.fmp_image_bytes.specs.declared.heads.BodyKind.{BodyKind}
use Rattle.fmp_image_bytes.specs.declared.heads.BodyKind.TheVariants as kind
use Rattle.fmp_image_bytes.specs.declared.heads.BodyHead.{BodyHead}
use Rattle.fmp_image_bytes.specs.Fields.{Field, ◌>>=◌, byte_at}
use Rattle.fmp_image_bytes.specs.Instructions.{opcode_of, argument_of, array_number, instruction_of, instruction_in}
use Rattle.fmp_image_bytes.specs.Instructions.{unary_number, binary_number, call_number, HasRoom, HasWord}
use Rattle.fmp_image_bytes.specs.Pairs.{pairs_at, pairs_spelled, pairs_pass, AllPairs}
use Rattle.fmp_image_bytes.specs.Bodies.{kind_number, kind_of, greatest, step, step_spelled, named, step_at, code_at}
use Rattle.fmp_image_bytes.specs.Bodies.{keeps_table, body_head, body_numbers, head_of, tables_of_code, judged, body_at}
use Rattle.fmp_image_bytes.specs.Bodies.{body_spelled, IsBody, bodies}
use Rattle.fmp_image_bytes.specs.Versions.{has, of_version}
use Rattle.fmp_image_bytes.proofs.FieldLaws.{IsBytes, Exact, bind_ok, passed, ok_is, byte_exact, short_exact}
use Rattle.fmp_image_bytes.proofs.FieldLaws.{word_exact, both_exact, rest_is_bytes}
use Rattle.fmp_image_bytes.proofs.InstructionLaws.{instruction_named, instruction_again, binary_small, call_small}
use Rattle.fmp_image_bytes.proofs.Names.{and_true}
use Rattle.fmp_image_bytes.proofs.PairLaws.{pairs_take, pairs_again}
use Rattle.fmp_image_bytes.proofs.Verification.{both_true, table_kept, table_keeps}

-- ---- instructions

step_layout : Exact step
step_layout = both_exact _ _ byte_exact (both_exact _ _ word_exact byte_exact)

-- an instruction that has room, and that a version has
abbrev Stands : ℕ → Instruction → Type 0
Stands version i = HasRoom i × (has version i ≡ true)

-- an instruction with the depth before it
abbrev pub step_field : (version : ℕ) → Field (Instruction × ℕ)
step_field version = record {
  fits = λ x. Stands version x.0 × (x.1 < 256);
  spell = λ x. step_spelled x.0 x.1;
  read = step_at version;
}

-- an instruction that a version has
version_is : (version : ℕ) (o : Option Instruction) (i : Instruction) → of_version version o ≡ Some i → (o ≡ Some i)
    × (has version i ≡ true)
version_is version None i e = absurd cc
version_is version (Some j) i e = at_test (has version j) refl e where
  at_test : (b : Bool) → has version j ≡ b → cond b (Some j) None ≡ Some i → (Some j ≡ Some i) × (has version i ≡ true)
  at_test true h k = let same : j ≡ i = cc in (k, subst (λ x. has version x ≡ true) same h)
  at_test false h k = absurd cc

named_is : (o : Option Instruction) (i : Instruction) → named o ≡ Ok i → o ≡ Some i
named_is None i e = absurd cc
named_is (Some j) i e = ap Some cc

opcode_small : (i : Instruction) → opcode_of i < 256
opcode_small (Push k) = lit< tt
opcode_small (Load v) = lit< tt
opcode_small (Store v) = lit< tt
opcode_small (Unary op) = lit< tt
opcode_small Truth = lit< tt
opcode_small (Binary op) = lit< tt
opcode_small (Jump a) = lit< tt
opcode_small (JumpIfZero a) = lit< tt
opcode_small (Call s out receiver) = lit< tt
opcode_small End = lit< tt
opcode_small (LoadIndexed base places) = lit< tt
opcode_small (StoreIndexed base places) = lit< tt

array_small : (base places : ℕ) → base < 256 → places < 256 → array_number base places < 2 ^ 31
array_small base places lb lp = omega arith

word_fits : (i : Instruction) → HasRoom i → FitsSigned w32 (argument_of i)
word_fits (Push k) h = h
word_fits (Load v) h = fits_signed_from_abs w32 (pos v) (omega arith)
word_fits (Store v) h = fits_signed_from_abs w32 (pos v) (omega arith)
word_fits (Unary op) h = fits_signed_from_abs w32 (pos (unary_number op)) (unary_small op) where
  unary_small : (op : UnaryOperator) → unary_number op < 2 ^ 31
  unary_small unary.Negate = lit< tt
  unary_small unary.Not = lit< tt
  unary_small unary.Complement = lit< tt
word_fits Truth h = fits_signed_from_abs w32 (pos 3) (lit< tt)
word_fits (Binary op) h = fits_signed_from_abs w32 (pos (binary_number op)) (binary_small op)
word_fits (Jump a) h = fits_signed_from_abs w32 (pos a) (omega arith)
word_fits (JumpIfZero a) h = fits_signed_from_abs w32 (pos a) (omega arith)
word_fits (Call s out receiver) h = fits_signed_from_abs w32 (pos (call_number s out receiver))
    (call_small s out receiver h.0 h.1)
word_fits End h = fits_signed_from_abs w32 (pos 0) (lit< tt)
word_fits (LoadIndexed base places) h = fits_signed_from_abs w32 (pos (array_number base places))
    (array_small base places h.0 h.1)
word_fits (StoreIndexed base places) h = fits_signed_from_abs w32 (pos (array_number base places))
    (array_small base places h.0 h.1)

step_takes : (version : ℕ) (bytes : List ℕ) (a : Instruction × ℕ) (rest : List ℕ) → IsBytes bytes
    → step_at version bytes ≡ Ok (a, rest) → (Stands version a.0 × (a.1 < 256)) × (bytes ≡ step_spelled a.0 a.1 ++ rest)
unfolding step_at
step_takes version bytes a rest h e =
    let f = bind_ok (step.read bytes) (λ fields. named (instruction_in version fields.0.0 fields.0.1.0) >>= λ i. Ok
    ((i, fields.0.1.1), fields.1)) (a, rest) e in
    let n = bind_ok (named (instruction_in version f.0.0.0 f.0.0.1.0)) (λ i. Ok ((i, f.0.0.1.1), f.0.1))
    (a, rest) f.2 in
    let d = f.0.0.1.1 in
    let t = step_layout.takes bytes f.0.0 f.0.1 h f.1 in
    let found = version_is version (instruction_of f.0.0.0 f.0.0.1.0) n.0 (named_is _ n.0 n.1) in
    let i = instruction_named f.0.0.0 f.0.0.1.0 n.0 t.0.1.0 found.0 in
    let made : (Instruction × ℕ) × List ℕ = ((n.0, d), f.0.1) in
    let whole : bytes ≡ step_spelled n.0 d ++ f.0.1 =
    subst (λ (z : ℤ). bytes ≡ step.spell (opcode_of n.0, (z, d)) ++ f.0.1) i.1
    (subst (λ (o : ℕ). bytes ≡ step.spell (o, (f.0.0.1.0, d)) ++ f.0.1) i.0 t.1) in
    subst (λ (y : (Instruction × ℕ) × List ℕ). (Stands version y.0.0 × (y.0.1 < 256))
    × (bytes ≡ step_spelled y.0.0 y.0.1 ++ y.1)) (ok_is made (a, rest) n.2) (((i.2, found.1), t.0.1.1), whole)

step_again : (version : ℕ) (a : Instruction × ℕ) (rest : List ℕ) → Stands version a.0 × (a.1 < 256)
    → step_at version (step_spelled a.0 a.1 ++ rest) ≡ Ok (a, rest)
unfolding step_at
step_again version a rest fits =
    rw (
      step_layout.again (opcode_of a.0, (argument_of a.0, a.1)) rest (
        opcode_small a.0,
        (word_fits a.0 fits.0.0, fits.1),
      ),
      instruction_again a.0 fits.0.0,
      fits.0.1,
    ) refl

pub step_exact : (version : ℕ) → Exact (step_field version)
step_exact version = record { takes = step_takes version; again = step_again version }

-- ---- code that keeps to its depth table has room in its fields

entry_there : (depths : List ℕ) (a d : ℕ) → entry_is depths a d ≡ true → a < length depths
entry_there [] a d e = absurd cc
entry_there (x ∷ depths) zero d e = omega arith
entry_there (x ∷ depths) (suc a) d e = let below = entry_there depths a d e in omega arith

local_room : (locals : ℕ) (o : Option ℕ) → locals ≤ 64 → local_fits locals o ≡ true → IfSome o (λ v. v < 255)
local_room locals None le e = tt
local_room locals (Some v) le e = let lt : v < locals = ltb-true _ _ e in omega arith

array_room : (base places locals : ℕ) → locals ≤ 64 → array_fits locals base places ≡ true → (base < 256)
    × (places < 256)
array_room base places locals le e =
    let within : base + places ≤ locals = leb-true _ _ (and_true _ _ e).1 in
    (omega (arith, le, within), omega (arith, le, within))

room_of : (locals : ℕ) (depths : List ℕ) (place d : ℕ) (i : Instruction) → locals ≤ 64 → length depths ≤ 65535
    → HasWord i → wants locals depths place d i ≡ true → HasRoom i
room_of locals depths place d (Push k) le size fits_word e = fits_word
room_of locals depths place d (Load v) le size fits_word e = let lt : v < locals = ltb-true _ _
    (and_true _ _ e).0 in omega arith
room_of locals depths place d (Store v) le size fits_word e = let lt : v < locals = ltb-true _ _
    (and_true _ _ (and_true _ _ e).0).0 in omega arith
room_of locals depths place d (LoadIndexed base places) le size fits_word e =
    array_room base places locals le (and_true _ _ (and_true _ _ e).0).0
room_of locals depths place d (StoreIndexed base places) le size fits_word e =
    array_room base places locals le (and_true _ _ (and_true _ _ e).0).0
room_of locals depths place d (Unary op) le size fits_word e = tt
room_of locals depths place d Truth le size fits_word e = tt
room_of locals depths place d (Binary op) le size fits_word e = tt
room_of locals depths place d (Jump a) le size fits_word e = let lt : a < length depths = entry_there depths a d e in
    omega arith
room_of locals depths place d (JumpIfZero a) le size fits_word e = let lt : a < length depths = entry_there depths a
    (d - 1) (and_true _ _ (and_true _ _ e).0).1 in omega arith
room_of locals depths place d (Call s out receiver) le size fits_word e =
    let places = and_true _ _ (and_true _ _ (and_true _ _ e).0).1 in
    (local_room locals out le (and_true _ _ places.0).1, local_room locals receiver le places.1)
room_of locals depths place d End le size fits_word e = tt

-- the instructions have room, and no depth is above 64
rooms : (version locals : ℕ) (depths : List ℕ) (place : ℕ) (is : List Instruction) (ds : List ℕ)
    → AllByRecursion (λ i. has version i ≡ true) is → locals ≤ 64 → length depths ≤ 65535 → length ds ≡ length is
    → AllByRecursion HasWord is
    → pairs_pass (λ place i d. fits locals depths place d i) place is ds ≡ true
    → AllPairs (λ i d. Stands version i × (d < 256)) is ds × (greatest ds ≤ 64)
rooms version locals depths place [] [] there le size len words e = (tt, omega arith)
rooms version locals depths place [] (d ∷ ds) there le size len words e = absurd (omega arith)
rooms version locals depths place (i ∷ is) [] there le size len words e = absurd cc
rooms version locals depths place (i ∷ is) (d ∷ ds) there le size len words e =
    let parts = and_true _ _ e in
    let first = and_true _ _ parts.0 in
    let low : d ≤ 64 = leb-true _ _ first.0 in
    let more = rooms version locals depths (place + 1) is ds there.1 le size (omega arith) words.1 parts.1 in (
      ((((room_of locals depths place d i le size words.0 first.1), there.0), (omega arith)), more.0),
      max_le d
          (greatest ds) low more.1,
    ) where
      max_le : (a b : ℕ) → a ≤ 64 → b ≤ 64 → max a b ≤ 64
      max_le a b p q = omega arith

word_of : (i : Instruction) → HasRoom i → HasWord i
word_of (Push k) h = h
word_of (Load v) h = tt
word_of (Store v) h = tt
word_of (Unary op) h = tt
word_of Truth h = tt
word_of (Binary op) h = tt
word_of (Jump a) h = tt
word_of (JumpIfZero a) h = tt
word_of (Call s out receiver) h = tt
word_of End h = tt
word_of (LoadIndexed base places) h = tt
word_of (StoreIndexed base places) h = tt

module _ (version : ℕ) where
  words_of : (is : List Instruction) (ds : List ℕ) → AllPairs (λ i d. Stands version i × (d < 256)) is ds
      → AllByRecursion HasWord is
  words_of [] [] h = tt
  words_of [] (d ∷ ds) h = absurd h
  words_of (i ∷ is) [] h = absurd h
  words_of (i ∷ is) (d ∷ ds) h = (word_of i h.0.0.0, words_of is ds h.1)

  versions_of : (is : List Instruction) (ds : List ℕ) → AllPairs (λ i d. Stands version i × (d < 256)) is ds
      → AllByRecursion (λ i. has version i ≡ true) is
  versions_of [] [] h = tt
  versions_of [] (d ∷ ds) h = absurd h
  versions_of (i ∷ is) [] h = absurd h
  versions_of (i ∷ is) (d ∷ ds) h = (h.0.0.1, versions_of is ds h.1)

six_each : (is : List Instruction) (ds : List ℕ) → length ds ≡ length is → length (pairs_spelled step_spelled is ds)
    ≡ 6 * length is
six_each [] ds e = refl
six_each (i ∷ is) [] e = absurd (omega arith)
six_each (i ∷ is) (d ∷ ds) e =
    let more = six_each is ds (omega arith) in
    let one : length (step_spelled i d) ≡ 6 = refl in
    omega (arith, length-append (step_spelled i d) (pairs_spelled step_spelled is ds))

-- ---- bodies

no_fault : {A : Type 0} (b : Bool) (d : ImageFault) (r : Result A ImageFault) (y : A) → cond b (Err d) r ≡ Ok y
    → (b ≡ false) × (r ≡ Ok y)
no_fault true d r y e = absurd cc
no_fault false d r y e = (refl, e)

went_on : {A : Type 0} (b : Bool) (d : ImageFault) (r : Result A ImageFault) (y : A) → cond b r (Err d) ≡ Ok y
    → (b ≡ true) × (r ≡ Ok y)
went_on true d r y e = (refl, e)
went_on false d r y e = absurd cc

head_layout : Exact body_head
head_layout = both_exact _ _ byte_exact (both_exact _ _ byte_exact (both_exact _ _ byte_exact short_exact))

abbrev pub body_field : (version : ℕ) → Field (BodyHead × BodyTables)
body_field version = record {
  fits = λ x. IsBody version x.0 x.1;
  spell = λ x. body_spelled x.0 x.1;
  read = body_at version;
}

kind_back : (n : ℕ) → nat_le n 1 ≡ true → kind_number (kind_of (n == 1)) ≡ n
kind_back n h = two n (leb-true _ _ h) where
  two : (m : ℕ) → m ≤ 1 → kind_number (kind_of (m == 1)) ≡ m
  two zero p = refl
  two (suc zero) p = refl
  two (suc (suc m)) p = absurd (omega arith)

head_back : (h : BodyHead) → head_of (kind_number h.kind) h.depth ≡ h
head_back h = at_kind h.kind h.depth where
  at_kind : (k : BodyKind) (d : ℕ) → head_of (kind_number k) d ≡ record { kind = k; depth = d }
  at_kind kind.Task d = refl
  at_kind kind.Handler d = refl

kind_small : (k : BodyKind) → nat_le (kind_number k) 1 ≡ true
kind_small kind.Task = refl
kind_small kind.Handler = refl

passes_of : (b : BodyTables) → keeps_table b ≡ true → pairs_pass (λ place i d. fits b.locals b.depths place d i) 0
    b.instructions b.depths ≡ true
unfolding keeps_table
passes_of b h = (and_true _ _ h).1

body_takes : (version : ℕ) (bytes : List ℕ) (x : BodyHead × BodyTables) (rest : List ℕ) → IsBytes bytes
    → body_at version bytes ≡ Ok (x, rest) → IsBody version x.0 x.1 × (bytes ≡ body_spelled x.0 x.1 ++ rest)
unfolding body_at
body_takes version bytes x rest h e =
    let a = bind_ok (body_head.read bytes) (λ head. code_at version head.0.1.1.1 head.1 >>= λ code. judged head.0.0
    head.0.1.0 head.0.1.1.0 code.0 code.1) (x, rest) e in
    let kind = a.0.0.0 in
    let locals = a.0.0.1.0 in
    let depth = a.0.0.1.1.0 in
    let size = a.0.0.1.1.1 in
    let c = bind_ok (code_at version size a.0.1) (λ code. judged kind locals depth code.0 code.1) (x, rest) a.2 in
    let b = tables_of_code locals c.0.0 in
    let long = no_fault (ltb (length a.0.1) (6 * size)) fault.Short (pairs_at (step_at version) size a.0.1) c.0 c.1 in
    let made : (BodyHead × BodyTables) × List ℕ = ((head_of kind depth, b), c.0.1) in
    let kept = went_on (keeps_table b) fault.Code (cond (body_numbers kind locals depth c.0.0.1) (Ok made)
    (Err fault.Table)) (x, rest) c.2 in
    let fine = passed (body_numbers kind locals depth c.0.0.1) fault.Table made (x, rest) kept.1 in
    let numbers = and_true _ _ fine.0 in
    let low = and_true _ _ numbers.0 in
    let range = and_true _ _ low.1 in
    let t = head_layout.takes bytes a.0.0 a.0.1 h a.1 in
    let p = pairs_take (step_field version) (step_exact version) size a.0.1 c.0
    (rest_is_bytes bytes (body_head.spell a.0.0) a.0.1 t.1 h) long.1 in
    let table = table_kept b kept.0 in
    let body : IsBody version (head_of kind depth) b = record {
      verified = record { locals = leb-true _ _ range.1; table = table };
      locals = leb-true _ _ range.0;
      depth = eqb-true _ _ numbers.1;
      words = words_of version c.0.0.0 c.0.0.1 p.each;
      known = versions_of version c.0.0.0 c.0.0.1 p.each;
    } in
    let steps = pairs_spelled step_spelled c.0.0.0 c.0.0.1 in
    let size-is : size ≡ length c.0.0.0 = sym p.count ∙ table.long in
    let both : bytes ≡ (body_head.spell (kind, (locals, (depth, size))) ++ steps) ++ c.0.1 =
    t.1 ∙ ap (λ r. body_head.spell (kind, (locals, (depth, size))) ++ r) p.parts ∙ sym
    (append_assoc (body_head.spell (kind, (locals, (depth, size)))) steps c.0.1) in
    let whole : bytes ≡ body_spelled (head_of kind depth) b ++ c.0.1 =
    subst (λ (k : ℕ). bytes ≡ (body_head.spell (k, (locals, (depth, length c.0.0.0))) ++ steps) ++ c.0.1)
    (sym (kind_back kind low.0))
    (subst (λ (n : ℕ). bytes ≡ (body_head.spell (kind, (locals, (depth, n))) ++ steps) ++ c.0.1) size-is both) in
    subst (λ (y : (BodyHead × BodyTables) × List ℕ). IsBody version y.0.0 y.0.1
    × (bytes ≡ body_spelled y.0.0 y.0.1 ++ y.1)) fine.1 (body, whole)

body_again : (version : ℕ) (x : BodyHead × BodyTables) (rest : List ℕ) → IsBody version x.0 x.1
    → body_at version (body_spelled x.0 x.1 ++ rest) ≡ Ok (x, rest)
unfolding body_at
body_again version x rest body =
    let h = x.0 in
    let b = x.1 in
    let table = body.verified.table in
    let kept = table_keeps b table in
    let room = rooms version b.locals b.depths 0 b.instructions b.depths body.known body.verified.locals
    (omega (arith, table.size, table.long)) table.long body.words (passes_of b kept) in
    let steps = pairs_spelled step_spelled b.instructions b.depths in
    let head : ℕ × (ℕ × (ℕ × ℕ)) = (kind_number h.kind, (b.locals, (h.depth, length b.instructions))) in
    let kind-le : kind_number h.kind ≤ 1 = leb-true _ _ (kind_small h.kind) in
    let depth-lt : h.depth < 256 = omega (arith, body.depth, room.1) in
    let size-lt : length b.instructions < 2 ^ 16 = omega (arith, table.size) in
    let head_read = head_layout.again head (steps ++ rest) (
      (omega arith),
      ((omega (arith, body.verified.locals)), (depth-lt, size-lt)),
    ) in
    let regrouped : body_spelled h b ++ rest ≡ body_head.spell head
    ++ (steps ++ rest) = append_assoc (body_head.spell head) steps rest in
    let long : ltb (length (steps ++ rest)) (6 * length b.instructions)
    ≡ false = le-ltb _ _ (omega (arith, length-append steps rest, six_each b.instructions b.depths table.long)) in
    let code_read : pairs_at (step_at version) (length b.instructions) (steps ++ rest)
    ≡ Ok ((b.instructions, b.depths), rest) =
    subst (λ (n : ℕ). pairs_at (step_at version) n (steps ++ rest) ≡ Ok ((b.instructions, b.depths), rest)) table.long
    (pairs_again (step_field version) (step_exact version) b.instructions b.depths rest room.0) in
    let numbers : body_numbers (kind_number h.kind) b.locals h.depth b.depths ≡ true =
    both_true _ _ (both_true _ _ (kind_small h.kind) (both_true _ _ (le-leb _ _ body.locals)
    (le-leb _ _ body.verified.locals))) (eq-eqb _ _ body.depth) in
    ap (body_at version) regrouped ∙ rw (head_read, long, code_read, kept, numbers, head_back h) refl

body_exact : (version : ℕ) → Exact (body_field version)
body_exact version = record { takes = body_takes version; again = body_again version }

pub bodies_exact : (version : ℕ) → Exact (bodies version)
bodies_exact version = record {
  takes = λ bytes x rest h e.
      let n = bind_ok (byte_at bytes) (λ n. pairs_at (body_at version) n.0 n.1) (x, rest) e in
      let one = byte_exact.takes bytes n.0.0 n.0.1 h n.1 in
      let p = pairs_take (body_field version) (body_exact version) n.0.0 n.0.1 (x, rest)
      (rest_is_bytes bytes (n.0.0 ∷ []) n.0.1 one.1 h) n.2 in
      ((rw p.count one.0, p.each), rw p.count (one.1 ∙ ap (λ r. n.0.0 ∷ r) p.parts));
  again = λ x rest fits. pairs_again (body_field version) (body_exact version) x.0 x.1 rest fits.1;
}

-- ---- the code of an image is verified

pub all_verified : (version : ℕ) (hs : List BodyHead) (bs : List BodyTables) → AllPairs (IsBody version) hs bs
    → Verified bs
all_verified version hs bs h = record { each = each hs bs h } where
  each : (hs : List BodyHead) (bs : List BodyTables) → AllPairs (IsBody version) hs bs → (k : ℕ) (b : BodyTables)
      → slice_get bs k ≡ Some b → VerifiedBody b
  each [] [] h k b e = absurd cc
  each [] (c ∷ bs) h k b e = absurd h
  each (x ∷ hs) [] h k b e = absurd h
  each (x ∷ hs) (c ∷ bs) h zero b e = let same : c ≡ b = cc in subst VerifiedBody same h.0.verified
  each (x ∷ hs) (c ∷ bs) h (suc k) b e = each hs bs h.1 k b e
