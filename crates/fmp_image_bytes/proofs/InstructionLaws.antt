-- An instruction is the one that its opcode and argument name, and no other pair names it.
use Rattle.std.proofs.Common.{◌≡◌, ℕ, ℤ, pos, negsuc, ◌+◌, ◌*◌, ◌/◌, ◌%◌, ◌<◌, ◌⊎◌, inl, inr, Bool, true, false, ◌&&◌}
use Rattle.std.proofs.Common.{cond, ltb, eqb, nat_eq, List, [], ◌∷◌, Option, Some, None, FitsSigned, refl, sym, ap}
use Rattle.std.proofs.Common.{subst, arith, lit<, ◌^◌}
use Rattle.std.specs.Prelude.{IfSome, find}
use Rattle.std.specs.Int.{w32}
use Rattle.std.specs.Option.{option_map}
use Rattle.std.proofs.lemmas.Bool.{ltb-true, lt-ltb, eqb-true, eq-eqb}
use Rattle.fmp_base.specs.declared.services.Service.{Service}
use Rattle.fmp_base.specs.declared.services.Service.TheVariants as service
use Rattle.fmp_base.specs.declared.operators.UnaryOperator.{UnaryOperator}
use Rattle.fmp_base.specs.declared.operators.UnaryOperator.TheVariants as unary
use Rattle.fmp_base.specs.declared.operators.BinaryOperator.{BinaryOperator}
use Rattle.fmp_base.specs.declared.operators.BinaryOperator.TheVariants as binary
use Rattle.fmp_base.specs.Services.{service_number}
use Rattle.fmp_instructions.specs.declared.instructions.Instruction.{Instruction}
use Rattle.fmp_instructions.specs.declared.instructions.Instruction.TheVariants.{Push, Load, Store, LoadIndexed}
use Rattle.fmp_instructions.specs.declared.instructions.Instruction.TheVariants.{StoreIndexed, Unary, Truth, Binary}
use Rattle.fmp_instructions.specs.declared.instructions.Instruction.TheVariants.{Jump, JumpIfZero, Call, End}
use Rattle.fmp_base.specs.declared.services.TheConstants.{SERVICES}
use Rattle.fmp_image_bytes.specs.declared.instructions.TheConstants.{UNARY_OPERATORS, BINARY_OPERATORS}
use Rattle.fmp_image_bytes.specs.Instructions.{unary_number, binary_number, local_number, call_number, opcode_of}
use Rattle.fmp_image_bytes.specs.Instructions.{argument_of, local_of, service_of_number, unary_of, binary_operator_of}
use Rattle.fmp_image_bytes.specs.Instructions.{call_of, array_number, array_of, below, numbered, instruction_of}
use Rattle.fmp_image_bytes.specs.Instructions.{HasRoom}
use Rattle.fmp_image_bytes.proofs.Names.{and_true}

-- which way a test went
chosen : {A : Type 0} (b : Bool) (x y z : A) → cond b x y ≡ z → ((b ≡ true) × (x ≡ z)) ⊎ ((b ≡ false) × (y ≡ z))
chosen true x y z e = inl (refl, e)
chosen false x y z e = inr (refl, e)

some_is : {A : Type 0} (x y : A) → ◌≡◌ {A = Option A} (Some x) (Some y) → x ≡ y
some_is x y e = cc

found_passes : {A : Type 0} (p : A → Bool) (xs : List A) (x : A) → find p xs ≡ Some x → p x ≡ true
found_passes p [] x e = absurd cc
found_passes p (y ∷ ys) x e =
    elim (chosen (p y) (Some y) (find p ys) (Some x) e) [
      | inl q ↦ let same : y ≡ x = some_is y x q.1 in subst (λ z. p z ≡ true) same q.0
      | inr q ↦ found_passes p ys x q.1
    ]

map_is : {A B : Type 0} (f : A → B) (o : Option A) (y : B) → option_map f o ≡ Some y → (x : A) × (o ≡ Some x)
    × (f x ≡ y)
map_is f None y e = absurd cc
map_is f (Some x) y e = (x, refl, cc)

guarded : {A : Type 0} (b : Bool) (x y : A) → cond b (Some x) None ≡ Some y → (b ≡ true) × (x ≡ y)
guarded true x y e = (refl, cc)
guarded false x y e = absurd cc

limited : {A : Type 0} (b : Bool) (x : Option A) (y : A) → cond b x None ≡ Some y → (b ≡ true) × (x ≡ Some y)
limited true x y e = (refl, e)
limited false x y e = absurd cc

below_is : (limit n m : ℕ) → below limit n ≡ Some m → (n < limit) × (n ≡ m)
below_is limit n m e =
    let g = guarded (ltb n limit) n m e in
    (ltb-true _ _ g.0, g.1)

below_again : (limit n : ℕ) → n < limit → below limit n ≡ Some n
below_again limit n lt = let yes : ltb n limit ≡ true = lt-ltb _ _ lt in rw yes refl

-- an opcode and an argument are those of an instruction that has room
pub record Names (opcode argument : ℕ) (i : Instruction) : Type 0 where
  pub opcode_is : opcode ≡ opcode_of i
  pub argument_is : pos argument ≡ argument_of i
  pub room : HasRoom i

unary_named : (n : ℕ) (i : Instruction) → unary_of n ≡ Some i → Names 4 n i
unfolding unary_of
unary_named n i e =
    elim (chosen (eqb n 3) (Some Truth) (option_map Unary (find (λ op. nat_eq (unary_number op) n) UNARY_OPERATORS))
    (Some i) e) [
      | inl p ↦ let n-is : n ≡ 3 = eqb-true _ _ p.0 in let i-is : Truth
          ≡ i = cc in rw n-is (subst (Names 4 3) i-is (record { opcode_is = refl; argument_is = refl; room = tt }))
      | inr p ↦
          let m = map_is Unary (find (λ op. nat_eq (unary_number op) n) UNARY_OPERATORS) i p.1 in
          let n-is : unary_number m.0 ≡ n = eqb-true _ _ (found_passes (λ op. nat_eq (unary_number op) n)
          UNARY_OPERATORS m.0 m.1) in
          subst (Names 4 n) m.2 (record { opcode_is = refl; argument_is = ap pos (sym n-is); room = tt })
    ]

binary_named : (n : ℕ) (i : Instruction) → option_map Binary (binary_operator_of n) ≡ Some i → Names 5 n i
unfolding binary_operator_of
binary_named n i e =
    let m = map_is Binary (find (λ op. nat_eq (binary_number op) n) BINARY_OPERATORS) i e in
    let n-is : binary_number m.0 ≡ n = eqb-true _ _ (found_passes (λ op. nat_eq (binary_number op) n) BINARY_OPERATORS
    m.0 m.1) in
    subst (Names 5 n) m.2 (record { opcode_is = refl; argument_is = ap pos (sym n-is); room = tt })

local_is : (n : ℕ) → n < 256 → (local_number (local_of n) ≡ n) × IfSome (local_of n) (λ v. v < 255)
local_is n lt = at_test (eqb n 255) refl where
  at_test : (b : Bool) → eqb n 255 ≡ b → (local_number (cond b None (Some n)) ≡ n)
      × IfSome (cond b None (Some n)) (λ v. v < 255)
  at_test true e = (sym (eqb-true _ _ e), tt)
  at_test false e = (refl, grind (arith, eq-eqb))

call_named : (n : ℕ) (i : Instruction) → call_of n ≡ Some i → Names 8 n i
unfolding call_of service_of_number
call_named n i e =
    let made = λ (s : Service). Call s (local_of (n / 256 % 256)) (local_of (n / 65536)) in
    let g = limited (ltb n 16777216) (option_map made (find (λ s. nat_eq (service_number s) (n % 256)) SERVICES)) i e in
    let lt : n < 16777216 = ltb-true _ _ g.0 in
    let m = map_is made (find (λ s. nat_eq (service_number s) (n % 256)) SERVICES) i g.1 in
    let s-is : service_number m.0 ≡ n % 256 = eqb-true _ _ (found_passes
    (λ s. nat_eq (service_number s) (n % 256)) SERVICES m.0 m.1) in
    let out = local_is (n / 256 % 256) (omega arith) in
    let receiver = local_is (n / 65536) (omega arith) in
    let whole : call_number m.0 (local_of (n / 256 % 256)) (local_of (n / 65536))
    ≡ n = rw (s-is, out.0, receiver.0) (omega arith) in
    subst (Names 8 n) m.2 (record { opcode_is = refl; argument_is = ap pos (sym whole); room = (out.1, receiver.1) })

-- an array of a number
array_named : (opcode n : ℕ) (make : ℕ → ℕ → Instruction) (i : Instruction)
    → ((base places : ℕ) → base < 256 → places < 256 → Names opcode (array_number base places) (make base places))
    → array_of make n ≡ Some i → Names opcode n i
array_named opcode n make i names e =
    let g = guarded (ltb n 65536) (make (n % 256) (n / 256)) i e in
    let lt : n < 65536 = ltb-true _ _ g.0 in
    let whole : array_number (n % 256) (n / 256) ≡ n = omega arith in
    subst (λ k. Names opcode k i) whole
    (subst (Names opcode (array_number (n % 256) (n / 256))) g.1 (names (n % 256) (n / 256) (omega arith)
    (omega arith)))

array_again : (make : ℕ → ℕ → Instruction) (base places : ℕ) → base < 256 → places < 256
    → array_of make (array_number base places) ≡ Some (make base places)
array_again make base places lb lp =
    let fits : ltb (array_number base places) 65536 ≡ true = lt-ltb _ _ (omega arith) in
    let first : array_number base places % 256 ≡ base = omega arith in
    let second : array_number base places / 256 ≡ places = omega arith in
    rw (fits, first, second) refl

-- which way a test of an opcode went
by_opcode : {P : Type 0} (k opcode : ℕ) (x y : Option Instruction) (i : Instruction) → cond (eqb opcode k) x y
    ≡ Some i → (opcode ≡ k → x ≡ Some i → P) → (y ≡ Some i → P) → P
by_opcode k opcode x y i e here there =
    elim (chosen (eqb opcode k) x y (Some i) e) [
      | inl p ↦ here (eqb-true _ _ p.0) p.1
      | inr p ↦ there p.1
    ]

numbered_named : (opcode n : ℕ) (i : Instruction) → numbered opcode n ≡ Some i → Names opcode n i
unfolding numbered
numbered_named opcode n i e =
    by_opcode 2 opcode _ _ i e (λ o h. let m = map_is Load (below 256 n) i h in let b = below_is 256 n m.0 m.1 in
    rw o (subst (Names 2 n) m.2 (record {
      opcode_is = refl;
      argument_is = ap pos b.1;
      room = subst (λ k. k < 256) b.1 b.0;
    }))) (λ e3.
    by_opcode 3 opcode _ _ i e3 (λ o h. let m = map_is Store (below 256 n) i h in let b = below_is 256 n m.0 m.1 in
    rw o (subst (Names 3 n) m.2 (record {
      opcode_is = refl;
      argument_is = ap pos b.1;
      room = subst (λ k. k < 256) b.1 b.0;
    }))) (λ e4.
    by_opcode 4 opcode _ _ i e4 (λ o h. rw o (unary_named n i h)) (λ e5.
    by_opcode 5 opcode _ _ i e5 (λ o h. rw o (binary_named n i h)) (λ e6.
    by_opcode 6 opcode _ _ i e6 (λ o h. let m = map_is Jump (below 65536 n) i h in let b = below_is 65536 n m.0 m.1 in
    rw o (subst (Names 6 n) m.2 (record {
      opcode_is = refl;
      argument_is = ap pos b.1;
      room = subst (λ k. k < 65536) b.1 b.0;
    }))) (λ e7.
    by_opcode 7 opcode _ _ i e7 (λ o h. let m = map_is JumpIfZero (below 65536 n) i h in let b = below_is 65536 n m.0
    m.1 in
    rw o (subst (Names 7 n) m.2 (record {
      opcode_is = refl;
      argument_is = ap pos b.1;
      room = subst (λ k. k < 65536) b.1 b.0;
    }))) (λ e8.
    by_opcode 8 opcode _ _ i e8 (λ o h. rw o (call_named n i h)) (λ e10.
    by_opcode 10 opcode _ _ i e10 (λ o h. rw o (array_named 10 n LoadIndexed i
    (λ b p lb lp. record { opcode_is = refl; argument_is = refl; room = (lb, lp) }) h)) (λ e11.
    by_opcode 11 opcode _ _ i e11 (λ o h. rw o (array_named 11 n StoreIndexed i
    (λ b p lb lp. record { opcode_is = refl; argument_is = refl; room = (lb, lp) }) h)) (λ e9.
    let g = guarded (eqb opcode 9 && eqb n 0) End i e9 in
    let t = and_true _ _ g.0 in
    let o : opcode ≡ 9 = eqb-true _ _ t.0 in
    let z : n ≡ 0 = eqb-true _ _ t.1 in
    rw (o, z) (subst (Names 9 0) g.1 (record { opcode_is = refl; argument_is = refl; room = tt })))))))))))

pub instruction_named : (opcode : ℕ) (z : ℤ) (i : Instruction) → FitsSigned w32 z → instruction_of opcode z ≡ Some i
    → (opcode ≡ opcode_of i) × (z ≡ argument_of i) × HasRoom i
instruction_named opcode (pos n) i fits e =
    by_opcode 1 opcode (Some (Push (pos n))) (numbered opcode n) i e
    (λ o h. let same : Push (pos n) ≡ i = cc in rw o (subst (λ j. (1 ≡ opcode_of j) × (pos n ≡ argument_of j)
    × HasRoom j) same (refl, refl, fits)))
    (λ h. let m = numbered_named opcode n i h in (m.opcode_is, m.argument_is, m.room))
instruction_named opcode (negsuc n) i fits e =
    by_opcode 1 opcode (Some (Push (negsuc n))) None i e
    (λ o h. let same : Push (negsuc n) ≡ i = cc in rw o (subst (λ j. (1 ≡ opcode_of j) × (negsuc n ≡ argument_of j)
    × HasRoom j) same (refl, refl, fits)))
    (λ h. absurd cc)

-- ---- and back

pub service_again : (s : Service) → service_of_number (service_number s) ≡ Some s
unfolding service_of_number
service_again service.Put = refl
service_again _ = refl

service_small : (s : Service) → service_number s < 256
service_small service.Put = lit< tt
service_small _ = lit< tt

binary_again : (op : BinaryOperator) → binary_operator_of (binary_number op) ≡ Some op
unfolding binary_operator_of
binary_again binary.Add = refl
binary_again binary.Subtract = refl
binary_again binary.Multiply = refl
binary_again binary.Divide = refl
binary_again binary.Remainder = refl
binary_again binary.And = refl
binary_again binary.Or = refl
binary_again binary.ExclusiveOr = refl
binary_again binary.Equal = refl
binary_again binary.NotEqual = refl
binary_again binary.Less = refl
binary_again binary.LessOrEqual = refl
binary_again binary.Greater = refl
binary_again binary.GreaterOrEqual = refl

unary_again : (op : UnaryOperator) → unary_of (unary_number op) ≡ Some (Unary op)
unfolding unary_of
unary_again unary.Negate = refl
unary_again unary.Not = refl
unary_again unary.Complement = refl

truth_again : unary_of 3 ≡ Some Truth
unfolding unary_of
truth_again = refl

digits : (s o r : ℕ) → s < 256 → o < 256 → r < 256
    → ((s + 256 * o + 65536 * r) % 256 ≡ s) × ((s + 256 * o + 65536 * r) / 256 % 256 ≡ o)
    × ((s + 256 * o + 65536 * r) / 65536 ≡ r)
digits s o r ls lo lr = (omega arith, omega arith, omega arith)

local_again : (o : Option ℕ) → IfSome o (λ v. v < 255) → local_of (local_number o) ≡ o
local_again None h = refl
local_again (Some v) h = let no : eqb v 255 ≡ false = not_equal v h in rw no refl where
  not_equal : (v : ℕ) → v < 255 → eqb v 255 ≡ false
  not_equal v lt = at_test (eqb v 255) refl where
    at_test : (b : Bool) → eqb v 255 ≡ b → b ≡ false
    at_test true e = let v-is : v ≡ 255 = eqb-true _ _ e in absurd (omega arith)
    at_test false e = refl

local_small : (o : Option ℕ) → IfSome o (λ v. v < 255) → local_number o < 256
local_small None h = lit< tt
local_small (Some v) h = omega arith

call_again : (s : Service) (out receiver : Option ℕ) → IfSome out (λ v. v < 255) → IfSome receiver (λ v. v < 255)
    → call_of (call_number s out receiver) ≡ Some (Call s out receiver)
unfolding call_of
call_again s out receiver ho hr =
    let small = service_small s in
    let lo = local_small out ho in
    let lr = local_small receiver hr in
    let d = digits (service_number s) (local_number out) (local_number receiver) (omega arith) lo lr in
    let fits : ltb (call_number s out receiver) 16777216 ≡ true = lt-ltb _ _ (omega arith) in
    rw (fits, d.0, d.1, d.2, service_again s, local_again out ho, local_again receiver hr) refl

pub instruction_again : (i : Instruction) → HasRoom i → instruction_of (opcode_of i) (argument_of i) ≡ Some i
unfolding numbered
instruction_again (Push k) h = refl
instruction_again (Load v) h = rw (below_again 256 v h) refl
instruction_again (Store v) h = rw (below_again 256 v h) refl
instruction_again (Unary op) h = unary_again op
instruction_again Truth h = truth_again
instruction_again (Binary op) h = rw (binary_again op) refl
instruction_again (Jump a) h = rw (below_again 65536 a h) refl
instruction_again (JumpIfZero a) h = rw (below_again 65536 a h) refl
instruction_again (Call s out receiver) h = call_again s out receiver h.0 h.1
instruction_again End h = refl
instruction_again (LoadIndexed base places) h = array_again LoadIndexed base places h.0 h.1
instruction_again (StoreIndexed base places) h = array_again StoreIndexed base places h.0 h.1

pub binary_small : (op : BinaryOperator) → binary_number op < 2 ^ 31
binary_small binary.Add = lit< tt
binary_small binary.Subtract = lit< tt
binary_small binary.Multiply = lit< tt
binary_small binary.Divide = lit< tt
binary_small binary.Remainder = lit< tt
binary_small binary.And = lit< tt
binary_small binary.Or = lit< tt
binary_small binary.ExclusiveOr = lit< tt
binary_small binary.Equal = lit< tt
binary_small binary.NotEqual = lit< tt
binary_small binary.Less = lit< tt
binary_small binary.LessOrEqual = lit< tt
binary_small binary.Greater = lit< tt
binary_small binary.GreaterOrEqual = lit< tt

pub call_small : (s : Service) (out receiver : Option ℕ) → IfSome out (λ v. v < 255) → IfSome receiver (λ v. v < 255)
    → call_number s out receiver < 2 ^ 31
call_small s out receiver ho hr =
    let small = service_small s in
    let lo = local_small out ho in
    let lr = local_small receiver hr in
    omega arith
