-- What the operators of the task language give: exact arithmetic, then the test of 32 bits.
use Rattle.std.specs.Prelude.{ℕ, zero, suc, ◌^◌, Bool, true, false, not, nat_lt, if◌then◌else◌, ℤ, pos, negsuc, ◌+ℤ◌}
use Rattle.std.specs.Prelude.{◌-ℤ◌, ◌*ℤ◌, neg_ℤ, int_div, int_rem, int_lt, Result, Ok, Err}
use Rattle.std.specs.Int.{w32, int_bit_and, int_bit_or, int_bit_xor}
use Rattle.fmp_base.specs.declared.bodies.Fault.{Fault}
use Rattle.fmp_base.specs.declared.bodies.Fault.TheVariants.{Overflow, Division, Index}
use Rattle.fmp_base.specs.declared.operators.UnaryOperator.{UnaryOperator}
use Rattle.fmp_base.specs.declared.operators.UnaryOperator.TheVariants.{Negate, Not, Complement}
use Rattle.fmp_base.specs.declared.operators.BinaryOperator.{BinaryOperator}
use Rattle.fmp_base.specs.declared.operators.BinaryOperator.TheVariants.{Add, Subtract, Multiply, Divide, Remainder}
use Rattle.fmp_base.specs.declared.operators.BinaryOperator.TheVariants.{And, Or, ExclusiveOr, Equal, NotEqual, Less}
use Rattle.fmp_base.specs.declared.operators.BinaryOperator.TheVariants.{LessOrEqual, Greater, GreaterOrEqual}

-- a number, or the fault in its place
abbrev pub Value : Type 0
Value = Result ℤ Fault

-- a whole number that 32 bits hold, or the fault of an overflow
abbrev pub fit : ℤ → Value
fit (pos n) = if nat_lt n (2 ^ 31) then Ok (pos n) else Err Overflow
fit (negsuc n) = if nat_lt n (2 ^ 31) then Ok (negsuc n) else Err Overflow

abbrev pub is_zero : ℤ → Bool
is_zero (pos zero) = true
is_zero (pos (suc n)) = false
is_zero (negsuc n) = false

abbrev pub truth : Bool → ℤ
truth true = pos 1
truth false = pos 0

-- 1 if it is not 0, else 0
abbrev pub truth_of : ℤ → ℤ
truth_of x = truth (not (is_zero x))

abbrev pub unary_value : UnaryOperator → ℤ → Value
unary_value Negate x = fit (neg_ℤ x)
unary_value Not x = Ok (truth (is_zero x))
unary_value Complement x = Ok (negsuc 0 -ℤ x)

-- goes on with the value, or keeps the fault
abbrev pub and_then : {A B : Type 0} → Result A Fault → (A → Result B Fault) → Result B Fault
and_then (Ok x) f = f x
and_then (Err e) f = Err e

-- cut toward zero
abbrev pub quotient : ℤ → ℤ → Value
quotient x y = if is_zero y then Err Division else fit (int_div x y)

abbrev pub binary_value : BinaryOperator → ℤ → ℤ → Value
binary_value Add x y = fit (x +ℤ y)
binary_value Subtract x y = fit (x -ℤ y)
binary_value Multiply x y = fit (x *ℤ y)
binary_value Divide x y = quotient x y
binary_value Remainder x y = and_then (quotient x y) (λ q. Ok (int_rem x y))
binary_value And x y = Ok (int_bit_and w32 x y)
binary_value Or x y = Ok (int_bit_or w32 x y)
binary_value ExclusiveOr x y = Ok (int_bit_xor w32 x y)
binary_value Equal x y = Ok (truth (is_zero (x -ℤ y)))
binary_value NotEqual x y = Ok (truth_of (x -ℤ y))
binary_value Less x y = Ok (truth (int_lt x y))
binary_value LessOrEqual x y = Ok (truth (not (int_lt y x)))
binary_value Greater x y = Ok (truth (int_lt y x))
binary_value GreaterOrEqual x y = Ok (truth (not (int_lt x y)))

-- the place of an array of this many places that an index names, or the fault of an index out of range
abbrev pub place_in : ℕ → ℤ → Result ℕ Fault
place_in places (pos i) = if nat_lt i places then Ok i else Err Index
place_in places (negsuc i) = Err Index
