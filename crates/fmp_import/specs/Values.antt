-- What operators of C give.
use Rattle.std.specs.Prelude.{◌≡◌, bit_and, ℕ, ◌*◌, ◌/◌, ◌%◌, ◌^◌, ℤ, pos, ◌+ℤ◌, ◌-ℤ◌, ◌*ℤ◌}
use Rattle.std.specs.Int.{int_bit_or, w64}
use Rattle.fmp_import.specs.declared.values.PendingOperator.{PendingOperator}
use Rattle.fmp_import.specs.declared.values.PendingOperator.TheVariants as pending
use Rattle.fmp_import.specs.declared.values.WholeOperator.{WholeOperator}
use Rattle.fmp_import.specs.declared.values.WholeOperator.TheVariants as whole

-- of numbers that are not negative
abbrev pub whole_value : WholeOperator → (left right : ℕ) → ℕ
whole_value whole.And a b = bit_and a b
whole_value whole.ShiftLeft a b = a * 2 ^ b
whole_value whole.ShiftRight a b = a / 2 ^ b
whole_value whole.Divide a b = a / b
whole_value whole.Remainder a b = a % b

-- v is what an operator gives of two numbers; a sign has 0 as its left one, and an open parenthesis gives nothing
abbrev pub IsValue : PendingOperator → (left right : ℤ) → ℤ → Type 0
IsValue pending.Open a b v = ⊥
IsValue pending.Or a b v = v ≡ int_bit_or w64 a b
IsValue pending.Add a b v = v ≡ a +ℤ b
IsValue pending.Subtract a b v = v ≡ a -ℤ b
IsValue pending.Multiply a b v = v ≡ a *ℤ b
IsValue pending.Negate a b v = v ≡ a -ℤ b
IsValue (pending.Whole o) a b v = (m n : ℕ) × (a ≡ pos m) × (b ≡ pos n) × (v ≡ pos (whole_value o m n))
