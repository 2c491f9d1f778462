-- A text of JSON that is escaped has no `<`.
use Rattle.std.proofs.Common.{◌≡◌, ◌≢◌, ℕ, Bool, true, false, List, [], ◌∷◌, codes, arith, nat_eq, refl}
use Rattle.std.proofs.lemmas.Bool.Decides.{nat_tests}
use Rattle.std.proofs.lemmas.List.Elements.{All-append, All-from_recursion, All-nil}
use Rattle.std.specs.Prelude.{All, if◌then◌else◌}
use Rattle.fmp_slices.specs.Escaped.{escaped, escaped_byte}

other : (byte : ℕ) → nat_eq byte 60 ≡ false → byte ≢ 60
other byte isnt same = grind (arith, nat_tests)

byte_safe : (byte : ℕ) (is : Bool) → nat_eq byte 60 ≡ is
    → All (λ b. b ≢ 60) (if is then 92 ∷ codes "u003c" else byte ∷ [])
byte_safe byte true e =
    All-from_recursion (λ b. b ≢ 60) (92 ∷ codes "u003c")
    (other 92 refl, (other 117 refl, (other 48 refl, (other 48 refl, (other 51 refl, (other 99 refl, tt))))))
byte_safe byte false e = All-from_recursion (λ b. b ≢ 60) (byte ∷ []) (other byte e, tt)

pub escaped_safe : (json : List ℕ) → All (λ b. b ≢ 60) (escaped json)
escaped_safe [] = All-nil (λ b. b ≢ 60)
escaped_safe (byte ∷ json) =
    All-append (λ b. b ≢ 60) (escaped_byte byte) (escaped json) (byte_safe byte (nat_eq byte 60) refl)
    (escaped_safe json)
