-- Fields: how a value is spelled, and how it is read from the front of bytes.
use Rattle.std.specs.Prelude.{◌≡◌, ◌<◌, ℕ, ℤ, FitsSigned, ◌^◌, List, [], ◌∷◌, ◌++◌, length, take, drop, Result, Ok, Err}
use Rattle.std.specs.Prelude.{Bool, true, ◌&&◌, nat_lt, nat_le, if◌then◌else◌}
use Rattle.std.specs.Int.{w32, cast_signed, cast_unsigned}
use Rattle.byteorder.specs.Endian.{little_bytes, little_number}
use Rattle.fmp_image_bytes.specs.declared.fault.ImageFault.{ImageFault}
use Rattle.fmp_image_bytes.specs.declared.fault.ImageFault.TheVariants as fault
use Rattle.fmp_image_bytes.specs.declared.fault.LoadFault.{LoadFault}
use Rattle.fmp_image_bytes.specs.declared.fault.LoadFault.TheVariants as load_fault

infixl 10 ◌>>=◌
infixr 12 ◌⊗◌
-- the first fault ends the reading
abbrev pub ◌>>=◌ : {A B : Type 0} → Result A ImageFault → (A → Result B ImageFault) → Result B ImageFault
(Ok x) >>= f = f x
(Err e) >>= f = Err e

-- what a function returned, seen by view, is what reading gives, unless memory ran out
abbrev pub Fails : {Y : Type 0} → LoadFault → Result Y ImageFault → Type 0
Fails load_fault.Memory reading = Unit {0}
Fails (load_fault.Image f) reading = reading ≡ Err f

abbrev pub Gives : {X Y : Type 0} → (X → Y) → Result X LoadFault → Result Y ImageFault → Type 0
Gives view (Ok x) reading = reading ≡ Ok (view x)
Gives view (Err e) reading = Fails e reading

-- A field: which values it can hold, the bytes of a value, and the value at the front of bytes with the bytes after it.
pub record Field (A : Type 0) : Type 1 where
  pub fits : A → Type 0
  pub spell : A → List ℕ
  pub read : List ℕ → Result (A × List ℕ) ImageFault

abbrev pub byte_at : List ℕ → Result (ℕ × List ℕ) ImageFault
byte_at [] = Err fault.Short
byte_at (b ∷ rest) = Ok (b, rest)

-- a number of one byte
abbrev pub byte : Field ℕ
byte = record { fits = λ n. n < 256; spell = λ n. n ∷ []; read = byte_at }

abbrev pub number_at : (size : ℕ) → List ℕ → Result (ℕ × List ℕ) ImageFault
number_at size bytes =
    if nat_lt (length bytes) size then Err fault.Short else Ok (little_number size bytes, drop size bytes)

-- a number of two bytes, the lowest first
abbrev pub short : Field ℕ
short = record { fits = λ n. n < 2 ^ 16; spell = little_bytes 2; read = number_at 2 }

-- a number of four bytes
abbrev pub long : Field ℕ
long = record { fits = λ n. n < 2 ^ 32; spell = little_bytes 4; read = number_at 4 }

abbrev pub word_at : List ℕ → Result (ℤ × List ℕ) ImageFault
word_at bytes = number_at 4 bytes >>= λ n. Ok (cast_signed w32 n.0, n.1)

-- a signed number of four bytes, as two's complement
abbrev pub word : Field ℤ
word = record { fits = FitsSigned w32; spell = λ z. little_bytes 4 (cast_unsigned w32 z); read = word_at }

abbrev pub bytes_at : (size : ℕ) → List ℕ → Result (List ℕ × List ℕ) ImageFault
bytes_at size bytes = if nat_lt (length bytes) size then Err fault.Short else Ok (take size bytes, drop size bytes)

-- a text of up to 255 bytes after its length
abbrev pub text : Field (List ℕ)
text = record {
  fits = λ t. length t < 256;
  spell = λ t. length t ∷ t;
  read = λ bytes. byte_at bytes >>= λ n. bytes_at n.0 n.1;
}

-- a field and the one after it
abbrev pub ◌⊗◌ : {A B : Type 0} → Field A → Field B → Field (A × B)
f ⊗ g = record {
  fits = λ x. f.fits x.0 × g.fits x.1;
  spell = λ x. f.spell x.0 ++ g.spell x.1;
  read = λ bytes. f.read bytes >>= λ a. g.read a.1 >>= λ b. Ok ((a.0, b.0), b.1);
}

-- a field whose value passes a test; where it does not, that fault
abbrev pub tested : {A : Type 0} → (A → Bool) → ImageFault → Field A → Field A
tested test otherwise f = record {
  fits = λ a. f.fits a × (test a ≡ true);
  spell = f.spell;
  read = λ bytes. f.read bytes >>= λ a. if test a.0 then Ok a else Err otherwise;
}

-- a field, and one after it whose form depends on its value
abbrev pub chained : {A B : Type 0} → Field A → (A → Field B) → Field (A × B)
chained f g = record {
  fits = λ x. f.fits x.0 × (g x.0).fits x.1;
  spell = λ x. f.spell x.0 ++ (g x.0).spell x.1;
  read = λ bytes. f.read bytes >>= λ a. (g a.0).read a.1 >>= λ b. Ok ((a.0, b.0), b.1);
}

-- a number is at least one number and at most another
abbrev pub in_range : (least most : ℕ) → ℕ → Bool
in_range least most n = nat_le least n && nat_le n most
