-- What the words of a command line say for an argument of a subcommand.
use Rattle.std.specs.Prelude.{◌≡◌, ℕ, ◌<◌, ◌^◌, Bool, true, false, List, [], Option, Some, None, codes, unwrap_or}
use Rattle.std.specs.Str.Parse.{IsNumeral, digits_value, without_leading_plus}
use Rattle.clap.specs.Words.{Row, Text, all_of, first_of, one_of}

-- a word spells a number of this many bits in decimal digits
abbrev pub Spells : (bits : ℕ) → Text → Type 0
Spells bits word = IsNumeral 10 (without_leading_plus word) × (digits_value 10 (without_leading_plus word) < 2 ^ bits)

-- the number that a word spells; none where there is no word, or it spells none
abbrev pub IsNumber : (bits : ℕ) → Option Text → Option ℕ → Type 0
IsNumber bits None number = number ≡ None
IsNumber bits (Some word) None = ¬ Spells bits word
IsNumber bits (Some word) (Some number) = Spells bits word × (number ≡ digits_value 10 (without_leading_plus word))

-- the number for this argument, if there is one
abbrev pub HasNumber : (bits : ℕ) → List Row → Text → Option ℕ → Type 0
HasNumber bits rows id = IsNumber bits (one_of id rows)

-- the number for this argument, and else another one
abbrev pub HasNumberOr : (bits otherwise : ℕ) → List Row → Text → ℕ → Type 0
HasNumberOr bits otherwise rows id n =
    (number : Option ℕ) × HasNumber bits rows id number × (n ≡ unwrap_or number otherwise)

-- whether the flag is given
pub record HasFlag (rows : List Row) (id : Text) (flag : Bool) : Type 0 where
  pub none : one_of id rows ≡ None → flag ≡ false
  pub yes : one_of id rows ≡ Some (codes "true") → flag ≡ true
  pub no : one_of id rows ≡ Some (codes "false") → flag ≡ false

-- the word for this argument; an empty one if there is none
abbrev pub word_for : List Row → Text → Text
word_for rows id = unwrap_or (first_of id rows) []

-- the words for this argument, in their order
abbrev pub words_for : List Row → Text → List Text
words_for rows id = unwrap_or (all_of id rows) []
