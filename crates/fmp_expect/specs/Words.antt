-- The lines, words and numbers of a text of expectations.
use Rattle.std.specs.Prelude.{ℕ, List, [], ◌∷◌, Option, Some, None, Bool, true, false, ◌||◌, ◌&&◌, if◌then◌else◌}
use Rattle.std.specs.Prelude.{nat_eq, nat_le, min, ℤ, pos, neg_ℤ, filter, length, take, get_or, ◌-◌, codes, option_map}
use Rattle.std.specs.Char.{is_ascii_whitespace}
use Rattle.std.specs.List.{before_first, slice_split, suffix_len}
use Rattle.std.specs.Str.{all_ascii_digits}
use Rattle.std.specs.Str.Parse.{digits_value}

-- the lines of a text: the parts between its line feeds
abbrev pub lines_of : List ℕ → List (List ℕ)
lines_of text = slice_split (λ b. nat_eq b 10) text

-- a line without the white space at its end
abbrev pub without_end : List ℕ → List ℕ
without_end line = take (length line - suffix_len is_ascii_whitespace line) line

-- the line of this number of a text, from 1, without the white space at its end; empty where there is no such line
abbrev pub line_at : (text : List ℕ) → (number : ℕ) → List ℕ
line_at text number = without_end (get_or (lines_of text) (number - 1) [])

-- what stands before the first #
abbrev pub before_comment : List ℕ → List ℕ
before_comment line = before_first (λ b. nat_eq b 35) line

-- a space, a tab or a carriage return
abbrev pub is_blank : ℕ → Bool
is_blank b = nat_eq b 32 || (nat_eq b 9 || nat_eq b 13)

abbrev pub is_word : List ℕ → Bool
is_word [] = false
is_word (b ∷ bs) = true

-- the words of a line: the parts between its blanks that are not empty
abbrev pub words_of : List ℕ → List (List ℕ)
words_of line = filter is_word (slice_split is_blank line)

-- the number that a text spells, if it is decimal digits
abbrev pub digits_number : List ℕ → Option ℕ
digits_number text = if all_ascii_digits text then Some (digits_value 10 text) else None

-- the number that a text spells, if it is decimal digits without leading zeros
abbrev pub numeral_value : List ℕ → Option ℕ
numeral_value [] = None
numeral_value (d ∷ []) = digits_number (d ∷ [])
numeral_value (d ∷ e ∷ ds) = if nat_eq d 48 then None else digits_number (d ∷ e ∷ ds)

-- a number, or 2^32 for a greater one
abbrev pub capped : Option ℕ → Option ℕ
capped None = None
capped (Some n) = Some (min n 4294967296)

-- a number in a range
abbrev pub in_range : (low high : ℕ) → Option ℕ → Option ℕ
in_range low high None = None
in_range low high (Some n) = if nat_le low n && nat_le n high then Some n else None

-- the number from low to high that a text spells
abbrev pub number_of : (low high : ℕ) → List ℕ → Option ℕ
number_of low high text = in_range low high (numeral_value text)

-- the number of 32 bits that a text spells, with a minus in front just if it is negative
abbrev pub signed_number : List ℕ → Option ℤ
signed_number [] = None
signed_number (b ∷ bs) =
    if nat_eq b 45 then option_map (λ n. neg_ℤ (pos n)) (number_of 1 2147483648 bs)
    else option_map (λ n. pos n) (number_of 0 2147483647 (b ∷ bs))

-- what is left, where the bytes before it were the same
abbrev pub if_same : Bool → Option (List ℕ) → Option (List ℕ)
if_same true rest = rest
if_same false rest = None

-- what stands after a front of a text, if the text begins with it
abbrev pub after_front : (front text : List ℕ) → Option (List ℕ)
after_front [] text = Some text
after_front (c ∷ cs) [] = None
after_front (c ∷ cs) (b ∷ bs) = if_same (nat_eq b c) (after_front cs bs)

-- what stands before the last byte of a text, if that is a closing parenthesis
abbrev pub before_close : List ℕ → Option (List ℕ)
before_close text = if nat_eq (get_or text (length text - 1) 0) 41 then Some (take (length text - 1) text) else None

abbrev pub value_before_close : Option (List ℕ) → Option ℤ
value_before_close None = None
value_before_close (Some text) = signed_number text

abbrev pub value_in_rest : Option (List ℕ) → Option ℤ
value_in_rest None = None
value_in_rest (Some rest) = value_before_close (before_close rest)

-- the value V of a word `put(V)`
abbrev pub put_value : List ℕ → Option ℤ
put_value word = value_in_rest (after_front (codes "put(") word)
