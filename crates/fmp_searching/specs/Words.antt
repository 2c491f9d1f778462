-- The words in which what must never happen is written.
use Rattle.std.specs.Prelude.{ℕ, ℤ, pos, negsuc, ◌+◌, ◌-◌, ◌^◌, List, [], ◌∷◌, length, take, drop, Bool, Option, Some}
use Rattle.std.specs.Prelude.{None, option_and_then, option_map, position, ◌&&◌, nat_eq, nat_lt, bytes_eq, codes}
use Rattle.std.specs.Prelude.{false, if◌then◌else◌}
use Rattle.std.specs.List.{find, list_any, starts_with, ends_with}
use Rattle.std.specs.Ordering.{int_eq}
use Rattle.std.specs.Option.{option_or}
use Rattle.std.specs.Str.{all_ascii_digits}
use Rattle.std.specs.Str.Parse.{digits_value, signed_digits_value, without_leading_plus, without_leading_sign}
use Rattle.fmp_base.specs.Codes.{code_name}
use Rattle.fmp_base.specs.Texts.{fault_named}
use Rattle.fmp_base.specs.declared.codes.Er.{Er}
use Rattle.fmp_searching.specs.declared.words.CodeAt.{CodeAt}
use Rattle.fmp_searching.specs.declared.words.Section.{Section}
use Rattle.fmp_question.specs.Forbidden.{is_same_code}
use Rattle.fmp_question.specs.declared.question.Never.{Never}
use Rattle.fmp_question.specs.declared.question.Never.TheVariants as never
use Rattle.fmp_question.specs.declared.question.TheConstants.{ANSWERS}

-- what stands after a front of a text, if the text begins with it
unfoldable pub after : (front text : List ℕ) → Option (List ℕ)
after front text = if starts_with nat_eq text front then Some (drop (length front) text) else None

-- what stands before a back of a text, if the text ends with it
unfoldable pub before : (back text : List ℕ) → Option (List ℕ)
before back text = if ends_with nat_eq text back then Some (take (length text - length back) text) else None

-- what stands before and after the first of these bytes in a text, if there is one
unfoldable pub parts_at : (byte : ℕ) → (text : List ℕ) → Option (List ℕ × List ℕ)
parts_at byte text = option_map (λ k. (take k text, drop (k + 1) text)) (position (λ b. nat_eq b byte) text)

-- one decimal digit or more, and nothing else
abbrev pub are_digits : List ℕ → Bool
are_digits text = nat_lt 0 (length text) && all_ascii_digits text

-- whether a number is one from -2^31 to 2^31 - 1
abbrev pub is_value : ℤ → Bool
is_value (pos n) = nat_lt n (2 ^ 31)
is_value (negsuc n) = nat_lt n (2 ^ 31)

-- the value that a text spells in decimal digits, after a sign or without one
unfoldable pub value_named : List ℕ → Option ℤ
value_named text =
    if are_digits (without_leading_sign text) && is_value (signed_digits_value 10 text)
    then Some (signed_digits_value 10 text)
    else None

-- the number, below 2^32, that a text spells in decimal digits, after a plus or without one
unfoldable pub number_named : List ℕ → Option ℕ
number_named text =
    if are_digits (without_leading_plus text) && nat_lt (digits_value 10 (without_leading_plus text)) (2 ^ 32)
    then Some (digits_value 10 (without_leading_plus text))
    else None

-- the value V of a word `put(V)`
unfoldable pub value_put : List ℕ → Option ℤ
value_put word = option_and_then value_named (option_and_then (before (codes ")")) (after (codes "put(") word))

-- the code that a word names, of those that calls answer
unfoldable pub code_named : List ℕ → Option Er
code_named word = find (λ code. bytes_eq (code_name code) word) ANSWERS

-- what a word says must never happen: that a value is put, a fault, or an answer
unfoldable pub never_named : List ℕ → Option Never
never_named word =
    option_or
    (option_map (λ value. never.Put value) (value_put word))
    (option_or
    (option_map (λ fault. never.Fault fault) (fault_named word))
    (option_map (λ code. never.Answer code) (code_named word)))

-- what a word can ask for, but for faults: a code that calls answer, or a value from -2^31 to 2^31 - 1
abbrev pub is_worded_never : Never → Bool
is_worded_never (never.Answer code) = list_any (λ answer. is_same_code answer code) ANSWERS
is_worded_never (never.Put value) = is_value value
is_worded_never (never.Fault fault) = false
is_worded_never (never.Acts t) = false

abbrev pub code_at : Option Er → Option ℕ → Option CodeAt
code_at (Some code) (Some line) = Some (record { code = code; line = line; by = None })
code_at (Some code) None = None
code_at None line = None

-- the code that must never be answered to the calls of a line, whoever gets it, by a word `E_TMOUT:12`
unfoldable pub never_at_named : List ℕ → Option CodeAt
never_at_named word = option_and_then (λ parts. code_at (code_named parts.0) (number_named parts.1)) (parts_at 58 word)

-- the section with these two values, if they differ
abbrev pub section_of : Option ℤ → Option ℤ → Option Section
section_of (Some enters) (Some leaves) =
    if int_eq enters leaves then None else Some (record { enters = enters; leaves = leaves })
section_of (Some enters) None = None
section_of None leaves = None

-- the section of a word `1,2`
unfoldable pub section_named : List ℕ → Option Section
section_named word =
    option_and_then (λ parts. section_of (value_named parts.0) (value_named parts.1)) (parts_at 44 word)
