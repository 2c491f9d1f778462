-- Messages within a stream of bytes. A header is lines, of which one tells the length, as `Content-Length: 17`, and an
-- empty one is the last; a message of this many bytes follows.
use Rattle.std.specs.Prelude.{ℕ, ◌+◌, ◌-◌, ◌==◌, ◌||◌, nat_lt, nat_le, nat_eq, Bool, if◌then◌else◌, List, [], ◌∷◌}
use Rattle.std.specs.Prelude.{◌++◌, length, drop, min, codes, decimal, Option, Some, None}
use Rattle.std.specs.Option.{option_to_list}
use Rattle.std.specs.List.{starts_with}
use Rattle.std.specs.Char.{to_ascii_lowercase}
use Rattle.std.specs.Str.{all_ascii_digits}
use Rattle.std.specs.Str.Parse.{digits_value}
use Rattle.fmp_server.specs.declared.framing.Framing.{Framing}
use Rattle.fmp_server.specs.declared.framing.TheConstants.{MESSAGE_MAX, LINE_MAX}

-- How far a stream was read: what is kept of the line of its header, the length that the header has told, how many
-- bytes of the message are still to come, and those that came.
pub record Part : Type 0 where
  pub line : List ℕ
  pub told : ℕ
  pub left : ℕ
  pub message : List ℕ

abbrev pub part_of : Framing → Part
part_of f = record { line = f.line.items; told = f.length; left = f.left; message = f.message.items }

-- the beginning of a stream, and of each message
abbrev pub fresh : Part
fresh = record { line = []; told = 0; left = 0; message = [] }

-- a blank or a carriage return: a line is read without them
abbrev pub is_blank : ℕ → Bool
is_blank b = (b == 32) || (b == 9) || (b == 13)

-- the number that digits spell, or the one after the greatest length
abbrev pub capped : List ℕ → Option ℕ
capped digits = if all_ascii_digits digits then Some (min (digits_value 10 digits) (MESSAGE_MAX + 1)) else None

abbrev pub within : Option ℕ → ℕ
within None = 0
within (Some n) = if nat_le n MESSAGE_MAX then n else 0

-- the length that digits tell, at most MESSAGE_MAX; else 0
abbrev pub length_in : List ℕ → ℕ
length_in digits = within (capped digits)

-- the line is that of the length
unfoldable pub tells_length : List ℕ → Bool
tells_length line = starts_with nat_eq line (codes "content-length:")

-- the length that a header has told after a line
abbrev pub told : List ℕ → ℕ → ℕ
told line before = if tells_length line then length_in (drop 15 line) else before

-- after an empty line the message begins, if a length was told
abbrev pub after_line : Part → Part
after_line p =
    if length p.line == 0 then record p { told = 0; left = p.told }
    else record p { line = []; told = told p.line p.told }

abbrev pub kept : List ℕ → ℕ → List ℕ
kept line b = if is_blank b || nat_le LINE_MAX (length line) then line else line ++ to_ascii_lowercase b ∷ []

abbrev pub in_header : Part → ℕ → Part
in_header p b = if b == 10 then after_line p else record p { line = kept p.line b }

abbrev pub in_message : Part → ℕ → Part × Option (List ℕ)
in_message p b =
    if nat_lt 1 p.left then (record p { left = p.left - 1; message = p.message ++ b ∷ [] }, None)
    else (record p { left = 0; message = [] }, Some (p.message ++ b ∷ []))

-- what one byte does, and the message that ends with it
abbrev pub step : Part → ℕ → Part × Option (List ℕ)
step p b = if nat_lt 0 p.left then in_message p b else (in_header p b, None)

-- what bytes do, and the messages that end among them
abbrev pub fed : Part → List ℕ → Part × List (List ℕ)
fed p [] = (p, [])
fed p (b ∷ bs) = let s = step p b in let r = fed s.0 bs in (r.0, option_to_list s.1 ++ r.1)

-- a message after its header
abbrev pub framed : List ℕ → List ℕ
framed message = codes "Content-Length: " ++ decimal (length message) ++ codes "\r\n\r\n" ++ message

-- what bytes do after these messages
abbrev pub fed_after : Part → List (List ℕ) → List ℕ → Part × List (List ℕ)
fed_after p messages bytes = let r = fed p bytes in (r.0, messages ++ r.1)
