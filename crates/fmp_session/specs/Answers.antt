-- The answers of a session, each an object of JSON in a line.
use Rattle.std.specs.Prelude.{ℕ, ◌-◌, ℤ, List, ◌∷◌, [], ◌++◌, if◌then◌else◌, codes, decimal, length, map, nat_eq, take}
use Rattle.std.specs.Fmt.{signed_decimal}
use Rattle.std.specs.Str.Lossy.{utf8_lossy}
use Rattle.json.specs.Token.{Token, key, number}
use Rattle.fmp_json.specs.Members.{number_member, object_line, text_member}

-- a record of what is told: which kind it is, and the text
abbrev pub note : (what text : List ℕ) → List ℕ
note what text = object_line (text_member (codes "what") what ++ text_member (codes "text") (utf8_lossy text))

abbrev pub value_member : ℤ → List Token
value_member value = key (codes "value") ∷ (number (signed_decimal value) ∷ [])

-- an object of this kind and name, with its value
abbrev pub object_members : (kind name : List ℕ) → ℤ → List Token
object_members kind name value =
    text_member (codes "kind") kind ++ (text_member (codes "name") name ++ value_member value)

-- the record of it
abbrev pub object_record : (kind name : List ℕ) → ℤ → List ℕ
object_record kind name value =
    object_line (text_member (codes "what") (codes "object") ++ object_members kind (utf8_lossy name) value)

-- a comma in place of a line feed
abbrev pub comma_for : ℕ → ℕ
comma_for b = if nat_eq b 10 then 44 else b

-- records, each of which was a line, with commas between them
abbrev pub joined : List ℕ → List ℕ
joined records = map comma_for (take (length records - 1) records)

-- the answer to a line after which the session has n events, and which made these records
abbrev pub answer : (n : ℕ) → (records : List ℕ) → List ℕ
answer n records =
    codes "{\"events\":" ++ (decimal n ++ (codes ",\"records\":[" ++ (joined records ++ codes "]}\n")))

-- the answer to a line that failed, with the reason: the session has n events as before
abbrev pub failure : (n : ℕ) → (reason : List ℕ) → List ℕ
failure n reason = object_line (number_member (codes "events") n ++ text_member (codes "error") reason)
