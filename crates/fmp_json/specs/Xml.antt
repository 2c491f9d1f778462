-- Texts as XML has them in a value of an attribute and as the content of an element.
use Rattle.std.specs.Prelude.{ℕ, Bool, ◌==◌, ◌&&◌, ◌||◌, not, nat_le, nat_lt, if◌then◌else◌, List, [], ◌∷◌, ◌++◌, codes}

-- a byte of a text after these two: U+FFFE and U+FFFF, which XML does not have, become U+FFFD by their last byte
unfoldable pub fit_byte : (before last byte : ℕ) → ℕ
fit_byte before last byte = if (before == 239) && ((last == 191) && nat_lt 189 byte) then 189 else byte

-- the rest of a text after these two bytes, and a whole text, so changed
abbrev pub fit_after : (before last : ℕ) → List ℕ → List ℕ
fit_after before last [] = []
fit_after before last (byte ∷ bytes) = fit_byte before last byte ∷ fit_after last byte bytes

abbrev pub fit : List ℕ → List ℕ
fit text = fit_after 0 0 text

-- a reference for a character that has a meaning of its own in XML; `?` for one that XML does not have
unfoldable pub escaped_byte : ℕ → List ℕ
escaped_byte byte =
    if byte == 38 then codes "&amp;"
    else if byte == 60 then codes "&lt;"
    else if byte == 62 then codes "&gt;"
    else if byte == 34 then codes "&quot;"
    else if byte == 9 then codes "&#9;"
    else if byte == 10 then codes "&#10;"
    else if byte == 13 then codes "&#13;"
    else if nat_lt byte 32 then codes "?"
    else byte ∷ []

-- a text as a value of an attribute: on one line
abbrev pub escaped : List ℕ → List ℕ
escaped [] = []
escaped (byte ∷ bytes) = escaped_byte byte ++ escaped bytes

-- a byte of the content of an element, whose lines stay lines
unfoldable pub content_byte : ℕ → List ℕ
content_byte byte = if byte == 10 then byte ∷ [] else escaped_byte byte

abbrev pub content : List ℕ → List ℕ
content [] = []
content (byte ∷ bytes) = content_byte byte ++ content bytes

-- a byte that is no mark of XML, and that XML has; a content may have line feeds too
abbrev pub is_plain : ℕ → Bool
is_plain byte = not (byte == 60) && (not (byte == 34) && nat_le 32 byte)

abbrev pub is_plain_content : ℕ → Bool
is_plain_content byte = (byte == 10) || is_plain byte
