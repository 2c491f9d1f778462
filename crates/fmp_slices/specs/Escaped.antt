-- JSON that can stand in a script of HTML.
use Rattle.std.specs.Prelude.{ℕ, ◌==◌, if◌then◌else◌, List, [], ◌∷◌, codes, flat_map}

-- a byte, or the escape of JSON for `<`
abbrev pub escaped_byte : ℕ → List ℕ
escaped_byte byte = if byte == 60 then 92 ∷ codes "u003c" else byte ∷ []

-- a text of JSON with each `<` as an escape
abbrev pub escaped : (json : List ℕ) → List ℕ
escaped json = flat_map escaped_byte json
