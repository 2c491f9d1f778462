-- The text of a picture, or of a label in it.
use Rattle.std.specs.Prelude.{◌≡◌, ℕ, ◌+◌, ◌==◌, if◌then◌else◌, List, [], ◌∷◌, ◌++◌, Bool, false, codes, decimal}
use Rattle.std.specs.Prelude.{flat_map}
use Rattle.fmp_timeline.specs.declared.canvas.Canvas.{Canvas}

-- a byte, escaped where it is a mark of SVG
abbrev pub escaped_byte : ℕ → List ℕ
escaped_byte byte =
    if byte == 38 then codes "&amp;"
    else if byte == 60 then codes "&lt;"
    else if byte == 62 then codes "&gt;"
    else if byte == 34 then codes "&quot;"
    else byte ∷ []

abbrev pub escaped : List ℕ → List ℕ
escaped text = flat_map escaped_byte text

-- a canvas that is whole has these bytes more in the layer that is written, and was whole before
pub record HasAdded (text : List ℕ) (old new : Canvas) : Type 0 where
  pub was_whole : old.is_cut ≡ false
  pub bytes : new.bytes.items ≡ old.bytes.items ++ text
  pub other : new.other.items ≡ old.other.items

abbrev pub Adds : (old new : Canvas) → (text : List ℕ) → Type 0
Adds old new text = new.is_cut ≡ false → HasAdded text old new
