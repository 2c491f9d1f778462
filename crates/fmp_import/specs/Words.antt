-- Words of the source.
use Rattle.std.specs.Prelude.{ℕ, ◌-◌, nat_lt, List, [], ◌∷◌, ◌&&◌, not, Bool, false, if◌then◌else◌, min, length}
use Rattle.std.specs.Prelude.{option_map, slice_get, slice_range, unwrap_or}
use Rattle.std.specs.List.{list_all}
use Rattle.fmp_base.specs.Words as base
use Rattle.fmp_import.specs.declared.plan.TextSpan.{TextSpan}

-- the bytes of a part of a text, as far as the text goes
abbrev pub span_text : List ℕ → TextSpan → List ℕ
span_text text s = let end = min s.end (length text) in slice_range text (min s.start end) end

-- a letter or `_`, and letters, digits and `_`
abbrev pub is_word : List ℕ → Bool
is_word [] = false
is_word (b ∷ bs) = base.is_letter b && list_all base.is_word bs

-- a byte of a word stands at a position
abbrev pub is_word_at : List ℕ → (at : ℕ) → Bool
is_word_at text at = unwrap_or (option_map base.is_word (slice_get text at)) false

-- a byte of a word stands before a position
abbrev pub is_word_before : List ℕ → (at : ℕ) → Bool
is_word_before text at = nat_lt 0 at && is_word_at text (at - 1)

-- a part of a text is a word, and goes on neither before nor after it
abbrev pub is_whole_word : List ℕ → TextSpan → Bool
is_whole_word text s =
    is_word (span_text text s) && not (is_word_before text s.start) && not (is_word_at text s.end)

-- the whole word that stands at a part of a text; nothing where none stands there
abbrev pub word_text : List ℕ → TextSpan → List ℕ
word_text text s = if is_whole_word text s then span_text text s else []
