-- What the words of a sentence spell.
use Rattle.std.specs.Prelude.{◌≡◌, ℕ, ◌<◌, List, ◌++◌, length, codes, flat_map}
use Rattle.std.specs.Fmt.{signed_decimal}
use Rattle.fmp_base.specs.Names.{name_text}
use Rattle.fmp_diagnosis.specs.declared.words.Word.{Word}
use Rattle.fmp_diagnosis.specs.declared.words.Word.TheVariants as word

-- what the texts write stands in quotes
abbrev pub quoted : List ℕ → List ℕ
quoted bytes = codes "`" ++ bytes ++ codes "`"

abbrev pub word_text : Word → List ℕ
word_text (word.Text text) = text.now
word_text (word.The text) = codes "the " ++ text.now
word_text (word.Name name) = quoted (name_text name)
word_text (word.Quoted text) = quoted text.now
word_text (word.Number n) = signed_decimal n

abbrev pub words_text : List Word → List ℕ
words_text words = flat_map word_text words

-- something was said: a text has grown at its end
abbrev pub IsSaid : List ℕ → List ℕ → Type 0
IsSaid before after = (said : List ℕ) × (0 < length said) × (after ≡ before ++ said)

-- these words were said first
abbrev pub IsSaidFirst : List ℕ → List ℕ → List ℕ → Type 0
IsSaidFirst words before after = (more : List ℕ) × (after ≡ before ++ words ++ more)

-- something may have been said
abbrev pub MaySay : List ℕ → List ℕ → Type 0
MaySay before after = (said : List ℕ) × (after ≡ before ++ said)
