-- What is said of a code: its meaning, when it comes and an example.
use Rattle.std.specs.Prelude.{◌≡◌, ℕ, ◌<◌, List, ◌++◌, length, codes}
use Rattle.fmp_diagnosis.specs.declared.topics.Topic.{Topic}
use Rattle.fmp_diagnosis.specs.Topics.{topic_word}

-- a line of a word and its text
abbrev pub line : (word text : List ℕ) → List ℕ
line word text = word ++ codes ": " ++ text ++ codes "\n"

-- the code and its meaning, when it comes, and an example, none of them empty, each in a line of its own
pub record IsExplanation (t : Topic) (said : List ℕ) : Type 0 where
  pub meaning : List ℕ
  pub cause : List ℕ
  pub example : List ℕ
  pub has_meaning : 0 < length meaning
  pub has_cause : 0 < length cause
  pub has_example : 0 < length example
  pub lines : said ≡ line (topic_word t) meaning ++ line (codes "  when") cause ++ line (codes "  example") example

-- a text has grown by what is said of a code
abbrev pub IsExplained : Topic → (before after : List ℕ) → Type 0
IsExplained t before after = (said : List ℕ) × IsExplanation t said × (after ≡ before ++ said)
