-- What is mistaken in words and sentences that ask for no question.
use Rattle.std.specs.Prelude.{ℕ, List, [], Bool, true, false, not, ◌&&◌, Option, Some, None, bytes_eq, find, is_some}
use Rattle.std.specs.List.{list_any}
use denote.Ref.{Bor}
use Rattle.fmp_base.specs.Names.{name_text}
use Rattle.fmp_base.specs.declared.systems.TaskConfig.{TaskConfig}
use Rattle.fmp_searching.specs.Limits.{Words}
use Rattle.fmp_searching.specs.Words.{never_at_named, never_named}
use Rattle.fmp_searching.specs.declared.asking.CommandMistake.{CommandMistake}
use Rattle.fmp_searching.specs.declared.asking.CommandMistake.TheVariants as mistake

-- a mistake of a sentence, and not of a word
abbrev pub is_of_sentence : CommandMistake → Bool
is_of_sentence (mistake.Sentence line flaw) = true
is_of_sentence mistake.SentenceCall = true
is_of_sentence mistake.End = true
is_of_sentence _ = false

-- a word says nothing of what must never happen
abbrev pub is_wrong_never : List ℕ → Bool
is_wrong_never w = not (is_some (never_named w)) && not (is_some (never_at_named w))

-- a word is the name of none of these tasks
abbrev pub is_wrong_task : List TaskConfig → List ℕ → Bool
is_wrong_task tasks w = not (list_any (λ t. bytes_eq (name_text t.name) w) tasks)

abbrev pub word_or_none : Option (Bor (List ℕ)) → List ℕ
word_or_none None = []
word_or_none (Some w) = w.now

-- the first of these words that is so
abbrev pub first_word : (List ℕ → Bool) → Words → List ℕ
first_word is words = word_or_none (find (λ w. is w.now) words)
