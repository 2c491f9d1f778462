-- Laws of the words.
use Rattle.std.specs.Prelude.{◌≡◌, ℕ, Some, None}
use Rattle.fmp_journal.specs.declared.entry.JournalEntry.{JournalEntry}
use Rattle.fmp_journal.specs.Words.{word_of, entry_of, IsEntry}

-- each entry is read back from its word, each word that is read as an entry is that entry's, and the empty word is
-- none's
pub record WordsReadBack : Type 0 where
  pub back : (x : JournalEntry) → IsEntry x → entry_of (word_of x) ≡ Some x
  pub one_word : (word : ℕ) (x : JournalEntry) → entry_of word ≡ Some x → IsEntry x × (word_of x ≡ word)
  pub empty : entry_of 0 ≡ None
