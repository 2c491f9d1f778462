use Rattle.std.proofs.Common.{◌≡◌, ℕ, ◌<◌, nat_eq, slice_index_or, refl, arith}
use Rattle.std.proofs.lemmas.Bool.{agree_below_at}
use Rattle.fmp_base.specs.Words.{is_word}
use Rattle.fmp_lex.specs.Scanning.{is_space}
use Rattle.fmp_lex.specs.declared.scanning.TheConstants.{CLASSES}
use Rattle.fmp_lex.proofs.scanning.is_in.Goals as goal

-- the table is held against the definition at each of the 256 bytes, by computing
word_byte : (b : ℕ) → b < 256 → nat_eq (slice_index_or CLASSES b 0) 49 ≡ is_word b
word_byte b lt = agree_below_at (λ k. nat_eq (slice_index_or CLASSES k 0) 49) is_word 256 b refl lt

pub returns-in-Word : goal.returns-in-Word
returns-in-Word c = rw c.in-Word.is (word_byte c.args.b (omega arith))

space_byte : (b : ℕ) → b < 256 → nat_eq (slice_index_or CLASSES b 0) 50 ≡ is_space b
space_byte b lt = agree_below_at (λ k. nat_eq (slice_index_or CLASSES k 0) 50) is_space 256 b refl lt

pub returns-in-Space : goal.returns-in-Space
returns-in-Space c = rw c.in-Space.is (space_byte c.args.b (omega arith))
