-- Journals and their words.
use Rattle.std.proofs.Common.{◌≡◌, ℕ, zero, suc, ◌+◌, ◌<◌, ◌≤◌, ◌⊎◌, Some, None, List, [], ◌∷◌, ◌++◌, length, take, set}
use Rattle.std.proofs.Common.{refl, sym, ap, ◌∙◌, arith, append_assoc, rules, inl, inr, ⊎_elim, add-one}
use Rattle.std.specs.Prelude.{slice_index, slice_get, All}
use Rattle.std.proofs.lemmas.List.{append-nil}
use Rattle.std.proofs.lemmas.Option.{get_or_from_slice_get}
use mathlib.Core.Option.{some, some-injective, some-ne-none}
use mathlib.Core.List.{IsPrefix}
use lib.ListN.{get_elem?}
use Rattle.fmp_journal.specs.declared.entry.JournalEntry.{JournalEntry}
use Rattle.fmp_journal.specs.Words.{word_of, entry_of, words_of, IsEntry}
use Rattle.fmp_journal.specs.Rule.{IsEntryOf}
use Rattle.fmp_journal.specs.Seats.{events, RowId, SeatState, AreFirst}

pub entry_of-word : (x : JournalEntry) → IsEntry x → entry_of (word_of x) ≡ Some x
entry_of-word x small = search rules

-- all entries but the first
all_later : (P : JournalEntry → Type 0) (x : JournalEntry) (xs : List JournalEntry) → All P (x ∷ xs) → All P xs
all_later P x xs all k d lt = all (suc k) d (omega arith)

-- each word is that of the entry at its place, or empty
pub entry_of-words : (seats : ℕ) (journal : List JournalEntry) (i : ℕ) → All (IsEntryOf seats) journal
    → entry_of (slice_index (words_of journal) i) ≡ slice_get journal i
entry_of-words seats [] i all = refl
entry_of-words seats (x ∷ xs) zero all = entry_of-word x (all zero x (omega arith)).1
entry_of-words seats (x ∷ xs) (suc i) all = entry_of-words seats xs i (all_later (IsEntryOf seats) x xs all)

pub word_past : (journal : List JournalEntry) (i : ℕ) → length journal ≤ i → slice_index (words_of journal) i ≡ 0
word_past [] i past = refl
word_past (x ∷ xs) zero past = absurd (omega arith)
word_past (x ∷ xs) (suc i) past = word_past xs i (omega arith)

pub past_of-none : (xs : List JournalEntry) (i : ℕ) → slice_get xs i ≡ None → length xs ≤ i
past_of-none [] i e = omega arith
past_of-none (x ∷ xs) zero e = absurd (cc)
past_of-none (x ∷ xs) (suc i) e = let r = past_of-none xs i e in omega arith

-- the words after a store at the first empty one
pub words_more : (words : List ℕ) (journal : List JournalEntry) (x : JournalEntry) → length journal < length words
    → ((i : ℕ) → slice_index words i ≡ slice_index (words_of journal) i)
    → (i : ℕ) → slice_index (set words (length journal) (word_of x)) i ≡ slice_index (words_of (journal ++ x ∷ [])) i
words_more [] journal x lt h i = absurd (omega arith)
words_more (w ∷ words) [] x lt h zero = refl
words_more (w ∷ words) [] x lt h (suc i) = h (suc i)
words_more (w ∷ words) (y ∷ journal) x lt h zero = h zero
words_more (w ∷ words) (y ∷ journal) x lt h (suc i) = words_more words journal x (omega arith) (λ j. h (suc j)) i

pub prefix_more : (xs ys zs : List JournalEntry) → IsPrefix xs ys → IsPrefix xs (ys ++ zs)
prefix_more xs ys zs p = (p.0 ++ zs, sym (append_assoc xs p.0 zs) ∙ ap (λ l. l ++ zs) p.1)

pub prefix_self : (xs : List JournalEntry) → IsPrefix xs xs
prefix_self xs = ([], append-nil xs)

pub prefix_length : (xs ys : List JournalEntry) → IsPrefix xs ys → length xs ≤ length ys
prefix_length [] ys p = omega arith
prefix_length (x ∷ xs) [] p = absurd (cc (p.1))
prefix_length (x ∷ xs) (y ∷ ys) p = let r = prefix_length xs ys (p.0, cc (p.1)) in omega arith

pub snoc_at : {A : Type 0} (l : List A) (a b : A) (j n : ℕ) → length l ≡ n → get_elem? (l ++ a ∷ []) j ≡ some b
    → (get_elem? l j ≡ some b) ⊎ ((j ≡ n) × (a ≡ b))
snoc_at [] a b zero n is e = inr (is, some-injective a b e)
snoc_at [] a b (suc j) n is e = absurd (some-ne-none b (sym e))
snoc_at (x ∷ xs) a b zero n is e = inl e
snoc_at (x ∷ xs) a b (suc j) zero is e = absurd (omega arith)
snoc_at (x ∷ xs) a b (suc j) (suc n) is e = ⊎_elim (λ t. inl t) (λ (t : (j ≡ n) × (a ≡ b)). inr (ap suc t.0, t.1))
    (snoc_at xs a b j n (omega arith) e)

-- the first events of a journal, and one more, where only a beginning of the journal was known before
given_suc : (old now : List JournalEntry) (place : ℕ) (x : JournalEntry) → IsPrefix old now → place ≤ length old
    → slice_get now place ≡ Some x → take (suc place) (events now) ≡ take place (events old) ++ x.event ∷ []
given_suc old [] place x p le e = absurd (cc)
given_suc old (y ∷ now) zero x p le e = cc
given_suc [] (y ∷ now) (suc place) x p le e = absurd (omega arith)
given_suc (z ∷ old) (y ∷ now) (suc place) x p le e = let same : y
    ≡ z = cc (p.1) in let rest = given_suc old now place x (p.0, cc (p.1)) (omega arith) e in λ i. (same i).event
    ∷ rest i

pub given_more : (old now : List JournalEntry) (place : ℕ) (x : JournalEntry) → IsPrefix old now → place ≤ length old
    → slice_get now place ≡ Some x → take (place + 1) (events now) ≡ take place (events old) ++ x.event ∷ []
given_more old now place x p le e = ap (λ n. take n (events now)) (add-one place) ∙ given_suc old now place x p le e

pub all_here : (row : RowId) (seats : List SeatState) (n : ℕ) → AreFirst row n seats
    → All (λ seat. seat.row ≡ row) seats
all_here row seats n new i d lt = ap (λ (s : SeatState). s.row) (get_or_from_slice_get seats i _ d
    (new.1 i (omega (arith, new.0))))
