-- The events of a journal, copied one after another.
use Rattle.std.proofs.Common.{◌≡◌, ℕ, ◌+◌, ◌<◌, ◌≤◌, ◌++◌, List, [], ◌∷◌, Option, Some, None, length, take, ap, sym}
use Rattle.std.proofs.Common.{◌∙◌, arith, length-append}
use Rattle.std.specs.Prelude.{slice_get}
use Rattle.std.proofs.lemmas.Option.{slice_get_within}
use Rattle.fmp_base.specs.declared.events.Event.{Event}
use Rattle.fmp_journal.specs.declared.entry.JournalEntry.{JournalEntry}
use Rattle.fmp_journal.specs.Seats.{ScribeState, events}
use Rattle.fmp_journal.proofs.Rows.{given_more, past_of-none, prefix_self}

-- one more is copied
pub copied_more : (was now : ScribeState) (place : ℕ) (found : Option JournalEntry) (x : JournalEntry)
    (items more : List Event) → now ≡ was
    → found ≡ slice_get now.journal place → found ≡ Some x → items ≡ take place (events was.journal) → more ≡ items
    ++ x.event ∷ []
    → more ≡ take (place + 1) (events was.journal)
copied_more was now place found x items more same e is before m =
    let at : slice_get was.journal place ≡ Some x = ap (λ (s : ScribeState). slice_get s.journal place) (sym same)
    ∙ sym e ∙ is in
    let le : place ≤ length was.journal = omega (arith, slice_get_within was.journal place x at) in
    m ∙ ap (λ (l : List Event). l ++ x.event ∷ []) before ∙ sym (given_more was.journal was.journal place x
    (prefix_self was.journal) le at)

-- there is an entry at each place before the end
pub none_past : (was now : ScribeState) (place : ℕ) (found : Option JournalEntry) → now ≡ was → found
    ≡ slice_get now.journal place → found ≡ None → place < length was.journal → ⊥
none_past was now place found same e is lt =
    let past = past_of-none was.journal place (ap (λ (s : ScribeState). slice_get s.journal place) (sym same) ∙ sym e
    ∙ is) in
    omega (arith, past, lt)

-- this many are copied then
pub one_longer : (items more : List Event) (x : Event) (n : ℕ) → more ≡ items ++ x ∷ [] → length items ≡ n
    → length more ≡ n + 1
one_longer items more x n m count = ap length m ∙ length-append items (x ∷ []) ∙ ap (λ (k : ℕ). k + 1) count
