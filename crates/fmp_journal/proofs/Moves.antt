-- Each step keeps the rule.
use Rattle.std.proofs.Common.{◌≡◌, ◌≢◌, ℕ, zero, suc, ◌+◌, ◌<◌, ◌≤◌, ◌==◌, true, false, true≢false, cond, Option, Some}
use Rattle.std.proofs.Common.{None, List, [], ◌∷◌, ◌++◌, length, set, refl, sym, ap, ◌∙◌, subst, arith, ⊎_elim}
use Rattle.std.proofs.Common.{replicate, length-append}
use Rattle.std.specs.Prelude.{slice_index, slice_get, All, MatchOption}
use Rattle.std.proofs.Math.ListN.{length-set, length-replicate}
use Rattle.std.proofs.lemmas.List.{set-get_or}
use Rattle.std.proofs.lemmas.List.Elements.{All-append}
use Rattle.std.proofs.lemmas.Bool.Decides.{nat_tests}
use mathlib.Core.Option.{none, some, some-injective, some-ne-none}
use mathlib.Core.List.{IsPrefix}
use lib.ListN.{get_elem?}
use Rattle.atomic_table.specs.Table.{Me, keeps, Allows, Splits, Joins, step, opening}
use Rattle.atomic_table.proofs.Lists.{at_set}
use Rattle.fmp_journal.specs.declared.entry.JournalEntry.{JournalEntry}
use Rattle.fmp_journal.specs.declared.knowledge.Pen.{Pen}
use Rattle.fmp_journal.specs.declared.knowledge.SeenJournal.{SeenJournal}
use Rattle.fmp_journal.specs.declared.knowledge.View.{View}
use Rattle.fmp_journal.specs.Words.{word_of, entry_of, words_of}
use Rattle.fmp_journal.specs.Views.{own, times, without, nobody, first_view, scribe_part, seat_part, lent, after_deal}
use Rattle.fmp_journal.specs.Views.{dealt, written, looked, shown, Wrote, Read, Looked, CaughtUp}
use Rattle.fmp_journal.specs.Rule.{Whole, IsEntryOf, IsRow, PenFits, SightFits, Fits, IsKept}
use Rattle.fmp_journal.proofs.Counts.{length-own, times-snoc, times-without, times-without_else}
use Rattle.fmp_journal.proofs.Rows.{entry_of-word, entry_of-words, word_past, past_of-none, words_more, prefix_more}
use Rattle.fmp_journal.proofs.Rows.{prefix_self, prefix_length, snoc_at}

-- a view that has not got a half says nothing of it
off : false ≡ true → ⊥
off e = true≢false (sym e)

-- all views fit after one has changed
fits_set : (k : ℕ) (now : Whole) (views : List View) (id : ℕ) (w : View)
    → ((j : ℕ) (u : View) → j ≢ id → get_elem? views j ≡ some u → Fits k now j u) → Fits k now id w → (j : ℕ) (u : View)
    → get_elem? (set views id w) j ≡ some u → Fits k now j u
fits_set k now views id w others mine j u e =
    ⊎_elim
    (λ (x : (j ≡ id) × (w ≡ u)). subst (λ (y : ℕ × View). Fits k now y.0 y.1) (λ i. (sym x.0 i, x.1 i)) mine)
    (λ (x : (j ≢ id) × (get_elem? views j ≡ some u)). others j u x.0 x.1)
    (at_set views id j w u e)

-- all views fit after one has come
fits_snoc : (k : ℕ) (now : Whole) (views : List View) (w : View) (n : ℕ) → length views ≡ n
    → ((j : ℕ) (u : View) → get_elem? views j ≡ some u → Fits k now j u) → Fits k now n w → (j : ℕ) (u : View)
    → get_elem? (views ++ w ∷ []) j ≡ some u → Fits k now j u
fits_snoc k now views w n is others mine j u e =
    ⊎_elim (others j u)
    (λ (t : (j ≡ n) × (w ≡ u)). subst (λ (y : ℕ × View). Fits k now y.0 y.1) (λ i. (sym t.0 i, t.1 i)) mine)
    (snoc_at views w u j n is e)

-- nobody but the scribe has the pen
one_pen : (k : ℕ) (h : Whole) (id j : ℕ) (p q : Pen) → PenFits k h id p → j ≢ id → PenFits k h j q → ⊥
one_pen k h id j p q f ne g = ne (g.here ∙ sym f.here)

-- two seats have two numbers
two_numbers : (k : ℕ) (h : Whole) (id j : ℕ) (s t : SeenJournal) → SightFits k h id s → SightFits k h j t → j ≢ id
    → t.number ≢ s.number
two_numbers k h id j s t f g ne e = ne (g.here ∙ ap h.seat e ∙ sym f.here)

-- the same, where the scribe's view stands elsewhere
abbrev with_scribe : Whole → ℕ → Whole
with_scribe h id = record { journal = h.journal; marks = h.marks; made = h.made; scribe = id; seat = h.seat }

pen_moved : (k : ℕ) (h : Whole) (id now : ℕ) (p : Pen) → PenFits k h id p → PenFits k (with_scribe h now) now p
pen_moved k h id now p f = record {
  here = refl;
  capacity_is = f.capacity_is;
  made_is = f.made_is;
  journal_is = f.journal_is;
  marks_are = f.marks_are;
}

sight_stays : (k : ℕ) (h : Whole) (now j : ℕ) (s : SeenJournal) → SightFits k h j s
    → SightFits k (with_scribe h now) j s
sight_stays k h now j s f = record {
  here = f.here;
  capacity_is = f.capacity_is;
  was_made = f.was_made;
  begins = f.begins;
  counted = f.counted;
}

-- a word that is loaded stays
loaded : (k m : ℕ) (journal : List JournalEntry) (words : List ℕ) (i : ℕ) → IsRow k m journal words
    → IsRow k m journal (set words i (slice_index words i))
loaded k m journal words i r = subst (IsRow k m journal) (sym (set-get_or words i 0)) r

-- a store

all_one : (m : ℕ) (x : JournalEntry) → IsEntryOf m x → All (IsEntryOf m) (x ∷ [])
all_one m x may zero d lt = may
all_one m x may (suc j) d lt = absurd (omega arith)

row_more : (k m : ℕ) (journal : List JournalEntry) (x : JournalEntry) (words : List ℕ) → IsRow k m journal words
    → length journal < k → IsEntryOf m x → IsRow k m (journal ++ x ∷ []) (set words (length journal) (word_of x))
row_more k m journal x words r lt may = record {
  size = length-set words (length journal) (word_of x) ∙ r.size;
  room = omega (arith, length-append journal (x ∷ []));
  words_are = words_more words journal x (omega (arith, r.size)) r.words_are;
  entries = All-append (IsEntryOf m) journal (x ∷ []) r.entries (all_one m x may);
}

abbrev more : Whole → JournalEntry → Whole
more h x = record {
  journal = h.journal ++ x ∷ [];
  marks = h.marks ++ x.seat ∷ [];
  made = h.made;
  scribe = h.scribe;
  seat = h.seat;
}

counted_more : (n mine : ℕ) (journal : List JournalEntry) (marks : List ℕ) (x : JournalEntry)
    → length (own n journal) ≡ mine + times n marks
    → length (own n (journal ++ x ∷ [])) ≡ mine + times n (marks ++ x.seat ∷ [])
counted_more n mine journal marks x e = omega (arith, length-own n journal x, times-snoc n marks x.seat)

sight_more : (k : ℕ) (h : Whole) (x : JournalEntry) (j : ℕ) (s : SeenJournal) → SightFits k h j s
    → SightFits k (more h x) j s
sight_more k h x j s f = record {
  here = f.here;
  capacity_is = f.capacity_is;
  was_made = f.was_made;
  begins = prefix_more s.seen h.journal (x ∷ []) f.begins;
  counted = counted_more s.number s.mine h.journal h.marks x f.counted;
}

pub writes : (k m slots id : ℕ) (me : Me (Unit {0}) View) (x : JournalEntry) (at : ℕ) → me.0.has_pen ≡ true
    → length me.0.pen.journal ≡ at → at < k → IsEntryOf m x
    → Allows (IsKept k m) slots id me at (λ _. word_of x) (λ _. Wrote (step slots at (word_of x) 0 none) me (word_of x))
writes k m slots id me x at has is lt may s kept homes there room =
    let h = kept.0 in
    let f = (kept.2 id me.0 there).0 has in
    let n : length h.journal ≡ at = ap length (sym f.journal_is) ∙ is in
    let row = row_more k m h.journal x s.words kept.1 (omega arith) may in (
      written me.0 x,
      keeps,
      tt,
      (
        more h x,
        subst (λ a. IsRow k m (h.journal ++ x ∷ []) (set s.words a (word_of x))) n row,
        fits_set k (more h x) s.views id (written me.0 x)
            (λ j v ne e. let g = kept.2 j v e in (
              (λ t. absurd (one_pen k h id j me.0.pen v.pen f ne (g.0 t))),
              (λ t. sight_more k h x j v.sight (g.1 t)),
            )) (
              (λ _. record {
                here = f.here;
                capacity_is = f.capacity_is;
                made_is = f.made_is;
                journal_is = ap (λ l. l ++ x ∷ []) f.journal_is;
                marks_are = ap
                    (λ l. l ++ x.seat ∷ []) f.marks_are;
              }),
              (λ t. sight_more k h x id me.0.sight ((kept.2 id me.0 there).1 t)),
            ),
      ),
      rw (entry_of-word x may.1) refl,
    )

-- loads

-- what a read of a word adds to what was seen
abbrev Adds : (journal seen : List JournalEntry) (k i n : ℕ) → Option JournalEntry → Type 0
Adds journal seen k i n found =
    (now : List JournalEntry) × IsPrefix now journal × IsPrefix seen now × (length now ≤ k)
    × MatchOption found ((n ≡ 0) × (now ≡ seen) × (length now ≤ i)) (λ x. slice_get now i ≡ Some x)

seen_more : (journal seen : List JournalEntry) (k i : ℕ) → IsPrefix seen journal → length journal ≤ k
    → (found : Option JournalEntry) → slice_get journal i ≡ found
    → Adds journal seen k i (slice_index (words_of journal) i) found
seen_more journal seen k i p room None e =
    let past = past_of-none journal i e in
    let short = prefix_length seen journal p in
    (seen, p, prefix_self seen, omega arith, (word_past journal i past, refl, omega arith))
seen_more journal seen k i p room (Some x) e = (journal, prefix_self journal, p, room, e)

looked_fits : (k : ℕ) (h : Whole) (id : ℕ) (v : View) (now : List JournalEntry) (i n : ℕ) → Fits k h id v
    → IsPrefix now h.journal → Fits k h id (looked v now i n)
looked_fits k h id v now i n f p = (
  f.0,
  λ t. let g = f.1 t in record {
    here = g.here;
    capacity_is = g.capacity_is;
    was_made = g.was_made;
    begins = p;
    counted = g.counted;
  },
)

pub looks : (k m slots id : ℕ) (me : Me (Unit {0}) View) (i : ℕ) → me.0.has_sight ≡ true
    → Allows (IsKept k m) slots id me i (λ n. n) (Looked (step slots i 0 0 none) me)
looks k m slots id me i has s kept homes there room =
    let h = kept.0 in
    let r = kept.1 in
    let f = kept.2 id me.0 there in
    let word = slice_index s.words i in
    let same : slice_index (words_of h.journal) i ≡ word = sym (r.words_are i) in
    let found : slice_get h.journal i ≡ entry_of word = sym (entry_of-words m h.journal i r.entries)
    ∙ ap entry_of same in
    let a = subst (λ n. Adds h.journal me.0.sight.seen k i n (entry_of word)) same
    (seen_more h.journal me.0.sight.seen k i (f.1 has).begins r.room (entry_of word) found) in
    let w = looked me.0 a.0 i word in (
      w,
      keeps,
      tt,
      (
        h,
        loaded k m h.journal s.words i r,
        fits_set k h s.views id w (λ j u ne e. kept.2 j u e)
            (looked_fits k h id me.0 a.0 i word f a.1),
      ),
      (a.0, refl, a.2, subst (λ c. length a.0 ≤ c) (sym (f.1 has).capacity_is) a.3, a.4),
    )

pub reads : (k m slots id : ℕ) (me : Me (Unit {0}) View) (i : ℕ) → me.0.has_pen ≡ true
    → Allows (IsKept k m) slots id me i (λ n. n) (Read (step slots i 0 0 none) me)
reads k m slots id me i has s kept homes there room =
    let h = kept.0 in
    let p = (kept.2 id me.0 there).0 has in
    let found : entry_of (slice_index s.words i) ≡ slice_get h.journal i = ap entry_of (kept.1.words_are i)
    ∙ entry_of-words m h.journal i kept.1.entries in (
      me.0,
      keeps,
      tt,
      (
        h,
        loaded k m h.journal s.words i kept.1,
        fits_set k h s.views id me.0 (λ j u ne e. kept.2 j u e)
            (kept.2 id me.0 there),
      ),
      (refl, subst (λ l. entry_of (slice_index s.words i) ≡ slice_get l i) (sym p.journal_is) found),
    )

-- a seat is shown the journal

abbrev unmarked : Whole → ℕ → Whole
unmarked h n = record {
  journal = h.journal;
  marks = without n h.marks;
  made = h.made;
  scribe = h.scribe;
  seat = h.seat;
}

add_none : (a b : ℕ) → b ≡ 0 → a ≡ a + b
add_none a b z = omega arith

pub catches_up : (k m slots id : ℕ) (me : Me (Unit {0}) View) (i : ℕ) → me.0.has_sight ≡ true → me.0.has_pen ≡ true
    → Allows (IsKept k m) slots id me i (λ n. n) (CaughtUp (step slots i 0 0 none) me)
catches_up k m slots id me i sees has s kept homes there room =
    let h = kept.0 in
    let f = kept.2 id me.0 there in
    let p = f.0 has in
    let g = f.1 sees in
    let n = me.0.sight.number in
    let now = unmarked h n in
    let journal = p.journal_is in
    let counted : length (own n h.journal) ≡ me.0.sight.mine + times n me.0.pen.marks = g.counted
    ∙ ap (λ l. me.0.sight.mine + times n l) (sym p.marks_are) in (
      shown me.0,
      keeps,
      tt,
      (
        now,
        loaded k m h.journal s.words i kept.1,
        fits_set k now s.views id (shown me.0)
            (λ j u ne e. let q = kept.2 j u e in (
              (λ t. absurd (one_pen k h id j me.0.pen u.pen p ne (q.0 t))),
              (λ t. let r = q.1 t in record {
                here = r.here;
                capacity_is = r.capacity_is;
                was_made = r.was_made;
                begins = r.begins;
                counted = r.counted ∙ ap (λ x. u.sight.mine + x) (sym (times-without_else n u.sight.number h.marks
                    (two_numbers k h id j me.0.sight u.sight g r ne)));
              }),
            )) (
              (λ _. record {
                here = p.here;
                capacity_is = p.capacity_is;
                made_is = p.made_is;
                journal_is = journal;
                marks_are = ap (without n) p.marks_are;
              }),
              (λ _. record {
                here = g.here;
                capacity_is = g.capacity_is;
                was_made = g.was_made;
                begins = subst (λ l. IsPrefix l h.journal) (sym journal) (prefix_self h.journal);
                counted = counted ∙ add_none (me.0.sight.mine + times n me.0.pen.marks) (times n (without n h.marks))
                    (times-without n h.marks);
              }),
            ),
      ),
      (
        refl,
        subst (IsPrefix me.0.sight.seen) (sym journal) g.begins,
        subst (λ (y : ℕ × List JournalEntry). length y.1 ≤ y.0) (λ x. (sym g.capacity_is x, sym journal x)) kept.1.room,
        ap (λ l. length (own n l)) journal ∙ counted,
      ),
    )

pub lends : (k m id : ℕ) (v : View) (other : ℕ) (w : View) → w.has_pen ≡ true → w.has_sight ≡ false
    → Joins (IsKept k m) id v other w (lent v w) nobody
lends k m id v other w has idle s kept at ne there =
    let h = kept.0 in
    let f = kept.2 id v at in
    let was =
    ⊎_elim (λ (t : (other ≡ id) × (lent v w ≡ w)). absurd (ne t.0))
    (λ (t : (other ≢ id) × (get_elem? s.views other ≡ some w)). kept.2 other w t.1)
    (at_set s.views id other (lent v w) w there) in
    let p = was.0 has in
    let now = with_scribe h id in
    let mine : Fits k now id (lent v w) = (
      (λ _. pen_moved k h other id w.pen p),
      (λ t. sight_stays k h id id v.sight (f.1 t)),
    ) in
    let all : (j : ℕ) (u : View) → j ≢ other → get_elem? (set s.views id (lent v w)) j ≡ some u
    → Fits k now j u = λ j u apart e.
    ⊎_elim
    (λ (t : (j ≡ id) × (lent v w ≡ u)). subst (λ (y : ℕ × View). Fits k now y.0 y.1) (λ i. (sym t.0 i, t.1 i)) mine)
    (λ (t : (j ≢ id) × (get_elem? s.views j ≡ some u)). let q = kept.2 j u t.1 in
    ((λ y. absurd (one_pen k h other j w.pen u.pen p apart (q.0 y))), (λ y. sight_stays k h id j u.sight (q.1 y))))
    (at_set s.views id j (lent v w) u e) in (
      now,
      kept.1,
      fits_set k now (set s.views id (lent v w)) other nobody all
          ((λ t. absurd (off t)), (λ t. absurd (off t))),
    )

pub parts : (k m id : ℕ) (v : View) → v.has_pen ≡ true → Splits (IsKept k m) id v (seat_part v) (scribe_part v)
parts k m id v has s kept there =
    let h = kept.0 in
    let f = kept.2 id v there in
    let p = f.0 has in
    let n = length s.views in
    let now = with_scribe h n in
    let all : (j : ℕ) (u : View) → get_elem? (set s.views id (seat_part v)) j ≡ some u → Fits k now j u =
    fits_set k now s.views id (seat_part v)
    (λ j u ne e. let q = kept.2 j u e in (
      (λ y. absurd (one_pen k h id j v.pen u.pen p ne (q.0 y))),
      (λ y. sight_stays k h n j u.sight (q.1 y)),
    ))
    ((λ t. absurd (off t)), (λ y. sight_stays k h n id v.sight (f.1 y))) in (
      now,
      kept.1,
      fits_snoc k now (set s.views id (seat_part v)) (scribe_part v) n (length-set s.views id (seat_part v)) all
          ((λ _. pen_moved k h id n v.pen p), (λ t. absurd (off t))),
    )

-- the seats are made

test_true : (a b : ℕ) → a ≡ b → (a == b) ≡ true
test_true a b e = grind (arith, nat_tests)

test_false : (a b : ℕ) → a < b → (a == b) ≡ false
test_false a b lt = grind (arith, nat_tests)

one_later : (a b : ℕ) → a < b → a < b + 1
one_later a b lt = omega arith

last_one : (a b : ℕ) → a ≡ b → a < b + 1
last_one a b e = omega arith

pub deals : (k m id : ℕ) (v : View) → v.has_pen ≡ true → v.pen.journal ≡ [] → v.pen.marks ≡ []
    → Splits (IsKept k m) id v (after_deal v) (dealt v)
deals k m id v has no_journal no_marks s kept there =
    let h = kept.0 in
    let f = kept.2 id v there in
    let p = f.0 has in
    let n = length s.views in
    let at : ℕ → ℕ = λ x. cond (x == h.made) n (h.seat x) in
    let now : Whole = record { journal = h.journal; marks = h.marks; made = h.made + 1; scribe = h.scribe; seat = at }
    in
    let old : (j : ℕ) (t : SeenJournal) → SightFits k h j t → SightFits k now j t = λ j t r. record {
      here = r.here ∙ sym (ap (λ b. cond b n (h.seat t.number)) (test_false t.number h.made r.was_made));
      capacity_is = r.capacity_is;
      was_made = one_later t.number h.made r.was_made;
      begins = r.begins;
      counted = r.counted;
    } in
    let all : (j : ℕ) (u : View) → get_elem? (set s.views id (after_deal v)) j ≡ some u → Fits k now j u =
    fits_set k now s.views id (after_deal v)
    (λ j u ne e. let q = kept.2 j u e in (
      (λ y. absurd (one_pen k h id j v.pen u.pen p ne (q.0 y))),
      (λ y. old j u.sight (q.1 y)),
    )) (
      (λ _. record {
        here = p.here;
        capacity_is = p.capacity_is;
        made_is = ap (λ x. x + 1) p.made_is;
        journal_is = p.journal_is;
        marks_are = p.marks_are;
      }),
      (λ y. old id v.sight (f.1 y)),
    ) in
    let journal : h.journal ≡ [] = sym p.journal_is ∙ no_journal in
    let marks : h.marks ≡ [] = sym p.marks_are ∙ no_marks in (
      now,
      kept.1,
      fits_snoc k now (set s.views id (after_deal v)) (dealt v) n (length-set s.views id (after_deal v)) all (
        (λ t. absurd (off t)),
        (λ _. record {
          here = sym (ap (λ b. cond b n (h.seat v.pen.made)) (test_true v.pen.made h.made p.made_is));
          capacity_is = p.capacity_is;
          was_made = last_one v.pen.made h.made p.made_is;
          begins = (h.journal, refl);
          counted = ap (λ l. length (own v.pen.made l)) journal ∙ ap (λ x. 0 + times v.pen.made x) (sym marks);
        }),
      ),
    )

-- the start

no_word : (k i : ℕ) → slice_index (replicate k 0) i ≡ 0
no_word zero i = refl
no_word (suc k) zero = refl
no_word (suc k) (suc i) = no_word k i

abbrev first_whole : Whole
first_whole = record { journal = []; marks = []; made = 0; scribe = 0; seat = λ _. 0 }

first_fits : (k m id : ℕ) (v : View) → get_elem? (first_view k m ∷ []) id ≡ some v → Fits k first_whole id v
first_fits k m zero v e =
    subst (Fits k first_whole 0) (some-injective _ _ e) (
      (λ _. record { here = refl; capacity_is = refl; made_is = refl; journal_is = refl; marks_are = refl }),
      (λ t. absurd (off t)),
    )
first_fits k m (suc id) v e = absurd (some-ne-none v (sym e))

pub begins : (k m : ℕ) (words : List ℕ) → words ≡ replicate k 0 → IsKept k m (opening words [] (first_view k m))
begins k m words zeros = (
  first_whole,
  record {
    size = ap length zeros ∙ length-replicate k 0;
    room = omega arith;
    words_are = λ i. ap (λ ws. slice_index ws i) zeros ∙ no_word k i;
    entries = λ i d lt. absurd (no_entry i lt);
  },
  first_fits k m,
)
  where
    no_entry : (i : ℕ) → i < 0 → ⊥
    no_entry i lt = omega arith
