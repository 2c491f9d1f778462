-- What the calls of a board make of a seat.
use Rattle.std.proofs.Common.{◌≡◌, ℕ, List, [], ◌∷◌, ◌++◌, Option, Some, None, Result, Ok, Err, length, refl, sym, ap}
use Rattle.std.proofs.Common.{◌∙◌, subst, append_assoc, arith}
use Rattle.std.specs.Prelude.{OnOk, OnErr, IfSome}
use Rattle.std.proofs.lemmas.List.{append-nil}
use Rattle.std.proofs.lemmas.List.Elements.{All-tail}
use Rattle.std.specs.List.{All}
use Rattle.std.proofs.lemmas.Bool.Decides.{nat_tests}
use mathlib.Core.List.{IsPrefix}
use Rattle.fmp_base.specs.Steps.{Reaction, Nothing, Did}
use Rattle.fmp_base.specs.Steps as steps
use Rattle.fmp_image_bytes.specs.Images.{ImageTables}
use Rattle.fmp_journal.specs.declared.entry.JournalEntry.{JournalEntry}
use Rattle.fmp_journal.specs.Seats.{RowId, SeatState}
use Rattle.fmp_journal.specs.Views.{own, times, without}
use Rattle.fmp_board.specs.declared.fault.BoardFault.{BoardFault}
use Rattle.fmp_journal.specs.declared.receipt.Receipt.{Receipt}
use Rattle.fmp_board.specs.Boards.{BookState, HasCounted, IsAt, IsJournal}
use Rattle.fmp_board.specs.Outcomes.{Drew, IsDrawn, TicketState, actor_after}
use Rattle.fmp_journal.specs.Receipts.{journal_after, marks_after, receipt_of}
use Rattle.fmp_board.specs.Visits.{Kept, Visited, entered, journaled, shown, unmarked}

pub prefix_then : (xs ys zs : List JournalEntry) → IsPrefix xs ys → IsPrefix ys zs → IsPrefix xs zs
prefix_then xs ys zs p q = (
  p.0 ++ q.0,
  sym (append_assoc xs p.0 q.0) ∙ ap (λ (l : List JournalEntry). l ++ q.0) p.1
      ∙ q.1,
)

pub prefix_same : (xs : List JournalEntry) → IsPrefix xs xs
prefix_same xs = ([], append-nil xs)

abbrev seeing : SeatState → SeatState → SeatState
seeing was now = record was { seen = now.seen; mine = now.mine }

-- a seat that is shown a journal
pub visited : (i : ImageTables) (n : ℕ) (row : RowId) (was now : SeatState) (b : BookState) → now ≡ shown was b
    → IsPrefix was.seen b.journal
    → IsJournal i n row.capacity row.seats b.journal → length (own was.number b.journal) ≡ now.mine
    → Visited i n row was now
visited i n row was now b is grows journal counted = record {
  same = is ∙ sym (ap (seeing was) is);
  grows = subst (IsPrefix was.seen) (sym (ap (λ (s : SeatState). s.seen) is)) grows;
  journal = subst (IsJournal i n row.capacity row.seats) (sym (ap (λ (s : SeatState). s.seen) is)) journal;
  counted = ap (λ (s : SeatState). length (own s.number s.seen)) is ∙ counted;
}

-- where no mark is left, it counts no entry
pub none_counted : (was now : SeatState) (b : BookState) → now ≡ shown was b → b.marks ≡ [] → now.mine ≡ was.mine
none_counted was now b is none =
    let count : times was.number b.marks ≡ 0 = ap (times was.number) none in
    ap (λ (s : SeatState). s.mine) is ∙ omega (arith, count)

-- and the book stays as it is
pub none_unmarked : (b now : BookState) (n : ℕ) → now ≡ unmarked b n → b.marks ≡ [] → now ≡ b
none_unmarked b now n is none =
    is ∙ ap (λ (xs : List ℕ). record b { marks = without n xs }) none
    ∙ sym (ap (λ (xs : List ℕ). record b { marks = xs }) none)

-- then it has counted its entries in what it is shown
pub counted_by : (i : ImageTables) (n : ℕ) (row : RowId) (was now : SeatState) (journal : List JournalEntry)
    → Visited i n row was now → now.mine ≡ was.mine
    → now.seen ≡ journal → HasCounted journal was
counted_by i n row was now journal v mine is =
    let number : now.number ≡ was.number = ap (λ (s : SeatState). s.number) v.same in (
      subst (IsPrefix was.seen) is v.grows,
      ap (λ (m : ℕ). length (own m journal)) (sym number)
          ∙ ap (λ (xs : List JournalEntry). length (own now.number xs)) (sym is) ∙ v.counted ∙ mine,
    )

-- seats, one after the other

pub rest_at : (row : RowId) (rest next : List SeatState) (x : SeatState) → All (IsAt row) rest → rest ≡ x ∷ next
    → All (IsAt row) next
rest_at row rest next x all r = All-tail (IsAt row) x next (subst (All (IsAt row)) r all)

pub all_counted : (P : SeatState → Type 0) (first rest seats : List SeatState) → first ++ rest ≡ seats → length rest
    ≡ 0 → All P first → All P seats
all_counted P first [] seats are none all = subst (All P) (sym (append-nil first) ∙ are) all
all_counted P first (x ∷ rest) seats are none all = absurd (omega (arith, none))

-- two visits
pub visited_on : (i : ImageTables) (n : ℕ) (row : RowId) (was mid now : SeatState) → Visited i n row was mid
    → Visited i n row mid now → Visited i n row was now
visited_on i n row was mid now v w = record {
  same = w.same ∙ ap (λ (s : SeatState). seeing s now) v.same;
  grows = prefix_then was.seen mid.seen now.seen v.grows w.grows;
  journal = w.journal;
  counted = w.counted;
}

-- what was drawn after a beginning of a journal was drawn after one of a longer journal
pub drawn_later : (i : ImageTables) (n : ℕ) (was now : List JournalEntry) (t : TicketState) → IsDrawn i n was t
    → IsPrefix was now → IsDrawn i n now t
drawn_later i n was now t d p = record {
  is_of = d.is_of;
  begin = d.begin;
  begins = prefix_then d.begin was now d.begins p;
  actor_is = d.actor_is;
}

-- who draws a ticket after a journal
pub drawn_here : (i : ImageTables) (n : ℕ) (journal : List JournalEntry) (p : ℕ) (result : Option TicketState)
    → Drew i n journal p result → IfSome result (IsDrawn i n journal)
drawn_here i n journal p None h = tt
drawn_here i n journal p (Some t) h = record {
  is_of = h.0;
  begin = journal;
  begins = prefix_same journal;
  actor_is = subst (λ (q : ℕ). actor_after i n journal q ≡ Some t.actor) (sym h.1) h.2;
}

-- marks of an answer

marks_counted : {C : Type 0} (n before : ℕ) (x : Reaction C) → times n (marks_after [] n x)
    ≡ journaled (Ok (receipt_of before x))
marks_counted n before Nothing = refl
marks_counted n before (Did d) = grind (arith, nat_tests)
marks_counted n before (steps.Kept p w) = grind (arith, nat_tests)

marks_gone : {C : Type 0} (n : ℕ) (x : Reaction C) → without n (marks_after [] n x) ≡ []
marks_gone n Nothing = refl
marks_gone n (Did d) = grind (arith, nat_tests)
marks_gone n (steps.Kept p w) = grind (arith, nat_tests)

-- what an answer leaves of a book that had no marks: its journal and its marks
pub record Answered {C : Type 0} (was now : BookState) (number : ℕ) (x : JournalEntry) (r : Reaction C)
    (result : Result Receipt BoardFault) : Type 0 where
  pub journal : now.journal ≡ entered was.journal x r result
  pub gone : without number now.marks ≡ []
  pub counted : times number now.marks ≡ journaled result

pub answered : {C : Type 0} (was now : BookState) (number before : ℕ) (x : JournalEntry) (r : Reaction C)
    (result : Result Receipt BoardFault) → was.marks ≡ []
    → OnOk result (now.journal ≡ journal_after was.journal x r)
    → OnOk result (now.marks ≡ marks_after was.marks number r) → OnErr result (now ≡ was)
    → ((y : Receipt) → result ≡ Ok y → y ≡ receipt_of before r) → Answered was now number x r result
answered was now number before x r (Ok y) none journal marks same is =
    let marked = marks ∙ ap (λ (xs : List ℕ). marks_after xs number r) none in
    record {
      journal = journal;
      gone = ap (without number) marked ∙ marks_gone number r;
      counted = ap (times number) marked ∙ marks_counted number before r
          ∙ ap (λ (z : Receipt). journaled (Ok z)) (sym (is y refl));
    }
answered was now number before x r (Err f) none journal marks same is =
    let marked = ap (λ (b : BookState). b.marks) same ∙ none in
    record {
      journal = ap (λ (b : BookState). b.journal) same;
      gone = ap (without number) marked;
      counted = ap (times number) marked;
    }

-- calls, one after another

pub kept_none : (i : ImageTables) (n : ℕ) (row : RowId) (was now : SeatState) → now ≡ was → Kept i n row was now
kept_none i n row was now is = record {
  same = is ∙ sym (ap (seeing was) is);
  grows = subst (IsPrefix was.seen) (sym (ap (λ (s : SeatState). s.seen) is)) (prefix_same was.seen);
  journal = λ j. subst (IsJournal i n row.capacity row.seats) (sym (ap (λ (s : SeatState). s.seen) is)) j;
}

pub kept_more : (i : ImageTables) (n : ℕ) (row : RowId) (was mid now : SeatState) → Kept i n row was mid
    → Visited i n row mid now → Kept i n row was now
kept_more i n row was mid now k v = record {
  same = v.same ∙ ap (λ (s : SeatState). seeing s now) k.same;
  grows = prefix_then was.seen mid.seen now.seen k.grows v.grows;
  journal = λ j. v.journal;
}

pub kept_on : (i : ImageTables) (n : ℕ) (row : RowId) (was mid now : SeatState) → Kept i n row was mid
    → Kept i n row mid now → Kept i n row was now
kept_on i n row was mid now k l = record {
  same = l.same ∙ ap (λ (s : SeatState). seeing s now) k.same;
  grows = prefix_then was.seen mid.seen now.seen k.grows l.grows;
  journal = λ j. l.journal (k.journal j);
}
