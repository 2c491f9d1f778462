-- What a thread has added to the journal by its seat.
use Rattle.std.proofs.Common.{◌≡◌, ◌≢◌, ◌⊎◌, inl, inr, ℕ, zero, suc, ◌+◌, ◌<◌, ◌≤◌, ◌==◌, List}
use Rattle.std.proofs.Common.{[], ◌∷◌, ◌++◌, Some, None, Result, Ok, Err, length, replicate, refl, sym, ap, ◌∙◌}
use Rattle.std.proofs.Common.{subst, append_assoc, arith, length-append}
use Rattle.std.specs.Prelude.{IfErr}
use Rattle.std.proofs.lemmas.List.{append-nil, length-replicate}
use Rattle.std.proofs.lemmas.List.Elements.{filter-append}
use Rattle.std.proofs.lemmas.Bool.Decides.{nat_tests}
use lib.ListN.{replicate-append-replicate}
use mathlib.Core.List.{IsPrefix}
use Rattle.fmp_base.specs.declared.events.Event.{Event}
use Rattle.fmp_base.specs.declared.events.Event.TheVariants.{Int, Run, Tick}
use Rattle.fmp_base.specs.Steps.{Reaction, Nothing, Did}
use Rattle.fmp_base.specs.Steps as steps
use Rattle.fmp_image_bytes.specs.Images.{ImageTables}
use Rattle.fmp_journal.specs.declared.entry.JournalEntry.{JournalEntry}
use Rattle.fmp_journal.specs.Seats.{RowId, SeatState, events}
use Rattle.fmp_journal.specs.Views.{own}
use Rattle.fmp_journal.specs.Words.{entry}
use Rattle.fmp_board.specs.declared.fault.BoardFault.{BoardFault}
use Rattle.fmp_board.specs.declared.fault.BoardFault.TheVariants as fault
use Rattle.fmp_journal.specs.declared.receipt.Receipt.{Receipt}
use Rattle.fmp_board.specs.Outcomes.{AnsweredAfter, Drew, HasNoActorAfter, IsWhyRefused, Submitted, TicketState}
use Rattle.fmp_board.specs.Outcomes.{actor_after, stamp_after}
use Rattle.fmp_journal.specs.Receipts.{receipt_of}
use Rattle.fmp_replay.specs.Replays.{reaction}
use Rattle.fmp_board.specs.Visits.{FedAfter, Fed, Kept, Visited, entered, journaled}
use Rattle.fmp_hostrun.specs.Works.{Added, DidOnce, DidPart, DidTimes, IsCounted, IsFed, IsWhyStopped}
use Rattle.fmp_board.proofs.Drawing.{stamp_of_actor}
use Rattle.fmp_board.proofs.Visiting.{kept_none, kept_more, kept_on, prefix_then}

-- entries of one seat

no_more : {X : Type 0} (xs : List X) → length xs ≡ 0 → xs ≡ []
no_more [] e = refl
no_more (x ∷ xs) e = absurd (omega arith)

-- a journal that has no more entries of a seat than a beginning of it has the same
pub own_same : (n : ℕ) (xs ys : List JournalEntry) → IsPrefix xs ys → length (own n ys) ≡ length (own n xs) → own n ys
    ≡ own n xs
own_same n xs ys p count =
    let parts : own n ys ≡ own n xs ++ own n p.0 = ap (own n) (sym p.1)
    ∙ filter-append (λ (x : JournalEntry). x.seat == n) xs p.0 in
    let none : length (own n p.0) ≡ 0 = omega (arith, ap length parts, length-append (own n xs) (own n p.0), count) in
    parts ∙ ap (λ (zs : List JournalEntry). own n xs ++ zs) (no_more (own n p.0) none) ∙ append-nil (own n xs)

own_one : (n : ℕ) (e : Event) → own n (entry n e ∷ []) ≡ entry n e ∷ []
own_one n e = grind (arith, nat_tests)

own_last : (n : ℕ) (xs : List JournalEntry) (e : Event) → own n (xs ++ entry n e ∷ []) ≡ own n xs ++ entry n e ∷ []
own_last n xs e = filter-append (λ (x : JournalEntry). x.seat == n) xs (entry n e ∷ [])
    ∙ ap (λ (zs : List JournalEntry). own n xs ++ zs) (own_one n e)

count_receipt : {C : Type 0} (before : ℕ) (r : Reaction C) (y : Receipt) → y ≡ receipt_of before r → journaled (Ok y)
    ≡ journaled (Ok (receipt_of before r))
count_receipt before r y is = ap (λ (z : Receipt). journaled (Ok z)) is

-- what an answer has added to what a seat has seen of its own, by how many entries it has counted since
answer_added : {C : Type 0} (n before : ℕ) (was now journal : List JournalEntry) (e : Event) (r : Reaction C)
    (result : Result Receipt BoardFault) → IsPrefix was journal
    → now ≡ entered journal (entry n e) r result → ((y : Receipt) → result ≡ Ok y → y ≡ receipt_of before r)
    → length (own n now) ≡ length (own n was) + journaled result → own n now ≡ own n was
    ++ replicate (journaled result) (entry n e)
answer_added n before was now journal e r (Err f) p is answer count =
    own_same n was now (subst (IsPrefix was) (sym is) p) (omega (arith, count)) ∙ sym (append-nil (own n was))
answer_added {C} n before was now journal e Nothing (Ok y) p is answer count =
    let one : journaled (Ok y) ≡ 0 = count_receipt {C = C} before Nothing y (answer y refl) in
    own_same n was now (subst (IsPrefix was) (sym is) p) (omega (arith, count, one)) ∙ sym (append-nil (own n was))
    ∙ ap (λ (k : ℕ). own n was ++ replicate k (entry n e)) (sym one)
answer_added n before was now journal e (Did d) (Ok y) p is answer count =
    let one : journaled (Ok y) ≡ 1 = count_receipt before (Did d) y (answer y refl) ∙ grind (arith, nat_tests) in
    let last : own n now ≡ own n journal ++ entry n e ∷ [] = ap (own n) is ∙ own_last n journal e in
    let same = own_same n was journal p (omega (
      arith,
      ap length last,
      length-append (own n journal)
          (entry n e ∷ []),
      count,
      one,
    )) in
    last ∙ ap (λ (xs : List JournalEntry). xs ++ entry n e ∷ []) same
    ∙ ap (λ (k : ℕ). own n was ++ replicate k (entry n e)) (sym one)
answer_added n before was now journal e (steps.Kept p w) (Ok y) begins is answer count =
    let one : journaled (Ok y) ≡ 1 = count_receipt before (steps.Kept p w) y (answer y refl)
    ∙ grind (arith, nat_tests) in
    let last : own n now ≡ own n journal ++ entry n e ∷ [] = ap (own n) is ∙ own_last n journal e in
    let same = own_same n was journal begins (omega (
      arith,
      ap length last,
      length-append (own n journal)
          (entry n e ∷ []),
      count,
      one,
    )) in
    last ∙ ap (λ (xs : List JournalEntry). xs ++ entry n e ∷ []) same
    ∙ ap (λ (k : ℕ). own n was ++ replicate k (entry n e)) (sym one)

-- one call

kept_visit : (i : ImageTables) (n : ℕ) (row : RowId) (was now : SeatState) → Visited i n row was now
    → Kept i n row was now
kept_visit i n row was now v = kept_more i n row was was now (kept_none i n row was was refl) v

-- two calls, one after the other
pub visited_on : (i : ImageTables) (n : ℕ) (row : RowId) (was mid now : SeatState) → Visited i n row was mid
    → Visited i n row mid now → Visited i n row was now
visited_on i n row was mid now a b = record {
  same = b.same ∙ ap (λ (s : SeatState). record s { seen = now.seen; mine = now.mine }) a.same;
  grows = prefix_then was.seen mid.seen now.seen a.grows b.grows;
  journal = b.journal;
  counted = b.counted;
}

own_number : (i : ImageTables) (n : ℕ) (row : RowId) (was now : SeatState) → Kept i n row was now → now.number
    ≡ was.number
own_number i n row was now k = ap (λ (s : SeatState). s.number) k.same

-- entries of its own are no more than it has seen
few_own : (n : ℕ) (xs : List JournalEntry) → length (own n xs) ≤ length xs
few_own n [] = omega arith
few_own n (x ∷ xs) = let i = few_own n xs in grind (arith, nat_tests)

mine_room : (i : ImageTables) (n : ℕ) (row : RowId) (was now : SeatState) → Visited i n row was now
    → now.mine ≤ row.capacity
mine_room i n row was now v = omega (arith, v.counted, few_own now.number now.seen, v.journal.room)

-- a call that enters nothing
pub added_none : (i : ImageTables) (n : ℕ) (row : RowId) (e : Event) (most : ℕ) (was now : SeatState)
    → Visited i n row was now → now.mine ≡ was.mine → Added i n row e most was now
added_none i n row e most was now v same =
    let number = ap (λ (s : SeatState). s.number) v.same in
    record {
      kept = kept_visit i n row was now v;
      count = 0;
      few = omega arith;
      mine_is = omega (arith, same);
      room = λ some. absurd (some refl);
      added = λ (counted : IsCounted was).
          ap (λ (m : ℕ). own m now.seen) number
          ∙ own_same was.number was.seen now.seen v.grows (ap (λ (m : ℕ). length (own m now.seen)) (sym number)
          ∙ v.counted ∙ same ∙ sym counted) ∙ sym (append-nil (own was.number was.seen));
    }

few_journaled : (result : Result Receipt BoardFault) → journaled result ≤ 1
few_journaled (Ok y) = grind (arith, nat_tests)
few_journaled (Err f) = omega arith

-- a call that enters an event
added_one : (i : ImageTables) (n : ℕ) (row : RowId) (e : Event) (was now : SeatState)
    (result : Result Receipt BoardFault) (before : List JournalEntry) → Visited i n row was now
    → now.mine ≡ was.mine + journaled result → IsPrefix was.seen before → now.seen
    ≡ entered before (entry was.number e) (reaction i n (events before) e) result
    → ((y : Receipt) → result ≡ Ok y → y ≡ receipt_of (length before) (reaction i n (events before) e))
    → Added i n row e 1 was now
added_one i n row e was now result before v mine grows is answer =
    let number = ap (λ (s : SeatState). s.number) v.same in
    record {
      kept = kept_visit i n row was now v;
      count = journaled result;
      few = few_journaled result;
      mine_is = mine;
      room = λ some. mine_room i n row was now v;
      added = λ (counted : IsCounted was).
          ap (λ (m : ℕ). own m now.seen) number
          ∙ answer_added was.number (length before) was.seen now.seen before e
          (reaction i n (events before) e) result grows is answer
          (ap (λ (m : ℕ). length (own m now.seen)) (sym number) ∙ v.counted ∙ mine
          ∙ ap (λ (k : ℕ). k + journaled result) (sym counted));
    }

fed_receipt : (i : ImageTables) (n k : ℕ) (before : List JournalEntry) (e : Event)
    (result : Result Receipt BoardFault) → FedAfter i n k before e result
    → (y : Receipt) → result ≡ Ok y → y ≡ receipt_of (length before) (reaction i n (events before) e)
fed_receipt i n k before e (Ok z) h y is = cc (h.1, is)
fed_receipt i n k before e (Err f) h y is = absurd (cc (is))

pub added_fed : (i : ImageTables) (n : ℕ) (row : RowId) (e : Event) (was now : SeatState)
    (result : Result Receipt BoardFault) → Visited i n row was now
    → now.mine ≡ was.mine + journaled result → Fed i n row e was now result → Added i n row e 1 was now
added_fed i n row e was now result v mine fed =
    added_one i n row e was now result fed.0 v mine fed.2 fed.4 (fed_receipt i n row.capacity fed.0 e result fed.3)

answered_receipt : (i : ImageTables) (n k : ℕ) (before : List JournalEntry) (t : TicketState)
    (result : Result Receipt BoardFault) → AnsweredAfter i n k before t result
    → (y : Receipt) → result ≡ Ok y → y ≡ receipt_of (length before) (reaction i n (events before) (Run t.processor))
answered_receipt i n k before t (Ok z) h y is = cc (h.2, is)
answered_receipt i n k before t (Err f) h y is = absurd (cc (is))

pub added_submitted : (i : ImageTables) (n : ℕ) (row : RowId) (t : TicketState) (was now : SeatState)
    (result : Result Receipt BoardFault) → Visited i n row was now
    → now.mine ≡ was.mine + journaled result → Submitted i n row t was now result
    → Added i n row (Run t.processor) 1 was now
added_submitted i n row t was now result v mine s =
    added_one i n row (Run t.processor) was now result s.0 v mine s.2 s.4
    (answered_receipt i n row.capacity s.0 t result s.3)

-- calls, one after another

pub added_begin : (i : ImageTables) (n : ℕ) (row : RowId) (e : Event) (most : ℕ) (was now : SeatState) → now ≡ was
    → Added i n row e most was now
added_begin i n row e most was now is =
    record {
      kept = kept_none i n row was now is;
      count = 0;
      few = omega arith;
      mine_is = ap (λ (s : SeatState). s.mine) is ∙ omega arith;
      room = λ some. absurd (some refl);
      added = λ (counted : IsCounted was). ap (λ (s : SeatState). own s.number s.seen) is
          ∙ sym (append-nil (own was.number was.seen));
    }

pub added_more : (i : ImageTables) (n : ℕ) (row : RowId) (e : Event) (most more : ℕ) (was mid now : SeatState)
    → Added i n row e most was mid → Added i n row e more mid now
    → Added i n row e (most + more) was now
added_more i n row e most more was mid now a b =
    let number = own_number i n row was mid a.kept in
    record {
      kept = kept_on i n row was mid now a.kept b.kept;
      count = a.count + b.count;
      few = omega (arith, a.few, b.few);
      mine_is = omega (arith, a.mine_is, b.mine_is);
      room = room;
      added = added number;
    }
  where
    by_count : (k : ℕ) → b.count ≡ k → a.count + b.count ≢ 0 → now.mine ≤ row.capacity
    by_count zero none some = let c = a.room (λ z. some (omega (arith, z, none))) in omega (arith, c, b.mine_is, none)
    by_count (suc k) is some = b.room (λ z. absurd (omega (arith, z, is)))

    room : a.count + b.count ≢ 0 → now.mine ≤ row.capacity
    room = by_count b.count refl

    counted_mid : IsCounted was → own mid.number mid.seen ≡ own was.number was.seen
        ++ replicate a.count (entry was.number e) → IsCounted mid
    counted_mid counted is =
        let entries = replicate a.count (entry was.number e) in
        omega (
          arith,
          ap length is,
          length-append (own was.number was.seen) entries,
          length-replicate a.count
              (entry was.number e),
          counted,
          a.mine_is,
        )

    added : mid.number ≡ was.number → IsCounted was → own now.number now.seen ≡ own was.number was.seen
        ++ replicate (a.count + b.count) (entry was.number e)
    added number counted =
        let first = a.added counted in
        b.added (counted_mid counted first) ∙ ap (λ (m : ℕ). own mid.number mid.seen ++ replicate b.count (entry m e))
        number
        ∙ ap (λ (xs : List JournalEntry). xs ++ replicate b.count (entry was.number e)) first
        ∙ append_assoc (own was.number was.seen) (replicate a.count (entry was.number e))
        (replicate b.count (entry was.number e))
        ∙ ap (λ (xs : List JournalEntry). own was.number was.seen ++ xs)
        (replicate-append-replicate a.count b.count (entry was.number e))

pub added_enough : (i : ImageTables) (n : ℕ) (row : RowId) (e : Event) (most enough : ℕ) (was now : SeatState)
    → Added i n row e most was now → most ≤ enough → Added i n row e enough was now
added_enough i n row e most enough was now a le = record {
  kept = a.kept;
  count = a.count;
  few = omega (arith, a.few, le);
  mine_is = a.mine_is;
  room = a.room;
  added = a.added;
}

pub added_last : (i : ImageTables) (n : ℕ) (row : RowId) (e : Event) (most enough : ℕ) (was mid now : SeatState)
    → Added i n row e most was mid → Added i n row e 1 mid now → most < enough
    → Added i n row e enough was now
added_last i n row e most enough was mid now a b lt = added_enough i n row e (most + 1) enough was now
    (added_more i n row e most 1 was mid now a b) (omega (arith, lt))

-- a turn: a ticket is drawn, and its outcome submitted
pub added_turn : (i : ImageTables) (n : ℕ) (row : RowId) (p q : ℕ) (was mid now : SeatState) → Visited i n row was mid
    → mid.mine ≡ was.mine → q ≡ p → Added i n row (Run q) 1 mid now
    → Added i n row (Run p) 1 was now
added_turn i n row p q was mid now v same is a =
    added_more i n row (Run p) 0 1 was mid now (added_none i n row (Run p) 0 was mid v same)
    (subst (λ (r : ℕ). Added i n row (Run r) 1 mid now) is a)

-- what a thread has added has room
pub within_room : (i : ImageTables) (n : ℕ) (row : RowId) (e : Event) (most : ℕ) (was now : SeatState) (count : ℕ)
    → Added i n row e most was now → now.mine ≡ was.mine + count → count ≤ row.capacity
within_room i n row e most was now count a h = by_count a.count refl
  where
    by_count : (k : ℕ) → a.count ≡ k → count ≤ row.capacity
    by_count zero none = omega (arith, h, a.mine_is, none)
    by_count (suc k) is = let r = a.room (λ z. absurd (omega (arith, z, is))) in omega (arith, r, h)

-- a thread that has added at most this many has counted no more
pub mine_most : (i : ImageTables) (n : ℕ) (row : RowId) (e : Event) (most enough : ℕ) (was mid now : SeatState)
    → Added i n row e most was mid → now.mine ≡ mid.mine → most < enough
    → now.mine < was.mine + enough
mine_most i n row e most enough was mid now a same lt = omega (arith, a.few, a.mine_is, same, lt)

-- why an outcome or an event is refused

same_or_not : (a b : ℕ) → (a ≡ b) ⊎ (a ≢ b)
same_or_not a b = grind arith

why_full : (i : ImageTables) (n k : ℕ) (before : List JournalEntry) (t : TicketState) (f : BoardFault)
    → IsWhyRefused i n k before t f → f ≢ fault.Stale
    → (stamp_after i n before t.processor ≡ t.actor.stamp) ⊎ (stamp_after i n before t.processor ≢ t.actor.stamp)
    → (f ≡ fault.Full) × (length before ≡ k)
why_full i n k before t f why other (inl same) = why.full same
why_full i n k before t f why other (inr differs) = absurd (other (why.stale differs))

pub full_submitted : (i : ImageTables) (n : ℕ) (row : RowId) (t : TicketState) (was now : SeatState) (f : BoardFault)
    → Submitted i n row t was now (Err f) → f ≢ fault.Stale
    → (f ≡ fault.Full) × (length now.seen ≡ row.capacity)
full_submitted i n row t was now f s other =
    let full = why_full i n row.capacity s.0 t f s.3 other (same_or_not _ _) in
    (full.0, ap length s.4 ∙ full.1)

pub full_fed : (i : ImageTables) (n : ℕ) (row : RowId) (e : Event) (was now : SeatState) (f : BoardFault)
    → Fed i n row e was now (Err f)
    → (f ≡ fault.Full) × (length now.seen ≡ row.capacity)
full_fed i n row e was now f s = (s.3.1, ap length s.4 ∙ s.3.0)

-- an outcome that is refused is stale, or its turn stops
pub turn_refused : (i : ImageTables) (n : ℕ) (row : RowId) (always : Type 0) (p : ℕ) (t : TicketState)
    (was drawn now : SeatState) (f : BoardFault) → Submitted i n row t drawn now (Err f)
    → f ≢ fault.Stale → drawn.mine ≡ was.mine → now.mine ≡ drawn.mine + journaled (Err f) → (now.mine ≡ was.mine)
    × IsWhyStopped row always (Run p) now f
turn_refused i n row always p t was drawn now f s other same mine = (
  omega (arith, same, mine),
  inl
      (full_submitted i n row t drawn now f s other),
)

pub feed_refused : (i : ImageTables) (n : ℕ) (row : RowId) (e : Event) (was now : SeatState) (f : BoardFault)
    → Fed i n row e was now (Err f)
    → now.mine ≡ was.mine + journaled (Err f) → (now.mine ≡ was.mine) × (f ≡ fault.Full)
    × (length now.seen ≡ row.capacity)
feed_refused i n row e was now f s mine = let full = full_fed i n row e was now f s in
    (omega (arith, mine), full.0, full.1)

-- one time of a thread's part

-- a turn of a processor with no actor
pub did_none : (i : ImageTables) (n : ℕ) (row : RowId) (p : ℕ) (was now : SeatState) → Visited i n row was now
    → now.mine ≡ was.mine → HasNoActorAfter i n now.seen p
    → DidOnce i n row (Run p) was now
did_none i n row p was now v same none = record {
  drawn = now;
  visited = v;
  mine = same;
  ticket = None;
  drew = none;
  over = refl;
}

-- after a list that was seen stands at least one more
one_after : (P : List JournalEntry → Type 0) (seen before : List JournalEntry) → IsPrefix seen before → P seen
    → (P before → ⊥) → length seen < length before
one_after P seen before p here gone = by_rest p.0 p.1
  where
    by_rest : (rest : List JournalEntry) → seen ++ rest ≡ before → length seen < length before
    by_rest [] is = absurd (gone (subst P (sym (append-nil seen) ∙ is) here))
    by_rest (x ∷ rest) is = omega (arith, ap length is, length-append seen (x ∷ rest))

-- a stretch is refused as stale only after an event that came after the draw
stale_after : (i : ImageTables) (n : ℕ) (row : RowId) (t : TicketState) (drawn now : SeatState)
    → actor_after i n drawn.seen t.processor ≡ Some t.actor
    → Submitted i n row t drawn now (Err fault.Stale) → length drawn.seen < length now.seen
stale_after i n row t drawn now there s =
    let other : stamp_after i n s.0 t.processor ≢ t.actor.stamp = λ same. absurd (cc ((s.3.full same).0)) in
    let more = one_after (λ xs. stamp_after i n xs t.processor ≡ t.actor.stamp) drawn.seen s.0 s.2
    (stamp_of_actor i n drawn.seen t.processor t.actor there) other in
    omega (arith, more, ap length s.4)

-- a turn in which an outcome was submitted
pub did_submitted : (i : ImageTables) (n : ℕ) (row : RowId) (p : ℕ) (t : TicketState) (was drawn now : SeatState)
    (answer : Result Receipt BoardFault) → Visited i n row was drawn
    → drawn.mine ≡ was.mine → Drew i n drawn.seen p (Some t) → Visited i n row drawn now → now.mine ≡ drawn.mine
    + journaled answer → Submitted i n row t drawn now answer
    → IfErr answer (λ f. f ≡ fault.Stale) → DidOnce i n row (Run p) was now
did_submitted i n row p t was drawn now answer v same d w mine s stale =
    record {
      drawn = drawn;
      visited = v;
      mine = same;
      ticket = Some t;
      drew = d;
      over = record { visited = w; answer = answer; submitted = s; mine = mine; stale = by_answer answer stale s };
    }
  where
    there : actor_after i n drawn.seen t.processor ≡ Some t.actor
    there = subst (λ (q : ℕ). actor_after i n drawn.seen q ≡ Some t.actor) (sym d.1) d.2

    by_answer : (answer : Result Receipt BoardFault) → IfErr answer (λ f. f ≡ fault.Stale)
        → Submitted i n row t drawn now answer
        → IfErr answer (λ f. (f ≡ fault.Stale) × (length drawn.seen < length now.seen))
    by_answer (Ok receipt) is s = tt
    by_answer (Err f) is s = (
      is,
      stale_after i n row t drawn now there
          (subst (λ (g : BoardFault). Submitted i n row t drawn now (Err g)) is s),
    )

-- an event that was fed
pub did_fed : (i : ImageTables) (n : ℕ) (row : RowId) (e : Event) (was now : SeatState) (receipt : Receipt) → IsFed e
    → Visited i n row was now
    → now.mine ≡ was.mine + journaled (Ok receipt) → Fed i n row e was now (Ok receipt) → DidOnce i n row e was now
did_fed i n row (Run p) was now receipt is v mine fed = absurd is
did_fed i n row Tick was now receipt is v mine fed = record { visited = v; receipt = receipt; fed = fed; mine = mine }
did_fed i n row (Int h) was now receipt is v mine fed = record {
  visited = v;
  receipt = receipt;
  fed = fed;
  mine = mine;
}

-- a thread's part, one time after the other

pub did_begin : (i : ImageTables) (n : ℕ) (row : RowId) (e : Event) (was now : SeatState) → now ≡ was
    → DidTimes i n row e 0 was now
did_begin i n row e was now is = is

pub did_more : (i : ImageTables) (n : ℕ) (row : RowId) (e : Event) (times : ℕ) (was mid now : SeatState)
    → DidTimes i n row e times was mid → DidOnce i n row e mid now
    → DidTimes i n row e (times + 1) was now
did_more i n row e times was mid now all once =
    let next : suc times ≡ times + 1 = omega arith in
    subst (λ (k : ℕ). DidTimes i n row e k was now) next (mid, all, once)

did_all : (i : ImageTables) (n : ℕ) (row : RowId) (e : Event) (times all : ℕ) (was now : SeatState)
    → DidTimes i n row e times was now → times ≡ all → DidTimes i n row e all was now
did_all i n row e times all was now did is = subst (λ (k : ℕ). DidTimes i n row e k was now) is did

-- all of a part, or some of it

pub did_turns : (i : ImageTables) (n : ℕ) (row : RowId) (p times all : ℕ) (was now : SeatState)
    → DidTimes i n row (Run p) times was now → times ≡ all → DidPart i n row (Run p) all was now
did_turns i n row p times all was now did is = did_all i n row (Run p) times all was now did is

pub did_ticks : (i : ImageTables) (n : ℕ) (row : RowId) (times all : ℕ) (was now : SeatState)
    → DidTimes i n row Tick times was now → times ≡ all → DidPart i n row Tick all was now
did_ticks i n row times all was now did is = did_all i n row Tick times all was now did is

pub did_some : (i : ImageTables) (n : ℕ) (row : RowId) (h times most : ℕ) (was now : SeatState)
    → DidTimes i n row (Int h) times was now → times ≤ most → DidPart i n row (Int h) most was now
did_some i n row h times most was now did few = (times, few, did)
