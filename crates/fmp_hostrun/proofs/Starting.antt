-- Seats for which threads are started, one after the other.
use Rattle.std.proofs.Common.{◌≡◌, ◌≢◌, ℕ, zero, ◌+◌, List, [], ◌∷◌, ◌++◌, Bool, true, false, true≢false, Result, Ok}
use Rattle.std.proofs.Common.{Err, length, refl, ap, sym, ◌∙◌, subst, append_assoc, arith}
use Rattle.std.proofs.lemmas.List.{append-nil}
use Rattle.std.proofs.lemmas.List.Elements.{All-append, All-cons, All-nil, All-tail, length_all_zip}
use Rattle.std.specs.List.{All, AllZip}
use Rattle.std.specs.Prelude.{IfOk}
use Rattle.fmp_image_bytes.specs.Images.{ImageTables}
use Rattle.fmp_journal.specs.Seats.{RowId, SeatState}
use Rattle.fmp_board.specs.declared.fault.BoardFault.{BoardFault}
use Rattle.fmp_board.specs.Boards.{IsAt}
use Rattle.fmp_board.specs.Visits.{Kept}
use Rattle.fmp_hostrun.specs.declared.turns.Load.{Load}
use Rattle.fmp_hostrun.specs.Works.{AllAdded, AllButOne, CameBack, CameBackAs, mine_of, part_at}
use Rattle.fmp_hostrun.proofs.Working.{added_begin}
use Rattle.fmp_board.specs.declared.fault.BoardFault.TheVariants as fault

-- seats: those whose threads were started, the one whose thread was refused, those that were spared then, and the rest
abbrev pub Started : (refused : Bool) → (seats started spared rest : List SeatState) → Type 0
Started false seats started spared rest = (seats ≡ started ++ rest) × (spared ≡ [])
Started true seats started spared rest = (lost : SeatState) × (seats ≡ started ++ lost ∷ (spared ++ rest))

-- one more is spared
pub one_spared : (refused : Bool) (seats started spared more rest next : List SeatState) (x : SeatState) → refused
    ≡ true → Started refused seats started spared rest
    → rest ≡ x ∷ next → more ≡ spared ++ x ∷ [] → Started refused seats started more next
one_spared false seats started spared more rest next x is s r m = absurd (true≢false (sym is))
one_spared true seats started spared more rest next x is s r m = (
  s.0,
  s.1 ∙ ap (λ (xs : List SeatState). started ++ s.0 ∷ xs)
      (ap (λ (xs : List SeatState). spared ++ xs) r ∙ sym (append_assoc spared (x ∷ []) next)
      ∙ sym (ap (λ (xs : List SeatState). xs ++ next) m)),
)

-- one more is started
pub one_started : (refused : Bool) (seats started more spared rest next : List SeatState) (x : SeatState) → refused
    ≡ false → Started refused seats started spared rest
    → rest ≡ x ∷ next → more ≡ started ++ x ∷ [] → Started refused seats more spared next
one_started true seats started more spared rest next x is s r m = absurd (true≢false is)
one_started false seats started more spared rest next x is s r m = (
  s.0 ∙ ap (λ (xs : List SeatState). started ++ xs) r ∙ sym (append_assoc started (x ∷ []) next)
      ∙ sym (ap (λ (xs : List SeatState). xs ++ next) m),
  s.1,
)

-- one is refused
pub one_refused : (refused : Bool) (seats started spared rest next : List SeatState) (x : SeatState) → refused ≡ false
    → Started refused seats started spared rest → rest ≡ x ∷ next
    → Started true seats started spared next
one_refused true seats started spared rest next x is s r = absurd (true≢false is)
one_refused false seats started spared rest next x is s r = (
  x,
  s.0 ∙ ap (λ (xs : List SeatState). started ++ xs) r ∙ sym (ap (λ (xs : List SeatState). started ++ x
      ∷ (xs ++ next)) s.1),
)

pub none_left : {X : Type 0} (rest : List X) → length rest ≡ 0 → rest ≡ []
none_left [] e = refl
none_left (x ∷ rest) e = absurd (omega arith)

-- all but the refused one come back
pub all_but_one : (R : (seats back : List SeatState) → Type 0) (refused : Bool)
    (seats first started spared rest worked back : List SeatState) → refused ≡ true
    → Started refused first started spared rest → length rest ≡ 0 → first ≡ seats → back ≡ worked ++ spared
    → R started worked
    → CameBackAs R seats back (Err fault.Thread)
all_but_one R false seats first started spared rest worked back is s none same b kept = absurd (true≢false (sym is))
all_but_one R true seats first started spared rest worked back is s none same b kept =
    record {
      all = λ other. absurd (other refl);
      refused = λ _. record {
        front = started;
        lost = s.0;
        rest = spared;
        worked = worked;
        were = sym same ∙ s.1 ∙ ap (λ (xs : List SeatState). started ++ s.0 ∷ (spared ++ xs)) (none_left rest none)
            ∙ ap (λ (xs : List SeatState). started ++ s.0 ∷ xs) (append-nil spared);
        are = b;
        kept = kept;
      };
    }

-- all were started, and all come back

pub all_started : (refused : Bool) (seats first started spared rest : List SeatState) → refused ≡ false
    → Started refused first started spared rest → length rest ≡ 0 → first ≡ seats → started ≡ seats
all_started true seats first started spared rest is s none same = absurd (true≢false is)
all_started false seats first started spared rest is s none same = sym (append-nil started)
    ∙ ap (λ (xs : List SeatState). started ++ xs) (sym (none_left rest none)) ∙ sym s.0 ∙ same

pub all_worked : (refused : Bool) (seats first started spared rest worked back : List SeatState) → refused ≡ false
    → Started refused first started spared rest → back ≡ worked ++ spared → worked ≡ back
all_worked true seats first started spared rest worked back is s b = absurd (true≢false is)
all_worked false seats first started spared rest worked back is s b = sym (append-nil worked)
    ∙ ap (λ (xs : List SeatState). worked ++ xs) (sym s.1) ∙ sym b

pub mine_back : (refused : Bool) (seats first started spared rest worked back : List SeatState)
    (result : Result ℕ BoardFault) → refused ≡ false → Started refused first started spared rest
    → length rest ≡ 0 → first ≡ seats → back ≡ worked ++ spared
    → IfOk result (λ count. mine_of worked ≡ mine_of started + count)
    → IfOk result (λ count. mine_of back ≡ mine_of seats + count)
mine_back refused seats first started spared rest worked back (Err f) is s none same b mine = tt
mine_back refused seats first started spared rest worked back (Ok count) is s none same b mine =
    sym (ap mine_of (all_worked refused seats first started spared rest worked back is s b)) ∙ mine
    ∙ ap (λ (xs : List SeatState). mine_of xs + count) (all_started refused seats first started spared rest is s none
    same)

pub all_back : (R : (seats back : List SeatState) → Type 0) (refused : Bool)
    (seats first started spared rest worked back : List SeatState) (result : Result ℕ BoardFault) → refused ≡ false
    → Started refused first started spared rest → length rest ≡ 0 → first ≡ seats → back ≡ worked ++ spared
    → R started worked
    → result ≢ Err fault.Thread → CameBackAs R seats back result
all_back R true seats first started spared rest worked back result is s none same b kept other = absurd (true≢false is)
all_back R false seats first started spared rest worked back result is s none same b kept other =
    let were : started ≡ seats = all_started false seats first started spared rest is s none same in
    let are : worked ≡ back = all_worked false seats first started spared rest worked back is s b in
    record {
      all = λ _. subst (λ (y : List SeatState × List SeatState). R y.0 y.1) (λ i. (were i, are i)) kept;
      refused = λ bad. absurd (other bad);
    }

-- the rest are seats of the board too
pub seats_at : (row : RowId) (rest next : List SeatState) (x : SeatState) → All (IsAt row) rest → rest ≡ x ∷ next
    → All (IsAt row) next
seats_at row rest next x all r = All-tail (IsAt row) x next (subst (All (IsAt row)) r all)

-- seats that came back are seats of the board

kept_at : (i : ImageTables) (n : ℕ) (row : RowId) (seats back : List SeatState) → AllZip (Kept i n row) seats back
    → All (IsAt row) seats → All (IsAt row) back
kept_at i n row [] [] kept at = All-nil (IsAt row)
kept_at i n row [] (b ∷ back) kept at = absurd kept
kept_at i n row (s ∷ seats) [] kept at = absurd kept
kept_at i n row (s ∷ seats) (b ∷ back) kept at =
    All-cons (IsAt row) b back (ap (λ (x : SeatState). x.row) kept.0.same ∙ at zero s (omega arith))
    (kept_at i n row seats back kept.1 (All-tail (IsAt row) s seats at))

rest_at : (row : RowId) (front : List SeatState) (x : SeatState) (rest : List SeatState)
    → All (IsAt row) (front ++ x ∷ rest) → All (IsAt row) front × All (IsAt row) rest
rest_at row [] x rest at = (All-nil (IsAt row), All-tail (IsAt row) x rest at)
rest_at row (y ∷ front) x rest at =
    let later = rest_at row front x rest (All-tail (IsAt row) y (front ++ x ∷ rest) at) in
    (All-cons (IsAt row) y front (at zero y (omega arith)) later.0, later.1)

pub all_at : (i : ImageTables) (n : ℕ) (row : RowId) (seats back : List SeatState) (result : Result ℕ BoardFault)
    → CameBack (Kept i n row) seats back result
    → All (IsAt row) seats → All (IsAt row) back
all_at i n row seats back (Ok r) came at = kept_at i n row seats back (came.all
    (λ (e : Ok r ≡ Err fault.Thread). absurd (cc))) at
all_at i n row seats back (Err f) came at = by_fault f came
  where
    refused : AllButOne (AllZip (Kept i n row)) seats back → All (IsAt row) back
    refused b =
        let parts = rest_at row b.front b.lost b.rest (subst (All (IsAt row)) b.were at) in
        subst (All (IsAt row)) (sym b.are) (All-append (IsAt row) b.worked b.rest
        (kept_at i n row b.front b.worked b.kept parts.0) parts.1)

    by_fault : (f : BoardFault) → CameBack (Kept i n row) seats back (Err f) → All (IsAt row) back
    by_fault fault.Thread c = refused (c.refused refl)
    by_fault fault.Stale c = kept_at i n row seats back (c.all (λ (e : Err fault.Stale ≡ Err fault.Thread). absurd
        (cc))) at
    by_fault fault.Full c = kept_at i n row seats back (c.all (λ (e : Err fault.Full ≡ Err fault.Thread). absurd
        (cc))) at
    by_fault fault.Memory c = kept_at i n row seats back (c.all (λ (e : Err fault.Memory ≡ Err fault.Thread). absurd
        (cc))) at
    by_fault fault.Limit c = kept_at i n row seats back (c.all (λ (e : Err fault.Limit ≡ Err fault.Thread). absurd
        (cc))) at
    by_fault fault.Held c = kept_at i n row seats back (c.all (λ (e : Err fault.Held ≡ Err fault.Thread). absurd
        (cc))) at

pub same_count : (i : ImageTables) (n : ℕ) (row : RowId) (seats back : List SeatState) (result : Result ℕ BoardFault)
    → CameBack (Kept i n row) seats back result
    → IfOk result (λ _. length back ≡ length seats)
same_count i n row seats back (Ok r) came = sym (length_all_zip (Kept i n row) seats back
    (came.all (λ (e : Ok r ≡ Err fault.Thread). absurd (cc))))
same_count i n row seats back (Err f) came = tt

-- what was added to seats keeps what they were

all_kept : (i : ImageTables) (n : ℕ) (row : RowId) (load : Load) (place : ℕ) (seats back : List SeatState)
    → AllAdded i n row load place seats back → AllZip (Kept i n row) seats back
all_kept i n row load place [] [] added = tt
all_kept i n row load place [] (b ∷ back) added = absurd added
all_kept i n row load place (s ∷ seats) [] added = absurd added
all_kept i n row load place (s ∷ seats) (b ∷ back) added = (
  added.0.kept,
  all_kept i n row load
      (place + 1) seats back added.1,
)

pub kept_back : (i : ImageTables) (n : ℕ) (row : RowId) (load : Load) (seats back : List SeatState)
    (result : Result ℕ BoardFault) → CameBackAs (AllAdded i n row load 0) seats back result
    → CameBack (Kept i n row) seats back result
kept_back i n row load seats back result came =
    record {
      all = λ other. all_kept i n row load 0 seats back (came.all other);
      refused = λ bad. but_one (came.refused bad);
    }
  where
    but_one : AllButOne (AllAdded i n row load 0) seats back → AllButOne (AllZip (Kept i n row)) seats back
    but_one b =
        record {
          front = b.front;
          lost = b.lost;
          rest = b.rest;
          worked = b.worked;
          were = b.were;
          are = b.are;
          kept = all_kept i n row load 0 b.front b.worked b.kept;
        }

-- no thread was started

none_added : (i : ImageTables) (n : ℕ) (row : RowId) (load : Load) (place : ℕ) (seats : List SeatState)
    → AllAdded i n row load place seats seats
none_added i n row load place [] = tt
none_added i n row load place (s ∷ seats) = (
  added_begin i n row (part_at load place).event
      (part_at load place).times s s refl,
  none_added i n row load (place + 1) seats,
)

pub all_as_they_were : (i : ImageTables) (n : ℕ) (row : RowId) (load : Load) (seats : List SeatState)
    (result : Result ℕ BoardFault) → result ≢ Err fault.Thread
    → CameBackAs (AllAdded i n row load 0) seats seats result
all_as_they_were i n row load seats result other = record {
  all = λ _. none_added i n row load 0 seats;
  refused = λ bad. absurd (other bad);
}

pub kept_as_they_were : (i : ImageTables) (n : ℕ) (row : RowId) (seats : List SeatState)
    (result : Result ℕ BoardFault) → result ≢ Err fault.Thread → CameBack (Kept i n row) seats seats result
kept_as_they_were i n row seats result other =
    let load : Load = record { processors = 0; turns = 0; ticks = 0; interrupt = 0; interrupts = 0 } in
    kept_back i n row load seats seats result (all_as_they_were i n row load seats result other)
