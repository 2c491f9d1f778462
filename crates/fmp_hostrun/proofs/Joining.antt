-- What is given back, one after the other.
use Rattle.std.proofs.Common.{◌≡◌, ◌≢◌, ◌⊎◌, inl, inr, ℕ, suc, ◌+◌, ◌*◌, ◌<◌, ◌≤◌, ◌^◌, List, [], ◌∷◌, ◌++◌, Some}
use Rattle.std.proofs.Common.{slice_get, Result, Ok, Err, length, map, refl, ap, sym, ◌∙◌, subst, append_assoc, arith}
use Rattle.std.proofs.lemmas.List.{append-nil, map-append}
use Rattle.std.specs.List.{AllZip}
use Rattle.std.specs.Prelude.{IfErr, IfOk}
use Rattle.fmp_base.specs.declared.events.Event.{Event}
use Rattle.fmp_image_bytes.specs.Images.{ImageTables}
use Rattle.fmp_journal.specs.Seats.{RowId, SeatState}
use Rattle.fmp_board.specs.declared.fault.BoardFault.{BoardFault}
use Rattle.fmp_board.specs.declared.fault.BoardFault.TheVariants as fault
use Rattle.fmp_hostrun.specs.declared.turns.Load.{Load}
use Rattle.fmp_hostrun.specs.declared.turns.ThreadPart.{ThreadPart}
use Rattle.fmp_hostrun.specs.Works.{AllAdded, Added, AreRun, GaveBack, Gave, HasFull, IsAnswer, IsWhyStopped, Job}
use Rattle.fmp_hostrun.specs.Works.{AllGave, both, gave, job_of, jobs_of, load_of, mine_of, part_at, seats_of, total}
use Rattle.fmp_hostrun.proofs.Starting.{none_left}

-- jobs whose parts are those of threads from this place on
abbrev pub ArePlaced : Load → (place : ℕ) → List Job → Type 0
ArePlaced load place [] = Unit {0}
ArePlaced load place (j ∷ jobs) = (j.part ≡ part_at load place) × ArePlaced load (place + 1) jobs

pub placed_more : (load : Load) (place : ℕ) (jobs : List Job) (j : Job) → ArePlaced load place jobs → j.part
    ≡ part_at load (place + length jobs) → ArePlaced load place (jobs ++ j ∷ [])
placed_more load place [] j placed is = (is ∙ ap (part_at load) (omega arith), tt)
placed_more load place (x ∷ jobs) j placed is = (
  placed.0,
  placed_more load (place + 1) jobs j placed.1
      (is ∙ ap (part_at load) (omega arith)),
)

-- jobs that are placed are those of their seats
pub placed_jobs : (load : Load) (place : ℕ) (jobs : List Job) → ArePlaced load place jobs → jobs
    ≡ jobs_of load place (seats_of jobs)
placed_jobs load place [] placed = refl
placed_jobs load place (j ∷ jobs) placed =
    ap (λ (part : ThreadPart). job_of part j.seat ∷ jobs) placed.0
    ∙ ap (λ (js : List Job). job_of (part_at load place) j.seat ∷ js) (placed_jobs load (place + 1) jobs placed.1)

-- what threads have done that were started for these jobs
all_gave : (i : ImageTables) (n : ℕ) (row : RowId) (always : Type 0) (load : Load) (place : ℕ) (jobs : List Job)
    (all : List Gave) → AllZip (GaveBack i n row always) jobs all
    → ArePlaced load place jobs → AllAdded i n row load place (seats_of jobs) (map (λ g. g.seat) all)
all_gave i n row always load place [] [] each placed = tt
all_gave i n row always load place [] (g ∷ all) each placed = absurd each
all_gave i n row always load place (j ∷ jobs) [] each placed = absurd each
all_gave i n row always load place (j ∷ jobs) (g ∷ all) each placed = (
  subst (λ (part : ThreadPart). Added i n row part.event part.times j.seat g.seat) placed.0 each.0.added,
  all_gave
      i n row always load (place + 1) jobs all each.1 placed.1,
)

pub all_added : (i : ImageTables) (n : ℕ) (row : RowId) (always : Type 0) (load : Load) (jobs : List Job)
    (back : List SeatState) (answer : Result ℕ BoardFault)
    → AllGave i n row always jobs back answer → ArePlaced load 0 jobs → AllAdded i n row load 0 (seats_of jobs) back
all_added i n row always load jobs back answer j placed =
    subst (AllAdded i n row load 0 (seats_of jobs)) (sym j.back_is) (all_gave i n row always load 0 jobs j.all j.each
    placed)

-- one more is given back

zip_push : (P : Job → Gave → Type 0) (jobs : List Job) (all : List Gave) (x : Job) (y : Gave) → AllZip P jobs all
    → P x y → AllZip P (jobs ++ x ∷ []) (all ++ y ∷ [])
zip_push P [] [] x y each p = (p, tt)
zip_push P [] (g ∷ all) x y each p = absurd each
zip_push P (j ∷ jobs) [] x y each p = absurd each
zip_push P (j ∷ jobs) (g ∷ all) x y each p = (each.0, zip_push P jobs all x y each.1 p)

both_none : (answer : Result ℕ BoardFault) → both answer (Ok 0) ≡ both (Ok 0) answer
both_none (Ok count) = ap (λ (k : ℕ). Ok k) (omega arith)
both_none (Err f) = refl

both_all : (a b c : Result ℕ BoardFault) → both a (both b c) ≡ both (both a b) c
both_all (Ok j) (Ok k) (Ok l) = ap (λ (m : ℕ). Ok m) (omega arith)
both_all (Ok j) (Ok k) (Err f) = refl
both_all (Ok j) (Err f) c = refl
both_all (Err f) b c = refl

total_last : (answers : List (Result ℕ BoardFault)) (answer : Result ℕ BoardFault) → total (answers ++ answer ∷ [])
    ≡ both (total answers) answer
total_last [] answer = both_none answer
total_last (x ∷ answers) answer = ap (both x) (total_last answers answer) ∙ both_all x (total answers) answer

pub none_joined : (i : ImageTables) (n : ℕ) (row : RowId) (always : Type 0) (back : List SeatState) → back ≡ []
    → AllGave i n row always [] back (Ok 0)
none_joined i n row always back is = record { all = []; each = tt; back_is = is; answer_is = refl }

pub one_joined : (i : ImageTables) (n : ℕ) (row : RowId) (always : Type 0) (first : List Job)
    (back now : List SeatState) (j : Job) (s : SeatState)
    (answer more result : Result ℕ BoardFault) → AllGave i n row always first back answer
    → GaveBack i n row always j (gave s more) → now ≡ back ++ s ∷ [] → result ≡ both answer more
    → AllGave i n row always (first ++ j ∷ []) now result
one_joined i n row always first back now j s answer more result w g is r =
    record {
      all = w.all ++ gave s more ∷ [];
      each = zip_push (GaveBack i n row always) first w.all j (gave s more) w.each g;
      back_is = is ∙ ap (λ (xs : List SeatState). xs ++ s ∷ []) w.back_is
          ∙ sym (map-append (λ (x : Gave). x.seat) w.all (gave s more ∷ []));
      answer_is =
          r ∙ ap (λ (a : Result ℕ BoardFault). both a more) w.answer_is
          ∙ sym (total_last (map (λ (x : Gave). x.answer) w.all) more)
          ∙ ap total (sym (map-append (λ (x : Gave). x.answer) w.all (gave s more ∷ [])));
    }

pub joined_as : (i : ImageTables) (n : ℕ) (row : RowId) (always : Type 0) (first jobs : List Job)
    (back : List SeatState) (answer : Result ℕ BoardFault) → first ≡ jobs
    → AllGave i n row always first back answer → AllGave i n row always jobs back answer
joined_as i n row always first jobs back answer is w = subst (λ (js : List Job). AllGave i n row always js back
    answer) is w

-- what was given back for all seats
pub all_joined : (i : ImageTables) (n : ℕ) (row : RowId) (always : Type 0) (load : Load) (jobs : List Job)
    (seats worked back : List SeatState) (answer : Result ℕ BoardFault)
    → AllGave i n row always jobs worked answer → ArePlaced load 0 jobs → seats_of jobs ≡ seats → worked ≡ back
    → AllGave i n row always (jobs_of load 0 seats) back answer
all_joined i n row always load jobs seats worked back answer w placed were are =
    subst (λ (xs : List SeatState). AllGave i n row always (jobs_of load 0 seats) xs answer) are
    (joined_as i n row always jobs (jobs_of load 0 seats) worked answer
    (placed_jobs load 0 jobs placed ∙ ap (jobs_of load 0) were) w)

-- the first thread that stopped

-- a thread that stopped at this fault
pub record Stopped (i : ImageTables) (n : ℕ) (row : RowId) (always : Type 0) (jobs : List Job)
    (seats : List SeatState) (f : BoardFault) : Type 0 where
  pub place : ℕ
  pub job : Job
  pub seat : SeatState
  pub job_is : slice_get jobs place ≡ Some job
  pub seat_is : slice_get seats place ≡ Some seat
  pub mine : seat.mine < job.seat.mine + job.part.times
  pub added : Added i n row job.part.event job.part.times job.seat seat
  pub why : IsWhyStopped row always job.part.event seat f

no_error : (count : ℕ) (f : BoardFault) → Ok count ≡ Err f → ⊥
no_error count f e = absurd (cc)

same_error : (r : Result ℕ BoardFault) (f g : BoardFault) → r ≡ Err f → r ≡ Err g → f ≡ g
same_error r f g e h = cc (e, h)

first_stopped : (i : ImageTables) (n : ℕ) (row : RowId) (always : Type 0) (jobs : List Job) (all : List Gave)
    (f : BoardFault) → AllZip (GaveBack i n row always) jobs all
    → total (map (λ g. g.answer) all) ≡ Err f → Stopped i n row always jobs (map (λ g. g.seat) all) f
first_stopped i n row always [] [] f each is = absurd (no_error 0 f is)
first_stopped i n row always [] (g ∷ all) f each is = absurd each
first_stopped i n row always (j ∷ jobs) [] f each is = absurd each
first_stopped i n row always (j ∷ jobs) (g ∷ all) f each is = by_answer
    (first_stopped i n row always jobs all f each.1) g.answer (total (map (λ x. x.answer) all)) refl refl is
  where
    here : (e : BoardFault) → g.answer ≡ Err e → e ≡ f → Stopped i n row always (j ∷ jobs)
        (g.seat ∷ map (λ x. x.seat) all) f
    here e a same =
        let s = subst (λ (x : Result ℕ BoardFault). IfErr x (λ h. (g.seat.mine < j.seat.mine + j.part.times)
        × IsWhyStopped row always j.part.event g.seat h)) a each.0.stopped in
        record {
          place = 0;
          job = j;
          seat = g.seat;
          job_is = refl;
          seat_is = refl;
          mine = s.0;
          added = each.0.added;
          why = subst (IsWhyStopped row always j.part.event g.seat) same s.1;
        }

    later : Stopped i n row always jobs (map (λ x. x.seat) all) f
        → Stopped i n row always (j ∷ jobs) (g.seat ∷ map (λ x. x.seat) all) f
    later s = record {
      place = suc s.place;
      job = s.job;
      seat = s.seat;
      job_is = s.job_is;
      seat_is = s.seat_is;
      mine = s.mine;
      added = s.added;
      why = s.why;
    }

    by_answer : (total (map (λ x. x.answer) all) ≡ Err f → Stopped i n row always jobs (map (λ x. x.seat) all) f)
        → (a rest : Result ℕ BoardFault) → g.answer ≡ a
        → total (map (λ x. x.answer) all) ≡ rest → both a rest ≡ Err f
        → Stopped i n row always (j ∷ jobs) (g.seat ∷ map (λ x. x.seat) all) f
    by_answer next (Err e) rest a r is = here e a (same_error (Err e) e f refl is)
    by_answer next (Ok count) (Ok more) a r is = absurd (no_error (count + more) f is)
    by_answer next (Ok count) (Err e) a r is = later (next (r ∙ is))

pub stopped : (i : ImageTables) (n : ℕ) (row : RowId) (always : Type 0) (jobs : List Job) (back : List SeatState)
    (f : BoardFault) → AllGave i n row always jobs back (Err f)
    → Stopped i n row always jobs back f
stopped i n row always jobs back f w =
    subst (λ (xs : List SeatState). Stopped i n row always jobs xs f) (sym w.back_is)
    (first_stopped i n row always jobs w.all f w.each (sym w.answer_is))

why_fault : (row : RowId) (always : Type 0) (e : Event) (s : SeatState) (f : BoardFault)
    → IsWhyStopped row always e s f → (f ≡ fault.Full) ⊎ (f ≡ fault.Held)
why_fault row always e s f (inl full) = inl full.0
why_fault row always e s f (inr held) = inr held.0

no_other : (f g : BoardFault) → (f ≡ fault.Full) ⊎ (f ≡ fault.Held) → f ≡ g → g ≢ fault.Full → g ≢ fault.Held → ⊥
no_other f g (inl full) is other more = other (sym is ∙ full)
no_other f g (inr held) is other more = more (sym is ∙ held)

-- no other fault is given back
other_fault : (i : ImageTables) (n : ℕ) (row : RowId) (always : Type 0) (jobs : List Job) (back : List SeatState)
    (f : BoardFault) → AllGave i n row always jobs back (Err f)
    → f ≢ fault.Full → f ≢ fault.Held → ⊥
other_fault i n row always jobs back f w full held =
    let s = stopped i n row always jobs back f w in
    no_other f f (why_fault row always s.job.part.event s.seat f s.why) refl full held

pub not_refused : (i : ImageTables) (n : ℕ) (row : RowId) (always : Type 0) (jobs : List Job) (back : List SeatState)
    (answer : Result ℕ BoardFault) → AllGave i n row always jobs back answer
    → answer ≢ Err fault.Thread
not_refused i n row always jobs back answer w is =
    other_fault i n row always jobs back fault.Thread (subst (AllGave i n row always jobs back) is w)
    (λ e. absurd (cc)) (λ e. absurd (cc))

pub is_answer : (i : ImageTables) (n : ℕ) (row : RowId) (always : Type 0) (load : Load) (seats back : List SeatState)
    (answer : Result ℕ BoardFault)
    → AreRun i n row always load seats back answer → IsAnswer i n row always load seats back answer
is_answer i n row always load seats back (Ok count) r = r.worked (λ e. absurd (cc))
is_answer i n row always load seats back (Err fault.Full) r = r.worked (λ e. absurd (cc))
is_answer i n row always load seats back (Err fault.Held) r = r.worked (λ e. absurd (cc))
is_answer i n row always load seats back (Err fault.Thread) r = r.added.refused refl
is_answer i n row always load seats back (Err fault.Limit) r =
    absurd (other_fault i n row always _ back fault.Limit (r.worked (λ e. absurd (cc))) (λ e. absurd (cc))
    (λ e. absurd (cc)))
is_answer i n row always load seats back (Err fault.Memory) r =
    absurd (other_fault i n row always _ back fault.Memory (r.worked (λ e. absurd (cc))) (λ e. absurd (cc))
    (λ e. absurd (cc)))
is_answer i n row always load seats back (Err fault.Stale) r =
    absurd (other_fault i n row always _ back fault.Stale (r.worked (λ e. absurd (cc))) (λ e. absurd (cc))
    (λ e. absurd (cc)))

-- a load of the count of processors that a board tells
pub told_load : (i : ImageTables) (told turns ticks : ℕ) → told ≡ i.system.processors
    → record { processors = told; turns = turns; ticks = ticks; interrupt = 0; interrupts = 0 } ≡ load_of i turns ticks
told_load i told turns ticks is =
    ap (λ (p : ℕ). record { processors = p; turns = turns; ticks = ticks; interrupt = 0; interrupts = 0 }) is

pub not_limit : (i : ImageTables) (n : ℕ) (row : RowId) (always : Type 0) (load : Load) (seats back : List SeatState)
    (answer : Result ℕ BoardFault)
    → AreRun i n row always load seats back answer → answer ≢ Err fault.Limit
not_limit i n row always load seats back answer r is =
    other_fault i n row always _ back fault.Limit (subst (AllGave i n row always (jobs_of load 0 seats) back) is
    (r.worked (λ e. absurd (cc (e, is))))) (λ e. absurd (cc)) (λ e. absurd (cc))

pub not_stale : (i : ImageTables) (n : ℕ) (row : RowId) (always : Type 0) (load : Load) (seats back : List SeatState)
    (answer : Result ℕ BoardFault)
    → AreRun i n row always load seats back answer → answer ≢ Err fault.Stale
not_stale i n row always load seats back answer r is =
    other_fault i n row always _ back fault.Stale (subst (AllGave i n row always (jobs_of load 0 seats) back) is
    (r.worked (λ e. absurd (cc (e, is))))) (λ e. absurd (cc)) (λ e. absurd (cc))

pub why_seen : (row : RowId) (always : Type 0) (e : Event) (s : SeatState) → IsWhyStopped row always e s fault.Full
    → length s.seen ≡ row.capacity
why_seen row always e s (inl full) = full.1
why_seen row always e s (inr held) = absurd (cc (held.0))

why_held : (row : RowId) (always : Type 0) (e : Event) (s : SeatState) → IsWhyStopped row always e s fault.Held
    → always → ⊥
why_held row always e s (inl full) o = absurd (cc (full.0))
why_held row always e s (inr held) o = held.1 o

pub has_full : (i : ImageTables) (n : ℕ) (row : RowId) (always : Type 0) (load : Load) (seats back : List SeatState)
    (answer : Result ℕ BoardFault)
    → AreRun i n row always load seats back answer → answer ≡ Err fault.Full → HasFull row back
has_full i n row always load seats back answer r is =
    let w = subst (AllGave i n row always (jobs_of load 0 seats) back) is (r.worked (λ e. absurd (cc (e, is)))) in
    let s = stopped i n row always _ back fault.Full w in
    record {
      place = s.place;
      seat = s.seat;
      found = s.seat_is;
      full = why_seen row always s.job.part.event s.seat s.why;
    }

pub never_held : (i : ImageTables) (n : ℕ) (row : RowId) (always : Type 0) (load : Load) (seats back : List SeatState)
    (answer : Result ℕ BoardFault)
    → AreRun i n row always load seats back answer → always → answer ≢ Err fault.Held
never_held i n row always load seats back answer r o is =
    let w = subst (AllGave i n row always (jobs_of load 0 seats) back) is (r.worked (λ e. absurd (cc (e, is)))) in
    let s = stopped i n row always _ back fault.Held w in
    why_held row always s.job.part.event s.seat s.why o

-- handles that are joined

pub one_fewer : {H J : Type 0} (f : H → J) (first : List J) (handles rest next : List H) (h : H) → first ++ map f rest
    ≡ map f handles → rest ≡ h ∷ next
    → (first ++ f h ∷ []) ++ map f next ≡ map f handles
one_fewer f first handles rest next h all r = append_assoc first (f h ∷ []) (map f next)
    ∙ ap (λ xs. first ++ map f xs) (sym r) ∙ all

pub all_first : {H J : Type 0} (f : H → J) (first : List J) (handles rest : List H) → first ++ map f rest
    ≡ map f handles → length rest ≡ 0 → first ≡ map f handles
all_first f first handles rest all none = sym (append-nil first)
    ∙ ap (λ xs. first ++ map f xs) (sym (none_left rest none)) ∙ all

-- counts

mine_last : (seats : List SeatState) (s : SeatState) → mine_of (seats ++ s ∷ []) ≡ mine_of seats + s.mine
mine_last [] s = omega arith
mine_last (x ∷ seats) s = let i = mine_last seats s in omega (arith, i)

pub seats_last : (jobs : List Job) (j : Job) → seats_of (jobs ++ j ∷ []) ≡ seats_of jobs ++ j.seat ∷ []
seats_last [] j = refl
seats_last (x ∷ jobs) j = ap (λ (xs : List SeatState). x.seat ∷ xs) (seats_last jobs j)

-- what n threads journaled: the sum by which the counts of their seats have risen, each by at most the words of a row
abbrev pub IsCount : (threads : ℕ) → List Job → (back : List SeatState) → (count : ℕ) → Type 0
IsCount threads jobs back count = (mine_of back ≡ mine_of (seats_of jobs) + count) × (count ≤ threads * 1048576)

-- what one more did
abbrev pub IsMore : (capacity : ℕ) → Job → SeatState → (count : ℕ) → Type 0
IsMore capacity j s count = (s.mine ≡ j.seat.mine + count) × (count ≤ capacity)

pub more_of : (i : ImageTables) (n : ℕ) (row : RowId) (always : Type 0) (j : Job) (s : SeatState)
    (answer : Result ℕ BoardFault) → GaveBack i n row always j (gave s answer)
    → IfOk answer (IsMore row.capacity j s)
more_of i n row always j s (Ok count) g = (g.finished.1, g.finished.2)
more_of i n row always j s (Err f) g = tt

pub counts_fit : (capacity threads : ℕ) (jobs : List Job) (back : List SeatState) (j : Job) (s : SeatState)
    (journaled more : Result ℕ BoardFault) → capacity ≤ 2 ^ 20 → threads ≤ 256
    → IfOk journaled (IsCount threads jobs back) → IfOk more (IsMore capacity j s)
    → IfOk journaled (λ count. IfOk more (λ further. count + further < 2 ^ 32))
counts_fit capacity threads jobs back j s (Err f) more small few c m = tt
counts_fit capacity threads jobs back j s (Ok count) (Err f) small few c m = tt
counts_fit capacity threads jobs back j s (Ok count) (Ok further) small few c m = omega (arith, small, few, c.1, m.1)

pub one_counted : (capacity threads : ℕ) (jobs : List Job) (back now : List SeatState) (j : Job) (s : SeatState)
    (journaled more result : Result ℕ BoardFault) → capacity ≤ 2 ^ 20
    → IfOk journaled (IsCount threads jobs back) → IfOk more (IsMore capacity j s) → now ≡ back ++ s ∷ [] → result
    ≡ both journaled more
    → IfOk result (IsCount (threads + 1) (jobs ++ j ∷ []) now)
one_counted capacity threads jobs back now j s journaled more result small c m is r =
    subst (λ (x : Result ℕ BoardFault). IfOk x (IsCount (threads + 1) (jobs ++ j ∷ []) now)) (sym r)
    (cases journaled more c m)
  where
    cases : (journaled more : Result ℕ BoardFault) → IfOk journaled (IsCount threads jobs back)
        → IfOk more (IsMore capacity j s)
        → IfOk (both journaled more) (IsCount (threads + 1) (jobs ++ j ∷ []) now)
    cases (Err f) more c m = tt
    cases (Ok count) (Err f) c m = tt
    cases (Ok count) (Ok further) c m = (
      omega (
        arith,
        ap mine_of is,
        mine_last back s,
        ap mine_of (seats_last jobs j),
        mine_last
            (seats_of jobs) j.seat,
        c.0,
        m.0,
      ),
      omega (arith, c.1, m.1, small),
    )

pub none_counted : (back : List SeatState) → back ≡ [] → IfOk {E = BoardFault} (Ok 0) (IsCount 0 [] back)
none_counted back is = (ap mine_of is, omega arith)

pub all_counted : (threads : ℕ) (first jobs : List Job) (back : List SeatState) (result : Result ℕ BoardFault) → first
    ≡ jobs → IfOk result (IsCount threads first back)
    → IfOk result (λ count. mine_of back ≡ mine_of (seats_of jobs) + count)
all_counted threads first jobs back (Err f) is c = tt
all_counted threads first jobs back (Ok count) is c = c.0 ∙ ap (λ (xs : List Job). mine_of (seats_of xs) + count) is
