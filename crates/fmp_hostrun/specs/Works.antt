-- The effect of a board's threads on their seats.
use Rattle.std.specs.Prelude.{◌≡◌, ◌≢◌, ◌⊎◌, ℕ, ◌+◌, ◌*◌, zero, suc, ◌<◌, ◌≤◌, nat_eq, nat_lt, if◌then◌else◌, List, []}
use Rattle.std.specs.Prelude.{◌∷◌, ◌++◌, length, map, replicate, slice_get, Option, Some, Result, Ok, Err, IfErr, IfOk}
use Rattle.std.specs.Prelude.{MatchOption}
use Rattle.std.specs.List.{All, AllZip}
use Rattle.fmp_base.specs.declared.events.Event.{Event}
use Rattle.fmp_base.specs.declared.events.Event.TheVariants.{Int, Run, Tick}
use Rattle.fmp_image_bytes.specs.Images.{ImageTables}
use Rattle.fmp_journal.specs.declared.entry.JournalEntry.{JournalEntry}
use Rattle.fmp_journal.specs.Seats.{AreNew, RowId, SeatState, events}
use Rattle.fmp_journal.specs.Views.{own}
use Rattle.fmp_journal.specs.Words.{entry}
use Rattle.fmp_board.specs.declared.fault.BoardFault.{BoardFault}
use Rattle.fmp_board.specs.declared.fault.BoardFault.TheVariants as fault
use Rattle.fmp_journal.specs.declared.receipt.Receipt.{Receipt}
use Rattle.fmp_board.specs.Outcomes.{Drew, Submitted, TicketState}
use Rattle.fmp_board.specs.Boards.{HasCounted, IsJournal}
use Rattle.fmp_board.specs.Visits.{Fed, Kept, Visited, journaled}
use Rattle.fmp_hostrun.specs.declared.turns.Load.{Load}
use Rattle.fmp_hostrun.specs.declared.turns.ThreadPart.{ThreadPart}

-- the part of the thread at this place, from 0: the processors come first, then the ticks, and then the interrupts
abbrev pub part_at : Load → (place : ℕ) → ThreadPart
part_at load place =
    if nat_lt place load.processors then record { event = Run (place + 1); times = load.turns } else
    if nat_eq place load.processors then record { event = Tick; times = load.ticks } else
    record { event = Int load.interrupt; times = load.interrupts }

-- a seat that has seen just as many entries of its own as it counted, as it has when it is new and after each call
abbrev pub IsCounted : SeatState → Type 0
IsCounted s = length (own s.number s.seen) ≡ s.mine

-- The effect on a seat of calls of a board that enter only this event, at most a given number of times: the seat has
-- counted those that were journaled, and has seen them after the entries of its own that it had seen before. If it
-- counted one, it has counted at most as many as a row has words.
pub record Added (i : ImageTables) (n : ℕ) (row : RowId) (e : Event) (most : ℕ) (was now : SeatState) : Type 0 where
  pub kept : Kept i n row was now
  pub count : ℕ
  pub few : count ≤ most
  pub mine_is : now.mine ≡ was.mine + count
  pub room : count ≢ 0 → now.mine ≤ row.capacity
  pub added : IsCounted was → own now.number now.seen ≡ own was.number was.seen ++ replicate count (entry was.number e)

-- the effect of a board's threads on their seats, the first of which is at this place
abbrev pub AllAdded : ImageTables → (n : ℕ) → RowId → Load → (place : ℕ) → (seats back : List SeatState) → Type 0
AllAdded i n row load place [] [] = Unit {0}
AllAdded i n row load place (s ∷ seats) (b ∷ back) =
    Added i n row (part_at load place).event (part_at load place).times s b
    × AllAdded i n row load (place + 1) seats back
AllAdded i n row load place [] (b ∷ back) = ⊥
AllAdded i n row load place (s ∷ seats) [] = ⊥

-- The stretch of a ticket was submitted by the seat that drew the ticket: the answer is a receipt, or the stretch is
-- stale, and the seat has then seen an event that came after the draw.
pub record HandedIn (i : ImageTables) (n : ℕ) (row : RowId) (t : TicketState) (drawn now : SeatState) : Type 0 where
  pub visited : Visited i n row drawn now
  pub answer : Result Receipt BoardFault
  pub submitted : Submitted i n row t drawn now answer
  pub mine : now.mine ≡ drawn.mine + journaled answer
  pub stale : IfErr answer (λ f. (f ≡ fault.Stale) × (length drawn.seen < length now.seen))

-- A turn of processor p: a seat drew a ticket, and found no actor, or handed in the stretch of the actor that it drew.
pub record TookTurn (i : ImageTables) (n : ℕ) (row : RowId) (p : ℕ) (was now : SeatState) : Type 0 where
  pub drawn : SeatState
  pub visited : Visited i n row was drawn
  pub mine : drawn.mine ≡ was.mine
  pub ticket : Option TicketState
  pub drew : Drew i n drawn.seen p ticket
  pub over : MatchOption ticket (now ≡ drawn) (λ t. HandedIn i n row t drawn now)

-- a seat fed an event, and the answer is a receipt
pub record WasFed (i : ImageTables) (n : ℕ) (row : RowId) (e : Event) (was now : SeatState) : Type 0 where
  pub visited : Visited i n row was now
  pub receipt : Receipt
  pub fed : Fed i n row e was now (Ok receipt)
  pub mine : now.mine ≡ was.mine + journaled (Ok receipt)

-- one time of a thread's part: a turn of its processor, or another event that it feeds
abbrev pub DidOnce : ImageTables → (n : ℕ) → RowId → Event → (was now : SeatState) → Type 0
DidOnce i n row (Run p) was now = TookTurn i n row p was now
DidOnce i n row Tick was now = WasFed i n row Tick was now
DidOnce i n row (Int h) was now = WasFed i n row (Int h) was now

-- an event that is fed by such a part
abbrev pub IsFed : Event → Type 0
IsFed (Run p) = ⊥
IsFed Tick = Unit {0}
IsFed (Int h) = Unit {0}

-- its part as often as asked, one time after the other
abbrev pub DidTimes : ImageTables → (n : ℕ) → RowId → Event → (times : ℕ) → (was now : SeatState) → Type 0
DidTimes i n row e zero was now = now ≡ was
DidTimes i n row e (suc times) was now =
    (mid : SeatState) × DidTimes i n row e times was mid × DidOnce i n row e mid now

-- a thread has done its part: all turns, all ticks, or the interrupt at most that often
abbrev pub DidPart : ImageTables → (n : ℕ) → RowId → Event → (times : ℕ) → (was now : SeatState) → Type 0
DidPart i n row (Run p) times was now = DidTimes i n row (Run p) times was now
DidPart i n row Tick times was now = DidTimes i n row Tick times was now
DidPart i n row (Int h) times was now = (count : ℕ) × (count ≤ times) × DidTimes i n row (Int h) count was now

-- the job of a thread: its part, and the seat with which it does it
pub record Job : Type 0 where
  pub part : ThreadPart
  pub seat : SeatState

abbrev pub job_of : ThreadPart → SeatState → Job
job_of part seat = record { part = part; seat = seat }

-- the jobs of threads, the first of which is at this place
abbrev pub jobs_of : Load → (place : ℕ) → List SeatState → List Job
jobs_of load place [] = []
jobs_of load place (s ∷ seats) = job_of (part_at load place) s ∷ jobs_of load (place + 1) seats

abbrev pub seats_of : List Job → List SeatState
seats_of jobs = map (λ j. j.seat) jobs

-- why a thread stopped before the end of its part: the journal was full, all of which its seat has then seen; or the
-- thread runs a processor, and the gate, which is not always open, said no
abbrev pub IsWhyStopped : RowId → (always : Type 0) → Event → (now : SeatState) → BoardFault → Type 0
IsWhyStopped row always event now f =
    ((f ≡ fault.Full) × (length now.seen ≡ row.capacity))
    ⊎ ((f ≡ fault.Held) × (always → ⊥) × ((p : ℕ) × (event ≡ Run p)))

-- what a thread gives back: its seat, and how many of its events were journaled, which it answers only at the end of
-- its part, or why it stopped before
pub record Gave : Type 0 where
  pub seat : SeatState
  pub answer : Result ℕ BoardFault

abbrev pub gave : SeatState → Result ℕ BoardFault → Gave
gave seat answer = record { seat = seat; answer = answer }

-- a thread did its part, or stopped, and gave this back
pub record GaveBack (i : ImageTables) (n : ℕ) (row : RowId) (always : Type 0) (job : Job) (g : Gave) : Type 0 where
  pub added : Added i n row job.part.event job.part.times job.seat g.seat
  pub finished :
      IfOk g.answer
      (λ count. DidPart i n row job.part.event job.part.times job.seat g.seat
      × (g.seat.mine ≡ job.seat.mine + count) × (count ≤ row.capacity))
  pub stopped :
      IfErr g.answer
      (λ f. (g.seat.mine < job.seat.mine + job.part.times) × IsWhyStopped row always job.part.event g.seat f)

-- the sum of two counts, or the first fault
abbrev pub both : (journaled more : Result ℕ BoardFault) → Result ℕ BoardFault
both (Ok count) (Ok more) = Ok (count + more)
both (Ok count) (Err f) = Err f
both (Err f) more = Err f

-- the sum of all counts, or the first fault
abbrev pub total : List (Result ℕ BoardFault) → Result ℕ BoardFault
total [] = Ok 0
total (answer ∷ answers) = both answer (total answers)

-- what was given back by all who have these jobs, in their order: the seats, and the total of the answers
pub record AllGave (i : ImageTables) (n : ℕ) (row : RowId) (always : Type 0) (jobs : List Job) (back : List SeatState)
    (answer : Result ℕ BoardFault) : Type 0 where
  pub all : List Gave
  pub each : AllZip (GaveBack i n row always) jobs all
  pub back_is : back ≡ map (λ g. g.seat) all
  pub answer_is : answer ≡ total (map (λ g. g.answer) all)

-- the sum of the counts of seats
abbrev pub mine_of : List SeatState → ℕ
mine_of [] = 0
mine_of (s ∷ seats) = s.mine + mine_of seats

-- what came back of seats, if a thread was refused: all but that thread's seat, those of the threads that ran as R says
-- of them, and the rest as they were
pub record AllButOne (R : (seats back : List SeatState) → Type 0) (seats back : List SeatState) : Type 0 where
  pub front : List SeatState
  pub lost : SeatState
  pub rest : List SeatState
  pub worked : List SeatState
  pub were : seats ≡ front ++ lost ∷ rest
  pub are : back ≡ worked ++ rest
  pub kept : R front worked

-- what came back of seats, in their order, as R says of them
pub record CameBackAs (R : (seats back : List SeatState) → Type 0) (seats back : List SeatState)
    (result : Result ℕ BoardFault) : Type 0 where
  pub all : result ≢ Err fault.Thread → R seats back
  pub refused : result ≡ Err fault.Thread → AllButOne R seats back

-- what came back of seats, in their order, each as P says
abbrev pub CameBack : (P : SeatState → SeatState → Type 0) → (seats back : List SeatState) → Result ℕ BoardFault
    → Type 0
CameBack P seats back result = CameBackAs (AllZip P) seats back result

-- what came back of seats, and the answer to their jobs
pub record AreRun (i : ImageTables) (n : ℕ) (row : RowId) (always : Type 0) (load : Load) (seats back : List SeatState)
    (answer : Result ℕ BoardFault) : Type 0 where
  pub added : CameBackAs (AllAdded i n row load 0) seats back answer
  pub mine : IfOk answer (λ count. mine_of back ≡ mine_of seats + count)
  pub worked : answer ≢ Err fault.Thread → AllGave i n row always (jobs_of load 0 seats) back answer

-- What is answered for seats: what all of them gave back; or a thread was refused, and its seat is lost; or they are as
-- they were. It is never that an outcome was stale.
abbrev pub IsAnswer : ImageTables → (n : ℕ) → RowId → (always : Type 0) → Load → (seats back : List SeatState)
    → Result ℕ BoardFault → Type 0
IsAnswer i n row always load seats back (Ok count) = AllGave i n row always (jobs_of load 0 seats) back (Ok count)
IsAnswer i n row always load seats back (Err fault.Full) =
    AllGave i n row always (jobs_of load 0 seats) back (Err fault.Full)
IsAnswer i n row always load seats back (Err fault.Held) =
    AllGave i n row always (jobs_of load 0 seats) back (Err fault.Held)
IsAnswer i n row always load seats back (Err fault.Thread) = AllButOne (AllAdded i n row load 0) seats back
IsAnswer i n row always load seats back (Err fault.Limit) = back ≡ seats
IsAnswer i n row always load seats back (Err fault.Memory) = back ≡ seats
IsAnswer i n row always load seats back (Err fault.Stale) = ⊥

-- one of these seats has seen a journal that is full
pub record HasFull (row : RowId) (seats : List SeatState) : Type 0 where
  pub place : ℕ
  pub seat : SeatState
  pub found : slice_get seats place ≡ Some seat
  pub full : length seat.seen ≡ row.capacity

-- what the threads of an image's board are to do without interrupts
abbrev pub load_of : ImageTables → (turns ticks : ℕ) → Load
load_of i turns ticks = record {
  processors = i.system.processors;
  turns = turns;
  ticks = ticks;
  interrupt = 0;
  interrupts = 0;
}

-- the most events that can come of it
abbrev pub most_of : Load → ℕ
most_of load = load.processors * load.turns + load.ticks + load.interrupts

-- What the threads of a board of new seats journal, one for each processor, one for the ticks and one for the
-- interrupts, where the board has room for all that they are to do: each seat has done its part, and these are the
-- events that they counted.
pub record IsRun (i : ImageTables) (n : ℕ) (always : Type 0) (load : Load) (es : List Event) : Type 0 where
  pub row : RowId
  pub size : row.seats ≡ load.processors + 2
  pub capacity : row.capacity ≡ most_of load
  pub seats : List SeatState
  pub new : AreNew row seats
  pub back : List SeatState
  pub count : ℕ
  pub worked : AllGave i n row always (jobs_of load 0 seats) back (Ok count)
  pub journal : List JournalEntry
  pub journal_is : IsJournal i n row.capacity row.seats journal
  pub counted : All (HasCounted journal) back
  pub events_are : es ≡ events journal
