-- What stands in the journal of a closed board whose threads started with new seats.
use Rattle.std.proofs.Common.{◌≡◌, ◌≢◌, ◌⊎◌, inl, inr, ℕ, zero, suc, ◌+◌, ◌*◌, ◌<◌, ◌≤◌, ◌==◌, nat_eq, nat_lt, Bool}
use Rattle.std.proofs.Common.{true, false, true≢false, cond, List, [], ◌∷◌, ◌++◌, Some, Ok, Err, slice_get, length}
use Rattle.std.proofs.Common.{filter, replicate, refl, sym, ap, ◌∙◌, subst, arith}
use Rattle.std.proofs.lemmas.List.{length-replicate}
use Rattle.std.proofs.lemmas.List.Elements.{All-cons, All-nil, All-tail}
use Rattle.std.proofs.lemmas.Option.{get_or_from_slice_get, slice_get_within}
use Rattle.std.proofs.lemmas.Bool.Decides.{nat_tests}
use Rattle.std.proofs.Math.Nat.{suc-mul}
use Rattle.std.specs.List.{All, AllByRecursion}
use mathlib.Core.List.{IsPrefix}
use Rattle.fmp_base.specs.declared.events.Event.{Event}
use Rattle.fmp_base.specs.declared.events.Event.TheVariants.{Int, Run, Tick}
use Rattle.fmp_image_bytes.specs.Images.{ImageTables}
use Rattle.fmp_journal.specs.declared.entry.JournalEntry.{JournalEntry}
use Rattle.fmp_journal.specs.Seats.{AreNew, RowId, SeatState, events, new_seat}
use Rattle.fmp_journal.specs.Views.{own}
use Rattle.fmp_journal.specs.Words.{entry}
use Rattle.fmp_board.specs.declared.fault.BoardFault.{BoardFault}
use Rattle.fmp_board.specs.declared.fault.BoardFault.TheVariants as fault
use Rattle.fmp_board.specs.Boards.{ClosedState, HasCounted, IsCountedBy}
use Rattle.fmp_hostrun.specs.declared.turns.Load.{Load}
use Rattle.fmp_hostrun.specs.declared.turns.ThreadPart.{ThreadPart}
use Rattle.fmp_hostrun.specs.Counts.{AreCounted, IsEventOf, is_interrupt, is_run, is_tick}
use Rattle.fmp_hostrun.specs.Works.{AllAdded, Added, CameBackAs, IsAnswer, IsRun, Job, jobs_of, most_of, part_at}
use Rattle.fmp_hostrun.proofs.Joining.{stopped, why_seen}
use Rattle.fmp_hostrun.proofs.Working.{own_same}

-- elements of lists

by_recursion : {X : Type 0} (P : X → Type 0) (xs : List X) → All P xs → AllByRecursion P xs
by_recursion P [] all = tt
by_recursion P (x ∷ xs) all = (all zero x (omega arith), by_recursion P xs (All-tail P x xs all))

by_place : {X : Type 0} (P : X → Type 0) (xs : List X) (i : ℕ) (x : X) → All P xs → slice_get xs i ≡ Some x → P x
by_place P xs i x all found = subst P (get_or_from_slice_get xs i x x found) (all i x (slice_get_within xs i x found))

all_replicated : {X : Type 0} (P : X → Type 0) (n : ℕ) (x : X) → P x → AllByRecursion P (replicate n x)
all_replicated P zero x p = tt
all_replicated P (suc n) x p = (p, all_replicated P n x p)

-- elements that pass a test, by whether the first one does

kept_rest : {X : Type 0} (P : X → Type 0) (b : Bool) (x : X) (ys : List X) → AllByRecursion P (cond b (x ∷ ys) ys)
    → AllByRecursion P ys
kept_rest P true x ys all = all.1
kept_rest P false x ys all = all

kept_first : {X : Type 0} (P : X → Type 0) (b : Bool) (x : X) (ys : List X) → b ≡ true
    → AllByRecursion P (cond b (x ∷ ys) ys) → P x
kept_first P true x ys is all = all.0
kept_first P false x ys is all = absurd (true≢false (sym is))

count_cons : {X : Type 0} (b : Bool) (x : X) (ys : List X) → length (cond b (x ∷ ys) ys) ≡ cond b 1 0 + length ys
count_cons true x ys = omega arith
count_cons false x ys = omega arith

more_of : (b c : Bool) → (b ≡ true → c ≡ true) → cond b 1 0 ≤ cond c 1 0
more_of false c then = omega arith
more_of true true then = omega arith
more_of true false then = absurd (true≢false (sym (then refl)))

same_number : (n : ℕ) → (n == n) ≡ true
same_number n = grind (arith, nat_tests)

-- the entries of one seat in a journal

-- they are at most as many as its thread's part allows, and of its event
record IsOwn (load : Load) (s : ℕ) (journal : List JournalEntry) : Type 0 where
  few : length (own s journal) ≤ (part_at load s).times
  are : AllByRecursion (λ x. x.event ≡ (part_at load s).event) (own s journal)

is_own : (i : ImageTables) (n : ℕ) (row : RowId) (load : Load) (s : ℕ) (b : SeatState) (journal : List JournalEntry)
    → Added i n row (part_at load s).event (part_at load s).times (new_seat row s) b → HasCounted journal b
    → IsOwn load s journal
is_own i n row load s b journal a h =
    let e : Event = (part_at load s).event in
    let number : b.number ≡ s = ap (λ (x : SeatState). x.number) a.kept.same in
    let seen : own b.number b.seen ≡ replicate a.count (entry s e) = a.added refl in
    let count : length (own b.number journal) ≡ length (own b.number b.seen) = omega
    (arith, h.1, a.mine_is, ap length seen, length-replicate a.count (entry s e)) in
    let all : own s journal ≡ replicate a.count (entry s e) =
    ap (λ (m : ℕ). own m journal) (sym number) ∙ own_same b.number b.seen journal h.0 count ∙ seen in
    record {
      few = omega (arith, ap length all, length-replicate a.count (entry s e), a.few);
      are = subst (AllByRecursion (λ x. x.event ≡ e)) (sym all) (all_replicated (λ x. x.event ≡ e) a.count
          (entry s e) refl);
    }

added_at : (i : ImageTables) (n : ℕ) (row : RowId) (load : Load) (place s : ℕ) (seats back : List SeatState)
    (a : SeatState) → AllAdded i n row load place seats back
    → slice_get seats s ≡ Some a
    → (b : SeatState) × (slice_get back s ≡ Some b) × Added i n row (part_at load (place + s)).event
    (part_at load (place + s)).times a b
added_at i n row load place s [] back a all found = absurd (cc)
added_at i n row load place s (x ∷ seats) [] a all found = absurd all
added_at i n row load place zero (x ∷ seats) (y ∷ back) a all found =
    let part : part_at load place ≡ part_at load (place + 0) = ap (part_at load) (omega arith) in
    let is : x ≡ a = cc in (
      y,
      refl,
      subst (λ (p : ThreadPart). Added i n row p.event p.times a y) part
          (subst (λ (z : SeatState). Added i n row (part_at load place).event (part_at load place).times z y) is all.0),
    )
added_at i n row load place (suc s) (x ∷ seats) (y ∷ back) a all found =
    let next = added_at i n row load (place + 1) s seats back a all.1 found in
    let part : part_at load (place + 1 + s) ≡ part_at load (place + suc s) = ap (part_at load) (omega arith) in
    (next.0, next.1, subst (λ (p : ThreadPart). Added i n row p.event p.times a next.0) part next.2)

-- the seats of a board that was closed have counted their entries
own_at : (i : ImageTables) (n : ℕ) (row : RowId) (load : Load) (seats back : List SeatState)
    (journal : List JournalEntry) → AreNew row seats → AllAdded i n row load 0 seats back
    → All (HasCounted journal) back → (s : ℕ) → s < row.seats → IsOwn load s journal
own_at i n row load seats back journal new all counted s lt =
    let found = added_at i n row load 0 s seats back (new_seat row s) all (new.1 s lt) in
    let part : part_at load (0 + s) ≡ part_at load s = ap (part_at load) (omega arith) in
    is_own i n row load s found.0 journal (subst (λ (p : ThreadPart). Added i n row p.event p.times
    (new_seat row s) found.0) part found.2)
    (by_place (HasCounted journal) back s found.0 counted found.1)

-- the event of each entry is that of its seat's thread

abbrev IsOf : Load → (m : ℕ) → JournalEntry → Type 0
IsOf load m x = (x.seat < m) × (x.event ≡ (part_at load x.seat).event)

all_of : (load : Load) (m : ℕ) (journal : List JournalEntry) → AllByRecursion (λ x. x.seat < m) journal
    → ((s : ℕ) → s < m → AllByRecursion (λ x. x.event ≡ (part_at load s).event) (own s journal))
    → AllByRecursion (IsOf load m) journal
all_of load m [] seats are = tt
all_of load m (x ∷ journal) seats are = (
  (
    seats.0,
    kept_first (λ y. y.event ≡ (part_at load x.seat).event) (x.seat == x.seat) x (own x.seat journal)
        (same_number x.seat) (are x.seat seats.0),
  ),
  all_of load m journal seats.1 (λ s lt. kept_rest (λ y. y.event ≡ (part_at load s).event) (x.seat == s) x
      (own s journal) (are s lt)),
)

-- entries of an event, counted

count_most : (P : JournalEntry → Type 0) (p : Event → Bool) (q : JournalEntry → Bool)
    → ((x : JournalEntry) → P x → p x.event ≡ true → q x ≡ true) → (journal : List JournalEntry)
    → AllByRecursion P journal → length (filter p (events journal)) ≤ length (filter q journal)
count_most P p q then [] all = omega arith
count_most P p q then (x ∷ journal) all =
    omega (
      arith,
      count_cons (p x.event) x.event (filter p (events journal)),
      count_cons (q x) x
          (filter q journal),
      more_of (p x.event) (q x) (then x all.0),
      count_most P p q then journal all.1,
    )

count_none : (journal : List JournalEntry) → length (filter (λ (x : JournalEntry). false) journal) ≡ 0
count_none [] = refl
count_none (x ∷ journal) = count_none journal

-- the part of a thread, by its place
data Kind (load : Load) (s : ℕ) : Type 0 where
  runs : s < load.processors → Kind load s
  ticks : s ≡ load.processors → Kind load s
  interrupts : load.processors < s → Kind load s

kind : (load : Load) (s : ℕ) → Kind load s
kind load s = by_first (grind arith)
  where
    by_second : (s ≡ load.processors) ⊎ (load.processors < s) → Kind load s
    by_second (inl is) = ticks is
    by_second (inr past) = interrupts past

    by_first : (s < load.processors) ⊎ (load.processors ≤ s) → Kind load s
    by_first (inl lt) = runs lt
    by_first (inr le) = by_second (grind (arith, le))

abbrev runs_part : Load → (s : ℕ) → ThreadPart
runs_part load s = record { event = Run (s + 1); times = load.turns }

abbrev ticks_part : Load → ThreadPart
ticks_part load = record { event = Tick; times = load.ticks }

abbrev interrupts_part : Load → ThreadPart
interrupts_part load = record { event = Int load.interrupt; times = load.interrupts }

part_runs : (load : Load) (s : ℕ) → s < load.processors → part_at load s ≡ runs_part load s
part_runs load s lt =
    let test : nat_lt s load.processors ≡ true = grind (arith, nat_tests, lt) in
    ap (λ (b : Bool). cond b (runs_part load s) (cond (nat_eq s load.processors) (ticks_part load)
    (interrupts_part load))) test

part_late : (load : Load) (s : ℕ) → load.processors ≤ s
    → part_at load s ≡ cond (nat_eq s load.processors) (ticks_part load) (interrupts_part load)
part_late load s le =
    let test : nat_lt s load.processors ≡ false = grind (arith, nat_tests, le) in
    ap (λ (b : Bool). cond b (runs_part load s) (cond (nat_eq s load.processors) (ticks_part load)
    (interrupts_part load))) test

part_ticks : (load : Load) (s : ℕ) → s ≡ load.processors → part_at load s ≡ ticks_part load
part_ticks load s is =
    let test : nat_eq s load.processors ≡ true = grind (arith, nat_tests, is) in
    part_late load s (omega (arith, is))
    ∙ ap (λ (b : Bool). cond b (ticks_part load) (interrupts_part load)) test

part_interrupts : (load : Load) (s : ℕ) → load.processors < s → part_at load s ≡ interrupts_part load
part_interrupts load s past =
    let test : nat_eq s load.processors ≡ false = grind (arith, nat_tests, past) in
    part_late load s (omega (arith, past))
    ∙ ap (λ (b : Bool). cond b (ticks_part load) (interrupts_part load)) test

turns_at : (load : Load) (s : ℕ) → s < load.processors → (part_at load s).times ≡ load.turns
turns_at load s less = ap (λ (p : ThreadPart). p.times) (part_runs load s less)

ticks_at : (load : Load) → (part_at load load.processors).times ≡ load.ticks
ticks_at load = ap (λ (p : ThreadPart). p.times) (part_ticks load load.processors refl)

interrupts_at : (load : Load) → (part_at load (suc load.processors)).times ≡ load.interrupts
interrupts_at load = ap (λ (p : ThreadPart). p.times) (part_interrupts load (suc load.processors) (omega arith))

-- the event of an entry, by the place of its seat
module _ (load : Load) (s : ℕ) (e : Event) (is : e ≡ (part_at load s).event) where
  is_of_run : s < load.processors → e ≡ Run (s + 1)
  is_of_run lt = is ∙ ap (λ (p : ThreadPart). p.event) (part_runs load s lt)

  is_of_tick : s ≡ load.processors → e ≡ Tick
  is_of_tick same = is ∙ ap (λ (p : ThreadPart). p.event) (part_ticks load s same)

  is_of_interrupt : load.processors < s → e ≡ Int load.interrupt
  is_of_interrupt past = is ∙ ap (λ (p : ThreadPart). p.event) (part_interrupts load s past)

  -- it is one of the load
  event_of_load : IsEventOf load e
  event_of_load = by_kind (kind load s)
    where
      by_kind : Kind load s → IsEventOf load e
      by_kind (runs lt) = subst (IsEventOf load) (sym (is_of_run lt)) (omega arith, omega (arith, lt))
      by_kind (ticks same) = subst (IsEventOf load) (sym (is_of_tick same)) tt
      by_kind (interrupts past) = subst (IsEventOf load) (sym (is_of_interrupt past)) refl

  -- the seat of a processor runs that one
  run_seat : (q : ℕ) → is_run (suc q) e ≡ true → (s == q) ≡ true
  run_seat q one = by_kind (kind load s)
    where
      by_kind : Kind load s → (s == q) ≡ true
      by_kind (runs lt) =
          let same : (s + 1 == suc q) ≡ true = sym (ap (is_run (suc q)) (is_of_run lt)) ∙ one in
          grind (arith, nat_tests, same)
      by_kind (ticks same) = absurd (true≢false (sym (sym (ap (is_run (suc q)) (is_of_tick same)) ∙ one)))
      by_kind (interrupts past) = absurd (true≢false (sym (sym (ap (is_run (suc q)) (is_of_interrupt past)) ∙ one)))

  -- only the seats of processors have runs, of processors that there are
  no_run : (p : ℕ) → (p ≡ 0) ⊎ (load.processors < p) → is_run p e ≡ true → false ≡ true
  no_run p other one = by_kind (kind load s) other
    where
      by_kind : Kind load s → (p ≡ 0) ⊎ (load.processors < p) → false ≡ true
      by_kind (runs lt) (inl none) =
          let same : (s + 1 == p) ≡ true = sym (ap (is_run p) (is_of_run lt)) ∙ one in
          absurd (grind (arith, nat_tests, same, none))
      by_kind (runs lt) (inr past) =
          let same : (s + 1 == p) ≡ true = sym (ap (is_run p) (is_of_run lt)) ∙ one in
          absurd (grind (arith, nat_tests, same, past, lt))
      by_kind (ticks same) o = sym (ap (is_run p) (is_of_tick same)) ∙ one
      by_kind (interrupts past) o = sym (ap (is_run p) (is_of_interrupt past)) ∙ one

  tick_seat : is_tick e ≡ true → (s == load.processors) ≡ true
  tick_seat one = by_kind (kind load s)
    where
      by_kind : Kind load s → (s == load.processors) ≡ true
      by_kind (runs lt) = absurd (true≢false (sym (sym (ap is_tick (is_of_run lt)) ∙ one)))
      by_kind (ticks same) = grind (arith, nat_tests, same)
      by_kind (interrupts past) = absurd (true≢false (sym (sym (ap is_tick (is_of_interrupt past)) ∙ one)))

  interrupt_seat : s < load.processors + 2 → is_interrupt e ≡ true → (s == suc load.processors) ≡ true
  interrupt_seat within one = by_kind (kind load s)
    where
      by_kind : Kind load s → (s == suc load.processors) ≡ true
      by_kind (runs lt) = absurd (true≢false (sym (sym (ap is_interrupt (is_of_run lt)) ∙ one)))
      by_kind (ticks same) = absurd (true≢false (sym (sym (ap is_interrupt (is_of_tick same)) ∙ one)))
      by_kind (interrupts past) = grind (arith, nat_tests, past, within)

all_of_load : (load : Load) (m : ℕ) (journal : List JournalEntry) → AllByRecursion (IsOf load m) journal
    → All (IsEventOf load) (events journal)
all_of_load load m [] all = All-nil (IsEventOf load)
all_of_load load m (x ∷ journal) all =
    All-cons (IsEventOf load) x.event (events journal) (event_of_load load x.seat x.event all.0.1)
    (all_of_load load m journal all.1)

few_runs : (load : Load) (m : ℕ) (journal : List JournalEntry) → m ≡ load.processors + 2
    → AllByRecursion (IsOf load m) journal → ((s : ℕ) → s < m → IsOwn load s journal) → (p : ℕ)
    → length (filter (is_run p) (events journal)) ≤ load.turns
few_runs load m journal size all owns p = by_number p (grind arith)
  where
    never : (p ≡ 0) ⊎ (load.processors < p) → length (filter (is_run p) (events journal)) ≤ load.turns
    never other =
        let most = count_most (IsOf load m) (is_run p) (λ (x : JournalEntry). false)
        (λ x of is. no_run load x.seat x.event of.1 p other is) journal all in
        omega (arith, most, count_none journal)

    by_side : (q : ℕ) → p ≡ suc q → (load.processors < p) ⊎ (p ≤ load.processors)
        → length (filter (is_run p) (events journal)) ≤ load.turns
    by_side q is (inl past) = never (inr past)
    by_side q is (inr within) =
        let most = count_most (IsOf load m) (is_run (suc q)) (λ (x : JournalEntry). x.seat == q)
        (λ x of one. run_seat load x.seat x.event of.1 q one) journal all in
        let few = (owns q (omega (arith, is, within, size))).few in
        let same : length (filter (is_run p) (events journal))
        ≡ length (filter (is_run (suc q)) (events journal)) = ap (λ (k : ℕ). length
        (filter (is_run k) (events journal))) is in
        omega (arith, same, most, few, turns_at load q (omega (arith, is, within)))

    by_number : (k : ℕ) → p ≡ k → length (filter (is_run p) (events journal)) ≤ load.turns
    by_number zero is = never (inl is)
    by_number (suc q) is = by_side q is (grind arith)

few_ticks : (load : Load) (m : ℕ) (journal : List JournalEntry) → m ≡ load.processors + 2
    → AllByRecursion (IsOf load m) journal → ((s : ℕ) → s < m → IsOwn load s journal)
    → length (filter is_tick (events journal)) ≤ load.ticks
few_ticks load m journal size all owns =
    let most = count_most (IsOf load m) is_tick (λ (x : JournalEntry). x.seat == load.processors)
    (λ x of one. tick_seat load x.seat x.event of.1 one) journal all in
    let few = (owns load.processors (omega (arith, size))).few in
    omega (arith, most, few, ticks_at load)

few_interrupts : (load : Load) (m : ℕ) (journal : List JournalEntry) → m ≡ load.processors + 2
    → AllByRecursion (IsOf load m) journal → ((s : ℕ) → s < m → IsOwn load s journal)
    → length (filter is_interrupt (events journal)) ≤ load.interrupts
few_interrupts load m journal size all owns =
    let most = count_most (IsOf load m) is_interrupt (λ (x : JournalEntry). x.seat == suc load.processors)
    (λ x of one. interrupt_seat load x.seat x.event of.1 (omega (arith, of.0, size)) one) journal all in
    let few = (owns (suc load.processors) (omega (arith, size))).few in
    omega (arith, most, few, interrupts_at load)

pub are_counted : (i : ImageTables) (n : ℕ) (row : RowId) (load : Load) (seats back : List SeatState)
    (closed : ClosedState) → AreNew row seats → row.seats ≡ load.processors + 2
    → AllAdded i n row load 0 seats back → IsCountedBy i n row.capacity row.seats back closed
    → AreCounted load closed.events
are_counted i n row load seats back closed new size all c =
    let owns = own_at i n row load seats back c.journal new all c.counted in
    let of = all_of load row.seats c.journal (by_recursion (λ x. x.seat < row.seats) c.journal c.journal_is.seats)
    (λ s lt. (owns s lt).are) in
    subst (AreCounted load) (sym c.events_are)
    (record {
      each = all_of_load load row.seats c.journal of;
      few_runs = few_runs load row.seats c.journal size of owns;
      few_ticks = few_ticks load row.seats c.journal size of owns;
      few_interrupts = few_interrupts load row.seats c.journal size of owns;
    })

-- how many entries there are

-- those of the first seats
abbrev owned : (seats : ℕ) → List JournalEntry → ℕ
owned zero journal = 0
owned (suc s) journal = owned s journal + length (own s journal)

owned_none : (m : ℕ) → owned m [] ≡ 0
owned_none zero = refl
owned_none (suc m) = let o = owned_none m in omega (arith, o)

owned_one : (m : ℕ) (x : JournalEntry) (journal : List JournalEntry) → owned m (x ∷ journal) ≡ owned m journal
    + cond (nat_lt x.seat m) 1 0
owned_one zero x journal = grind (arith, nat_tests)
owned_one (suc m) x journal =
    let o = owned_one m x journal in
    let one = count_cons (x.seat == m) x (own m journal) in
    let split : cond (nat_lt x.seat (suc m)) 1 0 ≡ cond (nat_lt x.seat m) 1 0
    + cond (x.seat == m) 1 0 = grind (arith, nat_tests) in
    omega (arith, o, one, split)

owned_all : (m : ℕ) (journal : List JournalEntry) → AllByRecursion (λ x. x.seat < m) journal → owned m journal
    ≡ length journal
owned_all m [] all = owned_none m
owned_all m (x ∷ journal) all =
    let o = owned_all m journal all.1 in
    let lt = all.0 in
    let here : nat_lt x.seat m ≡ true = grind (arith, nat_tests, lt) in
    let one : cond {A = ℕ} (nat_lt x.seat m) 1 0 ≡ 1 = ap (λ (b : Bool). cond {A = ℕ} b 1 0) here in
    omega (arith, o, one, owned_one m x journal)

owned_most : (turns m : ℕ) (journal : List JournalEntry) → ((s : ℕ) → s < m → length (own s journal) ≤ turns)
    → owned m journal ≤ m * turns
owned_most turns zero journal few = omega arith
owned_most turns (suc m) journal few =
    omega (arith, owned_most turns m journal (λ s lt. few s (omega (arith, lt))), few m (omega arith), suc-mul m turns)

owned_fewer : (turns m s : ℕ) (journal : List JournalEntry) → ((t : ℕ) → t < m → length (own t journal) ≤ turns)
    → s < m → length (own s journal) < turns → owned m journal < m * turns
owned_fewer turns zero s journal few lt less = absurd (omega (arith, lt))
owned_fewer turns (suc m) s journal few lt less =
    by_place (λ before. owned_fewer turns m s journal (λ t le. few t (omega (arith, le))) before less)
    (grind (arith, lt))
  where
    by_place : (s < m → owned m journal < m * turns) → (s < m) ⊎ (s ≡ m) → owned (suc m) journal < suc m * turns
    by_place next (inl before) = omega (arith, next before, few m (omega arith), suc-mul m turns)
    by_place next (inr last) =
        let here : length (own m journal) ≡ length (own s journal) = ap (λ (k : ℕ). length (own k journal))
        (sym last) in
        omega (arith, owned_most turns m journal (λ t le. few t (omega (arith, le))), here, less, suc-mul m turns)

-- a journal is shorter than the sum of all parts where one seat has fewer entries than its part allows
fewer : (load : Load) (m s : ℕ) (journal : List JournalEntry) → m ≡ load.processors + 2
    → AllByRecursion (λ x. x.seat < m) journal → ((t : ℕ) → t < m → IsOwn load t journal) → s < m
    → length (own s journal) < (part_at load s).times → length journal < most_of load
fewer load m s journal size seats owns lt less = by_place (grind arith)
  where
    P : ℕ
    P = load.processors

    turns : (t : ℕ) → t < P → length (own t journal) ≤ load.turns
    turns t le = omega (arith, (owns t (omega (arith, le, size))).few, turns_at load t le)

    all : owned (suc (suc P)) journal ≡ length journal
    all =
        let same : suc (suc P) ≡ m = omega (arith, size) in
        ap (λ (k : ℕ). owned k journal) same ∙ owned_all m journal seats

    ticks_few : length (own P journal) ≤ load.ticks
    ticks_few = omega (arith, (owns P (omega (arith, size))).few, ticks_at load)

    interrupts_few : length (own (suc P) journal) ≤ load.interrupts
    interrupts_few = omega (arith, (owns (suc P) (omega (arith, size))).few, interrupts_at load)

    by_late : (s ≡ P) ⊎ (s ≡ suc P) → length journal < P * load.turns + load.ticks + load.interrupts
    by_late (inl same) =
        let here : length (own P journal) ≡ length (own s journal) = ap (λ (k : ℕ). length (own k journal))
        (sym same) in
        let part : (part_at load s).times ≡ load.ticks = ap (λ (k : ℕ). (part_at load k).times) same ∙ ticks_at load in
        omega (arith, all, owned_most load.turns P journal turns, here, part, less, interrupts_few)
    by_late (inr same) =
        let here : length (own (suc P) journal) ≡ length (own s journal) = ap (λ (k : ℕ). length (own k journal))
        (sym same) in
        let part : (part_at load s).times ≡ load.interrupts = ap (λ (k : ℕ). (part_at load k).times) same
        ∙ interrupts_at load in
        omega (arith, all, owned_most load.turns P journal turns, here, part, less, ticks_few)

    by_place : (s < P) ⊎ (P ≤ s) → length journal < P * load.turns + load.ticks + load.interrupts
    by_place (inl before) = omega (
      arith,
      all,
      ticks_few,
      interrupts_few,
      owned_fewer load.turns P s journal turns before
          (omega (arith, less, turns_at load s before)),
    )
    by_place (inr late) = by_late (grind (arith, lt, size, late))

job_at : (load : Load) (place s : ℕ) (seats : List SeatState) (j : Job) → slice_get (jobs_of load place seats) s
    ≡ Some j → (j.part ≡ part_at load (place + s)) × (slice_get seats s ≡ Some j.seat)
job_at load place s [] j found = absurd (cc)
job_at load place zero (x ∷ seats) j found =
    let part : part_at load place ≡ part_at load (place + 0) = ap (part_at load) (omega arith) in
    (cc (found, part), cc (found))
job_at load place (suc s) (x ∷ seats) j found =
    let next = job_at load (place + 1) s seats j found in
    let part : part_at load (place + 1 + s) ≡ part_at load (place + suc s) = ap (part_at load) (omega arith) in
    (next.0 ∙ part, next.1)

prefix_length : (xs ys : List JournalEntry) → IsPrefix xs ys → length xs ≤ length ys
prefix_length xs ys p = omega (arith, ap length (sym p.1), length_both xs p.0)
  where
    length_both : (us vs : List JournalEntry) → length (us ++ vs) ≡ length us + length vs
    length_both [] vs = omega arith
    length_both (u ∷ us) vs = let i = length_both us vs in omega (arith, i)

-- threads of new seats never find a journal full that has room for all that they are to do
pub never_full : (i : ImageTables) (n : ℕ) (row : RowId) (always : Type 0) (load : Load) (seats back : List SeatState)
    (closed : ClosedState) → AreNew row seats
    → row.seats ≡ load.processors + 2 → row.capacity ≡ most_of load
    → AllAdded i n row load 0 seats back → IsCountedBy i n row.capacity row.seats back closed
    → IsAnswer i n row always load seats back (Err fault.Full) → ⊥
never_full i n row always load seats back closed new size room all c joined =
    let owns = own_at i n row load seats back c.journal new all c.counted in
    let s = stopped i n row always (jobs_of load 0 seats) back fault.Full joined in
    let job = job_at load 0 s.place seats s.job s.job_is in
    let lt : s.place < row.seats = omega (arith, slice_get_within seats s.place s.job.seat job.1, new.0) in
    let counted : HasCounted c.journal s.seat = by_place (HasCounted c.journal) back s.place s.seat c.counted
    s.seat_is in
    let was : s.job.seat ≡ new_seat row s.place = same_found seats s.place s.job.seat (new_seat row s.place) job.1
    (new.1 s.place lt) in
    let number : s.seat.number ≡ s.place = ap (λ (x : SeatState). x.number) (s.added.kept.same)
    ∙ ap (λ (x : SeatState). x.number) was in
    let none : s.job.seat.mine ≡ 0 = ap (λ (x : SeatState). x.mine) was in
    let part : s.job.part ≡ part_at load s.place = job.0 ∙ ap (part_at load) (omega arith) in
    let times : s.job.part.times ≡ (part_at load s.place).times = ap (λ (p : ThreadPart). p.times) part in
    let mine : length (own s.place c.journal) ≡ s.seat.mine = ap (λ (k : ℕ). length (own k c.journal)) (sym number)
    ∙ counted.1 in
    let short : length c.journal < most_of load =
    fewer load row.seats s.place c.journal size (by_recursion (λ x. x.seat < row.seats) c.journal c.journal_is.seats)
    owns lt (omega (arith, mine, s.mine, none, times)) in
    absurd (omega (
      arith,
      short,
      room,
      prefix_length s.seat.seen c.journal counted.0,
      why_seen row always
          s.job.part.event s.seat s.why,
    ))
  where
    same_found : (seats : List SeatState) (place : ℕ) (a b : SeatState) → slice_get seats place ≡ Some a
        → slice_get seats place ≡ Some b → a ≡ b
    same_found seats place a b x y = cc (x, y)

-- what is answered for seats that came back

pub counted_ok : (i : ImageTables) (n : ℕ) (row : RowId) (load : Load) (seats back : List SeatState)
    (closed : ClosedState) (count : ℕ) → AreNew row seats
    → row.seats ≡ load.processors + 2 → CameBackAs (AllAdded i n row load 0) seats back (Ok count)
    → IsCountedBy i n row.capacity row.seats back closed
    → AreCounted load closed.events
counted_ok i n row load seats back closed count new size came c = are_counted i n row load seats back closed new size
    (came.all (λ e. absurd (cc e))) c

pub not_full : (i : ImageTables) (n : ℕ) (row : RowId) (always : Type 0) (load : Load) (seats back : List SeatState)
    (closed : ClosedState) (f : BoardFault) → AreNew row seats
    → row.seats ≡ load.processors + 2 → row.capacity ≡ most_of load
    → CameBackAs (AllAdded i n row load 0) seats back (Err f)
    → IsCountedBy i n row.capacity row.seats back closed → IsAnswer i n row always load seats back (Err f)
    → f ≢ fault.Full
not_full i n row always load seats back closed f new size room came c answer is =
    never_full i n row always load seats back closed new size room (came.all (λ e. absurd (cc (e, is)))) c
    (subst (λ (g : BoardFault). IsAnswer i n row always load seats back (Err g)) is answer)

-- what the threads of a board journaled that has room for all that they are to do
pub is_run_of : (i : ImageTables) (n : ℕ) (row : RowId) (always : Type 0) (load : Load) (seats back : List SeatState)
    (closed : ClosedState) (count : ℕ) → AreNew row seats → row.seats ≡ load.processors + 2
    → row.capacity ≡ most_of load → IsAnswer i n row always load seats back (Ok count)
    → IsCountedBy i n row.capacity row.seats back closed → IsRun i n always load closed.events
is_run_of i n row always load seats back closed count new size room answer c = record {
  row = row;
  size = size;
  capacity = room;
  seats = seats;
  new = new;
  back = back;
  count = count;
  worked = answer;
  journal = c.journal;
  journal_is = c.journal_is;
  counted = c.counted;
  events_are = c.events_are;
}
