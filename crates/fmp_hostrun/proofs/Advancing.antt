-- A seat that follows one event, and the kernel that takes it.
use Rattle.std.proofs.Common.{◌≡◌, ◌≢◌, ℕ, ◌+◌, ◌<◌, ◌≤◌, ◌^◌, List, [], ◌++◌, Option, Some, None, length, take, min}
use Rattle.std.proofs.Common.{ap, ◌∙◌, sym, arith, subst}
use Rattle.std.proofs.lemmas.List.{length-take}
use Rattle.fmp_base.specs.declared.events.Event.{Event}
use Rattle.fmp_base.specs.Setups.{setup}
use Rattle.fmp_base.specs.Steps.{Reaction, step}
use Rattle.fmp_base.specs.Systems.{SystemTables}
use Rattle.fmp_instructions.specs.declared.instructions.MachineContext.{MachineContext}
use Rattle.fmp_instructions.specs.Instructions.{BodyTables}
use Rattle.fmp_instructions.specs.Machine.{code_meaning}
use Rattle.fmp_image_bytes.specs.Images.{ImageTables}
use Rattle.fmp_kernel.specs.KernelViews.{KernelView, view_after, view_of_setup}
use Rattle.fmp_journal.specs.declared.entry.JournalEntry.{JournalEntry}
use Rattle.fmp_journal.specs.Seats.{RowId, SeatState, events, given}
use Rattle.fmp_base.specs.Texts.{lines_text}
use Rattle.fmp_board.specs.Boards.{IsAt}
use Rattle.fmp_replay.specs.Replays.{kernel_after}
use Rattle.fmp_replay.proofs.Replaying.{setup_replays}
use Rattle.fmp_hostrun.specs.Followers.{Continues, Follows, IsFollowing, followed_text, kernel_over, reaction_text}
use Rattle.fmp_hostrun.proofs.Following.{SameRun, followed_last, followed_none, nothing_after, same_run, taken_few}
use Rattle.fmp_hostrun.proofs.Following.{view_last}

abbrev Kernels : Type 0
Kernels = KernelView (List BodyTables) MachineContext

abbrev pub reaction_of : Kernels → Event → Reaction MachineContext
reaction_of k e = step k.system (code_meaning k.body) k.bound k.world e

abbrev start : ImageTables → ℕ → Kernels
start i n = view_of_setup i.code n i.system (setup i.system (code_meaning i.code))

-- the system of a kernel that took events
pub system_of : (i : ImageTables) (n : ℕ) (row : RowId) (seat : SeatState) (k : Kernels) → IsFollowing i n row seat k
    → k.system ≡ i.system
unfolding kernel_over
system_of i n row seat k f =
    ap (λ (v : Kernels). v.system) f.kernel_is ∙ (same_run code_meaning (start i n) (given seat)).system

-- what an event does in it
same_reaction : (i : ImageTables) (n : ℕ) (es : List Event) (e : Event)
    → reaction_of (kernel_over i n es) e ≡ step i.system (code_meaning i.code) n (kernel_over i n es).world e
unfolding kernel_over
same_reaction i n es e =
    let k : Kernels = kernel_over i n es in
    let s : SameRun code_meaning (start i n) k = same_run code_meaning (start i n) es in
    ap (λ (t : SystemTables). step t (code_meaning k.body) k.bound k.world e) s.system
    ∙ ap (λ (b : List BodyTables). step i.system (code_meaning b) k.bound k.world e) s.body
    ∙ ap (λ (m : ℕ). step i.system (code_meaning i.code) m k.world e) s.bound

few_given : (seat : SeatState) → length (given seat) ≤ seat.place
few_given seat = let all : length (given seat) ≡ min seat.place (length (events seat.seen)) = length-take seat.place
    (events seat.seen) in omega (arith, all)

abbrev IsGiven : Option Event → Type 0
IsGiven (Some e) = Unit {0}
IsGiven None = ⊥

some_is_not_none : (e : Event) → Some e ≡ None → ⊥
some_is_not_none e h = subst IsGiven h tt

-- there was a word to read where an event was given
room_left : (row : RowId) (old new : SeatState) (e : Event) → old.place ≤ row.capacity
    → Follows row.capacity old new (Some e) → old.place < row.capacity
room_left row old new e le f =
    let other : old.place ≢ row.capacity = λ h. some_is_not_none e (f.end h).1 in
    omega (arith, le, other)

-- fewer events were taken than a kernel takes
pub early : (i : ImageTables) (n : ℕ) (row : RowId) (old new : SeatState) (k : Kernels) (e : Event)
    → IsFollowing i n row old k → Follows row.capacity old new (Some e) → k.taken < 2 ^ 20
unfolding kernel_over
early i n row old new k e was f =
    let few : (kernel_over i n (given old)).taken ≤ 0 + length (given old) = taken_few code_meaning (start i n)
    (given old) in
    let same : k.taken ≡ (kernel_over i n (given old)).taken = ap (λ (v : Kernels). v.taken) was.kernel_is in
    omega (arith, few, same, few_given old, room_left row old new e was.place f, was.capacity)

row_kept : (row : RowId) (capacity : ℕ) (old new : SeatState) (r : Option Event) → old.row ≡ row
    → Follows capacity old new r → new.row ≡ row
row_kept row capacity old new r at f = ap (λ (s : SeatState). s.row) f.same ∙ at

-- a kernel that takes the event that was given
pub goes_on : (i : ImageTables) (n : ℕ) (row : RowId) (old new : SeatState) (k next : Kernels) (e : Event)
    → IsFollowing i n row old k → Follows row.capacity old new (Some e) → next ≡ view_after k (reaction_of k e)
    → IsFollowing i n row new next
unfolding kernel_over
goes_on i n row old new k next e was f is =
    let left : old.place < row.capacity = room_left row old new e was.place f in
    let more : new.place ≡ old.place + 1 = f.some.0 in
    record {
      at = row_kept row row.capacity old new (Some e) was.at f;
      place = omega (arith, left, more);
      capacity = was.capacity;
      kernel_is =
          is ∙ ap (λ (v : Kernels). view_after v (reaction_of v e)) was.kernel_is
          ∙ sym (view_last code_meaning (start i n) (given old) e)
          ∙ ap (λ (es : List Event). kernel_over i n es) (sym f.some.1);
    }

same_given : (capacity : ℕ) (old new : SeatState) → Follows capacity old new None → given new ≡ given old
same_given capacity old new f =
    ap (λ (p : ℕ). take p (events new.seen)) f.none.0
    ∙ ap (λ (xs : List JournalEntry). take old.place (events xs)) f.none.1

-- where no event was given, all stays
pub stays : (i : ImageTables) (n : ℕ) (row : RowId) (old new : SeatState) (k : Kernels)
    → IsFollowing i n row old k → Follows row.capacity old new None → IsFollowing i n row new k
stays i n row old new k was f =
    let same : new.place ≡ old.place = f.none.0 in
    record {
      at = row_kept row row.capacity old new None was.at f;
      place = omega (arith, was.place, same);
      capacity = was.capacity;
      kernel_is = was.kernel_is ∙ ap (λ (es : List Event). kernel_over i n es)
          (sym (same_given row.capacity old new f));
    }

-- the text of what the event did is what the text over all events has more
pub prints : (i : ImageTables) (n : ℕ) (row : RowId) (old new : SeatState) (k : Kernels) (e : Event) (out next : List ℕ)
    → IsFollowing i n row old k → Follows row.capacity old new (Some e) → next ≡ out
    ++ reaction_text k.system (k.done + 1) (reaction_of k e)
    → Continues i n (given old) (given new) out next
unfolding kernel_over
prints i n row old new k e out next was f written =
    let v : Kernels = kernel_over i n (given old) in
    let text : List ℕ = reaction_text i.system (v.done + 1) (step i.system (code_meaning i.code) n v.world e) in
    record {
      more = text;
      appended =
          written ∙ ap (λ (w : Kernels). out ++ reaction_text w.system (w.done + 1) (reaction_of w e)) was.kernel_is
          ∙ ap (λ (t : SystemTables). out ++ reaction_text t (v.done + 1) (reaction_of v e))
          (same_run code_meaning (start i n) (given old)).system
          ∙ ap (λ (r : Reaction MachineContext). out ++ reaction_text i.system (v.done + 1) r)
          (same_reaction i n (given old) e);
      goes_on = ap (λ (es : List Event). followed_text i n es) f.some.1 ∙ followed_last i n (given old) e;
    }

-- and nothing where none was given
pub prints_nothing : (i : ImageTables) (n : ℕ) (capacity : ℕ) (old new : SeatState) (out next : List ℕ)
    → Follows capacity old new None → next ≡ out → Continues i n (given old) (given new) out next
prints_nothing i n capacity old new out next f same =
    record {
      more = [];
      appended = same ∙ sym (nothing_after out);
      goes_on = ap (λ (es : List Event). followed_text i n es) (same_given capacity old new f)
          ∙ sym (nothing_after (followed_text i n (given old)));
    }

-- setup's lines are the text over no event
pub begins : (i : ImageTables) (n : ℕ) (sys : SystemTables) (k : Kernels) (out next : List ℕ)
    → sys ≡ i.system → k ≡ kernel_after i n [] → next ≡ out ++ lines_text sys 0 k.lines → next ≡ out
    ++ followed_text i n []
begins i n sys k out next system_is kernel_is written =
    written ∙ ap (λ (t : SystemTables). out ++ lines_text t 0 k.lines) system_is
    ∙ ap (λ (v : Kernels). out ++ lines_text i.system 0 v.lines) (kernel_is ∙ sym (setup_replays i n))
    ∙ ap (λ (xs : List ℕ). out ++ xs) (sym (followed_none i n))

-- the same for the image and the bound of a board
pub begins_at : (i j : ImageTables) (n m : ℕ) (out next : List ℕ) → j ≡ i → m ≡ n → next ≡ out ++ followed_text j m []
    → next ≡ out ++ followed_text i n []
begins_at i j n m out next image_is bound_is written =
    written ∙ ap (λ (x : ImageTables). out ++ followed_text x m []) image_is
    ∙ ap (λ (x : ℕ). out ++ followed_text i x []) bound_is

pub made_at : (i j : ImageTables) (n m : ℕ) (k : Kernels) → j ≡ i → m ≡ n → k ≡ kernel_after j m [] → k
    ≡ kernel_after i n []
made_at i j n m k image_is bound_is is =
    is ∙ ap (λ (x : ImageTables). kernel_after x m []) image_is ∙ ap (λ (x : ℕ). kernel_after i x []) bound_is

-- a kernel after setup, and a seat that was given no event
pub starts : (i : ImageTables) (n : ℕ) (row : RowId) (seat : SeatState) (k : Kernels)
    → IsAt row seat → seat.place ≡ 0 → row.capacity ≤ 2 ^ 20 → k ≡ kernel_after i n [] → IsFollowing i n row seat k
unfolding kernel_over
starts i n row seat k at place most kernel_is =
    record {
      at = at;
      place = omega (arith, place);
      capacity = most;
      kernel_is =
          kernel_is ∙ sym (setup_replays i n)
          ∙ sym (ap (λ (p : ℕ). kernel_over i n (take p (events seat.seen))) place);
    }
