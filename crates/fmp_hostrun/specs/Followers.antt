-- What a follower of a board is given, what it prints of that, and what contracts see of it.
use Rattle.std.specs.Prelude.{◌≡◌, ◌⊎◌, ℕ, ◌+◌, ◌<◌, ◌≤◌, ◌^◌, List, [], ◌∷◌, ◌++◌, length, Option, None, IfNone}
use Rattle.std.specs.Prelude.{IfSome}
use Rattle.std.specs.Borrow.{MutBor}
use mathlib.Core.List.{IsPrefix}
use Rattle.fmp_base.specs.declared.events.Event.{Event}
use Rattle.fmp_base.specs.Runs.{run}
use Rattle.fmp_base.specs.Setups.{setup}
use Rattle.fmp_base.specs.Steps.{Reaction, Nothing, Did, Kept}
use Rattle.fmp_base.specs.Systems.{SystemTables}
use Rattle.fmp_base.specs.Texts.{events_text, lines_text, states_text, whole_text}
use Rattle.fmp_instructions.specs.declared.instructions.MachineContext.{MachineContext}
use Rattle.fmp_instructions.specs.Instructions.{BodyTables}
use Rattle.fmp_instructions.specs.Machine.{code_meaning}
use Rattle.fmp_image_bytes.specs.Images.{ImageTables}
use Rattle.fmp_kernel.specs.KernelViews.{KernelView, view_after_all, view_of_setup}
use Rattle.fmp_journal.specs.Seats.{RowId, SeatState, given}
use Rattle.fmp_journal.specs.Views.{looked_at}
use Rattle.fmp_journal.specs.Words.{event_in}
use Rattle.fmp_board.specs.Boards.{IsAt}

-- a follower, by the seat that it reads from
pub record FollowerState : Type 0 where
  pub seat : MutBor SeatState

-- the events that a follower was given so far
abbrev pub events_of : FollowerState → List Event
events_of f = given f.seat.now

-- the kernel of an image that took events one after the other, within n instructions a stretch
unfoldable pub kernel_over : ImageTables → (n : ℕ) → List Event → KernelView (List BodyTables) MachineContext
kernel_over i n es =
    view_after_all code_meaning (view_of_setup i.code n i.system (setup i.system (code_meaning i.code))) es

-- the text of what an event did, if it was done, as the event of this number; one that keeps a place prints nothing
abbrev pub reaction_text : {C : Type 0} → SystemTables → (number : ℕ) → Reaction C → List ℕ
reaction_text sys number Nothing = []
reaction_text sys number (Did d) = lines_text sys number d.lines
reaction_text sys number (Kept p w) = []

-- what an image prints over events before the states at the end: the lines of setup, and those of the events
unfoldable pub followed_text : ImageTables → (n : ℕ) → List Event → List ℕ
followed_text i n es =
    let d = setup i.system (code_meaning i.code) in
    lines_text i.system 0 d.lines ++ events_text i.system 1 (run i.system (code_meaning i.code) n d.world es).events

-- What was appended is what the text over the events `after` has beyond the text over the events `before`. So what was
-- appended time after time is the text over all events.
pub record Continues (i : ImageTables) (n : ℕ) (before after : List Event) (out out_after : List ℕ) : Type 0 where
  pub more : List ℕ
  pub appended : out_after ≡ out ++ more
  pub goes_on : followed_text i n after ≡ followed_text i n before ++ more

-- the answer of `follow` at a row of n words: the next event by one read of its word, or none
pub record Follows (capacity : ℕ) (old new : SeatState) (result : Option Event) : Type 0 where
  pub same : new ≡ record old { seen = new.seen; place = new.place; look = new.look }
  pub grows : IsPrefix old.seen new.seen
  pub reads :
      old.place < capacity
      → (new.look ≡ looked_at old.look old.place new.look.found) × (result ≡ event_in new.look.found)
  pub end : old.place ≡ capacity → (new ≡ old) × (result ≡ None)
  pub some : IfSome result (λ event. (new.place ≡ old.place + 1) × (given new ≡ given old ++ event ∷ []))
  pub none : IfNone result ((new.place ≡ old.place) × (new.seen ≡ old.seen) × (length old.seen ≤ old.place))
  pub empty : IfNone result ((old.place ≡ capacity) ⊎ (new.look ≡ looked_at old.look old.place 0))

-- a seat of a board with a kernel that took just the events that the seat was given
pub record IsFollowing (i : ImageTables) (n : ℕ) (row : RowId) (seat : SeatState)
    (kernel : KernelView (List BodyTables) MachineContext) : Type 0 where
  pub at : IsAt row seat
  pub place : seat.place ≤ row.capacity
  pub capacity : row.capacity ≤ 2 ^ 20
  pub kernel_is : kernel ≡ kernel_over i n (given seat)

-- what a system prints over events is what a follower of them prints, and then the states at the end
abbrev pub FollowedTextIsFront : Type 0
FollowedTextIsFront =
    (i : ImageTables) (n : ℕ) (es : List Event)
    → whole_text i.system (code_meaning i.code) n es
    ≡ followed_text i n es ++ states_text i.system (kernel_over i n es).world.state
