-- What a run keeps of an event.
use Rattle.std.specs.Prelude.{ℕ, zero, suc, List, [], ◌∷◌, map, Option, None, Some, Bool, true, false, slice_get}
use Rattle.fmp_base.specs.declared.events.Line.{Line}
use Rattle.fmp_base.specs.declared.events.Line.TheVariants as line
use Rattle.fmp_timeline.specs.declared.run.Note.{Note}
use Rattle.fmp_timeline.specs.declared.states.Moment.{Moment}
use Rattle.fmp_timeline.specs.declared.tracks.StateChange.{StateChange}
use Rattle.fmp_timeline.specs.declared.tracks.Track.{Track}
use Rattle.fmp_timeline.specs.Tracks.{shown}

-- the place of the interrupt that a line requests
abbrev pub interrupt_in : Option Line → Option ℕ
interrupt_in (Some (line.Int i)) = Some i
interrupt_in _ = None

-- a line says that the clock went on
abbrev pub is_tick : Option Line → Bool
is_tick (Some (line.Tick clock)) = true
is_tick _ = false

-- what the axis shows of an event, whose lines end here in the text
abbrev pub note_of : Moment → (end : ℕ) → Note
note_of m end =
    record {
      clock = m.clock;
      interrupt = interrupt_in (slice_get m.lines.now 0);
      ticks = is_tick (slice_get m.lines.now 0);
      end = end;
    }

-- the changes of tracks
abbrev pub changes_in : {S : Type 0} → List (Track S) → List (List (StateChange S))
changes_in tracks = map (λ t. t.changes.items) tracks

-- one item of a list is changed, if there is such a one
abbrev pub changed_at : {A : Type 0} → (A → A) → List A → ℕ → List A
changed_at f [] i = []
changed_at f (x ∷ xs) zero = f x ∷ xs
changed_at f (x ∷ xs) (suc i) = x ∷ changed_at f xs i

-- the changes of tracks after an event, where these are the states after it, each of the track at its place
abbrev pub all_shown : {S : Type 0} → (same : S → S → Bool) → (event : ℕ) → List S → List (List (StateChange S))
    → List (List (StateChange S))
all_shown same event [] all = all
all_shown same event (s ∷ ss) [] = []
all_shown same event (s ∷ ss) (cs ∷ all) = shown same event s cs ∷ all_shown same event ss all
