-- What a run shows.
use Rattle.std.specs.Prelude.{ℕ, ◌+◌, List, [], ◌∷◌}
use Rattle.fmp_base.specs.declared.events.Event.{Event}
use Rattle.fmp_base.specs.declared.events.Line.{Line}
use Rattle.fmp_base.specs.Meanings.{Meaning}
use Rattle.fmp_base.specs.Runs.{run}
use Rattle.fmp_base.specs.Steps.{Reaction, Nothing, Did, Kept}
use Rattle.fmp_kernel.specs.KernelViews.{KernelView, view_after}
use Rattle.fmp_monitors.specs.Meaning.{Seen, OfLine, OfState}
use Rattle.fmp_expect.specs.Meaning.{Told, with_lines, with_state}

-- what comes to a kernel and does this shows, after others, the last first: its lines, and the state after it
abbrev pub told_after : {B C : Type 0} → KernelView B C → Reaction C → List Told → List Told
told_after k Nothing told = told
told_after k (Did d) told = with_state (k.done + 1) d.world.state (with_lines (k.done + 1) d.lines told)
told_after k (Kept p w) told = told

-- what is shown of what comes to a kernel after others, where this says what each does
abbrev pub rest_told : {B C X : Type 0} → (KernelView B C → X → Reaction C) → KernelView B C → List X → List Told
    → List Told
rest_told reaction k [] told = told
rest_told reaction k (x ∷ xs) told =
    rest_told reaction (view_after k (reaction k x)) xs (told_after k (reaction k x) told)

-- what a kernel shows of its last event, or of setup, after others
abbrev pub last_told : {B C : Type 0} → KernelView B C → List Told → List Told
last_told k told = with_state k.done k.world.state (with_lines k.done k.lines told)

-- all that a kernel shows: of its last event, or of setup, and of what comes to it from there on
abbrev pub run_told : {B C X : Type 0} → (KernelView B C → X → Reaction C) → KernelView B C → List X → List Told
run_told reaction k xs = rest_told reaction k xs (last_told k [])

abbrev pub line_before : Told → Seen → List Told → List Told
line_before t (OfLine l) rest = t ∷ rest
line_before t (OfState s) rest = rest

-- the lines among these
abbrev pub lines_told : List Told → List Told
lines_told [] = []
lines_told (t ∷ told) = line_before t t.seen (lines_told told)

-- the lines of events that are numbered from n on after others
abbrev pub with_events : ℕ → List (List Line) → List Told → List Told
with_events n [] told = told
with_events n (ls ∷ rest) told = with_events (n + 1) rest (with_lines n ls told)

-- the lines of the run of a kernel over events after others
abbrev pub events_told : {B C : Type 0} → (B → Meaning C) → KernelView B C → List Event → List Told → List Told
events_told meaning k es told =
    with_events (k.done + 1) (run k.system (meaning k.body) k.bound k.world es).events told
