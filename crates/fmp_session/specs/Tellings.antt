-- What is told of events that leave no lines.
use Rattle.std.specs.Prelude.{ℕ, ◌-◌, List, [], ◌∷◌, ◌++◌, Bool, true, false, codes, decimal, get_or}
use Rattle.fmp_base.specs.declared.events.Event.{Event}
use Rattle.fmp_base.specs.declared.events.Event.TheVariants.{Run, Tick, Int}
use Rattle.fmp_base.specs.Systems.{SystemTables}
use Rattle.fmp_drive.specs.declared.next.NextRun.{NextRun}
use Rattle.fmp_drive.specs.declared.next.NextRun.TheVariants as next
use Rattle.fmp_frames.specs.Handlers.{is_handled}

-- words, a number, and words after it
abbrev pub around : (front : List ℕ) → ℕ → (after : List ℕ) → List ℕ
around front n after = front ++ (decimal n ++ after)

-- why the run of processor n does nothing, where its next run ends so: a call does nothing only where it asks for a
-- spin lock that is held
abbrev pub standing : ℕ → NextRun → List ℕ
standing n next.NoActor = around (codes "nothing: processor ") n (codes " is idle\n")
standing n (next.Calls call) =
    around (codes "nothing: what runs on processor ") n (codes " spins for a spin lock\n")
standing n next.OverBound = around (codes "nothing: processor ") n (codes " stands\n")
standing n next.Ends = around (codes "nothing: processor ") n (codes " stands\n")

abbrev pub handled : Bool → ℕ → List ℕ
handled true n = around (codes "nothing: the handler of interrupt ") n (codes " is pending\n")
handled false n = around (codes "nothing: interrupt ") n (codes " has no handler\n")

-- why an event does nothing, where the next runs of the processors end so
abbrev pub nothing : SystemTables → Event → List NextRun → List ℕ
nothing sys (Run n) runs = standing n (get_or runs (n - 1) next.NoActor)
nothing sys (Int n) runs = handled (is_handled sys n) n
nothing sys Tick runs = []

-- what is told of an event that kept a place
abbrev pub kept : Event → List ℕ
kept (Run n) = around (codes "kept: what runs on processor ") n (codes " reached the bound, and goes on from there\n")
kept Tick = []
kept (Int n) = []
