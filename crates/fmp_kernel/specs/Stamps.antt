-- The stamps of the processors, counted by the lines of an event.
use Rattle.std.specs.Prelude.{◌≡◌, ℕ, ◌+◌, ◌<◌, ◌≤◌, List, [], ◌∷◌, Option, Some, None, Bool, true, false, get_or}
use Rattle.std.specs.Prelude.{length, map, slice_set, if◌then◌else◌}
use Rattle.fmp_base.specs.declared.events.Line.{Line}
use Rattle.fmp_base.specs.declared.events.Line.TheVariants as line
use Rattle.fmp_base.specs.Settles.{is_same_task}
use Rattle.fmp_base.specs.States.{KernelState, places_from}
use Rattle.fmp_worlds.specs.Stamps.{counts as counts_for, one_if, place_run}

-- the processor that a line of settling gives another actor, if any
abbrev pub given_by : Line → Option ℕ
given_by (line.Runs p t) = Some p
given_by (line.Begins p h) = Some p
given_by l = None

-- how many of these lines give p another actor
abbrev pub times_given : ℕ → List Line → ℕ
times_given p [] = 0
times_given p (l ∷ ls) = one_if (is_same_task (given_by l) (Some p)) + times_given p ls

-- the lines after the first one, which is the event's own
abbrev pub behind_own : List Line → List Line
behind_own [] = []
behind_own (l ∷ ls) = ls

abbrev pub none_if : Bool → ℕ → ℕ
none_if true n = 0
none_if false n = n

-- how many of these lines give p another actor, unless the event ran p
abbrev pub times_raised : Option ℕ → List Line → ℕ → ℕ
times_raised ran ls p = none_if (is_same_task ran (Some p)) (times_given p ls)

-- how often p is counted for an event with these lines after its own: once where it ran p, else for each line that
-- gives p another actor
abbrev pub times_counted : Option ℕ → List Line → ℕ → ℕ
times_counted ran ls p = one_if (is_same_task ran (Some p)) + times_raised ran ls p

-- p, if any, is counted once more
abbrev pub raised : List ℕ → Option ℕ → List ℕ
raised stamps None = stamps
raised stamps (Some p) = slice_set stamps p (get_or stamps p 0 + 1)

-- p, if any, is counted once more, unless the event ran it
abbrev pub raised_unless : Option ℕ → List ℕ → Option ℕ → List ℕ
raised_unless ran stamps None = stamps
raised_unless ran stamps (Some p) = if is_same_task ran (Some p) then stamps else raised stamps (Some p)

-- each processor was counted for these lines, unless the event ran it
pub record AreRaised (old new : List ℕ) (ran : Option ℕ) (lines : List Line) : Type 0 where
  pub long : length new ≡ length old
  pub each : (p : ℕ) → p < length old → get_or new p 0 ≡ get_or old p 0 + times_raised ran lines p

-- each processor was counted for an event that ran this one, if any, with these lines after its own
pub record AreCounted (old new : List ℕ) (ran : Option ℕ) (lines : List Line) : Type 0 where
  pub long : length new ≡ length old
  pub each : (p : ℕ) → p < length old → get_or new p 0 ≡ get_or old p 0 + times_counted ran lines p

-- the stamps after an event that ran this processor, if any, and led from s to u
abbrev pub stamped_by : Option ℕ → KernelState → KernelState → List ℕ → List ℕ
stamped_by ran s u stamps =
    map (λ p. get_or stamps p 0 + one_if (counts_for ran s u p)) (places_from 0 (length stamps))

-- the stamps after a done event of these lines that led from s to u
abbrev pub stamped : List Line → KernelState → KernelState → List ℕ → List ℕ
stamped lines s u stamps = stamped_by (place_run lines) s u stamps

-- a stamp for each processor, and none above the number of events that were taken
pub record AreStamps (stamps : List ℕ) (processors taken : ℕ) : Type 0 where
  pub many : length stamps ≡ processors
  pub few : (p : ℕ) → get_or stamps p 0 ≤ taken
