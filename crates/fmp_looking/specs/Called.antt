-- The calls of a run.
use Rattle.std.specs.Prelude.{ℕ, [], None, replicate}
use Rattle.fmp_frames.specs.Told.{Told}

-- before the first event no call is told of, for this number of tasks
abbrev pub begins_called : (tasks : ℕ) → Told
begins_called tasks = record { told = []; waiting = replicate tasks None }
