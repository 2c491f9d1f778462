-- The responses of a run whose times are known, frame by frame.
use Rattle.std.specs.Prelude.{ℕ, List, [], ◌∷◌, Option, Some, None, drop, length}
use Rattle.fmp_base.specs.declared.events.Line.{Line}
use Rattle.fmp_frames.specs.Frames.{FrameTable}
use Rattle.fmp_frames.specs.declared.timing.Timing as declared
use Rattle.fmp_frames.specs.Responses.{Requests, after_event, no_requests, requests_of}

pub record Timed : Type 0 where
  -- when the events come that are still to be shown
  pub times : List ℕ
  pub requests : Requests

abbrev pub timed_of : declared.Timing → Timed
timed_of x = record { times = x.times.now; requests = requests_of x.responses }

-- an event that told these lines comes at the first of these times
abbrev pub after_next : List ℕ → List Line → Timed → Timed
after_next [] lines x = x
after_next (t ∷ ts) lines x = record { times = ts; requests = after_event t lines x.requests }

-- one that kept a place has no time
abbrev pub after_kept : Option ℕ → List Line → Timed → Timed
after_kept (Some p) lines x = x
after_kept None lines x = after_next x.times lines x

abbrev pub timed_after : Timed → FrameTable → Timed
timed_after x f = after_kept f.kept f.lines x

-- after setup, where it and the events come at these times
abbrev pub first_timed : List ℕ → FrameTable → Timed
first_timed times f = record { times = drop 1 times; requests = no_requests (length f.states) }
