-- Responses: how long it takes from the request of a handler to the run of a task that it released.
use Rattle.std.specs.Prelude.{ℕ, ◌+◌, ◌-◌, List, [], ◌∷◌, ◌++◌, Option, Some, None, get_or, replicate, slice_set}
use Rattle.fmp_base.specs.declared.events.Line.{Line}
use Rattle.fmp_base.specs.declared.events.Line.TheVariants as line
use Rattle.fmp_base.specs.declared.states.Caller.TheVariants as caller
use Rattle.fmp_base.specs.declared.states.Handler.{Handler}
use Rattle.fmp_base.specs.declared.states.Handler.TheVariants as handler
use Rattle.fmp_frames.specs.declared.responses.Release.{Release}
use Rattle.fmp_frames.specs.declared.responses.Response.{Response}
use Rattle.fmp_frames.specs.declared.responses.Responses as declared

-- the place of a handler among all
abbrev pub place_of : Handler → ℕ
place_of (handler.Cyclic c) = c
place_of (handler.Interrupt i) = 256 + i

-- what is known of the requests of a run so far
pub record Requests : Type 0 where
  -- when each handler was first requested since it last began, by its place
  pub asked : List (Option ℕ)
  -- when the request came that its last begin serves
  pub served : List (Option ℕ)
  -- of each task that has not run since: the handler that released it, and the request that this served
  pub released : List (Option Release)
  -- the responses, in order
  pub all : List Response

abbrev pub requests_of : declared.Responses → Requests
requests_of x =
    record { asked = x.asked.items; served = x.served.items; released = x.released.items; all = x.all.items }

abbrev pub first_of : Option ℕ → (now : ℕ) → ℕ
first_of None now = now
first_of (Some before) now = before

-- a handler is requested
abbrev pub requested : (now : ℕ) → Handler → Requests → Requests
requested now h s =
    record s { asked = slice_set s.asked (place_of h) (Some (first_of (get_or s.asked (place_of h) None) now)) }

-- a handler begins
abbrev pub begun : Handler → Requests → Requests
begun h s =
    record s {
      asked = slice_set s.asked (place_of h) None;
      served = slice_set s.served (place_of h) (get_or s.asked (place_of h) None);
    }

abbrev pub release_by : Handler → (served : Option ℕ) → Option Release
release_by h None = None
release_by h (Some asked) = Some (record { handler = h; asked = asked })

-- the release of a task by a call of this handler, or by something else
abbrev pub release_in : Option Handler → Requests → Option Release
release_in None s = None
release_in (Some h) s = release_by h (get_or s.served (place_of h) None)

-- a task's wait ends, or it starts
abbrev pub released : Option Handler → (task : ℕ) → Requests → Requests
released by t s = record s { released = slice_set s.released t (release_in by s) }

abbrev pub response_to : (now : ℕ) → Option Release → List Response
response_to now None = []
response_to now (Some r) = record { handler = r.handler; micros = now - r.asked } ∷ []

-- a processor begins to run a task
abbrev pub ran : (now task : ℕ) → Requests → Requests
ran now t s =
    record s {
      released = slice_set s.released t None;
      all = s.all ++ response_to now (get_or s.released t None);
    }

-- a line of an event at this time, which is a call of this handler or of none
abbrev pub after_line : (now : ℕ) → Option Handler → Line → Requests → Requests
after_line now by (line.Int i) s = requested now (handler.Interrupt i) s
after_line now by (line.Pends p c) s = requested now (handler.Cyclic c) s
after_line now by (line.Begins p h) s = begun h s
after_line now by (line.Gets p t reply) s = released by t s
after_line now by (line.Starts p t) s = released by t s
after_line now by (line.Runs p (Some t)) s = ran now t s
after_line now by l s = s

abbrev pub after_lines : (now : ℕ) → Option Handler → List Line → Requests → Requests
after_lines now by [] s = s
after_lines now by (l ∷ ls) s = after_lines now by ls (after_line now by l s)

-- the handler whose call an event is
abbrev pub handler_of : List Line → Option Handler
handler_of (line.Call p (caller.Handler h) c reply ∷ ls) = Some h
handler_of ls = None

-- an event at this time
abbrev pub after_event : (now : ℕ) → List Line → Requests → Requests
after_event now ls s = after_lines now (handler_of ls) ls s

-- nothing was requested, with this many places of handlers and tasks
abbrev pub none_of : (handlers tasks : ℕ) → Requests
none_of handlers tasks =
    record {
      asked = replicate handlers None;
      served = replicate handlers None;
      released = replicate tasks None;
      all = [];
    }

-- nothing was requested of a system with this many tasks
unfoldable pub no_requests : (tasks : ℕ) → Requests
no_requests tasks = none_of 512 tasks
