-- The events of a session after more that it is given to take.
use Rattle.std.specs.Prelude.{ℕ, ◌≡◌, ◌^◌, List, fold, if◌then◌else◌, length, nat_eq}
use Rattle.fmp_base.specs.declared.events.Event.{Event}
use Rattle.fmp_image_bytes.specs.Images.{ImageTables}
use Rattle.fmp_replay.specs.Replays.{reaction}
use Rattle.fmp_session.specs.declared.session.Session.{Session}
use Rattle.fmp_session.specs.Sessions.{taken_by, with_event}

-- the events after one more: there are 2^20 at most, and one that does nothing is none of them
abbrev pub taking : ImageTables → (bound : ℕ) → List Event → Event → List Event
taking i bound es e =
    if nat_eq (length es) (2 ^ 20) then es else with_event (taken_by (reaction i bound es e)) e es

-- the events of a session after these, one after the other
abbrev pub taking_all : Session → List Event → List Event
taking_all s more = fold (taking s.image.now s.bound) s.events.items more

-- a session has taken these events, each of which may have done nothing
pub record HasTaken (before : Session) (more : List Event) (after : Session) : Type 0 where
  pub image : after.image.now ≡ before.image.now
  pub bound : after.bound ≡ before.bound
  pub events : after.events.items ≡ taking_all before more
