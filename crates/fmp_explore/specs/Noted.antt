-- What a search notes, and the lists of events of which it notes it.
use Rattle.std.specs.Prelude.{ℕ, ◌+◌, ◌*◌, ◌%◌, ◌^◌, Bool, List, [], ◌∷◌, ◌++◌, Option, false, nat_lt, slice_get, true}
use Rattle.std.specs.Prelude.{if◌then◌else◌, min}
use Rattle.std.specs.Option.{option_map_or}
use Rattle.fmp_base.specs.declared.events.Event.{Event}
use Rattle.fmp_visited.specs.Links.{path_of}
use Rattle.fmp_visited.specs.declared.link.StateLink.{StateLink}
use Rattle.fmp_witness.specs.declared.finding.FindingKind.{FindingKind}
use Rattle.fmp_witness.specs.declared.finding.FindingKind.TheVariants as kind

-- some first events, those that lead to a state, and one more, if there is one
abbrev pub events_to : List StateLink → (after : List Event) → (state : ℕ) → (last : Option Event) → List Event
events_to links after state last = after ++ path_of links state ++ option_map_or (λ e. e ∷ []) last []

-- how many events lead to the state at a place; 0 if there is none
abbrev pub depth_at : List StateLink → (state : ℕ) → ℕ
depth_at links state = option_map_or (λ link. link.depth) (slice_get links state) 0

-- a search goes on beside a finding of this kind, where only the first is asked for: a body goes on forever
abbrev pub goes_on_beside : FindingKind → Bool
goes_on_beside (kind.Endless p) = true
goes_on_beside _ = false

-- how many states there were when it was told last how far a search has come, now that there are this many: it is told
-- again where there are twice as many
abbrev pub told_at : (told count : ℕ) → ℕ
told_at told count = if nat_lt count (min (told * 2) 18446744073709551615) then told else count

-- where a byte of a state stands where each state has this many: the last 64 bits of that number
abbrev pub place_in : (width state byte : ℕ) → ℕ
place_in width state byte = ((state * width) % 2 ^ 64 + byte) % 2 ^ 64
