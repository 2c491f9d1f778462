-- What images of versions 1 and 2 mean: what they meant on the kernel that queued one activation and one wakeup and
-- had the first 58 services, apart from long stretches, which keep their place in images of every version.
use Rattle.std.specs.Prelude.{◌≡◌, ℕ, List, length, Option, Some, None, Bool, false, not, is_some, ◌&&◌, ◌||◌, nat_le}
use Rattle.std.specs.Prelude.{if◌then◌else◌}
use Rattle.fmp_base.specs.declared.events.Event.{Event}
use Rattle.fmp_base.specs.declared.services.Service.{Service}
use Rattle.fmp_base.specs.Meanings.{Meaning, World}
use Rattle.fmp_base.specs.Runs.{run}
use Rattle.fmp_base.specs.Services.{service_number, service_of}
use Rattle.fmp_base.specs.Setups.{setup}
use Rattle.fmp_base.specs.Steps.{step}
use Rattle.fmp_base.specs.Stretches.{Ending}
use Rattle.fmp_base.specs.Stretches as ends
use Rattle.fmp_base.specs.Systems.{SystemTables}
use Rattle.fmp_base.specs.Texts.{whole_text}
use Rattle.fmp_base.specs.Words.{constant_named, api_named, service_named, keyword_named}
use Rattle.fmp_instructions.specs.Machine.{code_meaning}
use Rattle.fmp_image_bytes.specs.Keys.{begins_and_goes_on}
use Rattle.fmp_image_bytes.specs.Images.{ImageTables}

-- a stretch that would end in a call of another service than the first ones is stuck: its event does nothing
abbrev pub first_calls : {C : Type 0} → (services : ℕ) → Ending C → Ending C
first_calls services (ends.Call c call) =
    if nat_le (service_number (service_of call)) services then ends.Call c call else ends.Over None
first_calls services (ends.End c) = ends.End c
first_calls services (ends.Fault c fault) = ends.Fault c fault
first_calls services (ends.Over kept) = ends.Over kept

-- bodies on a kernel that has the first services only
abbrev pub with_first_services : {C : Type 0} → (services : ℕ) → Meaning C → Meaning C
with_first_services services M =
    record M { stretch = λ body bound context. first_calls services (M.stretch body bound context) }

-- a system with this queue limit
abbrev pub with_queue_limit : ℕ → SystemTables → SystemTables
with_queue_limit limit sys = record sys { queue_limit = limit }

-- Two systems, each with a meaning of its bodies, are the same: setup, what each event does in each world, runs, and
-- all that they print, within every bound of a stretch and over every list of events.
pub record AreTheSame {C : Type 0} (sys : SystemTables) (M : Meaning C) (other : SystemTables) (N : Meaning C) : Type 0
  where
    pub setup : setup sys M ≡ setup other N
    pub step : (n : ℕ) (w : World C) (e : Event) → step sys M n w e ≡ step other N n w e
    pub run : (n : ℕ) (w : World C) (es : List Event) → run sys M n w es ≡ run other N n w es
    pub text : (n : ℕ) (es : List Event) → whole_text sys M n es ≡ whole_text other N n es

-- an image means what it meant when one activation and one wakeup were queued and there were 58 services
abbrev pub MeansTheSame : ImageTables → Type 0
MeansTheSame i =
    AreTheSame i.system (code_meaning i.code) (with_queue_limit 1 i.system)
    (with_first_services 58 (code_meaning i.code))

-- whether this is one of the first services
abbrev pub is_first : (services : ℕ) → Option Service → Bool
is_first services None = false
is_first services (Some service) = nat_le (service_number service) services

-- whether an object can have this name where the texts have the words of the first services only
abbrev pub is_name_among_first : (services : ℕ) → List ℕ → Bool
is_name_among_first services text =
    nat_le (length text) 31 && begins_and_goes_on text
    && not (is_some (constant_named text) || is_some (api_named text) || is_first services (service_named text)
    || is_some (keyword_named text))
