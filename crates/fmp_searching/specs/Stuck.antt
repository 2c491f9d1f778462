-- What is said of a task that can never go on.
use Rattle.std.specs.Prelude.{ℕ, ◌≡◌, ◌≤◌, ◌^◌, length, List, ◌++◌, Option, Some, None, Bool, codes, if◌then◌else◌}
use Rattle.fmp_base.specs.declared.catalogue.ObjectKind.TheVariants as kind
use Rattle.fmp_base.specs.declared.states.Phase.{Phase}
use Rattle.fmp_base.specs.declared.states.Phase.TheVariants as phase
use Rattle.fmp_base.specs.declared.states.TaskBlock.{TaskBlock}
use Rattle.fmp_base.specs.Systems.{SystemTables}
use Rattle.fmp_base.specs.Texts.{task_name}
use Rattle.fmp_base.specs.States.{task_at}
use Rattle.fmp_base.specs.declared.events.Event.{Event}
use Rattle.fmp_image_bytes.specs.Images.{ImageTables}
use Rattle.fmp_named.specs.States.{object_text, wait_text}
use Rattle.fmp_replay.specs.Replays.{replay}
use Rattle.fmp_searching.specs.declared.stuck.HeldUp.{HeldUp}

-- for what a task in this phase waits, and until when
abbrev pub waits_text : SystemTables → Phase → (deadline : Option ℕ) → List ℕ
waits_text sys p deadline = codes " waits " ++ wait_text sys p deadline

abbrev pub spins_text : SystemTables → (lock : ℕ) → List ℕ
spins_text sys lock = codes " spins for " ++ object_text sys kind.SpinLock lock

abbrev pub spun_text : SystemTables → (spins : Option ℕ) → List ℕ
spun_text sys (Some lock) = spins_text sys lock
spun_text sys None = codes " is ready"

-- how a task stands that does not wait: it is suspended, spins, or is ready
abbrev pub stands_text : SystemTables → (suspended : Bool) → (spins : Option ℕ) → List ℕ
stands_text sys suspended spins = if suspended then codes " is suspended" else spun_text sys spins

-- what holds up a task of this block, in this phase, which spins for this lock, if it spins
abbrev pub held_up_text : SystemTables → TaskBlock → Phase → (spins : Option ℕ) → List ℕ
held_up_text sys b (phase.Waiting c) spins = waits_text sys (phase.Waiting c) b.deadline
held_up_text sys b phase.Dormant spins = stands_text sys b.suspended spins
held_up_text sys b phase.Ready spins = stands_text sys b.suspended spins

-- task t, of this block, which spins for this lock, if it spins, can never go on
abbrev pub stuck_text : SystemTables → (t : ℕ) → TaskBlock → (spins : Option ℕ) → List ℕ
stuck_text sys t b spins =
    task_name sys t ++ (held_up_text sys b b.phase spins ++ codes ", and can never go on though others run")

-- how a task stands after events, of which there are at most as many as a kernel takes
abbrev pub IsHeldUp : ImageTables → (n : ℕ) → List Event → (t : ℕ) → HeldUp → Type 0
IsHeldUp i n es t held = length es ≤ 2 ^ 20 → held.block ≡ task_at (replay i n es).world.state.tasks t
