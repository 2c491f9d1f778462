-- Turns of processors that do nothing, which leave no frame.
use Rattle.std.specs.Prelude.{◌≡◌, ℕ, ◌-◌, List, [], ◌∷◌, ◌++◌, length, slice_get, Option, Some, None, Bool, false}
use Rattle.std.specs.Prelude.{◌&&◌, nat_eq, if◌then◌else◌}
use Rattle.std.specs.List.{dedup}
use Rattle.fmp_base.specs.Steps.{Reaction, Nothing}
use Rattle.fmp_kernel.specs.Comings.{IsPlaceOf}
use Rattle.fmp_kernel.specs.KernelViews.{KernelView, view_after}
use Rattle.fmp_frames.specs.declared.turns.IdleTurn.{IdleTurn}

abbrev pub is_same_turn : IdleTurn → IdleTurn → Bool
is_same_turn a b = nat_eq a.event b.event && nat_eq a.processor b.processor

-- what came after this event did this: the turn of the processor that it runs, if it did nothing
abbrev pub idle_turn : {C : Type 0} → (event : ℕ) → (place : Option ℕ) → Reaction C → List IdleTurn
idle_turn event (Some p) Nothing = record { event = event; processor = p } ∷ []
idle_turn event place done = []

module _ {B C X : Type 0} (reaction : KernelView B C → X → Reaction C) where
  -- this is the processor that it runs, if it runs one: no other actor keeps its place
  abbrev pub Runs : X → Option ℕ → Type 0
  Runs x place = (k : KernelView B C) → IsPlaceOf place (reaction k x)

  -- these are the turns that do nothing among what comes to a kernel, in order
  abbrev pub AreIdle : KernelView B C → List X → List IdleTurn → Type 0
  AreIdle k [] turns = turns ≡ []
  AreIdle k (x ∷ xs) turns =
      (place : Option ℕ) × (rest : List IdleTurn) × Runs x place
      × (turns ≡ idle_turn k.done place (reaction k x) ++ rest)
      × AreIdle (view_after k (reaction k x)) xs rest

  -- the same, of equal ones in succession the first
  abbrev pub AreIdleTurns : KernelView B C → List X → List IdleTurn → Type 0
  AreIdleTurns k xs turns = (all : List IdleTurn) × AreIdle k xs all × (turns ≡ dedup is_same_turn all)

-- the same turn as the last, if there is one
abbrev pub is_same_by : IdleTurn → Option IdleTurn → Bool
is_same_by turn None = false
is_same_by turn (Some last) = is_same_turn turn last

abbrev pub is_last : List IdleTurn → IdleTurn → Bool
is_last turns turn = is_same_by turn (slice_get turns (length turns - 1))

-- a turn after others, unless it is the last of them
abbrev pub with_turn : List IdleTurn → IdleTurn → List IdleTurn
with_turn turns turn = if is_last turns turn then turns else turns ++ turn ∷ []

-- the turn of a processor after others, if it is one
abbrev pub with_idle : List IdleTurn → (event : ℕ) → (place : Option ℕ) → List IdleTurn
with_idle turns event None = turns
with_idle turns event (Some p) = with_turn turns (record { event = event; processor = p })
