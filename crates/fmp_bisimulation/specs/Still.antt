-- Worlds in which nothing goes on: a deadlock is one of them.
use Rattle.std.specs.Prelude.{◌≡◌, Bool, true}
use Rattle.fmp_base.specs.declared.events.Event.{Event}
use Rattle.fmp_base.specs.Meanings.{World}
use Rattle.fmp_base.specs.Steps.{Reaction, Nothing, Did, Kept}
use Rattle.fmp_bisimulation.specs.Closed.{Watch}

-- this leaves the world alike to what it was, and what is watched the same
abbrev pub LeavesStill : {C S : Type 0} → (World C → World C → Type 0) → Watch S → World C → S → Reaction C → Type 0
LeavesStill R W w a Nothing = Unit {0}
LeavesStill R W w a (Did d) = R w d.world × (W.next a d.lines ≡ a)
LeavesStill R W w a (Kept p v) = R w v

-- each event that may come does
abbrev pub IsStill : {C S : Type 0} → (World C → World C → Type 0) → Watch S → (World C → S → Event → Bool)
    → (World C → Event → Reaction C) → World C → S → Type 0
IsStill R W may go w a = (e : Event) → may w a e ≡ true → LeavesStill R W w a (go w e)
