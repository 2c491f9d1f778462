-- What the text of bodies has followed of what came.
use Rattle.std.specs.Prelude.{◌≡◌, ◌≢◌, ◌+◌, ℕ, List, [], Option, Some, None, ◌≤◌, ◌^◌, take, slice_get}
use Rattle.fmp_base.specs.declared.events.Event.{Event}
use Rattle.fmp_base.specs.Meanings.{Meaning}
use Rattle.fmp_kernel.specs.KernelViews.{KernelView, view_after_all}
use Rattle.fmp_base.specs.Stretches.{Ending}
use Rattle.fmp_base.specs.Stretches as ends
use Rattle.fmp_outside.specs.declared.given.Act.{Act}
use Rattle.fmp_outside.specs.declared.given.Given.{Given}
use Rattle.fmp_outside.specs.declared.given.Given.TheVariants as given
use Rattle.fmp_outside.specs.Keeping.{Follows}
use Rattle.fmp_outside.specs.Outside.{act_of}
use Rattle.fmp_worlds.specs.Stamps.{Going, actor_at_number}
use Rattle.fmp_foreign.specs.declared.shadow.Departure.{Departure}
use Rattle.fmp_foreign.specs.declared.shadow.BodyVerdict.TheVariants as verdict

-- from the kernel `old` on, the text does each of these, in order, and between them only keeps its places; so it comes
-- to the kernel `new`
pub record HasFollowed {B C : Type 0} (meaning : B → Meaning C) (old : KernelView B C) (gs : List Given)
    (new : KernelView B C) : Type 0 where
  pub events : List Event
  pub follows : Follows old.system (meaning old.body) old.bound old.world gs events
  pub kernel : new ≡ view_after_all meaning old events

-- the stretch that the text of this actor makes next
abbrev pub stretch_of : {C : Type 0} → Meaning C → (bound : ℕ) → Option (Going C) → Option (Ending C)
stretch_of M bound None = None
stretch_of M bound (Some g) = Some (M.stretch g.entry bound g.context)

-- the stretch that the text of the actor of the processor of this number makes next
abbrev pub stretch_on : {B C : Type 0} → (B → Meaning C) → KernelView B C → ℕ → Option (Ending C)
stretch_on meaning k p = stretch_of (meaning k.body) k.bound (actor_at_number k.system k.world p)

-- the act at the end of a stretch, if there is a stretch
abbrev pub act_at_end : {C : Type 0} → Option (Ending C) → Option Act
act_at_end None = None
act_at_end (Some e) = act_of e

-- what the text of the actor of the processor of this number does next; none where no one acts there, and where the
-- stretch is over its bound
abbrev pub act_on : {B C : Type 0} → (B → Meaning C) → KernelView B C → ℕ → Option Act
act_on meaning k p = act_at_end (stretch_on meaning k p)

-- the text of this actor does another thing next
abbrev pub ActsOtherwise : {C : Type 0} → Meaning C → (bound : ℕ) → Act → Option (Going C) → Type 0
ActsOtherwise M bound a None = ⊥
ActsOtherwise M bound a (Some g) =
    (b : Act) × (act_of (M.stretch g.entry bound g.context) ≡ Some b) × (b ≢ a)

-- the text does another thing here than what comes
abbrev pub DoesOtherwise : {B C : Type 0} → (B → Meaning C) → KernelView B C → Given → Type 0
DoesOtherwise meaning k (given.Act p a) =
    ActsOtherwise (meaning k.body) k.bound a (actor_at_number k.system k.world p)
DoesOtherwise meaning k given.Tick = ⊥
DoesOtherwise meaning k (given.Int i) = ⊥

-- the stretch of this actor's text is over its bound
abbrev pub IsOver : {C : Type 0} → Meaning C → (bound : ℕ) → Option (Going C) → Type 0
IsOver M bound None = ⊥
IsOver {C} M bound (Some g) = (c : C) × (M.stretch g.entry bound g.context ≡ ends.Over (Some c))

-- the actor from whom this comes is still within a stretch
abbrev pub GoesOn : {B C : Type 0} → (B → Meaning C) → KernelView B C → Given → Type 0
GoesOn meaning k (given.Act p a) = IsOver (meaning k.body) k.bound (actor_at_number k.system k.world p)
GoesOn meaning k given.Tick = ⊥
GoesOn meaning k (given.Int i) = ⊥

-- the text has followed these, and has then used up this number of turns within one stretch
pub record IsLong {B C : Type 0} (meaning : B → Meaning C) (old : KernelView B C) (gs : List Given)
    (new : KernelView B C) (count : ℕ) : Type 0 where
  pub first : KernelView B C
  pub followed : HasFollowed meaning old gs first
  pub within : HasFollowed meaning first [] new
  pub turns : new.taken ≡ first.taken + count

-- the text has followed the journal up to this place, and then did another thing, or did not come so far
pub record Departs {B C : Type 0} (meaning : B → Meaning C) (old : KernelView B C) (gs : List Given)
    (new : KernelView B C) (turns : ℕ) (d : Departure) : Type 0 where
  pub next : Given
  pub there : slice_get gs d.at ≡ Some next
  pub before : HasFollowed meaning old (take d.at gs) new
  pub not_followed : d.why ≢ verdict.Follows
  pub differs : d.why ≡ verdict.Differs → DoesOtherwise meaning new next
  pub long : d.why ≡ verdict.Long → IsLong meaning old (take d.at gs) new turns
  pub full : d.why ≡ verdict.Full → 2 ^ 31 ≤ new.taken
