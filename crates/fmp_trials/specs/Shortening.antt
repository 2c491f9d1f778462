-- What a failing run comes to while it is made shorter.
use Rattle.std.specs.Prelude.{ℕ, ◌≡◌, ◌+◌, ◌<◌, ◌≤◌, ◌^◌, List, Option, Some, Bool, true, false, length}
use Rattle.fmp_base.specs.declared.events.Event.{Event}
use Rattle.fmp_base.specs.Meanings.{Meaning}
use Rattle.fmp_expect.specs.declared.checker.BrokenExpectation.{BrokenExpectation}
use Rattle.fmp_trials.specs.declared.shortening.FailingRun.{FailingRun}
use Rattle.fmp_trials.specs.Trials.{Breaks, Fails, Subject, broken_by, is_at, without}

-- the run over the steps fails what is said to be broken
pub record IsFailing {B C J : Type 0} (meaning : B → Meaning C) (breaks : Breaks B C J) (s : Subject B C J)
    (run : FailingRun) : Type 0 where
  pub fails : Fails meaning breaks s run.steps.items run.broken
  pub few : length run.steps.items ≤ 2 ^ 20

-- it fails the same line, and there is no more room than there was
pub record GoesOn (before after : FailingRun) : Type 0 where
  pub line : after.broken.line ≡ before.broken.line
  pub room : after.room ≤ before.room

-- steps whose run comes to this are taken, if it fails the same line
abbrev pub HasTaken : (before after : FailingRun) → List Event → Option BrokenExpectation → Bool → Type 0
HasTaken before after es verdict true = (after.steps.items ≡ es) × (verdict ≡ Some after.broken)
HasTaken before after es verdict false =
    (after.steps.items ≡ before.steps.items) × (after.broken ≡ before.broken)
    × (is_at before.broken.line verdict ≡ false)

-- steps are taken, or they do not fail the same line, if there is room left
abbrev pub IsTried : {B C J : Type 0} → (B → Meaning C) → Breaks B C J → Subject B C J → (before after : FailingRun)
    → List Event → Bool → Type 0
IsTried meaning breaks s before after es true = after.steps.items ≡ es
IsTried meaning breaks s before after es false =
    (after.steps.items ≡ before.steps.items)
    × (0 < after.room → is_at before.broken.line (broken_by meaning breaks s es) ≡ false)

-- none of the events from a place on can go, if none was dropped and there is room left
abbrev pub NoneCanGo : {B C J : Type 0} → (B → Meaning C) → Breaks B C J → Subject B C J → FailingRun → (place : ℕ)
    → (dropped : Bool) → Type 0
NoneCanGo meaning breaks s run place dropped =
    dropped ≡ false → 0 < run.room → (i : ℕ) → place ≤ i → i < length run.steps.items
    → is_at run.broken.line (broken_by meaning breaks s (without run.steps.items i (i + 1))) ≡ false
