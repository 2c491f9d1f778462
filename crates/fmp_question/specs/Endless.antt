-- Bodies that go on for ever without a service call.
use Rattle.std.specs.Prelude.{ℕ, ◌≡◌, ◌+◌, Option, Some, None, true}
use Rattle.fmp_base.specs.Meanings.{Meaning, World}
use Rattle.fmp_base.specs.Stretches.{is_over}
use Rattle.fmp_base.specs.Systems.{SystemTables}
use Rattle.fmp_worlds.specs.Stamps.{Going, actor_at_number}

-- from a context on, a body comes to no call, no end and no fault, however many instructions it takes
abbrev pub GoesOnForEver : {C : Type 0} → Meaning C → (entry : ℕ) → C → Type 0
GoesOnForEver M entry c = (n : ℕ) → is_over (M.stretch entry n c) ≡ true

abbrev pub IsEndless : {C : Type 0} → Meaning C → Option (Going C) → Type 0
IsEndless M None = ⊥
IsEndless M (Some a) = GoesOnForEver M a.entry a.context

-- the processor of this number has an actor, which goes on for ever
abbrev pub IsEndlessOn : {C : Type 0} → SystemTables → Meaning C → World C → (p : ℕ) → Type 0
IsEndlessOn sys M w p = IsEndless M (actor_at_number sys w p)

-- after a number of instructions a body has come from one context to another
pub record LeadsTo {C : Type 0} (M : Meaning C) (entry : ℕ) (c d : C) : Type 0 where
  pub made : ℕ
  pub goes_on : (n : ℕ) → M.stretch entry (made + n) c ≡ M.stretch entry n d
