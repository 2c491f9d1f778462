-- Stretches that come back to a context.
use Rattle.std.specs.Prelude.{ℕ, zero, suc, ◌≡◌, ◌-◌, ◌≤◌, Option, Some, None}
use Rattle.fmp_base.specs.Meanings.{Meaning}
use Rattle.fmp_instructions.specs.declared.instructions.MachineContext.{MachineContext}
use Rattle.fmp_looking.specs.Branches.{left_by}
use Rattle.fmp_looking.specs.declared.branches.Lap.{Lap}

abbrev pub to_there : Option MachineContext → (MachineContext → Option MachineContext) → Option MachineContext
to_there None go = None
to_there (Some c) go = go c

-- where a body stands after this many instructions, one after the other
abbrev pub walk : Meaning MachineContext → (body n : ℕ) → MachineContext → Option MachineContext
walk M body zero c = Some c
walk M body (suc n) c = to_there (left_by (M.stretch body 1 c)) (λ d. walk M body n d)

-- after this many instructions of a stretch the body stands here, which it came to from where a lap begins
pub record IsLap (M : Meaning MachineContext) (body : ℕ) (lap : Lap) (made : ℕ) (here : MachineContext) : Type 0 where
  pub before : lap.before ≤ made
  pub comes : walk M body (made - lap.before) lap.from ≡ Some here
