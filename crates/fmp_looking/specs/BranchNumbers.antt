-- Which of the branches of its body each branch of a code is.
use Rattle.std.specs.Prelude.{ℕ, ◌≡◌, ◌<◌, List, [], Option, Some, None, get_or, length, map, slice_get}
use Rattle.std.specs.Global.{Vec}
use Rattle.fmp_instructions.specs.declared.instructions.BodyCode.{BodyCode}
use Rattle.fmp_instructions.specs.declared.instructions.Instruction.{Instruction}
use Rattle.fmp_instructions.specs.Instructions.{BodyTables, body_tables}
use Rattle.fmp_looking.specs.declared.branch_numbers.BranchNumbers.{BranchNumbers}
use Rattle.fmp_looking.specs.Branches.{branches_before, instructions_of}

-- for each of these instructions how many branches stand before it
abbrev pub AreNumbers : List Instruction → (numbers : List ℕ) → Type 0
AreNumbers code numbers = (pc : ℕ) → pc < length code → get_or numbers pc 0 ≡ branches_before code pc

abbrev pub items_of : Option (Vec ℕ) → List ℕ
items_of None = []
items_of (Some numbers) = numbers.items

-- those of a body
abbrev pub numbers_in : List (Vec ℕ) → (body : ℕ) → List ℕ
numbers_in bodies body = items_of (slice_get bodies body)

-- those of each body of a code
abbrev pub AreOf : List BodyTables → List (Vec ℕ) → Type 0
AreOf code bodies = (body : ℕ) → AreNumbers (instructions_of code body) (numbers_in bodies body)

abbrev pub AreAllNumbers : List BodyCode → List (Vec ℕ) → Type 0
AreAllNumbers code bodies = AreOf (map body_tables code) bodies

abbrev pub AreOfCode : List BodyTables → BranchNumbers → Type 0
AreOfCode code numbers = AreOf code numbers.bodies.items
