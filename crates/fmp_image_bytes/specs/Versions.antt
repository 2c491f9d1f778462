-- The versions of images, and what each of them has.
use Rattle.std.specs.Prelude.{ℕ, Bool, true, nat_le, if◌then◌else◌, Option, Some, None}
use Rattle.fmp_base.specs.declared.services.Service.{Service}
use Rattle.fmp_base.specs.declared.services.Service.TheVariants.{MrotRdq}
use Rattle.fmp_instructions.specs.declared.instructions.Instruction.{Instruction}
use Rattle.fmp_instructions.specs.declared.instructions.Instruction.TheVariants.{LoadIndexed, StoreIndexed, Call}
use Rattle.fmp_image_bytes.specs.Fields.{in_range}

-- the version that is built
abbrev pub newest : ℕ
newest = 3

abbrev pub is_version : ℕ → Bool
is_version version = in_range 1 newest version

-- how many activations of a task a system of a version queues, and how many wakeups
abbrev pub queue_limit_of : (version : ℕ) → ℕ
queue_limit_of version = if nat_le 3 version then 255 else 1

-- whether a version has a service: the word of one that it lacks may be a name
abbrev pub has_service : (version : ℕ) → Service → Bool
has_service version MrotRdq = nat_le 3 version
has_service version _ = true

-- whether images of a version have an instruction
abbrev pub has : (version : ℕ) → Instruction → Bool
has version (LoadIndexed base places) = nat_le 2 version
has version (StoreIndexed base places) = nat_le 2 version
has version (Call service out result) = has_service version service
has version _ = true

-- an instruction, if the version has it
abbrev pub of_version : (version : ℕ) → Option Instruction → Option Instruction
of_version version None = None
of_version version (Some i) = if has version i then Some i else None
