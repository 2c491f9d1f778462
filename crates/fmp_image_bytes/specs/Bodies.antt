-- Bodies in an image: what is said of each, and its code.
use Rattle.std.specs.Prelude.{◌≡◌, ◌<◌, ◌≤◌, ℕ, ℤ, ◌+◌, ◌*◌, List, [], ◌∷◌, ◌++◌, length, max, Option, Some, None}
use Rattle.std.specs.Prelude.{Result, Ok, Err, Bool, true, false, ◌&&◌, ◌==◌, nat_eq, nat_le, nat_lt, if◌then◌else◌}
use Rattle.std.specs.Prelude.{get_or, slice_get}
use Rattle.std.specs.List.{AllByRecursion}
use Rattle.fmp_instructions.specs.declared.instructions.Instruction.{Instruction}
use Rattle.fmp_instructions.specs.Instructions.{BodyTables}
use Rattle.fmp_instructions.specs.Verify.{fits, depth_is, VerifiedBody}
use Rattle.fmp_image_bytes.specs.declared.fault.ImageFault.{ImageFault}
use Rattle.fmp_image_bytes.specs.declared.fault.ImageFault.TheVariants as fault
use Rattle.fmp_image_bytes.specs.declared.heads.BodyKind.{BodyKind}
use Rattle.fmp_image_bytes.specs.declared.heads.BodyKind.TheVariants as kind
use Rattle.fmp_image_bytes.specs.declared.heads.BodyHead.{BodyHead}
use Rattle.fmp_image_bytes.specs.Fields.{Field, ◌>>=◌, ◌⊗◌, byte, byte_at, short, word}
use Rattle.fmp_image_bytes.specs.Instructions.{opcode_of, argument_of, instruction_in, HasWord}
use Rattle.fmp_image_bytes.specs.Pairs.{pairs_at, pairs_spelled, pairs_pass, AllPairs}
use Rattle.fmp_image_bytes.specs.Fields.{in_range}
use Rattle.fmp_image_bytes.specs.Versions.{has}

abbrev pub kind_number : BodyKind → ℕ
kind_number kind.Task = 0
kind_number kind.Handler = 1

abbrev pub kind_of : Bool → BodyKind
kind_of true = kind.Handler
kind_of false = kind.Task

-- the greatest of some numbers, 0 if there are none
abbrev pub greatest : List ℕ → ℕ
greatest [] = 0
greatest (d ∷ ds) = max d (greatest ds)

-- opcode, argument, and how many operands stand before
abbrev pub step : Field (ℕ × (ℤ × ℕ))
step = byte ⊗ word ⊗ byte

abbrev pub step_spelled : Instruction → ℕ → List ℕ
step_spelled i d = step.spell (opcode_of i, (argument_of i, d))

-- an instruction, if there is one
abbrev pub named : Option Instruction → Result Instruction ImageFault
named None = Err fault.Code
named (Some i) = Ok i

unfoldable pub step_at : (version : ℕ) → List ℕ → Result ((Instruction × ℕ) × List ℕ) ImageFault
step_at version bytes = do
  fields ← step.read bytes
  i ← named (instruction_in version fields.0.0 fields.0.1.0)
  Ok ((i, fields.0.1.1), fields.1)

-- Each instruction has six bytes. That all of them are there is judged before any of them.
abbrev pub code_at : (version size : ℕ) → List ℕ → Result ((List Instruction × List ℕ) × List ℕ) ImageFault
code_at version size bytes =
    if nat_lt (length bytes) (6 * size) then Err fault.Short else pairs_at (step_at version) size bytes

-- how many operands stand before each of n instructions: the last of its six bytes
abbrev pub AreDepths : ℕ → List ℕ → List ℕ → Type 0
AreDepths size bytes depths =
    (length depths ≡ size)
    × ((place : ℕ) → place < size → get_or depths place 0 ≡ get_or bytes (6 * place + 5) 0)

-- whether code keeps to its depth table and to its own number of locals, as a test
unfoldable pub keeps_table : BodyTables → Bool
keeps_table b =
    depth_is (slice_get b.depths 0) 0 && nat_le (length b.instructions) 65535
    && nat_eq (length b.depths) (length b.instructions) && pairs_pass (λ place i d. fits b.locals b.depths place d i) 0
    b.instructions b.depths

-- kind, locals, depth, number of instructions
abbrev pub body_head : Field (ℕ × (ℕ × (ℕ × ℕ)))
body_head = byte ⊗ byte ⊗ byte ⊗ short

abbrev pub body_numbers : (kind locals depth : ℕ) → List ℕ → Bool
body_numbers kind locals depth depths = nat_le kind 1 && in_range 1 64 locals && (depth == greatest depths)

abbrev pub head_of : (kind depth : ℕ) → BodyHead
head_of kind depth = record { kind = kind_of (kind == 1); depth = depth }

abbrev pub tables_of_code : (locals : ℕ) → List Instruction × List ℕ → BodyTables
tables_of_code locals code = record { locals = locals; instructions = code.0; depths = code.1 }

-- code that was read, where it keeps to its depth table and to its own number of locals
abbrev pub kept_code : (locals : ℕ) → Result ((List Instruction × List ℕ) × List ℕ) ImageFault
    → Result ((List Instruction × List ℕ) × List ℕ) ImageFault
kept_code locals reading =
    reading >>= λ code. if keeps_table (tables_of_code locals code.0) then Ok code else Err fault.Code

-- a body whose fields are read: its code is judged first, by its own number of locals
abbrev pub judged : (kind locals depth : ℕ) → List Instruction × List ℕ → List ℕ
    → Result ((BodyHead × BodyTables) × List ℕ) ImageFault
judged kind locals depth code rest =
    if keeps_table (tables_of_code locals code) then
    (if body_numbers kind locals depth code.1 then Ok ((head_of kind depth, tables_of_code locals code), rest) else Err
    fault.Table)
    else Err fault.Code

unfoldable pub body_at : (version : ℕ) → List ℕ → Result ((BodyHead × BodyTables) × List ℕ) ImageFault
body_at version bytes = do
  head ← body_head.read bytes
  code ← code_at version head.0.1.1.1 head.1
  judged head.0.0 head.0.1.0 head.0.1.1.0 code.0 code.1

abbrev pub body_spelled : BodyHead → BodyTables → List ℕ
body_spelled h b =
    body_head.spell (kind_number h.kind, (b.locals, (h.depth, length b.instructions)))
    ++ pairs_spelled step_spelled b.instructions b.depths

-- a body that an image of a version can have
pub record IsBody (version : ℕ) (h : BodyHead) (b : BodyTables) : Type 0 where
  pub verified : VerifiedBody b
  pub locals : 1 ≤ b.locals
  pub depth : h.depth ≡ greatest b.depths
  pub words : AllByRecursion HasWord b.instructions
  pub known : AllByRecursion (λ i. has version i ≡ true) b.instructions

-- all bodies of an image of a version after their number
abbrev pub bodies : (version : ℕ) → Field (List BodyHead × List BodyTables)
bodies version = record {
  fits = λ x. (length x.1 < 256) × AllPairs (IsBody version) x.0 x.1;
  spell = λ x. length x.1 ∷ pairs_spelled body_spelled x.0 x.1;
  read = λ bytes. byte_at bytes >>= λ n. pairs_at (body_at version) n.0 n.1;
}
