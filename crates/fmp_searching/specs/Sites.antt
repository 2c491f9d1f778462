-- Where the service calls of bodies stand in their text, and in their code.
use Rattle.std.specs.Prelude.{ℕ, ◌≡◌, ◌+◌, ◌<◌, ◌≤◌, List, [], ◌∷◌, ◌++◌, length, map, slice_get, option_map, zero, suc}
use Rattle.std.specs.Prelude.{Option, Some, None, nat_eq, if◌then◌else◌}
use Rattle.fmp_frames.specs.CallPositions.{TextBody, is_call, position_of}
use Rattle.fmp_frames.specs.declared.call_positions.CallPosition.{CallPosition}
use Rattle.fmp_instructions.specs.declared.instructions.Instruction.{Instruction}
use Rattle.fmp_instructions.specs.Instructions.{BodyTables, instructions_at}
use Rattle.fmp_question.specs.declared.site.CallSite.{CallSite}

-- where the calls of each body of a text stand
abbrev pub positions_of : List TextBody → List (List CallPosition)
positions_of bodies = map (λ b. b.calls) bodies

abbrev pub site : (body pc : ℕ) → CallSite
site body pc = record { body = body; pc = pc }

-- the positions of the calls among instructions, of which the first has this position
abbrev pub call_positions : (pc : ℕ) → List Instruction → List ℕ
call_positions pc [] = []
call_positions pc (i ∷ is) = if is_call i then pc ∷ call_positions (pc + 1) is else call_positions (pc + 1) is

-- of the calls of a body those that stand in a line: the calls have these positions in the code, and these in the text,
-- in order
abbrev pub sites_at : (body line : ℕ) → (positions : List ℕ) → (calls : List CallPosition) → List CallSite
sites_at body line [] calls = []
sites_at body line (pc ∷ pcs) [] = []
sites_at body line (pc ∷ pcs) (c ∷ cs) =
    (if nat_eq c.line line then site body pc ∷ [] else []) ++ sites_at body line pcs cs

-- the same of a body with this code and these calls in the text, if there is one
abbrev pub sites_by : (body line : ℕ) → Option (List Instruction) → Option (List CallPosition) → List CallSite
sites_by body line (Some code) (Some calls) = sites_at body line (call_positions 0 code) calls
sites_by body line (Some code) None = []
sites_by body line None calls = []

abbrev pub code_of : List BodyTables → (body : ℕ) → Option (List Instruction)
code_of code body = option_map (λ b. b.instructions) (slice_get code body)

abbrev pub calls_of : List TextBody → (body : ℕ) → Option (List CallPosition)
calls_of bodies body = option_map (λ b. b.calls) (slice_get bodies body)

-- the calls that stand in a line, of the bodies below a number
abbrev pub calls_below : (count line : ℕ) → List BodyTables → List TextBody → List CallSite
calls_below zero line code bodies = []
calls_below (suc body) line code bodies =
    calls_below body line code bodies ++ sites_by body line (code_of code body) (calls_of bodies body)

-- the calls of this code that stand in a line: the code of a body has its calls in the order of the text
abbrev pub calls_in : (line : ℕ) → List BodyTables → List TextBody → List CallSite
calls_in line code bodies = calls_below (length code) line code bodies

-- the line of the call at a position of a body, or of the next one if none stands there
abbrev pub line_of : List BodyTables → List TextBody → CallSite → Option ℕ
line_of code bodies site = option_map (λ p. p.line) (position_of code (positions_of bodies) site.body site.pc)

-- the bodies, and the instructions of each, are few enough for a site
pub record HasSites (code : List BodyTables) : Type 0 where
  pub bodies : length code < 256
  pub instructions : (body : ℕ) → length (instructions_at code body) ≤ 65535
