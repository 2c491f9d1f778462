-- Where the service calls of bodies stand in their text, and in their code.
use Rattle.std.specs.Prelude.{ℕ, ◌≡◌, ◌+◌, ◌-◌, ◌<◌, ◌≤◌, ◌⊎◌, List, [], ◌∷◌, ◌++◌, length, drop, take, count_by}
use Rattle.std.specs.Prelude.{slice_get, option_map, unwrap_or, get_or, map, Bool, true, false, Option, Some, None}
use Rattle.std.specs.Prelude.{bytes_eq, nat_eq, if◌then◌else◌}
use Rattle.fmp_base.specs.declared.words.Keyword.{Keyword}
use Rattle.fmp_base.specs.declared.words.Keyword.TheVariants as keyword
use Rattle.fmp_instructions.specs.declared.instructions.Instruction.{Instruction}
use Rattle.fmp_instructions.specs.declared.instructions.Instruction.TheVariants as instruction
use Rattle.fmp_instructions.specs.Instructions.{BodyTables}
use Rattle.fmp_lex.specs.declared.token.Token.{Token}
use Rattle.fmp_lex.specs.declared.token.TokenKind.{TokenKind}
use Rattle.fmp_lex.specs.declared.token.TokenKind.TheVariants as kind
use Rattle.fmp_lex.specs.Cutting.{Cuts}
use Rattle.fmp_lex.specs.Faults.{text_max}
use Rattle.fmp_frames.specs.declared.call_positions.BodyCalls.{BodyCalls}
use Rattle.fmp_frames.specs.declared.call_positions.CallPosition.{CallPosition}

-- where lines begin in a text, whose first byte stands at a position: after each line feed
abbrev pub begins_after : (position : ℕ) → (text : List ℕ) → List ℕ
begins_after position [] = []
begins_after position (b ∷ bs) =
    if nat_eq b 10 then (position + 1) ∷ begins_after (position + 1) bs else begins_after (position + 1) bs

-- where the lines of a text begin
abbrev pub line_begins : (text : List ℕ) → List ℕ
line_begins text = 0 ∷ begins_after 0 text

-- the column of the byte at a position, in the line of this number, where lines begin so
abbrev pub column_of : (begins : List ℕ) → (line start : ℕ) → ℕ
column_of begins line start = start - get_or begins (line - 1) 0 + 1

-- where a token stands
abbrev pub position_of_token : (begins : List ℕ) → Token → CallPosition
position_of_token begins t = record { line = t.line; column = column_of begins t.line t.start }

-- a body of a text: the line at which it begins, and where its service calls stand, in order
pub record TextBody : Type 0 where
  pub head : ℕ
  pub calls : List CallPosition

abbrev pub text_body : BodyCalls → TextBody
text_body b = record { head = b.head; calls = b.calls.items }

abbrev pub calls_of : BodyCalls → List CallPosition
calls_of b = b.calls.items

abbrev pub is_head_word : Keyword → Bool
is_head_word keyword.Task = true
is_head_word keyword.Handler = true
is_head_word _ = false

-- a body begins with `task` or `handler`
abbrev pub is_head : TokenKind → Bool
is_head (kind.Keyword word) = is_head_word word
is_head _ = false

-- the word of a service call
abbrev pub is_service : TokenKind → Bool
is_service (kind.Service s) = true
is_service _ = false

-- where a token stands, if it names a service call
abbrev pub call_position : (begins : List ℕ) → Token → List CallPosition
call_position begins t = if is_service t.kind then position_of_token begins t ∷ [] else []

-- where the service calls in tokens stand, up to where the next body begins
abbrev pub call_positions : (begins : List ℕ) → List Token → List CallPosition
call_positions begins [] = []
call_positions begins (t ∷ ts) = if is_head t.kind then [] else call_position begins t ++ call_positions begins ts

-- the body that begins with a token, before others
abbrev pub body_with : (begins : List ℕ) → Token → List Token → List TextBody
body_with begins t ts = if is_head t.kind then record { head = t.line; calls = call_positions begins ts } ∷ [] else []

-- the bodies that begin in tokens
abbrev pub bodies_in : (begins : List ℕ) → List Token → List TextBody
bodies_in begins [] = []
bodies_in begins (t ∷ ts) = body_with begins t ts ++ bodies_in begins ts

-- the same by the place of a token: whether it begins a body, whether it names a service call, its line, where it
-- stands, the same if it names a service call, and the body that it begins
abbrev pub head_at : List Token → ℕ → Bool
head_at ts i = unwrap_or (option_map (λ t. is_head t.kind) (slice_get ts i)) false

abbrev pub is_service_at : List Token → ℕ → Bool
is_service_at ts i = unwrap_or (option_map (λ t. is_service t.kind) (slice_get ts i)) false

abbrev pub line_at : List Token → ℕ → ℕ
line_at ts i = unwrap_or (option_map (λ t. t.line) (slice_get ts i)) 0

abbrev pub position_at : (begins : List ℕ) → List Token → ℕ → CallPosition
position_at begins ts i =
    unwrap_or (option_map (λ t. position_of_token begins t) (slice_get ts i)) (record { line = 0; column = 1 })

abbrev pub call_position_at : (begins : List ℕ) → List Token → ℕ → List CallPosition
call_position_at begins ts i = unwrap_or (option_map (λ t. call_position begins t) (slice_get ts i)) []

abbrev pub body_at : (begins : List ℕ) → List Token → ℕ → List TextBody
body_at begins ts i =
    if head_at ts i then record { head = line_at ts i; calls = call_positions begins (drop (i + 1) ts) } ∷ [] else []

-- these are the bodies of a text, by its tokens; of one that is too long to be read they are none
abbrev pub AreBodiesOf : (text : List ℕ) → List TextBody → Type 0
AreBodiesOf text bodies =
    ((length text ≤ text_max) × ((ts : List Token) × Cuts text 0 ts × (bodies ≡ bodies_in (line_begins text) ts)))
    ⊎ ((text_max < length text) × (bodies ≡ []))

-- these are the calls of the bodies of a text
abbrev pub AreCallsOf : (text : List ℕ) → List (List CallPosition) → Type 0
AreCallsOf text calls = (bodies : List TextBody) × AreBodiesOf text bodies × (calls ≡ map (λ b. b.calls) bodies)

abbrev pub is_call : Instruction → Bool
is_call (instruction.Call service out result) = true
is_call _ = false

-- where the call at a position of a body stands, or the next one if none is there
abbrev pub position_by : Option BodyTables → Option (List CallPosition) → (pc : ℕ) → Option CallPosition
position_by (Some code) (Some calls) pc = slice_get calls (count_by is_call (take pc code.instructions))
position_by (Some code) None pc = None
position_by None calls pc = None

abbrev pub position_of : List BodyTables → List (List CallPosition) → (body pc : ℕ) → Option CallPosition
position_of code bodies body pc = position_by (slice_get code body) (slice_get bodies body) pc

-- how many calls each body of a code has
abbrev pub code_counts : List BodyTables → List ℕ
code_counts code = map (λ b. count_by is_call b.instructions) code

-- whether a text has as many bodies as a code, each with as many calls
abbrev pub fits : List BodyTables → List (List CallPosition) → Bool
fits code bodies = bytes_eq (code_counts code) (map length bodies)
