-- The calls of a text with their lines, and those of its code.
use Rattle.std.specs.Prelude.{◌≡◌, ℕ, List, [], ◌∷◌, ◌++◌, map, if◌then◌else◌}
use Rattle.fmp_base.specs.declared.services.Service.{Service}
use Rattle.fmp_codegen.specs.Calls.{body_calls}
use Rattle.fmp_image.specs.Building.{Builds}
use Rattle.fmp_image_bytes.specs.Images.{ImageTables}
use Rattle.fmp_lex.specs.declared.token.Token.{Token}
use Rattle.fmp_lex.specs.declared.token.TokenKind.{TokenKind}
use Rattle.fmp_lex.specs.declared.token.TokenKind.TheVariants as kind
use Rattle.fmp_frames.specs.CallPositions.{AreBodiesOf, TextBody, is_head}

-- a service call of a text: the service, and the line of its word
pub record TextCall : Type 0 where
  pub service : Service
  pub line : ℕ

abbrev pub call_here : TokenKind → (line : ℕ) → List TextCall
call_here (kind.Service s) line = record { service = s; line = line } ∷ []
call_here _ line = []

-- the calls in tokens, up to where the next body begins
abbrev pub calls_to_next : List Token → List TextCall
calls_to_next [] = []
calls_to_next (t ∷ ts) = if is_head t.kind then [] else call_here t.kind t.line ++ calls_to_next ts

-- the same for each body that begins in tokens
abbrev pub text_calls : List Token → List (List TextCall)
text_calls [] = []
text_calls (t ∷ ts) = if is_head t.kind then calls_to_next ts ∷ text_calls ts else text_calls ts

abbrev pub services : List TextCall → List Service
services calls = map (λ c. c.service) calls

abbrev pub lines : List TextCall → List ℕ
lines calls = map (λ c. c.line) calls

-- the lines of the calls of a body
abbrev pub call_lines : TextBody → List ℕ
call_lines b = map (λ c. c.line) b.calls

-- Where two texts build an image, the calls of its code are those of the task text, body by body and in order; and the
-- lines that are taken for those of the bodies are the lines of these calls.
abbrev pub CallsHaveLines : Type 0
CallsHaveLines =
    (cfg src : List ℕ) (i : ImageTables) (b : Builds cfg src i) (bodies : List TextBody) → AreBodiesOf src bodies →
    (map body_calls i.code ≡ map services (text_calls b.tasks.tokens))
    × (map (λ x. call_lines x) bodies ≡ map lines (text_calls b.tasks.tokens))
