-- The calls of a text with their lines, and those of its code.
use Rattle.std.proofs.Common.{◌≡◌, ◌∙◌, ◌++◌, ◌∷◌, ◌≤◌, ℕ, Bool, true, false, List, [], ap, ap₂, arith, inl, inr}
use Rattle.std.proofs.Common.{length}
use Rattle.std.proofs.Common.{map, refl}
use Rattle.std.specs.Prelude.{if◌then◌else◌, is_some}
use Rattle.fmp_base.specs.declared.services.Service.{Service}
use Rattle.fmp_base.specs.declared.words.Keyword.TheVariants as keyword
use Rattle.fmp_codegen.specs.Calls as code
use Rattle.fmp_lex.specs.declared.token.Token.{Token}
use Rattle.fmp_lex.specs.declared.token.TokenKind.{TokenKind}
use Rattle.fmp_lex.specs.declared.token.TokenKind.TheVariants as kind
use Rattle.fmp_lex.specs.Cutting.{Cuts}
use Rattle.fmp_lex.specs.Faults.{text_max}
use Rattle.fmp_lex.specs.Reading.{kinds_of}
use Rattle.fmp_lex.proofs.Unique.{cuts_unique}
use Rattle.fmp_tasklang.specs.Grammar.{body_kind_of}
use Rattle.fmp_frames.specs.CallPositions.{AreBodiesOf, TextBody, bodies_in, call_positions, is_head, is_service}
use Rattle.fmp_frames.specs.CallPositions.{line_begins, position_of_token}
use Rattle.fmp_frames.specs.declared.call_positions.CallPosition.{CallPosition}
use Rattle.fmp_searching.specs.TextCalls.{TextCall, call_here, call_lines, calls_to_next, lines, services, text_calls}

-- one token more, before others whose services are these
service_step :
    (k : TokenKind) (line : ℕ) (xs : List Service) (ys : List TextCall) → xs ≡ services ys →
    (if is_some (body_kind_of k) then [] else code.token_calls k ++ xs)
    ≡ services (if is_head k then [] else call_here k line ++ ys)
service_step (kind.Keyword keyword.Task) line xs ys e = refl
service_step (kind.Keyword keyword.Handler) line xs ys e = refl
service_step (kind.Service s) line xs ys e = ap (λ more. s ∷ more) e
service_step _ line xs ys e = e

services_to_next : (ts : List Token) → code.calls_to_next (kinds_of ts) ≡ services (calls_to_next ts)
services_to_next [] = refl
services_to_next (t ∷ ts) = service_step t.kind t.line _ (calls_to_next ts) (services_to_next ts)

text_step :
    (k : TokenKind) (xs : List Service) (ys : List TextCall) (xss : List (List Service)) (yss : List (List TextCall)) →
    xs ≡ services ys → xss ≡ map services yss →
    (if is_some (body_kind_of k) then xs ∷ xss else xss) ≡ map services (if is_head k then ys ∷ yss else yss)
text_step (kind.Keyword keyword.Task) xs ys xss yss e f = ap₂ (λ a b. a ∷ b) e f
text_step (kind.Keyword keyword.Handler) xs ys xss yss e f = ap₂ (λ a b. a ∷ b) e f
text_step _ xs ys xss yss e f = f

pub services_of_text : (ts : List Token) → code.text_calls (kinds_of ts) ≡ map services (text_calls ts)
services_of_text [] = refl
services_of_text (t ∷ ts) =
    text_step t.kind _ (calls_to_next ts) _ (text_calls ts) (services_to_next ts) (services_of_text ts)

at_lines : List CallPosition → List ℕ
at_lines calls = map (λ (c : CallPosition). c.line) calls

line_step :
    (k : TokenKind) (p : CallPosition) (xs : List CallPosition) (ys : List TextCall) → at_lines xs ≡ lines ys →
    at_lines (if is_head k then [] else (if is_service k then p ∷ [] else []) ++ xs)
    ≡ lines (if is_head k then [] else call_here k p.line ++ ys)
unfolding at_lines
line_step (kind.Keyword keyword.Task) p xs ys e = refl
line_step (kind.Keyword keyword.Handler) p xs ys e = refl
line_step (kind.Service s) p xs ys e = ap (λ (more : List ℕ). p.line ∷ more) e
line_step _ p xs ys e = e

lines_to_next : (begins : List ℕ) (ts : List Token) → at_lines (call_positions begins ts) ≡ lines (calls_to_next ts)
unfolding at_lines
lines_to_next begins [] = refl
lines_to_next begins (t ∷ ts) =
    let later = call_positions begins ts in
    line_step t.kind (position_of_token begins t) later (calls_to_next ts) (lines_to_next begins ts)

body_step :
    (b : Bool) (line : ℕ) (xs : List CallPosition) (ys : List TextCall) (bs : List TextBody)
    (yss : List (List TextCall)) → at_lines xs ≡ lines ys → map (λ x. call_lines x) bs ≡ map lines yss →
    map (λ x. call_lines x) ((if b then record { head = line; calls = xs } ∷ [] else []) ++ bs)
    ≡ map lines (if b then ys ∷ yss else yss)
unfolding at_lines
body_step true line xs ys bs yss e f = ap₂ (λ (a : List ℕ) (b : List (List ℕ)). a ∷ b) e f
body_step false line xs ys bs yss e f = f

pub lines_of_text : (begins : List ℕ) (ts : List Token)
    → map (λ x. call_lines x) (bodies_in begins ts) ≡ map lines (text_calls ts)
lines_of_text begins [] = refl
lines_of_text begins (t ∷ ts) =
    body_step (is_head t.kind) t.line (call_positions begins ts) (calls_to_next ts) (bodies_in begins ts)
    (text_calls ts) (lines_to_next begins ts) (lines_of_text begins ts)

-- the lines that are taken for the calls of a text are those of its tokens
pub lines_are :
    (src : List ℕ) (ts : List Token) (bodies : List TextBody) → length src ≤ text_max → Cuts src 0 ts →
    AreBodiesOf src bodies → map (λ x. call_lines x) bodies ≡ map lines (text_calls ts)
lines_are src ts bodies small cut are =
    elim are [
      | inl read ↦
          let calls = λ (bs : List TextBody). map (λ x. call_lines x) bs in
          let begins = line_begins src in
          ap calls read.1.2
          ∙ ap (λ (us : List Token). calls (bodies_in begins us)) (cuts_unique src 0 read.1.0 ts read.1.1 cut)
          ∙ lines_of_text begins ts
      | inr long ↦ absurd (omega (arith, long.0))
    ]
