-- The first fault of a text that a grammar does not have.
use Rattle.std.specs.Prelude.{◌≡◌, ℕ, ◌<◌, ◌≤◌, ◌⊎◌, List, length, slice_get, Option, Some, None}
use Rattle.fmp_lex.specs.declared.fault.BuildFault.{BuildFault}
use Rattle.fmp_lex.specs.declared.fault.BuildFault.TheVariants as build
use Rattle.fmp_lex.specs.declared.fault.FaultKind.{FaultKind}
use Rattle.fmp_lex.specs.declared.fault.FaultKind.TheVariants as fault
use Rattle.fmp_lex.specs.declared.fault.TextFile.{TextFile}
use Rattle.fmp_lex.specs.declared.position.TokenPosition.{TokenPosition}
use Rattle.fmp_lex.specs.declared.reading.GrammarFault.{GrammarFault}
use Rattle.fmp_lex.specs.declared.reading.GrammarFault.TheVariants.{Syntax, Depth}
use Rattle.fmp_lex.specs.declared.token.LexFault.TheVariants.{Limit}
use Rattle.fmp_lex.specs.declared.token.Token.{Token}
use Rattle.fmp_lex.specs.declared.token.TokenKind.{TokenKind}
use Rattle.fmp_lex.specs.declared.token.TokenKind.TheVariants as kind
use Rattle.fmp_lex.specs.Cutting.{Cuts}
use Rattle.fmp_lex.specs.Positions.{text_start, text_end, position_of, position_or_start}
use Rattle.fmp_lex.specs.Reading.{Rel, kinds_of, IsWhole, IsFirstFault}

-- the greatest number of bytes of a text
abbrev pub text_max : ℕ
text_max = 1048576

-- a token's own fault comes before that of one that is out of place
abbrev pub token_fault : TokenKind → GrammarFault → FaultKind
token_fault (kind.Bad Limit) why = fault.Limit
token_fault _ Syntax = fault.Syntax
token_fault _ Depth = fault.Limit

-- the fault of a token, or of the end of the text if there is none
abbrev pub fault_of : TextFile → TokenPosition → Option Token → GrammarFault → BuildFault
fault_of file end (Some t) why = build.At file (position_of t) (token_fault t.kind why)
fault_of file end None why = build.At file end fault.Syntax

-- the fault of what a tree has at a token; wherever a tree names a token, there is one
abbrev pub offence_fault : TextFile → Option Token → FaultKind → BuildFault
offence_fault file token why = build.At file (position_or_start token) why

-- the tokens of the text spell this by the grammar X
abbrev pub Spells : {A : Type 0} → Rel A → List ℕ → List Token → A → Type 0
Spells X text ts a = (length text ≤ text_max) × Cuts text 0 ts × IsWhole X (kinds_of ts) a

-- The first fault of a text that spells nothing by the grammar X: it is too long, or that of its tokens.
abbrev pub IsSyntaxFault : {A : Type 0} → TextFile → Rel A → List ℕ → BuildFault → Type 0
IsSyntaxFault file X text f =
    ((text_max < length text) × (f ≡ build.At file text_start fault.Limit)) ⊎
    ((length text ≤ text_max) ×
    ((ts : List Token) × Cuts text 0 ts × (j : ℕ) × (why : GrammarFault) × IsFirstFault X (kinds_of ts) j why ×
    (f ≡ fault_of file (text_end text) (slice_get ts j) why)))
