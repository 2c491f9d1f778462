-- The service calls and the branches of a task text, to which a run may come.
use Rattle.std.specs.Prelude.{ℕ, ◌≡◌, ◌+◌, ◌-◌, ◌^◌, ◌<◌, ◌≤◌, ◌==◌, ◌⊎◌, List, [], ◌∷◌, ◌++◌, length, min, take}
use Rattle.std.specs.Prelude.{Option, Some, None, option_map, slice_get, unwrap_or, if◌then◌else◌}
use Rattle.fmp_base.specs.declared.words.Keyword.{Keyword}
use Rattle.fmp_base.specs.declared.words.Keyword.TheVariants as keyword
use Rattle.fmp_frames.specs.declared.call_positions.CallPosition.{CallPosition}
use Rattle.fmp_lex.specs.declared.token.Symbol.{Symbol}
use Rattle.fmp_lex.specs.declared.token.Symbol.TheVariants as symbol
use Rattle.fmp_lex.specs.declared.token.Token.{Token}
use Rattle.fmp_lex.specs.declared.token.TokenKind.{TokenKind}
use Rattle.fmp_lex.specs.declared.token.TokenKind.TheVariants as kind
use Rattle.fmp_lex.specs.Cutting.{Cuts}
use Rattle.fmp_lex.specs.Faults.{text_max}
use Rattle.fmp_looking.specs.declared.marks.BranchKind.TheVariants as branch
use Rattle.fmp_looking.specs.declared.marks.Mark.{Mark}
use Rattle.fmp_looking.specs.declared.marks.MarkKind.{MarkKind}
use Rattle.fmp_looking.specs.declared.marks.MarkKind.TheVariants as mark
use Rattle.fmp_looking.specs.declared.walking.Piece.{Piece}
use Rattle.fmp_looking.specs.declared.walking.Piece.TheVariants as piece
use Rattle.fmp_looking.specs.declared.walking.Condition.{Condition}
use Rattle.fmp_looking.specs.declared.walking.Walk.{Walk}

-- what a token is for marks
abbrev pub keyword_piece : Keyword → Piece
keyword_piece keyword.Task = piece.Head
keyword_piece keyword.Handler = piece.Head
keyword_piece keyword.If = piece.Begins branch.If
keyword_piece keyword.While = piece.Begins branch.While
keyword_piece _ = piece.Other

abbrev pub symbol_piece : Symbol → Piece
symbol_piece symbol.AndAnd = piece.Branches branch.And
symbol_piece symbol.OrOr = piece.Branches branch.Or
symbol_piece symbol.LeftBrace = piece.Block
symbol_piece _ = piece.Other

abbrev pub piece_of : TokenKind → Piece
piece_of (kind.Keyword word) = keyword_piece word
piece_of (kind.Symbol s) = symbol_piece s
piece_of (kind.Service s) = piece.Call s
piece_of _ = piece.Other

-- the column after bytes, where that before them is known: 1 after a line feed, else one more for each
abbrev pub column_after : (column : ℕ) → List ℕ → ℕ
column_after column [] = column
column_after column (b ∷ bs) = column_after (if b == 10 then 1 else column + 1) bs

-- the column of the byte at a position of a text
abbrev pub column_of : (text : List ℕ) → (start : ℕ) → ℕ
column_of text start = column_after 1 (take start text)

-- where a token stands in a text
abbrev pub position_of : (text : List ℕ) → Token → CallPosition
position_of text t = record { line = t.line; column = column_of text t.start }

-- one more, as far as a number goes
abbrev pub one_more : ℕ → ℕ
one_more n = min (n + 1) (2 ^ 64 - 1)

-- a walk over tokens that has seen none
abbrev pub at_first : Walk
at_first = record { bodies = 0; branches = 0; condition = None }

-- the mark at a position
abbrev pub mark_here : Walk → MarkKind → CallPosition → Mark
mark_here w k position = record { kind = k; position = position; bodies = w.bodies; branches = w.branches }

-- the mark of the condition that ends where its block begins
abbrev pub mark_of_condition : Walk → Option Condition → List Mark
mark_of_condition w None = []
mark_of_condition w (Some c) = mark_here w (mark.Branch c.kind) c.position ∷ []

-- the mark that a token gives, if it gives one: a call, `&&` and `||` by themselves, a condition where its block begins
abbrev pub marks_by : Walk → Piece → CallPosition → List Mark
marks_by w (piece.Call s) position = mark_here w (mark.Call s) position ∷ []
marks_by w (piece.Branches k) position = mark_here w (mark.Branch k) position ∷ []
marks_by w piece.Block position = mark_of_condition w w.condition
marks_by w _ position = []

-- a condition has ended, if there was one
abbrev pub condition_ended : Walk → Option Condition → Walk
condition_ended w None = w
condition_ended w (Some c) = record w { branches = one_more w.branches; condition = None }

-- the walk after a token
abbrev pub walked : Walk → Piece → CallPosition → Walk
walked w piece.Head position = record { bodies = one_more w.bodies; branches = 0; condition = None }
walked w (piece.Begins k) position = record w { condition = Some (record { kind = k; position = position }) }
walked w (piece.Branches k) position = record w { branches = one_more w.branches }
walked w piece.Block position = condition_ended w w.condition
walked w _ position = w

-- the marks of tokens
abbrev pub marks_from : (text : List ℕ) → Walk → List Token → List Mark
marks_from text w [] = []
marks_from text w (t ∷ ts) =
    marks_by w (piece_of t.kind) (position_of text t)
    ++ marks_from text (walked w (piece_of t.kind) (position_of text t)) ts

-- the same of the token at a place
abbrev pub piece_at : List Token → ℕ → Piece
piece_at ts i = unwrap_or (option_map (λ t. piece_of t.kind) (slice_get ts i)) piece.Other

abbrev pub position_at : (text : List ℕ) → List Token → ℕ → CallPosition
position_at text ts i =
    unwrap_or (option_map (λ t. position_of text t) (slice_get ts i)) (record { line = 0; column = 1 })

-- these are the marks of a text; of one that is too long to be read they are none
abbrev pub AreMarksOf : (text : List ℕ) → List Mark → Type 0
AreMarksOf text marks =
    ((length text ≤ text_max) × ((ts : List Token) × Cuts text 0 ts × (marks ≡ marks_from text at_first ts)))
    ⊎ ((text_max < length text) × (marks ≡ []))
