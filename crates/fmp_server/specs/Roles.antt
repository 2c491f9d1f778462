-- What names in the texts stand for. A walk over the tokens of a text follows one name: what stands before the next
-- token, whether the name is a variable of the body that was begun last, and how many bodies were begun.
use Rattle.std.specs.Prelude.{◌≡◌, ℕ, ◌+◌, ◌<◌, ◌≤◌, ◌==◌, ◌&&◌, ◌||◌, Bool, true, false, if◌then◌else◌, List, [], ◌∷◌}
use Rattle.std.specs.Prelude.{◌++◌, Option, Some, None, codes, length, map, min, slice_get, take}
use Rattle.std.specs.Str.{bytes_eq}
use Rattle.fmp_base.specs.declared.names.Name.{Name}
use Rattle.fmp_base.specs.Names.{name_text}
use Rattle.fmp_base.specs.declared.words.Api.{Api}
use Rattle.fmp_base.specs.declared.words.Api.TheVariants as api
use Rattle.fmp_base.specs.declared.words.Keyword.{Keyword}
use Rattle.fmp_base.specs.declared.words.Keyword.TheVariants as keyword
use Rattle.fmp_lex.specs.declared.fault.TextFile.{TextFile}
use Rattle.fmp_lex.specs.declared.fault.TextFile.TheVariants as file
use Rattle.fmp_lex.specs.declared.position.TokenPosition.{TokenPosition}
use Rattle.fmp_lex.specs.declared.token.Symbol.{Symbol}
use Rattle.fmp_lex.specs.declared.token.Symbol.TheVariants as symbol
use Rattle.fmp_lex.specs.declared.token.Token.{Token}
use Rattle.fmp_lex.specs.declared.token.TokenKind.{TokenKind}
use Rattle.fmp_lex.specs.declared.token.TokenKind.TheVariants as kind
use Rattle.fmp_lex.specs.Positions.{position_of}
use Rattle.fmp_server.specs.declared.roles.Before.{Before}
use Rattle.fmp_server.specs.declared.roles.Before.TheVariants as before
use Rattle.fmp_server.specs.declared.roles.Named.{Named}
use Rattle.fmp_server.specs.declared.roles.NamePosition.{NamePosition}
use Rattle.fmp_server.specs.declared.roles.Role.{Role}
use Rattle.fmp_server.specs.declared.roles.Role.TheVariants as role
use Rattle.fmp_server.specs.declared.roles.RoleWalk.{RoleWalk}

-- the token is this name
abbrev pub is_name : TokenKind → Name → Bool
is_name (kind.Name found) name = bytes_eq (name_text found) (name_text name)
is_name _ name = false

abbrev pub is_exinf : Name → Bool
is_exinf name = bytes_eq (name_text name) (codes "exinf")

-- a static API makes an object, but for that of an interrupt handler
abbrev pub after_api : Api → Before
after_api api.DefInh = before.Other
after_api _ = before.Maker

abbrev pub after_keyword : Keyword → Before
after_keyword keyword.Class = before.Class
after_keyword keyword.Task = before.Heading
after_keyword keyword.Handler = before.Heading
after_keyword keyword.Var = before.Variable
after_keyword _ = before.Other

-- the name of an object or of a class stands in the parenthesis after its word
abbrev pub in_parenthesis : Before → Before
in_parenthesis before.Maker = before.Object
in_parenthesis before.Class = before.ClassName
in_parenthesis _ = before.Other

abbrev pub after_symbol : Before → Symbol → Before
after_symbol b symbol.LeftParen = in_parenthesis b
after_symbol b _ = before.Other

-- what stands before the token after this one
abbrev pub before_next : Before → TokenKind → Before
before_next b (kind.Api a) = after_api a
before_next b (kind.Keyword k) = after_keyword k
before_next b (kind.Symbol s) = after_symbol b s
before_next b _ = before.Other

-- another name in a configuration is that of a body; in a task text it is that of a variable, or else of an object
abbrev pub other_role : RoleWalk → TextFile → Role
other_role w file.Configuration = role.Body
other_role w file.Source = if w.is_variable then role.Variable w.bodies else role.Object

abbrev pub role_after : RoleWalk → Before → Role
role_after w before.Object = role.Object
role_after w before.ClassName = role.Class
role_after w before.Heading = role.Body
role_after w before.Variable = role.Variable w.bodies
role_after w _ = other_role w w.file

-- what the name stands for if it is the next token
abbrev pub role_of : RoleWalk → Role
role_of w = role_after w w.before

-- the name, if it is the next token, makes or declares what it stands for
abbrev pub declares : Before → Bool
declares before.Object = true
declares before.Heading = true
declares before.Variable = true
declares _ = false

abbrev pub is_heading : Before → Bool
is_heading before.Heading = true
is_heading _ = false

abbrev pub is_declaration : Before → Bool
is_declaration before.Variable = true
is_declaration _ = false

-- where a body begins, the name is a variable only if it is `exinf`
abbrev pub begun : RoleWalk → RoleWalk
begun w =
    record w { before = before.Heading; is_variable = is_exinf w.name; bodies = min (w.bodies + 1) 4294967295 }

abbrev pub gone_on : RoleWalk → TokenKind → RoleWalk
gone_on w k =
    record w {
      before = before_next w.before k;
      is_variable = w.is_variable || (is_declaration w.before && is_name k w.name);
    }

-- the walk after this token
abbrev pub walked : RoleWalk → TokenKind → RoleWalk
walked w k = if is_heading (before_next w.before k) then begun w else gone_on w k

abbrev pub same_role : Role → Role → Bool
same_role role.Object role.Object = true
same_role role.Body role.Body = true
same_role role.Class role.Class = true
same_role (role.Variable a) (role.Variable b) = a == b
same_role _ _ = false

-- the token is the name, and stands for this
abbrev pub stands_for : RoleWalk → Role → TokenKind → Bool
stands_for w r k = is_name k w.name && same_role (role_of w) r

-- where names stand
abbrev pub positions_of : List NamePosition → List TokenPosition
positions_of ps = map (λ (p : NamePosition). p.position) ps

-- the position of a token, at which the walk stands
abbrev pub name_position : RoleWalk → Token → NamePosition
name_position w t = record { position = position_of t; declares = declares w.before }

-- that of the next token, if there is one
abbrev pub positions_at : RoleWalk → Option Token → List NamePosition
positions_at w None = []
positions_at w (Some t) = name_position w t ∷ []

-- of these tokens, from the walk on, the positions of those at which the name stands for this
abbrev pub named_positions : RoleWalk → Role → List Token → List NamePosition
named_positions w r [] = []
named_positions w r (t ∷ ts) =
    (if stands_for w r t.kind then name_position w t ∷ [] else []) ++ named_positions (walked w t.kind) r ts

-- the beginning of a text
abbrev pub start_of : TextFile → Name → RoleWalk
start_of f name = record { file = f; name = name; before = before.Other; is_variable = false; bodies = 0 }

abbrev pub same_file : TextFile → TextFile → Bool
same_file file.Configuration file.Configuration = true
same_file file.Source file.Source = true
same_file _ _ = false

-- what a name stands for may be named in a text: variables and classes are named in one text alone
abbrev pub may_in : Role → TextFile → TextFile → Bool
may_in role.Object f g = true
may_in role.Body f g = true
may_in role.Class f g = same_file f g
may_in (role.Variable n) f g = same_file f g

abbrev pub may_stand_in : Named → TextFile → Bool
may_stand_in n f = may_in n.role n.file f

-- where in a text a name stands for the same
abbrev pub uses : Named → TextFile → List Token → List NamePosition
uses n f ts = if may_stand_in n f then named_positions (start_of f n.name) n.role ts else []

-- the walk after these tokens
abbrev pub walked_all : RoleWalk → List TokenKind → RoleWalk
walked_all w [] = w
walked_all w (k ∷ ks) = walked_all (walked w k) ks

-- what the name at a place of the tokens of a text stands for
abbrev pub named_from : TextFile → List TokenKind → (at : ℕ) → Option TokenKind → Option Named
named_from f ks at (Some (kind.Name name)) =
    Some (record { name = name; role = role_of (walked_all (start_of f name) (take at ks)); file = f })
named_from f ks at _ = None

abbrev pub named_at : TextFile → List TokenKind → (at : ℕ) → Option Named
named_at f ks at = named_from f ks at (slice_get ks at)

-- a word: neither a symbol nor what is no token
abbrev pub is_word : TokenKind → Bool
is_word (kind.Symbol _) = false
is_word (kind.Bad _) = false
is_word _ = true

-- the token at this place is a word that has this byte, or ends before it
pub record IsWordAt (ts : List Token) (offset at : ℕ) : Type 0 where
  pub token : Token
  pub token_is : slice_get ts at ≡ Some token
  pub word : is_word token.kind ≡ true
  pub begins : token.start ≤ offset
  pub ends : offset ≤ token.end

-- the last such token
pub record IsLastWordAt (ts : List Token) (offset at : ℕ) : Type 0 where
  pub word : IsWordAt ts offset at
  pub last : (k : ℕ) → at < k → IsWordAt ts offset k → ⊥

-- there is none
abbrev pub HasNoWordAt : List Token → (offset : ℕ) → Type 0
HasNoWordAt ts offset = (at : ℕ) → IsWordAt ts offset at → ⊥

-- each token but the last has a byte, and ends before the next begins
pub record AreInOrder (ts : List Token) : Type 0 where
  pub each : (i j : ℕ) (s t : Token) → i < j → slice_get ts i ≡ Some s → slice_get ts j ≡ Some t
      → (s.start < s.end) × (s.end ≤ t.start)

-- the token at this place begins before a byte, or at it
abbrev pub IsBegunAt : List Token → (offset at : ℕ) → Type 0
IsBegunAt ts offset at = (t : Token) × (slice_get ts at ≡ Some t) × (t.start ≤ offset)

-- the first tokens, as many as counted, begin before a byte or at it, and no others
pub record AreBegunAt (ts : List Token) (offset count : ℕ) : Type 0 where
  pub within : count ≤ length ts
  pub begun : (k : ℕ) (t : Token) → k < count → slice_get ts k ≡ Some t → t.start ≤ offset
  pub others : (k : ℕ) (t : Token) → count ≤ k → slice_get ts k ≡ Some t → offset < t.start
