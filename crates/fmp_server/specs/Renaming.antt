-- Which new name what stands at a position may have.
use Rattle.std.specs.Prelude.{◌≡◌, ◌⊎◌, ℕ, ◌&&◌, ◌||◌, Bool, true, false, not, List, [], ◌∷◌, Some}
use Rattle.std.specs.Prelude.{is_some}
use Rattle.json.specs.Token.{Token}
use Rattle.fmp_base.specs.declared.names.Name.{Name}
use Rattle.fmp_base.specs.Names.{name_text}
use Rattle.fmp_diagnosis.specs.Culprits.{HasTokens}
use Rattle.fmp_lex.specs.declared.fault.TextFile.{TextFile}
use Rattle.fmp_lex.specs.declared.fault.TextFile.TheVariants as file
use Rattle.fmp_lex.specs.declared.token.TokenKind.{TokenKind}
use Rattle.fmp_lex.specs.declared.token.TokenKind.TheVariants as kind
use Rattle.fmp_lex.specs.declared.token.Token as lex
use Rattle.fmp_lex.specs.Reading.{kinds_of}
use Rattle.fmp_server.specs.declared.documents.CutTexts.{CutTexts}
use Rattle.fmp_server.specs.declared.documents.OpenTexts.{OpenTexts}
use Rattle.fmp_server.specs.declared.messages.Refusal.TheVariants as refusal
use Rattle.fmp_server.specs.declared.messages.RequestId.{RequestId}
use Rattle.fmp_server.specs.declared.positions.Position.{Position}
use Rattle.fmp_server.specs.declared.roles.Named.{Named}
use Rattle.fmp_server.specs.declared.roles.Role.{Role}
use Rattle.fmp_server.specs.declared.roles.Role.TheVariants as role
use Rattle.fmp_server.specs.declared.roles.RoleWalk.{RoleWalk}
use Rattle.fmp_server.specs.Documents.{AreCut, tokens_of}
use Rattle.fmp_server.specs.Messages.{answer, refused}
use Rattle.fmp_server.specs.Navigation.{AreAllEdits, HasNoName, IsNamed}
use Rattle.fmp_server.specs.Roles.{is_exinf, is_name, role_of, start_of, walked}

-- a text is a name, and no word of the language
pub record IsNameText (text : List ℕ) (name : Name) : Type 0 where
  pub tokens : List lex.Token
  pub cut : HasTokens text tokens
  pub one : kinds_of tokens ≡ kind.Name name ∷ []
  pub letters : name_text name ≡ text

-- what has these two roles must have different names: bodies have names of their own, and so have classes
abbrev pub is_rival : Role → Role → Bool
is_rival role.Body role.Body = true
is_rival role.Body r = false
is_rival role.Class r = false
is_rival role.Object role.Body = false
is_rival role.Object role.Class = false
is_rival role.Object r = true
is_rival (role.Variable n) role.Body = false
is_rival (role.Variable n) role.Class = false
is_rival (role.Variable n) r = true

-- the token is the name, and stands for something that must have another name than what has this role
abbrev pub clashes : RoleWalk → Role → TokenKind → Bool
clashes w r k = is_name k w.name && is_rival r (role_of w)

-- one of these tokens is such a name
abbrev pub is_used_from : RoleWalk → Role → List TokenKind → Bool
is_used_from w r [] = false
is_used_from w r (k ∷ ks) = clashes w r k || is_used_from (walked w k) r ks

abbrev pub is_used_in : CutTexts → TextFile → Name → Role → Bool
is_used_in c f name r = is_used_from (start_of f name) r (kinds_of (tokens_of c f))

abbrev pub is_used : CutTexts → Name → Role → Bool
is_used c name r = is_used_in c file.Configuration name r || is_used_in c file.Source name r

-- what has no other name, whichever that is: a class, `exinf`, and what may be named in a text that is not open
abbrev pub is_fixed : OpenTexts → Named → Role → Bool
is_fixed o n role.Class = true
is_fixed o n (role.Variable _) = is_exinf n.name
is_fixed o n _ = not (is_some o.cfg && is_some o.src)

-- what has a name may have this one
pub record MayHave (c : CutTexts) (n : Named) (text : List ℕ) : Type 0 where
  pub free : is_fixed c.open n n.role ≡ false
  pub name : Name
  pub is : IsNameText text name
  pub other : is_exinf name ≡ false
  pub unused : is_used c name n.role ≡ false

-- a text is no name, or a word of the language
pub record IsNoNameText (text : List ℕ) : Type 0 where
  pub tokens : List lex.Token
  pub cut : HasTokens text tokens
  pub none : (name : Name) → kinds_of tokens ≡ kind.Name name ∷ [] → name_text name ≡ text → ⊥

-- what has a name may not have this one: it has no other name, the text is none, or the name is that of something else
pub data MayNotHave (c : CutTexts) (n : Named) (text : List ℕ) : Type 0 where
  fixed : is_fixed c.open n n.role ≡ true → MayNotHave c n text
  no_name : IsNoNameText text → MayNotHave c n text
  used : (name : Name) → IsNameText text name → (is_exinf name || is_used c name n.role) ≡ true → MayNotHave c n text

-- The answer with the edits that give what stands at a position this name in both texts, which it may have; or a
-- refusal where no name stands there, or it may not have this one.
abbrev pub IsRenamed : CutTexts → RequestId → Position → (text : List ℕ) → List ℕ → Type 0
IsRenamed c id p text bytes =
    ((n : Named) × (out : List Token) × IsNamed c p n × MayHave c n text × AreAllEdits c n text out
    × (bytes ≡ answer id out))
    ⊎ ((HasNoName c p ⊎ ((n : Named) × IsNamed c p n × MayNotHave c n text))
    × ((sentence : List ℕ) × (bytes ≡ refused (Some id) refusal.Failed sentence)))

abbrev pub IsRenameAnswer : OpenTexts → RequestId → Position → (text : List ℕ) → List ℕ → Type 0
IsRenameAnswer o id p text bytes = (c : CutTexts) × AreCut o c × IsRenamed c id p text bytes
