-- The grammar of the configuration: which tokens, from one place up to another, spell which tree.
use Rattle.std.specs.Prelude.{◌≡◌, ℕ, ℤ, List, [], ◌∷◌, Option, Some, None}
use Rattle.fmp_base.specs.declared.names.Name.{Name}
use Rattle.fmp_lex.specs.declared.token.Symbol.TheVariants as symbol
use Rattle.fmp_lex.specs.declared.token.TokenKind.{TokenKind}
use Rattle.fmp_lex.specs.declared.token.TokenKind.TheVariants as kind
use Rattle.fmp_base.specs.declared.words.Api.{Api}
use Rattle.fmp_base.specs.declared.words.Api.TheVariants as api
use Rattle.fmp_base.specs.declared.words.Keyword.TheVariants as keyword
use Rattle.fmp_lex.specs.Forms.{mark_kind, PartsBy}
use Rattle.fmp_lex.specs.Reading.{Rel, IsToken, IsItem, Star}
use Rattle.fmp_lex.specs.declared.marks.Mark.TheVariants as mark
use Rattle.fmp_cfgparse.specs.declared.forms.ApiPart.{ApiPart}
use Rattle.fmp_cfgparse.specs.declared.forms.ApiPart.TheVariants as part
use Rattle.fmp_cfgparse.specs.declared.tree.Item.{Item}
use Rattle.fmp_cfgparse.specs.declared.tree.Item.TheVariants as item
use Rattle.fmp_cfgparse.specs.Trees.{FieldTree, value, name, ApiTree, ClassTree, ConfigurationTree}

-- the number that a token is; likewise the name, the item and the API
abbrev pub token_number : TokenKind → Option ℤ
token_number (kind.Number n) = Some n
token_number _ = None

abbrev pub name_of : TokenKind → Option Name
name_of (kind.Name n) = Some n
name_of _ = None

abbrev pub plain_item_of : TokenKind → Option Item
plain_item_of (kind.Number n) = Some (item.Number n)
plain_item_of (kind.Constant c) = Some (item.Constant c)
plain_item_of (kind.Name n) = Some (item.Name n)
plain_item_of _ = None

abbrev pub api_of : TokenKind → Option Api
api_of (kind.Api a) = Some a
api_of _ = None

-- item = number | - number | constant | name
abbrev pub OneItem : Rel Item
OneItem ts limit i (item.Minus n) j = (k : ℕ) × IsToken ts (kind.Symbol symbol.Minus) i k × IsItem token_number ts k n j
OneItem ts limit i a j = IsItem plain_item_of ts i a j

-- | item
abbrev pub MoreItem : Rel Item
MoreItem ts limit i a j = (k : ℕ) × IsToken ts (kind.Symbol symbol.Or) i k × OneItem ts limit k a j

-- value = item {| item}
abbrev pub OneValue : Rel (List Item)
OneValue ts limit i [] j = ⊥
OneValue ts limit i (a ∷ more) j = (k : ℕ) × OneItem ts limit i a k × Star MoreItem ts limit k more j

-- a part of the form of a static API, and the field that it gives
abbrev pub OnePart : ApiPart → Rel (Option FieldTree)
OnePart (part.Mark m) ts limit i None j = IsToken ts (mark_kind m) i j
OnePart part.Name ts limit i (Some (name n)) j = IsItem name_of ts i n j
OnePart part.Value ts limit i (Some (value v)) j = OneValue ts limit i v j
OnePart _ ts limit i _ j = ⊥

-- parts one after another, and their fields
abbrev pub Parts : List ApiPart → Rel (List FieldTree)
Parts = PartsBy OnePart

-- the rest of a packet: a comma before each part, and what closes the API
abbrev pub packet_rest : List ApiPart → List ApiPart
packet_rest [] = part.Mark mark.RightBrace ∷ part.Mark mark.RightParen ∷ part.Mark mark.Semicolon ∷ []
packet_rest (p ∷ ps) = part.Mark mark.Comma ∷ p ∷ packet_rest ps

-- ( first , { packet } ) ;
abbrev pub form : ApiPart → ApiPart → List ApiPart → List ApiPart
form first p ps =
    part.Mark mark.LeftParen ∷ first ∷ part.Mark mark.Comma ∷ part.Mark mark.LeftBrace ∷ p ∷ packet_rest ps

abbrev pub null : ApiPart
null = part.Mark mark.Null

-- the form of a static API: its first field, and its packet
abbrev pub api_parts : Api → List ApiPart
api_parts api.CreTsk = form part.Name part.Value (part.Value ∷ part.Name ∷ part.Value ∷ part.Value ∷ null ∷ [])
api_parts api.CreSem = form part.Name part.Value (part.Value ∷ part.Value ∷ [])
api_parts api.CreFlg = form part.Name part.Value (part.Value ∷ [])
api_parts api.CreDtq = form part.Name part.Value (part.Value ∷ null ∷ [])
api_parts api.CreMbx = form part.Name part.Value (part.Value ∷ null ∷ [])
api_parts api.CreMsg = form part.Name part.Value []
api_parts api.CreShr = form part.Name part.Value []
api_parts api.CreSpn = form part.Name part.Value []
api_parts api.CreCyc = form part.Name part.Value (part.Value ∷ part.Name ∷ part.Value ∷ part.Value ∷ [])
api_parts api.DefInh = form part.Value part.Value (part.Name ∷ [])

-- api = API ( first , { packet } ) ;
abbrev pub OneApi : Rel ApiTree
OneApi ts limit i a j =
    (a.at ≡ i) × (k : ℕ) × IsItem api_of ts i a.kind k × Parts (api_parts a.kind) ts limit k a.fields j

-- class = CLASS ( name ) { {api} }
abbrev pub OneClass : Rel ClassTree
OneClass ts limit i c j =
    (k : ℕ) × IsToken ts (kind.Keyword keyword.Class) i k × (l : ℕ) × IsToken ts (kind.Symbol symbol.LeftParen) k l ×
    (c.at ≡ l) × (m : ℕ) × IsItem name_of ts l c.name m × (n : ℕ) × IsToken ts (kind.Symbol symbol.RightParen) m n ×
    (o : ℕ) × IsToken ts (kind.Symbol symbol.LeftBrace) n o × (p : ℕ) × Star OneApi ts limit o c.apis p ×
    IsToken ts (kind.Symbol symbol.RightBrace) p j

-- config = NUM_PRC ( number ) ; {class}
abbrev pub Config : Rel ConfigurationTree
Config ts limit i c j =
    (k : ℕ) × IsToken ts (kind.Keyword keyword.NumPrc) i k × (l : ℕ) × IsToken ts (kind.Symbol symbol.LeftParen) k l ×
    (c.at ≡ l)
    × (m : ℕ) × IsItem token_number ts l c.processors m × (n : ℕ) × IsToken ts (kind.Symbol symbol.RightParen) m n ×
    (o : ℕ) × IsToken ts (kind.Symbol symbol.Semicolon) n o × Star OneClass ts limit o c.classes j
