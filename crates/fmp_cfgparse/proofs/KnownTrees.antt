-- What the fields of a tree can be, where its tokens are those of a text.
use Rattle.std.proofs.Common.{◌≡◌, ℕ, zero, suc, ℤ, pos, negsuc, ◌-◌, ◌^◌, ◌<◌, true, List, [], ◌∷◌, Option, Some, None}
use Rattle.std.proofs.Common.{slice_get, option_and_then, FitsSigned, refl, subst, arith}
use Rattle.std.proofs.Math.Facts.{sfits_lit, sfits_to_z, Fits-of_lt}
use Rattle.std.proofs.lemmas.Nat.{mod_below, or_lt}
use Rattle.std.specs.Int.{w32, cast_unsigned}
use Rattle.std.specs.List.{AllByRecursion}
use Rattle.fmp_base.specs.declared.codes.Er.TheVariants as er
use Rattle.fmp_base.specs.declared.names.Name.{Name}
use Rattle.fmp_lex.specs.declared.token.TokenKind.{TokenKind}
use Rattle.fmp_lex.specs.declared.token.TokenKind.TheVariants as kind
use Rattle.fmp_base.specs.declared.words.Api.{Api}
use Rattle.fmp_base.specs.declared.words.Api.TheVariants as api
use Rattle.fmp_base.specs.declared.words.Constant.{Constant}
use Rattle.fmp_base.specs.declared.words.Constant.TheVariants as constant
use Rattle.fmp_lex.specs.Reading.{Star, IsWhole}
use Rattle.fmp_base.specs.Words.{constant_value}
use Rattle.fmp_lex.specs.Forms.{put}
use Rattle.fmp_lex.specs.declared.marks.Mark.{Mark}
use Rattle.fmp_lex.specs.declared.marks.Mark.TheVariants as mark
use Rattle.fmp_cfgparse.specs.declared.forms.ApiPart.{ApiPart}
use Rattle.fmp_cfgparse.specs.declared.forms.ApiPart.TheVariants as part
use Rattle.fmp_cfgparse.specs.declared.tree.Item.{Item}
use Rattle.fmp_cfgparse.specs.declared.tree.Item.TheVariants as item
use Rattle.fmp_cfgparse.specs.Apis.{gives_name}
use Rattle.fmp_cfgparse.specs.Grammar.{name_of, plain_item_of, OneItem, MoreItem, OneValue, OnePart, Parts, api_parts}
use Rattle.fmp_cfgparse.specs.Grammar.{OneApi, OneClass, Config}
use Rattle.fmp_cfgparse.specs.Tables.{IsObjectName}
use Rattle.fmp_cfgparse.specs.Trees.{FieldTree, value, name, ApiTree, ClassTree, ConfigurationTree}
use Rattle.fmp_cfgparse.specs.Values.{item_number, joined, joined_items, value_number, or_zero, field_number, number_at}
use Rattle.fmp_cfgparse.specs.Values.{name_at}
use Rattle.fmp_cfgparse.proofs.KnownTokens.{IsKnown, IsKnownAt, known_at}

-- what an item, a field, an API and a class can be
abbrev pub IsKnownItem : Item → Type 0
IsKnownItem (item.Number z) = FitsSigned w32 z
IsKnownItem (item.Minus z) = Unit {0}
IsKnownItem (item.Constant c) = Unit {0}
IsKnownItem (item.Name n) = Unit {0}

abbrev pub IsKnownField : FieldTree → Type 0
IsKnownField (value items) = AllByRecursion IsKnownItem items
IsKnownField (name n) = IsObjectName n

abbrev pub IsKnownPart : Option FieldTree → Type 0
IsKnownPart None = Unit {0}
IsKnownPart (Some f) = IsKnownField f

pub record IsKnownApi (a : ApiTree) : Type 0 where
  pub fields : AllByRecursion IsKnownField a.fields
  pub names : gives_name a.kind ≡ true → IsObjectName (name_at a.fields 0)

abbrev pub IsKnownClass : ClassTree → Type 0
IsKnownClass c = AllByRecursion IsKnownApi c.apis

-- ---- the trees that tokens spell

number_token : (o : Option TokenKind) (z : ℤ) → IsKnownAt o → option_and_then plain_item_of o ≡ Some (item.Number z)
    → FitsSigned w32 z
number_token None z h e = cc
number_token (Some (kind.Number n)) z h e = let same : n ≡ z = cc in subst (λ (x : ℤ). FitsSigned w32 x) same h
number_token (Some (kind.Constant c)) z h e = cc
number_token (Some (kind.Name n)) z h e = cc
number_token (Some (kind.Api a)) z h e = cc
number_token (Some (kind.Service s)) z h e = cc
number_token (Some (kind.Keyword k)) z h e = cc
number_token (Some (kind.Symbol s)) z h e = cc
number_token (Some (kind.Bad f)) z h e = cc

name_token : (o : Option TokenKind) (n : Name) → IsKnownAt o → option_and_then name_of o ≡ Some n → IsObjectName n
name_token None n h e = cc
name_token (Some (kind.Name m)) n h e = let same : m ≡ n = cc in subst IsObjectName same h
name_token (Some (kind.Number z)) n h e = cc
name_token (Some (kind.Constant c)) n h e = cc
name_token (Some (kind.Api a)) n h e = cc
name_token (Some (kind.Service s)) n h e = cc
name_token (Some (kind.Keyword k)) n h e = cc
name_token (Some (kind.Symbol s)) n h e = cc
name_token (Some (kind.Bad f)) n h e = cc

named_form : (a : Api) → gives_name a ≡ true → (ps : List ApiPart)
    × (api_parts a ≡ part.Mark mark.LeftParen ∷ part.Name ∷ ps)
named_form api.CreTsk e = (_, refl)
named_form api.CreSem e = (_, refl)
named_form api.CreFlg e = (_, refl)
named_form api.CreDtq e = (_, refl)
named_form api.CreMbx e = (_, refl)
named_form api.CreMsg e = (_, refl)
named_form api.CreShr e = (_, refl)
named_form api.CreSpn e = (_, refl)
named_form api.CreCyc e = (_, refl)
named_form api.DefInh e = cc

module _ (ts : List TokenKind) (known : AllByRecursion IsKnown ts) where
  item_known : (l i : ℕ) (a : Item) (j : ℕ) → OneItem ts l i a j → IsKnownItem a
  item_known l i (item.Number z) j x = number_token (slice_get ts i) z (known_at ts i known) x.0
  item_known l i (item.Minus z) j x = tt
  item_known l i (item.Constant c) j x = tt
  item_known l i (item.Name n) j x = tt

  items_known : (l i : ℕ) (items : List Item) (j : ℕ) → Star MoreItem ts l i items j → AllByRecursion IsKnownItem items
  items_known l i [] j x = tt
  items_known l i (a ∷ more) j x = (item_known l x.1.0 a x.0 x.1.2, items_known l x.0 more j x.2)

  value_known : (l i : ℕ) (items : List Item) (j : ℕ) → OneValue ts l i items j → AllByRecursion IsKnownItem items
  value_known l i [] j x = tt
  value_known l i (a ∷ more) j x = (item_known l i a x.0 x.1, items_known l x.0 more j x.2)

  name_part : (p : ApiPart) (l i : ℕ) (n : Name) (j : ℕ) → OnePart p ts l i (Some (name n)) j → IsObjectName n
  name_part (part.Mark m) l i n j x = absurd x
  name_part part.Value l i n j x = absurd x
  name_part part.Name l i n j x = name_token (slice_get ts i) n (known_at ts i known) x.0

  value_part : (p : ApiPart) (l i : ℕ) (v : List Item) (j : ℕ) → OnePart p ts l i (Some (value v)) j
      → AllByRecursion IsKnownItem v
  value_part (part.Mark m) l i v j x = absurd x
  value_part part.Name l i v j x = absurd x
  value_part part.Value l i v j x = value_known l i v j x

  part_known : (p : ApiPart) (l i : ℕ) (f : Option FieldTree) (j : ℕ) → OnePart p ts l i f j → IsKnownPart f
  part_known p l i None j x = tt
  part_known p l i (Some (name n)) j x = name_part p l i n j x
  part_known p l i (Some (value v)) j x = value_part p l i v j x

  put_known : (f : Option FieldTree) (more : List FieldTree) → IsKnownPart f → AllByRecursion IsKnownField more
      → AllByRecursion IsKnownField (put f more)
  put_known None more h k = k
  put_known (Some f) more h k = (h, k)

  parts_known : (ps : List ApiPart) (l i : ℕ) (fields : List FieldTree) (j : ℕ) → Parts ps ts l i fields j
      → AllByRecursion IsKnownField fields
  parts_known [] l i fields j x = rw x.0 tt
  parts_known (p ∷ ps) l i fields j x =
      rw x.2 (put_known x.0 x.1 (part_known p l i x.0 x.3 x.4) (parts_known ps l x.3 x.1 j x.5))

  -- a form that begins with a name gives it first
  leading : (f : Option FieldTree) (more : List FieldTree) (l i j : ℕ) → OnePart part.Name ts l i f j
      → IsObjectName (name_at (put f more) 0)
  leading None more l i j x = absurd x
  leading (Some (value v)) more l i j x = absurd x
  leading (Some (name n)) more l i j x = name_part part.Name l i n j x

  behind_mark : (m : Mark) (f : Option FieldTree) (more : List FieldTree) (l i j : ℕ)
      → OnePart (part.Mark m) ts l i f j → put f more ≡ more
  behind_mark m None more l i j x = refl
  behind_mark m (Some (value v)) more l i j x = absurd x
  behind_mark m (Some (name n)) more l i j x = absurd x

  name_first : (m : Mark) (ps : List ApiPart) (l i : ℕ) (fields : List FieldTree) (j : ℕ)
      → Parts (part.Mark m ∷ part.Name ∷ ps) ts l i fields j → IsObjectName (name_at fields 0)
  name_first m ps l i fields j x =
      let y = x.5 in
      rw (x.2, behind_mark m x.0 x.1 l i x.3 x.4, y.2) (leading y.0 y.1 l x.3 y.3 y.4)

  api_names : (a : Api) (l i : ℕ) (fields : List FieldTree) (j : ℕ) → Parts (api_parts a) ts l i fields j
      → gives_name a ≡ true → IsObjectName (name_at fields 0)
  api_names a l i fields j x e =
      let named = named_form a e in
      name_first mark.LeftParen named.0 l i fields j (subst (λ ps. Parts ps ts l i fields j) named.1 x)

  api_known : (l i : ℕ) (a : ApiTree) (j : ℕ) → OneApi ts l i a j → IsKnownApi a
  api_known l i a j x = record {
    fields = parts_known (api_parts a.kind) l x.1 a.fields j x.3;
    names = api_names a.kind l x.1 a.fields j x.3;
  }

  apis_known : (l i : ℕ) (apis : List ApiTree) (j : ℕ) → Star OneApi ts l i apis j → AllByRecursion IsKnownApi apis
  apis_known l i [] j x = tt
  apis_known l i (a ∷ more) j x = (api_known l i a x.0 x.1, apis_known l x.0 more j x.2)

  class_known : (l i : ℕ) (c : ClassTree) (j : ℕ) → OneClass ts l i c j → IsKnownClass c
  class_known l i c j x = apis_known l x.9 c.apis x.11 x.12

  classes_known : (l i : ℕ) (classes : List ClassTree) (j : ℕ) → Star OneClass ts l i classes j
      → AllByRecursion IsKnownClass classes
  classes_known l i [] j x = tt
  classes_known l i (c ∷ more) j x = (class_known l i c x.0 x.1, classes_known l x.0 more j x.2)

  pub tree_known : (tree : ConfigurationTree) → IsWhole Config ts tree → AllByRecursion IsKnownClass tree.classes
  tree_known tree x = classes_known _ x.9 tree.classes _ x.11

-- ---- their numbers fit

abbrev Fit : Option ℤ → Type 0
Fit None = Unit {0}
Fit (Some z) = FitsSigned w32 z

pub code_fits : (c : Constant) → FitsSigned w32 (constant_value c)
code_fits (constant.Code er.Ok) = sfits_lit tt
code_fits (constant.Code er.Sys) = sfits_lit tt
code_fits (constant.Code er.Nospt) = sfits_lit tt
code_fits (constant.Code er.Rsatr) = sfits_lit tt
code_fits (constant.Code er.Par) = sfits_lit tt
code_fits (constant.Code er.Id) = sfits_lit tt
code_fits (constant.Code er.Ctx) = sfits_lit tt
code_fits (constant.Code er.Iluse) = sfits_lit tt
code_fits (constant.Code er.Obj) = sfits_lit tt
code_fits (constant.Code er.Qovr) = sfits_lit tt
code_fits (constant.Code er.Rlwai) = sfits_lit tt
code_fits (constant.Code er.Tmout) = sfits_lit tt
code_fits constant.TaNull = sfits_lit tt
code_fits constant.TaHlng = sfits_lit tt
code_fits constant.TaTfifo = sfits_lit tt
code_fits constant.TaTpri = sfits_lit tt
code_fits constant.TaMfifo = sfits_lit tt
code_fits constant.TaMpri = sfits_lit tt
code_fits constant.TaAct = sfits_lit tt
code_fits constant.TaWsgl = sfits_lit tt
code_fits constant.TaWmul = sfits_lit tt
code_fits constant.TaClr = sfits_lit tt
code_fits constant.TaSta = sfits_lit tt
code_fits constant.TwfAndw = sfits_lit tt
code_fits constant.TwfOrw = sfits_lit tt
code_fits constant.TmoPol = sfits_lit tt
code_fits constant.TmoFevr = sfits_lit tt
code_fits constant.TskSelf = sfits_lit tt
code_fits constant.TpriIni = sfits_lit tt
code_fits constant.TpriSelf = sfits_lit tt

item_fits : (a : Item) → IsKnownItem a → Fit (item_number a)
item_fits (item.Number z) h = h
item_fits (item.Minus z) h = sfits_to_z (Fits-of_lt (mod_below (2 ^ 32 - cast_unsigned w32 z) (2 ^ 32) (omega arith)))
item_fits (item.Constant c) h = code_fits c
item_fits (item.Name n) h = tt

below : (z : ℤ) → FitsSigned w32 z → cast_unsigned w32 z < 2 ^ 32
below (pos n) h = let low : n < 2 ^ 31 = h.sfits in omega arith
below (negsuc n) h = omega arith

joined_fits : (x y : Option ℤ) → Fit x → Fit y → Fit (joined x y)
joined_fits (Some x) (Some y) h k = sfits_to_z (Fits-of_lt (or_lt 32 (cast_unsigned w32 x) (cast_unsigned w32 y)
    (below x h) (below y k)))
joined_fits (Some x) None h k = tt
joined_fits None y h k = tt

items_fit : (x : Option ℤ) (items : List Item) → Fit x → AllByRecursion IsKnownItem items → Fit (joined_items x items)
items_fit x [] h k = h
items_fit x (a ∷ more) h k = items_fit (joined x (item_number a)) more (joined_fits x (item_number a) h
    (item_fits a k.0)) k.1

or_zero_fits : (x : Option ℤ) → Fit x → FitsSigned w32 (or_zero x)
or_zero_fits (Some z) h = h
or_zero_fits None h = sfits_lit tt

field_fits : (f : Option FieldTree) → IsKnownPart f → FitsSigned w32 (field_number f)
field_fits (Some (value items)) h = or_zero_fits (value_number items) (items_fit (Some (pos 0)) items (sfits_lit tt) h)
field_fits (Some (name n)) h = sfits_lit tt
field_fits None h = sfits_lit tt

field_known : (fields : List FieldTree) (k : ℕ) → AllByRecursion IsKnownField fields → IsKnownPart (slice_get fields k)
field_known [] k h = tt
field_known (f ∷ more) zero h = h.0
field_known (f ∷ more) (suc k) h = field_known more k h.1

pub number_fits : (fields : List FieldTree) (k : ℕ) → AllByRecursion IsKnownField fields
    → FitsSigned w32 (number_at fields k)
number_fits fields k h = field_fits (slice_get fields k) (field_known fields k h)
