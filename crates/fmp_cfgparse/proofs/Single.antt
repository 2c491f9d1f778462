-- A list of tokens spells at most one tree.
use Rattle.std.proofs.Common.{◌≡◌, ℕ, List, [], ◌∷◌, length, slice_get, Option, Some, None, option_and_then, refl, sym}
use Rattle.std.proofs.Common.{ap, ap₂, subst, ◌∙◌, arith}
use Rattle.fmp_base.specs.declared.names.Name.{Name}
use Rattle.fmp_lex.specs.declared.token.TokenKind.{TokenKind}
use Rattle.fmp_lex.specs.Reading.{Rel, Seq, OneToken, IsItem, Anywhere, IsWhole, Star}
use Rattle.fmp_lex.specs.Reading as reading
use Rattle.fmp_lex.proofs.Sequences.{Follows}
use Rattle.fmp_lex.specs.Forms.{mark_kind, put}
use Rattle.fmp_cfgparse.specs.declared.forms.ApiPart.{ApiPart}
use Rattle.fmp_cfgparse.specs.declared.forms.ApiPart.TheVariants as part
use Rattle.fmp_cfgparse.specs.declared.tree.Item.{Item}
use Rattle.fmp_cfgparse.specs.declared.tree.Item.TheVariants as item
use Rattle.fmp_cfgparse.specs.Trees.{FieldTree, value, name, ApiTree, ClassTree, ConfigurationTree}
use Rattle.fmp_cfgparse.specs.Grammar.{token_number, name_of, plain_item_of, api_of, OneItem, MoreItem, OneValue}
use Rattle.fmp_cfgparse.specs.Grammar.{OnePart, Parts, api_parts, OneApi, OneClass, Config}
use Rattle.fmp_cfgparse.specs.Reading.{EndsValue, EndsApis, EndsClasses}
use Rattle.fmp_cfgparse.proofs.Items.{minus, minus_back, plain_back}
use Rattle.fmp_cfgparse.proofs.Parts.{parts_follow}
use Rattle.fmp_cfgparse.proofs.Classes.{ends_there, apis_follow, brace_follows}

-- where what follows does not go on with it, an X is read from a place in one way
abbrev pub Single : {A : Type 0} → Rel A → (List TokenKind → ℕ → Type 0) → Type 0
Single {A} X Ends = (us : List TokenKind) (l i : ℕ) (a : A) (j : ℕ) (b : A) (k : ℕ) → X us l i a j → Ends us j
    → X us l i b k → Ends us k → (b ≡ a) × (k ≡ j)

-- one token that stands for something
item_one : {A : Type 0} (read : TokenKind → Option A) (us : List TokenKind) (i i' : ℕ) (a : A) (j : ℕ) (b : A) (k : ℕ)
    → i' ≡ i → IsItem read us i a j → IsItem read us i' b k → (b ≡ a) × (k ≡ j)
item_one read us i i' a j b k at x y =
    let both : Some b ≡ Some a = sym y.0 ∙ (ap (λ n. option_and_then read (slice_get us n)) at ∙ x.0) in
    let one : b ≡ a = cc in
    (one, omega (arith, x.1, y.1))

-- either none is left in both, or both go on
star_single : {A : Type 0} (X : Rel A) (EndX Ends : List TokenKind → ℕ → Type 0) → Single X EndX
    → Follows EndX (Star X) Ends →
    ((us : List TokenKind) (l i : ℕ) (a : A) (j : ℕ) → X us l i a j → Ends us i → ⊥) → Single (Star X) Ends
star_single X EndX Ends one follow starts us l i [] j [] k x ends y more = (refl, omega (arith, x, y))
star_single X EndX Ends one follow starts us l i [] j (b ∷ bs) k x ends y more = absurd
    (starts us l i b y.0 y.1 (subst (Ends us) x ends))
star_single X EndX Ends one follow starts us l i (a ∷ as_) j [] k x ends y more = absurd
    (starts us l i a x.0 x.1 (subst (Ends us) y more))
star_single X EndX Ends one follow starts us l i (a ∷ as_) j (b ∷ bs) k x ends y more =
    let h = one us l i a x.0 b y.0 x.1 (follow us l x.0 as_ j x.2 ends) y.1 (follow us l y.0 bs k y.2 more) in
    let t = star_single X EndX Ends one follow starts us l x.0 as_ j bs k x.2 ends
    (subst (λ n. Star X us l n bs k) h.1 y.2) more in
    (ap₂ (λ z zs. z ∷ zs) h.0 t.0, t.1)

one_item : (us : List TokenKind) (l i : ℕ) (a : Item) (j : ℕ) (b : Item) (k : ℕ) → (slice_get us i ≡ Some minus → ⊥)
    → IsItem plain_item_of us i a j → OneItem us l i b k → (b ≡ a) × (k ≡ j)
one_item us l i a j b k is_not x y = item_one plain_item_of us i i a j b k refl x (plain_back us l i b k is_not y)

plain_token : (us : List TokenKind) (i : ℕ) (a : Item) (j : ℕ) → IsItem plain_item_of us i a j → slice_get us i
    ≡ Some minus → ⊥
plain_token us i a j x is = let e : None ≡ Some a = ap (option_and_then plain_item_of) (sym is) ∙ x.0 in absurd (cc)

item_single : Single OneItem Anywhere
item_single us l i (item.Number n) j b k x ends y more = one_item us l i (item.Number n) j b k
    (plain_token us i (item.Number n) j x) x y
item_single us l i (item.Constant n) j b k x ends y more = one_item us l i (item.Constant n) j b k
    (plain_token us i (item.Constant n) j x) x y
item_single us l i (item.Name n) j b k x ends y more = one_item us l i (item.Name n) j b k
    (plain_token us i (item.Name n) j x) x y
item_single us l i (item.Minus n) j b k x ends y more =
    let z = minus_back us l i b k x.1.0 y in
    let same = item_one token_number us x.0 z.2.0 n j z.0 k (omega (arith, x.1.1, z.2.1.1)) x.2 z.2.2 in
    (z.1 ∙ ap item.Minus same.0, same.1)

more_item_single : Single MoreItem Anywhere
more_item_single us l i a j b k x ends y more =
    let at : y.0 ≡ x.0 = omega (arith, x.1.1, y.1.1) in
    item_single us l x.0 a j b k x.2 tt (subst (λ n. OneItem us l n b k) at y.2) tt

more_items_single : Single (Star MoreItem) EndsValue
more_items_single = star_single MoreItem Anywhere EndsValue more_item_single (λ us l k b j y ends. tt)
    (λ us l i a j x ends. ends x.1.0)

value_single : Single OneValue EndsValue
value_single us l i [] j b k x ends y more = absurd x
value_single us l i (a ∷ as_) j [] k x ends y more = absurd y
value_single us l i (a ∷ as_) j (b ∷ bs) k x ends y more =
    let h = item_single us l i a x.0 b y.0 x.1 tt y.1 tt in
    let t = more_items_single us l x.0 as_ j bs k x.2 ends (subst (λ n. Star MoreItem us l n bs k) h.1 y.2) more in
    (ap₂ (λ z zs. z ∷ zs) h.0 t.0, t.1)

mark_single : (m : TokenKind) (us : List TokenKind) (i j k : ℕ) → reading.IsToken us m i j → reading.IsToken us m i k
    → k ≡ j
mark_single m us i j k x y = omega (arith, x.1, y.1)

mark_part : (p : ApiPart) (us : List TokenKind) (l i : ℕ) (j : ℕ) (b : Option FieldTree) (k : ℕ)
    → OnePart p us l i None j → OnePart p us l i b k → (b ≡ None) × (k ≡ j)
mark_part (part.Mark m) us l i j None k x y = (refl, mark_single (mark_kind m) us i j k x y)
mark_part (part.Mark m) us l i j (Some (value v)) k x y = absurd y
mark_part (part.Mark m) us l i j (Some (name n)) k x y = absurd y
mark_part part.Name us l i j b k x y = absurd x
mark_part part.Value us l i j b k x y = absurd x

name_part : (p : ApiPart) (us : List TokenKind) (l i : ℕ) (n : Name) (j : ℕ) (b : Option FieldTree) (k : ℕ)
    → OnePart p us l i (Some (name n)) j → OnePart p us l i b k → (b ≡ Some (name n)) × (k ≡ j)
name_part (part.Mark m) us l i n j b k x y = absurd x
name_part part.Value us l i n j b k x y = absurd x
name_part part.Name us l i n j None k x y = absurd y
name_part part.Name us l i n j (Some (value v)) k x y = absurd y
name_part part.Name us l i n j (Some (name o)) k x y = let e = item_one name_of us i i n j o k refl x y in
    (ap (λ z. Some (name z)) e.0, e.1)

value_part : (p : ApiPart) (us : List TokenKind) (l i : ℕ) (v : List Item) (j : ℕ) (b : Option FieldTree) (k : ℕ)
    → OnePart p us l i (Some (value v)) j → EndsValue us j → OnePart p us l i b k → EndsValue us k →
    (b ≡ Some (value v)) × (k ≡ j)
value_part (part.Mark m) us l i v j b k x ends y more = absurd x
value_part part.Name us l i v j b k x ends y more = absurd x
value_part part.Value us l i v j None k x ends y more = absurd y
value_part part.Value us l i v j (Some (name n)) k x ends y more = absurd y
value_part part.Value us l i v j (Some (value w)) k x ends y more = let e = value_single us l i v j w k x ends y more
    in (ap (λ z. Some (value z)) e.0, e.1)

part_single : (p : ApiPart) → Single (OnePart p) EndsValue
part_single p us l i None j b k x ends y more = mark_part p us l i j b k x y
part_single p us l i (Some (name n)) j b k x ends y more = name_part p us l i n j b k x y
part_single p us l i (Some (value v)) j b k x ends y more = value_part p us l i v j b k x ends y more

parts_single : (ps : List ApiPart) → Single (Parts ps) EndsValue
parts_single [] us l i fs j gs k x ends y more = (y.0 ∙ sym x.0, omega (arith, x.1, y.1))
parts_single (p ∷ ps) us l i fs j gs k x ends y more =
    let h = part_single p us l i x.0 x.3 y.0 y.3 x.4 (parts_follow ps us l x.3 x.1 j x.5 ends) y.4
    (parts_follow ps us l y.3 y.1 k y.5 more) in
    let t = parts_single ps us l x.3 x.1 j y.1 k x.5 ends (subst (λ n. Parts ps us l n y.1 k) h.1 y.5) more in
    (y.2 ∙ (ap₂ put h.0 t.0 ∙ sym x.2), t.1)

api_single : Single OneApi EndsValue
api_single us l i a j b k x ends y more =
    let w = item_one api_of us i i a.kind x.1 b.kind y.1 refl x.2 y.2 in
    let t = parts_single (api_parts a.kind) us l x.1 a.fields j b.fields k x.3 ends
    (subst (λ n. Parts (api_parts a.kind) us l n b.fields k) w.1 (subst
    (λ z. Parts (api_parts z) us l y.1 b.fields k) w.0 y.3)) more in
    let at : b.at ≡ a.at = y.0 ∙ sym x.0 in (
      ap₂ (λ z (p : ℕ × List FieldTree). record { kind = z; at = p.0; fields = p.1 }) w.0
          (ap₂ (λ m n. (m, n)) at t.0),
      t.1,
    )

apis_single : Single (Star OneApi) EndsApis
apis_single = star_single OneApi EndsValue EndsApis api_single apis_follow
    (λ us l i a j x ends. let e : None ≡ Some a.kind = sym ends.1 ∙ x.2.0 in absurd (cc))

class_single : Single OneClass Anywhere
class_single us l i c j d k x ends y more =
    let at : y.2 ≡ x.2 = omega (arith, x.1.1, x.3.1, y.1.1, y.3.1) in
    let n = item_one name_of us x.2 y.2 c.name x.5 d.name y.5 at x.6 y.6 in
    let o : y.9 ≡ x.9 = omega (arith, n.1, x.8.1, x.10.1, y.8.1, y.10.1) in
    let t = apis_single us l x.9 c.apis x.11 d.apis y.11 x.12 (brace_follows us l x.11 tt j x.13 tt)
    (subst (λ m. Star OneApi us l m d.apis y.11) o y.12) (brace_follows us l y.11 tt k y.13 tt) in
    let places : d.at ≡ c.at = omega (arith, at, x.4, y.4) in (
      ap₂ (λ m (p : ℕ × List ApiTree). record { name = m; at = p.0; apis = p.1 }) n.0
          (ap₂ (λ u v. (u, v)) places t.0),
      omega (arith, t.1, x.13.1, y.13.1),
    )

classes_single : Single (Star OneClass) EndsClasses
classes_single = star_single OneClass Anywhere EndsClasses class_single (λ us l k b j y ends. tt)
    (λ us l i a j x ends. ends x.1.0)

pub config_single : (ts : List TokenKind) (a b : ConfigurationTree) → IsWhole Config ts a → IsWhole Config ts b → b ≡ a
config_single ts c d x y =
    let l = length ts in
    let at : y.2 ≡ x.2 = omega (arith, x.1.1, x.3.1, y.1.1, y.3.1) in
    let n = item_one token_number ts x.2 y.2 c.processors x.5 d.processors y.5 at x.6 y.6 in
    let o : y.9 ≡ x.9 = omega (arith, n.1, x.8.1, x.10.1, y.8.1, y.10.1) in
    let t = classes_single ts l x.9 c.classes l d.classes l x.11 (ends_there ts)
    (subst (λ m. Star OneClass ts l m d.classes l) o y.11) (ends_there ts) in
    let places : d.at ≡ c.at = omega (arith, at, x.4, y.4) in
    ap₂ (λ m (p : ℕ × List ClassTree). record { processors = m; at = p.0; classes = p.1 }) n.0
    (ap₂ (λ u v. (u, v)) places t.0)
