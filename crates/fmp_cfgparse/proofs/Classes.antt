-- Static APIs, classes and the whole configuration.
use Rattle.std.proofs.Common.{◌≡◌, ℕ, ℤ, ◌+◌, ◌<◌, ◌≤◌, List, [], ◌∷◌, length, slice_get, Option, Some, None}
use Rattle.std.proofs.Common.{option_and_then, Err, refl, sym, ap, ap₂, subst, ◌∙◌, arith}
use Rattle.std.proofs.lemmas.Option.{slice_get_within}
use Rattle.fmp_base.specs.declared.names.Name.{Name}
use Rattle.fmp_base.specs.declared.words.Api.{Api}
use Rattle.fmp_base.specs.declared.words.Keyword.TheVariants as keyword
use Rattle.fmp_lex.specs.declared.token.Symbol.TheVariants as symbol
use Rattle.fmp_lex.specs.declared.token.TokenKind.{TokenKind}
use Rattle.fmp_lex.specs.declared.token.TokenKind.TheVariants as kind
use Rattle.fmp_lex.specs.declared.reading.GrammarFault.{GrammarFault}
use Rattle.fmp_lex.specs.declared.reading.GrammarFault.TheVariants.{Syntax}
use Rattle.fmp_lex.specs.declared.reading.ReadError.{ReadError}
use Rattle.fmp_lex.specs.declared.reading.ReadError.TheVariants.{Memory, Fault}
use Rattle.fmp_lex.specs.Reading.{Rel, At, Seq, OneToken, Same, ParseResult, found, stopped, place, map_result, Right}
use Rattle.fmp_lex.specs.Reading.{Anywhere, IsFirstFault, IsWhole, Answers, Star}
use Rattle.fmp_lex.specs.Reading as reading
use Rattle.fmp_lex.proofs.Sequences.{Framed, Fills, Follows, token_found, right_as, item_framed, between_front}
use Rattle.fmp_lex.proofs.Sequences.{between_rest}
use Rattle.fmp_lex.proofs.Wholes.{whole_found, whole_longer, whole_stopped}
use Rattle.fmp_cfgparse.specs.Trees.{FieldTree, ApiTree, ClassTree, ConfigurationTree, configuration_view}
use Rattle.fmp_cfgparse.specs.Grammar.{token_number, name_of, api_of, Parts, api_parts, OneApi, OneClass, Config}
use Rattle.fmp_cfgparse.specs.Reading.{EndsValue, EndsApis, EndsClasses, RightParts, RightApi, RightApis, RightClass}
use Rattle.fmp_cfgparse.specs.Reading.{RightClasses, RightConfig, IsVerdict}
use Rattle.fmp_cfgparse.proofs.Items.{bar}
use Rattle.fmp_cfgparse.proofs.Parts.{parts_framed}
use Rattle.fmp_lex.proofs.Repetitions.{Behind, Closed, behind_then, closed_framed, closed_fills, star_framed}
use Rattle.fmp_lex.proofs.Repetitions.{star_fills, star_none, star_more, star_stop}
use Rattle.fmp_lex.proofs.Heads.{Head, head_framed}

is_api : (o : Option TokenKind) (a : Api) → option_and_then api_of o ≡ Some a → o ≡ Some (kind.Api a)
is_api None a e = absurd (cc)
is_api (Some (kind.Api b)) a e = cc
is_api (Some (kind.Number m)) a e = absurd (cc)
is_api (Some (kind.Name m)) a e = absurd (cc)
is_api (Some (kind.Constant m)) a e = absurd (cc)
is_api (Some (kind.Service m)) a e = absurd (cc)
is_api (Some (kind.Keyword m)) a e = absurd (cc)
is_api (Some (kind.Symbol m)) a e = absurd (cc)
is_api (Some (kind.Bad m)) a e = absurd (cc)

pub api_framed : Framed OneApi
api_framed = record {
  up = λ us limit i a j x. let rest = (parts_framed (api_parts a.kind)).up us limit x.1 a.fields j x.3 in omega
      (arith, x.2.1);
  same = λ ts us limit lower i a j low x same.
      let rest = (parts_framed (api_parts a.kind)).up ts limit x.1 a.fields j x.3 in (
        x.0,
        x.1,
        (item_framed api_of).same ts us limit lower i a.kind x.1 low x.2 (between_front i x.1 j ts us rest same),
        (parts_framed (api_parts a.kind)).same ts us limit lower x.1 a.fields j low x.3
            (between_rest i x.1 j ts us (omega (arith, x.2.1)) same),
      );
}

-- the word of an API, and then its parts
module _ (ts : List TokenKind) (i : ℕ) (a : Api) (is : option_and_then api_of (slice_get ts i) ≡ Some a) where
  one_kind : (us : List TokenKind) (b : Api) → slice_get us i ≡ slice_get ts i
      → option_and_then api_of (slice_get us i) ≡ Some b → b ≡ a
  one_kind us b at e = let both : Some b ≡ Some a = sym e ∙ (ap (option_and_then api_of) at ∙ is) in cc

  api_back : (us : List TokenKind) (limit : ℕ) (e : ApiTree) (j : ℕ) → slice_get us i ≡ slice_get ts i
      → OneApi us limit i e j → EndsValue us j →
      (fs : List FieldTree) × (e ≡ record { kind = a; at = i; fields = fs })
      × Behind (kind.Api a) (Parts (api_parts a)) us limit i fs j × EndsValue us j
  api_back us limit e j at r ends =
      let k = one_kind us e.kind at r.2.0 in (
        e.fields,
        ap₂ (λ x y. record { kind = x; at = y; fields = e.fields }) k r.0,
        (
          r.1,
          (at ∙ is_api (slice_get ts i) a is, r.2.1),
          subst (λ b. Parts (api_parts b) us limit r.1 e.fields j) k
              r.3,
        ),
        ends,
      )

  api_as : (o : ParseResult (List FieldTree)) → Right (At (Behind (kind.Api a) (Parts (api_parts a))) i) EndsValue ts
      i o →
      RightApi ts i (map_result (λ (fs : List FieldTree). record { kind = a; at = i; fields = fs }) o)
  api_as o x = right_as (Behind (kind.Api a) (Parts (api_parts a))) OneApi
      (λ fs. record { kind = a; at = i; fields = fs })
      (λ us limit fs j r. (refl, r.0, (ap (option_and_then api_of) r.1.0, r.1.1), r.2))
      (λ us limit e j at r ends. api_back us limit e j at r ends) o x

  pub api_then : (o : ParseResult (List FieldTree)) → RightParts (api_parts a) ts (i + 1) o →
      RightApi ts i (map_result (λ (fs : List FieldTree). record { kind = a; at = i; fields = fs }) o)
  api_then o x = api_as o (behind_then (kind.Api a) (Parts (api_parts a))
      (token_found (kind.Api a) ts i (is_api (slice_get ts i) a is)) o x)

pub apis_follow : Follows EndsValue (Star OneApi) EndsApis
apis_follow us limit k [] j s ends = subst (EndsValue us) s ends.0
apis_follow us limit k (a ∷ more) j s ends = λ is. let e : None ≡ Some a.kind = ap (option_and_then api_of) (sym is)
    ∙ s.1.2.0 in absurd (cc)

module _ (ts : List TokenKind) (i : ℕ) where
  module _ (a : Api) (is : option_and_then api_of (slice_get ts i) ≡ Some a) where
    api_goes_on : (us : List TokenKind) → slice_get us i ≡ slice_get ts i → EndsApis us i → ⊥
    api_goes_on us at ends = let e : None ≡ Some a = sym ends.1 ∙ (ap (option_and_then api_of) at ∙ is) in absurd (cc)

    pub more_apis : (one : ApiTree) (k : ℕ) → RightApi ts i (found one k) → (o : ParseResult (List ApiTree))
        → RightApis ts k o →
        RightApis ts i (map_result (λ (more : List ApiTree). one ∷ more) o)
    more_apis one k x o rest = star_more OneApi EndsValue EndsApis ts i api_framed apis_follow api_goes_on one k x o
        rest

    pub apis_stop : (j : ℕ) (why : GrammarFault) → RightApi ts i (stopped j why) → RightApis ts i (stopped j why)
    apis_stop j why x = star_stop OneApi EndsValue EndsApis ts i api_framed apis_follow api_goes_on j why x

  pub no_more_apis : None ≡ option_and_then api_of (slice_get ts i) → i ≤ length ts → RightApis ts i (found [] i)
  no_more_apis none within = star_none OneApi ts i
      (λ us limit a k at x. let e : None ≡ Some a.kind = none
      ∙ (ap (option_and_then api_of) (sym at) ∙ x.2.0) in absurd (cc)) within

-- a class by its head
abbrev pub class_word : TokenKind
class_word = kind.Keyword keyword.Class

abbrev pub open_brace : TokenKind
open_brace = kind.Symbol symbol.LeftBrace

abbrev pub close_brace : TokenKind
close_brace = kind.Symbol symbol.RightBrace

abbrev pub Block : Rel (List ApiTree)
Block = Closed (Star OneApi) close_brace

abbrev pub ClassHead : Rel ((ℕ × Name) × List ApiTree)
ClassHead = Head class_word open_brace (reading.Item name_of) Block

abbrev pub class_of : (ℕ × Name) × List ApiTree → ClassTree
class_of p = record { name = p.0.1; at = p.0.0; apis = p.1 }

pub block_framed : Framed Block
block_framed = closed_framed (Star OneApi) close_brace (star_framed OneApi api_framed)

pub block_fills : Fills Block
block_fills = closed_fills (Star OneApi) close_brace (star_framed OneApi api_framed) (star_fills OneApi)

class_to : (us : List TokenKind) (limit i : ℕ) (p : (ℕ × Name) × List ApiTree) (j : ℕ) → ClassHead us limit i p j
    → OneClass us limit i (class_of p) j
class_to us limit i p j s = (
  s.0,
  s.1,
  s.2.0,
  s.2.1,
  s.2.2.1.0,
  s.2.2.0,
  s.2.2.1.1,
  s.2.2.2.0,
  s.2.2.2.1,
  s.2.2.2.2.0,
  s.2.2.2.2.1,
  s.2.2.2.2.2.0,
  s.2.2.2.2.2.1,
  s.2.2.2.2.2.2,
)

class_from : (us : List TokenKind) (limit i : ℕ) (e : ClassTree) (j : ℕ) → OneClass us limit i e j
    → ClassHead us limit i ((e.at, e.name), e.apis) j
class_from us limit i e j r = (r.0, r.1, (r.2, r.3, (r.5, (r.4, r.6), (r.7, r.8, (r.9, r.10, (r.11, r.12, r.13))))))

pub class_as : (ts : List TokenKind) (i : ℕ) (o : ParseResult ((ℕ × Name) × List ApiTree))
    → Right (At ClassHead i) Anywhere ts i o → RightClass ts i (map_result class_of o)
class_as ts i o x = right_as ClassHead OneClass class_of (λ us limit p j s. class_to us limit i p j s)
    (λ us limit e j at r ends. (((e.at, e.name), e.apis), refl, class_from us limit i e j r, tt)) o x

pub class_framed : Framed OneClass
class_framed = let f = head_framed class_word open_brace (reading.Item name_of) Block
    (item_framed name_of) block_framed in record {
      up = λ us limit i c j x. f.up us limit i ((c.at, c.name), c.apis) j (class_from us limit i c j x);
      same = λ ts us limit lower i c j low x same.
          class_to us lower i ((c.at, c.name), c.apis) j (f.same ts us limit lower i ((c.at, c.name), c.apis) j low
          (class_from ts limit i c j x) same);
    }

-- what follows the APIs of a class is no API
pub brace_follows : Follows EndsApis (OneToken close_brace) Anywhere
brace_follows us limit k b j x ends = (
  (λ is. let e : Some close_brace ≡ Some bar = sym x.0 ∙ is in absurd (cc)),
  ap
      (option_and_then api_of) x.0,
)

module _ (ts : List TokenKind) (i : ℕ) where
  module _ (is : slice_get ts i ≡ Some class_word) where
    class_goes_on : (us : List TokenKind) → slice_get us i ≡ slice_get ts i → EndsClasses us i → ⊥
    class_goes_on us at ends = ends (at ∙ is)

    pub more_classes : (one : ClassTree) (k : ℕ) → RightClass ts i (found one k) → (o : ParseResult (List ClassTree))
        → RightClasses ts k o →
        RightClasses ts i (map_result (λ (more : List ClassTree). one ∷ more) o)
    more_classes one k x o rest = star_more OneClass Anywhere EndsClasses ts i class_framed
        (λ us limit n b m y ends. tt) class_goes_on one k x o rest

    pub classes_stop : (j : ℕ) (why : GrammarFault) → RightClass ts i (stopped j why)
        → RightClasses ts i (stopped j why)
    classes_stop j why x = star_stop OneClass Anywhere EndsClasses ts i class_framed
        (λ us limit n b m y ends. tt) class_goes_on j why x

  pub no_more_classes : (slice_get ts i ≡ Some class_word → ⊥) → i ≤ length ts → RightClasses ts i (found [] i)
  no_more_classes is_not within = star_none OneClass ts i (λ us limit a k at x. is_not (sym at ∙ x.1.0)) within

-- the whole configuration by its head
abbrev pub processors_word : TokenKind
processors_word = kind.Keyword keyword.NumPrc

abbrev pub semicolon : TokenKind
semicolon = kind.Symbol symbol.Semicolon

abbrev pub ConfigHead : Rel ((ℕ × ℤ) × List ClassTree)
ConfigHead = Head processors_word semicolon (reading.Item token_number) (Star OneClass)

abbrev pub config_of : (ℕ × ℤ) × List ClassTree → ConfigurationTree
config_of p = record { processors = p.0.1; at = p.0.0; classes = p.1 }

config_to : (us : List TokenKind) (limit i : ℕ) (p : (ℕ × ℤ) × List ClassTree) (j : ℕ) → ConfigHead us limit i p j
    → Config us limit i (config_of p) j
config_to us limit i p j s = (
  s.0,
  s.1,
  s.2.0,
  s.2.1,
  s.2.2.1.0,
  s.2.2.0,
  s.2.2.1.1,
  s.2.2.2.0,
  s.2.2.2.1,
  s.2.2.2.2.0,
  s.2.2.2.2.1,
  s.2.2.2.2.2,
)

config_from : (us : List TokenKind) (limit i : ℕ) (e : ConfigurationTree) (j : ℕ) → Config us limit i e j
    → ConfigHead us limit i ((e.at, e.processors), e.classes) j
config_from us limit i e j r = (r.0, r.1, (r.2, r.3, (r.5, (r.4, r.6), (r.7, r.8, (r.9, r.10, r.11)))))

pub config_as : (ts : List TokenKind) (o : ParseResult ((ℕ × ℤ) × List ClassTree))
    → Right (At ConfigHead 0) EndsClasses ts 0 o → RightConfig ts 0 (map_result config_of o)
config_as ts o x = right_as ConfigHead Config config_of (λ us limit p j s. config_to us limit 0 p j s)
    (λ us limit e j at r ends. (((e.at, e.processors), e.classes), refl, config_from us limit 0 e j r, ends)) o x

pub config_framed : Framed Config
config_framed =
    let f = head_framed processors_word semicolon (reading.Item token_number) (Star OneClass)
    (item_framed token_number) (star_framed OneClass class_framed) in record {
      up = λ us limit i c j x. f.up us limit i ((c.at, c.processors), c.classes) j (config_from us limit i c j x);
      same = λ ts us limit lower i c j low x same.
          config_to us lower i ((c.at, c.processors), c.classes) j (f.same ts us limit lower i
          ((c.at, c.processors), c.classes) j low (config_from ts limit i c j x) same);
    }

-- an API and a class take a token or more
pub api_longer : (us : List TokenKind) (limit i : ℕ) (a : ApiTree) (j : ℕ) → OneApi us limit i a j → i < j
api_longer us limit i a j x = let rest = (parts_framed (api_parts a.kind)).up us limit x.1 a.fields j x.3 in omega
    (arith, x.2.1)

pub class_longer : (us : List TokenKind) (limit i : ℕ) (c : ClassTree) (j : ℕ) → OneClass us limit i c j → i < j
class_longer us limit i c j x =
    let rest = (star_framed OneApi api_framed).up us limit x.9 c.apis x.11 x.12 in
    omega (arith, x.1.1, x.3.1, x.6.1, x.8.1, x.10.1, x.13.1)

-- what the reader of all tokens answers
abbrev pub ends_there : (us : List TokenKind) → EndsClasses us (length us)
ends_there us = λ is. let lt = slice_get_within us (length us) class_word is in absurd (omega arith)

pub verdict_stopped : (ts : List TokenKind) (e : ReadError) → Answers configuration_view (Err e) (RightConfig ts 0)
    → IsVerdict ts (Err e)
verdict_stopped ts Memory a = tt
verdict_stopped ts (Fault f) a = whole_stopped Config EndsClasses ends_there ts f.at f.why a

pub verdict_longer : (ts : List TokenKind) (t : ConfigurationTree) (j : ℕ) → j < length ts
    → RightConfig ts 0 (found t j) → IsFirstFault Config ts j Syntax
verdict_longer ts t j lt x = whole_longer Config EndsClasses ends_there config_framed ts t j lt x

pub verdict_found : (ts : List TokenKind) (t : ConfigurationTree) (j : ℕ) → length ts ≤ j
    → RightConfig ts 0 (found t j) →
    IsWhole Config ts t × ((other : ConfigurationTree) → IsWhole Config ts other → other ≡ t)
verdict_found ts t j past x = whole_found Config EndsClasses ends_there ts t j past x
