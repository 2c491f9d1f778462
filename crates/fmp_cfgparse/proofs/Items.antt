-- Items, values and the parts of a static API.
use Rattle.std.proofs.Common.{◌≡◌, ℕ, ℤ, pos, ◌+◌, ◌<◌, ◌≤◌, List, [], ◌∷◌, length, slice_get, Option, Some, None}
use Rattle.std.proofs.Common.{option_and_then, refl, sym, ap, ◌∙◌, arith}
use Rattle.fmp_base.specs.Names.{name_from}
use Rattle.fmp_lex.specs.declared.token.Symbol.TheVariants as symbol
use Rattle.fmp_lex.specs.declared.token.TokenKind.{TokenKind}
use Rattle.fmp_lex.specs.declared.token.TokenKind.TheVariants as kind
use Rattle.fmp_lex.specs.declared.reading.GrammarFault.{GrammarFault}
use Rattle.fmp_lex.specs.declared.reading.GrammarFault.TheVariants.{Syntax}
use Rattle.fmp_lex.specs.Reading.{Rel, At, Seq, OneToken, IsToken, IsItem, ParseResult, found, stopped, place}
use Rattle.fmp_lex.specs.Reading.{map_result, Right, Anywhere, Star}
use Rattle.fmp_lex.specs.Reading as reading
use Rattle.fmp_lex.proofs.Sequences.{Framed, Fills, Between, token_found, seq_framed, seq_fills, seq_then, seq_stop}
use Rattle.fmp_lex.proofs.Sequences.{right_as, item_framed, item_fills, item_found, item_missing}
use Rattle.fmp_cfgparse.specs.declared.tree.Item.{Item}
use Rattle.fmp_cfgparse.specs.declared.tree.Item.TheVariants as item
use Rattle.fmp_cfgparse.specs.Grammar.{token_number, name_of, plain_item_of, OneItem, MoreItem, OneValue}
use Rattle.fmp_cfgparse.specs.Reading.{EndsValue, RightItem, RightNumber, RightValue}
use Rattle.fmp_lex.proofs.Repetitions.{Behind, behind_framed, behind_then, star_framed, star_fills, star_none}
use Rattle.fmp_lex.proofs.Repetitions.{star_more, star_stop}

abbrev pub bar : TokenKind
bar = kind.Symbol symbol.Or

abbrev pub minus : TokenKind
minus = kind.Symbol symbol.Minus

no_minus_of : (t : TokenKind) (n : ℤ) → plain_item_of t ≡ Some (item.Minus n) → ⊥
no_minus_of (kind.Number m) n e = absurd (cc)
no_minus_of (kind.Name m) n e = absurd (cc)
no_minus_of (kind.Constant m) n e = absurd (cc)
no_minus_of (kind.Api m) n e = absurd (cc)
no_minus_of (kind.Service m) n e = absurd (cc)
no_minus_of (kind.Keyword m) n e = absurd (cc)
no_minus_of (kind.Symbol m) n e = absurd (cc)
no_minus_of (kind.Bad m) n e = absurd (cc)

no_minus : (o : Option TokenKind) (n : ℤ) → option_and_then plain_item_of o ≡ Some (item.Minus n) → ⊥
no_minus (Some t) n e = no_minus_of t n e
no_minus None n e = absurd (cc)

-- an item of one token is no number behind a minus sign, and begins with none
one_token : (us : List TokenKind) (limit i : ℕ) (a : Item) (j : ℕ) → IsItem plain_item_of us i a j
    → OneItem us limit i a j
one_token us limit i (item.Number n) j x = x
one_token us limit i (item.Constant c) j x = x
one_token us limit i (item.Name n) j x = x
one_token us limit i (item.Minus n) j x = absurd (no_minus (slice_get us i) n x.0)

pub item_up : (us : List TokenKind) (limit i : ℕ) (a : Item) (j : ℕ) → OneItem us limit i a j → i ≤ j
item_up us limit i (item.Number n) j x = omega (arith, x.1)
item_up us limit i (item.Constant n) j x = omega (arith, x.1)
item_up us limit i (item.Name n) j x = omega (arith, x.1)
item_up us limit i (item.Minus n) j x = omega (arith, x.1.1, x.2.1)

item_same : (ts us : List TokenKind) (limit lower i : ℕ) (a : Item) (j : ℕ) → lower ≤ limit → OneItem ts limit i a j
    → Between i j ts us → OneItem us lower i a j
item_same ts us limit lower i (item.Number n) j low x same = (item_framed plain_item_of).same ts us limit lower i
    (item.Number n) j low x same
item_same ts us limit lower i (item.Constant n) j low x same = (item_framed plain_item_of).same ts us limit lower i
    (item.Constant n) j low x same
item_same ts us limit lower i (item.Name n) j low x same = (item_framed plain_item_of).same ts us limit lower i
    (item.Name n) j low x same
item_same ts us limit lower i (item.Minus n) j low x same =
    (behind_framed minus (reading.Item token_number) (item_framed token_number)).same ts us limit lower i n j low x same

pub one_item_framed : Framed OneItem
one_item_framed = record { up = item_up; same = item_same }

pub number_fills : Fills (reading.Item token_number)
number_fills = item_fills token_number (kind.Number (pos 0)) (pos 0) refl

pub name_fills : Fills (reading.Item name_of)
name_fills = item_fills name_of (kind.Name (name_from [])) (name_from []) refl

plain_fills : Fills (reading.Item plain_item_of)
plain_fills = item_fills plain_item_of (kind.Number (pos 0)) (item.Number (pos 0)) refl

pub one_item_fills : Fills OneItem
one_item_fills us limit low = let x = plain_fills us limit low in
    record {
      other = x.other;
      same = x.same;
      long = x.long;
      tree = x.tree;
      reads = one_token x.other limit (length
          us) x.tree (length x.other) x.reads;
    }

-- a number behind a minus sign
pub minus_back : (us : List TokenKind) (limit i : ℕ) (e : Item) (j : ℕ) → slice_get us i ≡ Some minus
    → OneItem us limit i e j →
    (n : ℤ) × (e ≡ item.Minus n) × Behind minus (reading.Item token_number) us limit i n j
minus_back us limit i (item.Minus n) j is x = (n, refl, x)
minus_back us limit i (item.Number n) j is x = let e : None ≡ Some (item.Number n) = ap
    (option_and_then plain_item_of) (sym is) ∙ x.0 in absurd (cc)
minus_back us limit i (item.Constant n) j is x = let e : None
    ≡ Some (item.Constant n) = ap (option_and_then plain_item_of) (sym is) ∙ x.0 in absurd (cc)
minus_back us limit i (item.Name n) j is x = let e : None ≡ Some (item.Name n) = ap (option_and_then plain_item_of)
    (sym is) ∙ x.0 in absurd (cc)

minus_as : (ts : List TokenKind) (i : ℕ) → slice_get ts i ≡ Some minus → (o : ParseResult ℤ) →
    Right (At (Behind minus (reading.Item token_number)) i) Anywhere ts i o
    → RightItem ts i (map_result (λ (n : ℤ). item.Minus n) o)
minus_as ts i is o x = right_as (Behind minus (reading.Item token_number)) OneItem (λ n. item.Minus n)
    (λ us limit n j r. r)
    (λ us limit e j at r ends. let b = minus_back us limit i e j (at ∙ is) r in (b.0, b.1, b.2, tt)) o x

pub minus_found : (ts : List TokenKind) (i : ℕ) → slice_get ts i ≡ Some minus → (n : ℤ) (j : ℕ)
    → RightNumber ts (i + 1) (found n j) → RightItem ts i (found (item.Minus n) j)
minus_found ts i is n j x = minus_as ts i is (found n j) (behind_then minus (reading.Item token_number)
    (token_found minus ts i is) (found n j) x)

pub minus_stopped : (ts : List TokenKind) (i : ℕ) → slice_get ts i ≡ Some minus → (j : ℕ) (why : GrammarFault)
    → RightNumber ts (i + 1) (stopped j why) → RightItem ts i (stopped j why)
minus_stopped ts i is j why x = minus_as ts i is (stopped j why) (behind_then minus (reading.Item token_number)
    (token_found minus ts i is) (stopped j why) x)

-- an item of one token
pub plain_back : (us : List TokenKind) (limit i : ℕ) (e : Item) (j : ℕ) → (slice_get us i ≡ Some minus → ⊥)
    → OneItem us limit i e j → IsItem plain_item_of us i e j
plain_back us limit i (item.Minus n) j is_not x = absurd (is_not x.1.0)
plain_back us limit i (item.Number n) j is_not x = x
plain_back us limit i (item.Constant n) j is_not x = x
plain_back us limit i (item.Name n) j is_not x = x

plain_as : (ts : List TokenKind) (i : ℕ) → (slice_get ts i ≡ Some minus → ⊥) → (o : ParseResult Item)
    → Right (At (reading.Item plain_item_of) i) Anywhere ts i o →
    RightItem ts i (map_result (λ (a : Item). a) o)
plain_as ts i is_not o x = right_as (reading.Item plain_item_of) OneItem (λ a. a)
    (λ us limit a j r. one_token us limit i a j r)
    (λ us limit e j at r ends. (e, refl, plain_back us limit i e j (λ is. is_not (sym at ∙ is)) r, tt)) o x

pub plain_found : (ts : List TokenKind) (i : ℕ) → (slice_get ts i ≡ Some minus → ⊥) → (a : Item) → i < length ts
    → option_and_then plain_item_of (slice_get ts i) ≡ Some a →
    RightItem ts i (found a (i + 1))
plain_found ts i is_not a lt is = plain_as ts i is_not (found a (i + 1)) (item_found plain_item_of ts i a lt is)

pub plain_missing : (ts : List TokenKind) (i : ℕ) → (slice_get ts i ≡ Some minus → ⊥) → None
    ≡ option_and_then plain_item_of (slice_get ts i) → i ≤ length ts →
    RightItem ts i (stopped i Syntax)
plain_missing ts i is_not none within =
    plain_as ts i is_not (stopped i Syntax) (item_missing plain_item_of ts i plain_fills
    (λ a is. let e : None ≡ Some a = none ∙ is in absurd (cc)) within)

-- what stands behind an item in a value
pub more_item_framed : Framed MoreItem
more_item_framed = behind_framed bar OneItem one_item_framed

-- an item, and then the others of a value
value_back : (us : List TokenKind) (limit i : ℕ) (e : List Item) (j : ℕ) → OneValue us limit i e j
    → (p : Item × List Item) × (e ≡ p.0 ∷ p.1) × Seq OneItem (Star MoreItem) us limit i p j
value_back us limit i [] j x = absurd x
value_back us limit i (a ∷ more) j x = ((a, more), refl, x)

value_as : (ts : List TokenKind) (i : ℕ) (o : ParseResult (Item × List Item))
    → Right (At (Seq OneItem (Star MoreItem)) i) EndsValue ts i o →
    RightValue ts i (map_result (λ (p : Item × List Item). p.0 ∷ p.1) o)
value_as ts i o x = right_as (Seq OneItem (Star MoreItem)) OneValue (λ p. p.0 ∷ p.1) (λ us limit p j r. r)
    (λ us limit e j at r ends. let b = value_back us limit i e j r in (b.0, b.1, b.2, ends)) o x

pub value_then : (ts : List TokenKind) (i k : ℕ) (a : Item) → RightItem ts i (found a k)
    → (o : ParseResult (List Item)) → Right (At (Star MoreItem) k) EndsValue ts k o →
    RightValue ts i (map_result (λ (more : List Item). a ∷ more) o)
value_then ts i k a x (found more j) rest =
    value_as ts i (found (a, more) j) (seq_then OneItem (Star MoreItem) one_item_framed
    (λ us limit n b m y ends. tt) x (found more j) rest)
value_then ts i k a x (stopped j why) rest =
    value_as ts i (stopped j why) (seq_then OneItem (Star MoreItem) one_item_framed (λ us limit n b m y ends. tt) x
    (stopped j why) rest)

pub value_stop : (ts : List TokenKind) (i j : ℕ) (why : GrammarFault) → RightItem ts i (stopped j why)
    → RightValue ts i (stopped j why)
value_stop ts i j why x = value_as ts i (stopped j why) (seq_stop OneItem (Star MoreItem) one_item_framed
    (star_fills MoreItem) (λ us limit n b m y ends. tt) x)

module _ (ts : List TokenKind) (i : ℕ) where
  goes_on : slice_get ts i ≡ Some bar → (us : List TokenKind) → slice_get us i ≡ slice_get ts i → EndsValue us i → ⊥
  goes_on is us at ends = ends (at ∙ is)

  pub more_items : slice_get ts i ≡ Some (kind.Symbol symbol.Or) → (a : Item) (k : ℕ)
      → RightItem ts (i + 1) (found a k) → (o : ParseResult (List Item)) →
      Right (At (Star MoreItem) k) EndsValue ts k o → Right (At (Star MoreItem) i) EndsValue ts i
      (map_result (λ (more : List Item). a ∷ more) o)
  more_items is a k x o rest = star_more MoreItem Anywhere EndsValue ts i more_item_framed
      (λ us limit n b m y ends. tt) (goes_on is) a k
      (behind_then bar OneItem (token_found bar ts i is) (found a k) x) o rest

  pub more_items_stop : slice_get ts i ≡ Some (kind.Symbol symbol.Or) → (j : ℕ) (why : GrammarFault)
      → RightItem ts (i + 1) (stopped j why) →
      Right (At (Star MoreItem) i) EndsValue ts i (stopped j why)
  more_items_stop is j why x = star_stop MoreItem Anywhere EndsValue ts i more_item_framed
      (λ us limit n b m y ends. tt) (goes_on is) j why
      (behind_then bar OneItem (token_found bar ts i is) (stopped j why) x)

  pub no_more_items : (slice_get ts i ≡ Some (kind.Symbol symbol.Or) → ⊥) → i ≤ length ts
      → Right (At (Star MoreItem) i) EndsValue ts i (found [] i)
  no_more_items is_not within = star_none MoreItem ts i (λ us limit a k at x. is_not (sym at ∙ x.1.0)) within

value_up : (us : List TokenKind) (limit i : ℕ) (e : List Item) (j : ℕ) → OneValue us limit i e j → i ≤ j
value_up us limit i [] j x = absurd x
value_up us limit i (a ∷ more) j x = (seq_framed OneItem (Star MoreItem) one_item_framed
    (star_framed MoreItem more_item_framed)).up us limit i (a, more) j x

value_same : (ts us : List TokenKind) (limit lower i : ℕ) (e : List Item) (j : ℕ) → lower ≤ limit
    → OneValue ts limit i e j → Between i j ts us → OneValue us lower i e j
value_same ts us limit lower i [] j low x same = absurd x
value_same ts us limit lower i (a ∷ more) j low x same =
    (seq_framed OneItem (Star MoreItem) one_item_framed (star_framed MoreItem more_item_framed)).same ts us limit
    lower i (a, more) j low x same

pub value_framed : Framed OneValue
value_framed = record { up = value_up; same = value_same }

pub value_fills : Fills OneValue
value_fills us limit low = let x = seq_fills OneItem (Star MoreItem) one_item_framed one_item_fills
    (star_fills MoreItem) us limit low in
    record { other = x.other; same = x.same; long = x.long; tree = x.tree.0 ∷ x.tree.1; reads = x.reads }
