-- Packed tokens.
use Rattle.std.proofs.Common.{◌≡◌, ℕ, zero, suc, ◌+◌, ◌<◌, ◌≤◌, List, [], ◌∷◌, ◌++◌, length, length-append, map}
use Rattle.std.proofs.Common.{replicate, slice_get, get_or, Some, None, option_map, inl, inr, refl, sym, ap, ◌∙◌, arith}
use Rattle.std.specs.List.{All}
use Rattle.std.proofs.lemmas.List.{map-append, length-map, length-replicate}
use Rattle.std.proofs.lemmas.List.Elements.{All-append}
use Rattle.std.proofs.lemmas.Bool.{cases_lt}
use Rattle.std.proofs.lemmas.Option.{slice_get-map, slice_get-get_or, slice_get_past}
use Rattle.fmp_lex.specs.declared.packed.Packed.{Packed}
use Rattle.fmp_lex.specs.declared.packed.TokenShape.{TokenShape}
use Rattle.fmp_lex.specs.declared.position.TokenPosition.{TokenPosition}
use Rattle.fmp_lex.specs.declared.token.LexFault.TheVariants.{Syntax}
use Rattle.fmp_lex.specs.declared.token.Token.{Token}
use Rattle.fmp_lex.specs.declared.token.TokenKind.TheVariants.{Bad}
use Rattle.fmp_lex.specs.Cutting.{Piece, IsPiece, line_at}
use Rattle.fmp_lex.specs.Packing.{IsPacked, Stands, absent, end_after, kind_in, whole_in}
use Rattle.fmp_lex.specs.Positions.{position_of}
use Rattle.fmp_lex.specs.Reading.{kind_of, kinds_of}

-- the kind of a token is that of its shape
pub packed_kind : (text : List ℕ) (ps : List Packed) (k : ℕ) (d p : Packed) → k < length ps → p ≡ get_or ps k d →
    Some (kind_in text p.shape) ≡ slice_get (kinds_of (map (whole_in text) ps)) k
packed_kind text ps k d p lt is =
    rw (
      slice_get-map kind_of (map (whole_in text) ps) k,
      slice_get-map
          (whole_in text) ps k,
      slice_get-get_or ps k d lt,
      ← is,
    ) refl

-- a token more
pub one_packed : (text : List ℕ) (before after : List Packed) (p : Packed) (t : Token) → after ≡ before ++ p ∷ [] →
    whole_in text p ≡ t → map (whole_in text) after ≡ map (whole_in text) before ++ t ∷ []
one_packed text before after p t pushed is = rw (pushed, map-append, is) refl

-- it is one longer
pub one_longer : (before after : List Packed) (p : Packed) → after ≡ before ++ p ∷ [] → length after ≡ length before + 1
one_longer before after p pushed = ap length pushed ∙ length-append before (p ∷ [])

all_one : {X : Type 0} (P : X → Type 0) (x : X) → P x → All P (x ∷ [])
all_one P x one zero d lt = one
all_one P x one (suc k) d lt = absurd (omega arith)

pub all_packed : (text : List ℕ) (before after : List Packed) (p : Packed) → after ≡ before ++ p ∷ []
    → All (IsPacked text) before →
    IsPacked text p → All (IsPacked text) after
all_packed text before after p pushed all one = rw pushed (All-append (IsPacked text) before (p ∷ []) all
    (all_one (IsPacked text) p one))

-- the token of a shape and two places
pub packed_whole : (text : List ℕ) (p : Packed) (s : TokenShape) (i j : ℕ) → p.shape ≡ s → p.start ≡ i →
    p.end.value ≡ j → whole_in text p ≡ record { kind = kind_in text s; line = line_at text i; start = i; end = j }
packed_whole text p s i j a b c = rw (a, b, c) refl

-- it is packed where it is a piece of the text
pub is_packed : (text : List ℕ) (p : Packed) (s : TokenShape) (i : ℕ) (q : Piece) → p.shape ≡ s → p.start ≡ i
    → p.end.value ≡ end_after i q →
    Stands text s → i < length text → IsPiece text i q → IsPacked text p
is_packed text p s i q a b c stands lt is =
    (rw a stands, rw b lt, (q, rw b is, rw b c))

-- a token of a list
pub one_of_all : (text : List ℕ) (ps : List Packed) (k : ℕ) (d p : Packed) → All (IsPacked text) ps → k < length ps
    → p ≡ get_or ps k d →
    IsPacked text p
one_of_all text ps k d p all lt is = rw is (all k d lt)

position_is : (place : TokenPosition) (line start end : ℕ) → place.line ≡ line → place.start ≡ start → place.end ≡ end →
    place ≡ record { line = line; start = start; end = end }
position_is place line start end a b c = rw (← a, ← b, ← c) refl

-- where it stands
pub packed_position : (text : List ℕ) (ps : List Packed) (k : ℕ) (d p : Packed) (place : TokenPosition)
    → k < length ps → p ≡ get_or ps k d →
    IsPacked text p → place.line ≡ line_at text p.start → place.start ≡ p.start →
    ((q : Piece) → IsPiece text p.start q → place.end ≡ end_after p.start q) → Some place
    ≡ option_map position_of (slice_get (map (whole_in text) ps) k)
packed_position text ps k d p place lt is packed line start end =
    let q = packed.2 in
    let same = position_is place (line_at text p.start) p.start p.end.value line start (end q.0 q.1 ∙ sym q.2) in
    rw (slice_get-map (whole_in text) ps k, slice_get-get_or ps k d lt, ← is, same) refl

-- a list behind n times x
pub at_absent : {X : Type 0} (n k : ℕ) (x : X) (xs : List X) → k < n → slice_get (replicate n x ++ xs) k ≡ Some x
at_absent zero k x xs lt = absurd (omega arith)
at_absent (suc n) zero x xs lt = refl
at_absent (suc n) (suc k) x xs lt = at_absent n k x xs (omega arith)

pub at_held : {X : Type 0} (n k at : ℕ) (x : X) (xs : List X) → n + k ≡ at →
    slice_get (replicate n x ++ xs) at ≡ slice_get xs k
at_held zero k at x xs e = let same : at ≡ k = omega arith in rw same refl
at_held (suc n) k zero x xs e = absurd (omega arith)
at_held (suc n) k (suc at) x xs e = at_held n k at x xs (omega arith)

pub behind_length : {X : Type 0} (n : ℕ) (x : X) (xs : List X) → length (replicate n x ++ xs) ≡ n + length xs
behind_length n x xs = rw (length-append (replicate n x) xs, length-replicate n x) refl

pub at_past : {X : Type 0} (n at : ℕ) (x : X) (xs : List X) → n + length xs ≤ at →
    slice_get (replicate n x ++ xs) at ≡ None
at_past n at x xs le = slice_get_past (replicate n x ++ xs) at (omega (arith, behind_length n x xs))

-- the list of tokens of which the first are not held
abbrev pub part_in : List ℕ → ℕ → List Packed → List Token
part_in text first ps = replicate first absent ++ map (whole_in text) ps

pub part_length : (text : List ℕ) (first : ℕ) (ps : List Packed) →
    length (part_in text first ps) ≡ first + length ps
part_length text first ps =
    behind_length first absent (map (whole_in text) ps) ∙ ap (λ n. first + n) (length-map ps (whole_in text))

pub part_absent : (text : List ℕ) (first : ℕ) (ps : List Packed) (at : ℕ) → at < first →
    slice_get (part_in text first ps) at ≡ Some absent
part_absent text first ps at lt = at_absent first at absent (map (whole_in text) ps) lt

pub part_held : (text : List ℕ) (first : ℕ) (ps : List Packed) (at k : ℕ) → first + k ≡ at →
    slice_get (part_in text first ps) at ≡ slice_get (map (whole_in text) ps) k
part_held text first ps at k e = at_held first k at absent (map (whole_in text) ps) e

pub part_past : (text : List ℕ) (first : ℕ) (ps : List Packed) (at : ℕ) → first + length ps ≤ at →
    slice_get (part_in text first ps) at ≡ None
part_past text first ps at le =
    slice_get_past (part_in text first ps) at (omega (arith, part_length text first ps))

-- where a token stands behind those that are not held
pub is_held : (first at k size : ℕ) → (first ≤ at → first + k ≡ at) → (at < first → 1048576 < k) → k < size →
    size ≤ 1048576 → first + k ≡ at
is_held first at k size held far lt le = elim (cases_lt at first) [
  | inl before ↦ let much = far before in absurd (omega arith)
  | inr behind ↦ held behind
]

-- what is read of a token of the list
pub part_kind : (text : List ℕ) (first : ℕ) (ps : List Packed) (at k : ℕ) (d p : Packed) → first + k ≡ at →
    k < length ps → p ≡ get_or ps k d → Some (kind_in text p.shape) ≡ slice_get (kinds_of (part_in text first ps)) at
part_kind text first ps at k d p e lt is =
    rw (
      slice_get-map kind_of (part_in text first ps) at,
      part_held text first ps at k e,
      slice_get-map (whole_in text) ps k,
      slice_get-get_or ps k d lt,
      ← is,
    ) refl

pub part_kind_absent : (text : List ℕ) (first : ℕ) (ps : List Packed) (at : ℕ) → at < first →
    Some (Bad Syntax) ≡ slice_get (kinds_of (part_in text first ps)) at
part_kind_absent text first ps at lt =
    rw (slice_get-map kind_of (part_in text first ps) at, part_absent text first ps at lt) refl

pub part_kind_past : (text : List ℕ) (first : ℕ) (ps : List Packed) (at : ℕ) → first + length ps ≤ at →
    None ≡ slice_get (kinds_of (part_in text first ps)) at
part_kind_past text first ps at le =
    rw (slice_get-map kind_of (part_in text first ps) at, part_past text first ps at le) refl

pub part_start : (text : List ℕ) (first : ℕ) (ps : List Packed) (at k : ℕ) (d p : Packed) → first + k ≡ at →
    k < length ps → p ≡ get_or ps k d →
    Some p.start ≡ option_map (λ (t : Token). t.start) (slice_get (part_in text first ps) at)
part_start text first ps at k d p e lt is =
    rw (part_held text first ps at k e, slice_get-map (whole_in text) ps k, slice_get-get_or ps k d lt, ← is) refl
