-- The tokens of a text stand in order, and where the word at a byte is among them.
use Rattle.std.proofs.Common.{◌≡◌, inl, inr, ℕ, zero, suc, ◌+◌, ◌<◌, ◌≤◌, List, [], ◌∷◌, Option, Some, None}
use Rattle.std.proofs.Common.{slice_get, length, arith, ap, sym, refl, ◌∙◌}
use Rattle.std.proofs.lemmas.Bool.{cases_lt}
use Rattle.fmp_diagnosis.specs.Culprits.{HasTokens}
use Rattle.fmp_lex.specs.declared.token.Token.{Token}
use Rattle.fmp_lex.specs.Cutting.{Cuts, Skip, Whole, ended, skipped, token, faulty, line_at}
use Rattle.fmp_lex.proofs.Existence.{goes_on}
use Rattle.fmp_server.specs.Roles.{AreBegunAt, AreInOrder, IsBegunAt, IsWordAt}

some_same : {A : Type 0} (a b : A) → Some a ≡ Some b → a ≡ b
some_same a b e = cc e

-- tokens that are cut from a byte on begin there or after it
begins_after : (text : List ℕ) (i : ℕ) (ts : List Token) → Cuts text i ts → (k : ℕ) (t : Token)
    → slice_get ts k ≡ Some t → i ≤ t.start
begins_after text i ts (ended _ le) k t e = absurd (cc e)
begins_after text i ts (skipped _ j us lt p rest) k t e =
    let on : i < j = goes_on text i (Skip j) lt p in
    let from : j ≤ t.start = begins_after text j us rest k t e in
    omega arith
begins_after text i ts (token _ j kind us lt p rest) zero t e =
    let same = some_same (record { kind = kind; line = line_at text i; start = i; end = j }) t e in
    let start : i ≡ t.start = ap (λ (x : Token). x.start) same in
    omega arith
begins_after text i ts (token _ j kind us lt p rest) (suc k) t e =
    let on : i < j = goes_on text i (Whole kind j) lt p in
    let from : j ≤ t.start = begins_after text j us rest k t e in
    omega arith
begins_after text i ts (faulty _ f lt p) zero t e =
    let start : Some i ≡ Some t.start = ap (λ o. starts o) e in
    let same = some_same i t.start start in
    omega arith
  where
    starts : Option Token → Option ℕ
    starts None = None
    starts (Some x) = Some x.start
begins_after text i ts (faulty _ f lt p) (suc k) t e = absurd (cc e)

follow : (text : List ℕ) (i : ℕ) (ts : List Token) → Cuts text i ts → (k m : ℕ) (s t : Token) → k < m
    → slice_get ts k ≡ Some s → slice_get ts m ≡ Some t → (s.start < s.end) × (s.end ≤ t.start)
follow text i ts (ended _ le) k m s t lt e f = absurd (cc e)
follow text i ts (skipped _ j us h p rest) k m s t lt e f = follow text j us rest k m s t lt e f
follow text i ts (token _ j kind us h p rest) k zero s t lt e f = absurd (omega arith)
follow text i ts (token _ j kind us h p rest) zero (suc m) s t lt e f =
    let same = some_same (record { kind = kind; line = line_at text i; start = i; end = j }) s e in
    let start : i ≡ s.start = ap (λ (x : Token). x.start) same in
    let end : j ≡ s.end = ap (λ (x : Token). x.end) same in
    let on : i < j = goes_on text i (Whole kind j) h p in
    let from : j ≤ t.start = begins_after text j us rest m t f in
    (omega arith, omega arith)
follow text i ts (token _ j kind us h p rest) (suc k) (suc m) s t lt e f =
    follow text j us rest k m s t (omega arith) e f
follow text i ts (faulty _ g h p) k zero s t lt e f = absurd (omega arith)
follow text i ts (faulty _ g h p) k (suc m) s t lt e f = absurd (cc f)

pub in_order : (text : List ℕ) (ts : List Token) → HasTokens text ts → AreInOrder ts
in_order text ts cut = record { each = follow _ 0 ts cut }

-- later tokens begin later
begin_later : (ts : List Token) → AreInOrder ts → (i j : ℕ) (s t : Token) → i ≤ j → slice_get ts i ≡ Some s
    → slice_get ts j ≡ Some t → s.start ≤ t.start
begin_later ts o i j s t le e f = elim (cases_lt i j) [
  | inl lt ↦
      let r = o.each i j s t lt e f in
      let a : s.start < s.end = r.0 in
      let b : s.end ≤ t.start = r.1 in
      omega arith
  | inr past ↦
      let same : i ≡ j = omega arith in
      let token = some_same s t (sym e ∙ ap (λ n. slice_get ts n) same ∙ f) in
      let start : s.start ≡ t.start = ap (λ (x : Token). x.start) token in
      omega arith
]

-- one step of the search: the token in the middle is begun, and so are those before it
pub begun_more : (ts : List Token) (offset middle : ℕ) → AreInOrder ts → IsBegunAt ts offset middle
    → (k : ℕ) (t : Token) → k < middle + 1 → slice_get ts k ≡ Some t → t.start ≤ offset
begun_more ts offset middle o (m, e, le) k t lt f =
    let later : t.start ≤ m.start = begin_later ts o k middle t m (omega arith) f e in
    omega arith

some_token : (ts : List Token) (i : ℕ) → i < length ts → (t : Token) × (slice_get ts i ≡ Some t)
some_token [] i h = absurd (omega (arith, h))
some_token (t ∷ ts) zero h = (t, refl)
some_token (t ∷ ts) (suc i) h = some_token ts i (omega arith)

-- or it is not, and neither are those after it
pub others_more : (ts : List Token) (offset middle : ℕ) → AreInOrder ts → middle < length ts
    → (IsBegunAt ts offset middle → ⊥)
    → (k : ℕ) (t : Token) → middle ≤ k → slice_get ts k ≡ Some t → offset < t.start
others_more ts offset middle o within not k t le f =
    let m = some_token ts middle within in
    let later : m.0.start ≤ t.start = begin_later ts o middle k m.0 t le m.1 f in
    elim (cases_lt offset m.0.start) [
      | inl lt ↦ omega arith
      | inr begun ↦ absurd (not (m.0, m.1, begun))
    ]

-- a word that has a byte, or ends before it, is one of the last two tokens that begin before the byte or at it
pub near : (ts : List Token) (offset count : ℕ) → AreInOrder ts → AreBegunAt ts offset count → (k : ℕ)
    → IsWordAt ts offset k → (k < count) × (count ≤ k + 2)
near ts offset count o b k w = (
  elim (cases_lt k count) [
    | inl lt ↦ lt
    | inr past ↦
        let after : offset < w.token.start = b.others k w.token past w.token_is in
        let before : w.token.start ≤ offset = w.begins in
        absurd (omega arith)
  ],
  elim (cases_lt (k + 2) count) [
    | inr few ↦ few
    | inl many ↦
        let within : count ≤ length ts = b.within in
        let x = some_token ts (k + 1) (omega arith) in
        let y = some_token ts (k + 2) (omega arith) in
        let first : w.token.end ≤ x.0.start = (o.each k (k + 1) w.token x.0 (omega arith) w.token_is x.1).1 in
        let second = o.each (k + 1) (k + 2) x.0 y.0 (omega arith) x.1 y.1 in
        let longer : x.0.start < x.0.end = second.0 in
        let next : x.0.end ≤ y.0.start = second.1 in
        let begun : y.0.start ≤ offset = b.begun (k + 2) y.0 many y.1 in
        let ends : offset ≤ w.token.end = w.ends in
        absurd (omega arith)
  ],
)
