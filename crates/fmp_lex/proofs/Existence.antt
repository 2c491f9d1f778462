-- Every text has a cut.
use Rattle.std.proofs.Common.{◌≡◌, ℕ, zero, suc, pos, ◌+◌, ◌-◌, nat_le, ◌<◌, ◌≤◌, ◌⊎◌, inl, inr, ◌==◌, ◌&&◌}
use Rattle.std.proofs.Common.{if◌then◌else◌, Bool, true, false, List, [], ◌∷◌, Option, Some, None, length, slice_index}
use Rattle.std.proofs.Common.{slice_range, refl, sym, subst, arith}
use Rattle.std.proofs.lemmas.Bool.{cases_order, cases_lt}
use Rattle.std.proofs.lemmas.List.{get_or_past}
use Rattle.std.proofs.lemmas.Bool.Decides.{Decides-eqb}
use Rattle.fmp_lex.specs.declared.token.Token.{Token}
use Rattle.fmp_lex.specs.declared.token.TokenKind.{TokenKind}
use Rattle.fmp_lex.specs.declared.token.TokenKind.TheVariants as kind
use Rattle.fmp_lex.specs.declared.token.LexFault.TheVariants.{Syntax, Limit}
use Rattle.fmp_base.specs.Names.{name_from}
use Rattle.fmp_lex.specs.declared.token.Symbol.{Symbol}
use Rattle.fmp_lex.specs.declared.scanning.ByteClass.TheVariants as class
use Rattle.fmp_lex.specs.declared.cutting.PieceStart.{PieceStart}
use Rattle.fmp_lex.specs.declared.cutting.PieceStart.TheVariants as start
use Rattle.fmp_lex.specs.Cutting.{Piece}
use Rattle.fmp_lex.specs.Cutting.{Skip, Whole, Fault}
use Rattle.fmp_base.specs.Words.{is_letter, is_digit}
use Rattle.fmp_lex.specs.Scanning.{is_space, in_class, value_from, IsRun, Closes, IsFirstClose, NeverCloses, greatest}
use Rattle.fmp_lex.specs.Cutting.{long_symbol, short_symbol, is_followed, number_piece, hex_piece, word_kind}
use Rattle.fmp_lex.specs.Cutting.{word_or_name, word_piece, long_piece, symbol_piece, start_of, IsPieceOf, IsPiece}
use Rattle.fmp_lex.specs.Cutting.{Cuts, ended, skipped, token, faulty, line_at}
use Rattle.fmp_lex.specs.Laws.{HasOneCut}
use Rattle.fmp_lex.proofs.Unique.{cuts_unique, piece_unique}

-- runs end
run_step : (test : ℕ → Bool) (text : List ℕ) (i : ℕ) (b : Bool) → test (slice_index text i) ≡ b → i < length text →
    ((j : ℕ) × IsRun test text (i + 1) j) → (j : ℕ) × IsRun test text i j
run_step test text i true e lt (j, run) =
    let from : i + 1 ≤ j = run.from in
    let first : (k : ℕ) → i ≤ k → k < j → test (slice_index text k) ≡ true = λ k low high. elim (cases_order i k) [
      | inl same ↦ subst (λ n. test (slice_index text n) ≡ true) same e
      | inr o ↦ elim o [ inl above ↦ run.each k (omega arith) high | inr below ↦ absurd (omega arith) ]
    ] in
    (j, record { from = omega arith; within = run.within; each = first; longest = run.longest })
run_step test text i false e lt rest = (
  i,
  record {
    from = omega arith;
    within = omega arith;
    each = λ k low high. absurd (omega arith);
    longest = λ _. e;
  },
)

run_of : (test : ℕ → Bool) (text : List ℕ) (fuel i : ℕ) → i + fuel ≡ length text → (j : ℕ) × IsRun test text i j
run_of test text zero i e = (
  i,
  record {
    from = omega arith;
    within = omega arith;
    each = λ k low high. absurd (omega arith);
    longest = λ lt. absurd (omega arith);
  },
)
run_of test text (suc fuel) i e =
    run_step test text i (test (slice_index text i)) refl (omega arith) (run_of test text fuel (i + 1) (omega arith))

run_at : (test : ℕ → Bool) (text : List ℕ) (i : ℕ) → i ≤ length text → (j : ℕ) × IsRun test text i j
run_at test text i le = run_of test text (length text - i) i (omega arith)

-- a comment is closed or not
closes_or_not : (text : List ℕ) (i : ℕ) → Closes text i ⊎ (Closes text i → ⊥)
closes_or_not text i = elim (cases_lt (i + 1) (length text)) [
  | inl lt ↦ both (slice_index text i == 42) (slice_index text (i + 1) == 47) refl refl lt
  | inr past ↦ inr (λ c. let within = c.0 in absurd (omega arith))
]
  where
    both : (a b : Bool) → (slice_index text i == 42) ≡ a → (slice_index text (i + 1) == 47) ≡ b → i + 1 < length text
        → Closes text i ⊎ (Closes text i → ⊥)
    both true true e f lt = inl (
      lt,
      (Decides-eqb (slice_index text i) 42).0 e,
      (Decides-eqb (slice_index text (i + 1)) 47).0 f,
    )
    both true false e f lt = inr (λ c. let is = (Decides-eqb (slice_index text (i + 1)) 47).1 c.2 in cc)
    both false b e f lt = inr (λ c. let is = (Decides-eqb (slice_index text i) 42).1 c.1 in cc)

close_of : (text : List ℕ) (fuel i : ℕ) → length text ≤ i + fuel → ((j : ℕ) × IsFirstClose text i j)
    ⊎ NeverCloses text i
close_of text zero i e = inr (λ k low c. let within = c.0 in absurd (omega arith))
close_of text (suc fuel) i e = elim (closes_or_not text i) [
  | inl here ↦ inl (i, record { from = omega arith; closes = here; first = λ k low high c. absurd (omega arith) })
  | inr not ↦ elim (close_of text fuel (i + 1) (omega arith)) [
    | inl later ↦ inl (later.0, close_step text i later.0 not later.1)
    | inr never ↦ inr (λ k low c. elim (cases_order i k) [
      | inl same ↦ not (subst (λ n. Closes text n) (sym same) c)
      | inr o ↦ elim o [ inl above ↦ never k (omega arith) c | inr below ↦ absurd (omega arith) ]
    ])
  ]
]
  where
    close_step : (text : List ℕ) (i j : ℕ) → (Closes text i → ⊥) → IsFirstClose text (i + 1) j → IsFirstClose text i j
    close_step text i j not later =
        let from : i + 1 ≤ j = later.from in
        record {
          from = omega arith;
          closes = later.closes;
          first = λ k low high c. elim (cases_order i k) [
            | inl same ↦ not (subst (λ n. Closes text n) (sym same) c)
            | inr o ↦ elim o [ inl above ↦ later.first k (omega arith) high c | inr below ↦ absurd (omega arith) ]
          ];
        }

-- `0x` begins two bytes
fifth : (a b c d e f g : Bool) →
    (if a then start.Space else (if b then start.LineComment else (if c then start.BlockComment else
    (if d then start.Word
    else (if e then start.Hex else (if f then start.Zero else (if g then start.Decimal else start.Other)))))))
    ≡ start.Hex → e ≡ true
fifth true b c d e f g h = cc
fifth false true c d e f g h = cc
fifth false false true d e f g h = cc
fifth false false false true e f g h = cc
fifth false false false false true f g h = refl
fifth false false false false false true g h = cc
fifth false false false false false false true h = cc
fifth false false false false false false false h = cc

second : (a b : Bool) → (a && b) ≡ true → b ≡ true
second true b e = e
second false b e = cc

hex_inside : (text : List ℕ) (i : ℕ) → start_of (slice_index text i) (slice_index text (i + 1)) ≡ start.Hex → i
    + 2 ≤ length text
hex_inside text i e =
    let b = slice_index text i in
    let c = slice_index text (i + 1) in
    let x : (c == 120) ≡ true = second (b == 48) (c == 120)
    (fifth (is_space b) ((b == 47) && (c == 47)) ((b == 47) && (c == 42)) (is_letter b) ((b == 48) && (c == 120))
    (b == 48) (is_digit b) e) in
    elim (cases_lt (i + 1) (length text)) [
      | inl lt ↦ omega arith
      | inr past ↦
          let end : slice_index text (i + 1) ≡ 0 = get_or_past text (i + 1) 0 past in
          let is : slice_index text (i + 1) ≡ 120 = (Decides-eqb c 120).0 x in
          absurd (omega arith)
    ]

-- the piece goes on
abbrev pub GoesOn : ℕ → Piece → Type 0
GoesOn i (Skip j) = i < j
GoesOn i (Whole k j) = i < j
GoesOn i (Fault f) = Unit {0}

number_on : (text : List ℕ) (i j : ℕ) (fits : Bool) (n : ℕ) → i < j → GoesOn i (number_piece text j fits n)
number_on text i j fits n lt = by_tests (is_followed text j) (fits && nat_le n greatest)
  where
    by_tests : (a b : Bool) → GoesOn i (if a then Fault Syntax else (if b then Whole
        (kind.Number (pos n)) j else Fault Limit))
    by_tests true b = tt
    by_tests false true = lt
    by_tests false false = tt

hex_on : (text : List ℕ) (i k j : ℕ) → i < j → GoesOn i (hex_piece text k j)
hex_on text i k j lt = by_test (j == k)
  where
    by_test : (a : Bool) → GoesOn i (if a then Fault Syntax else number_piece text j (nat_le (j - k) 8)
        (value_from 16 0 (slice_range text k j)))
    by_test true = tt
    by_test false = number_on text i j (nat_le (j - k) 8) (value_from 16 0 (slice_range text k j)) lt

word_on : (bytes : List ℕ) (i j : ℕ) (word : Option TokenKind) → i < j → GoesOn i (word_or_name bytes j word)
word_on bytes i j (Some word) lt = lt
word_on bytes i j None lt = by_test (nat_le (length bytes) 31)
  where
    by_test : (a : Bool) → GoesOn i (if a then Whole (kind.Name (name_from bytes)) j else Fault Limit)
    by_test true = lt
    by_test false = tt

symbol_on : (i : ℕ) (long short : Option Symbol) → GoesOn i (long_piece i long short)
symbol_on i (Some s) short = omega arith
symbol_on i None (Some s) = omega arith
symbol_on i None None = tt

-- a piece begins at each byte
piece_of : (text : List ℕ) (i : ℕ) (s : PieceStart) → i < length text → (s ≡ start.Hex → i + 2 ≤ length text) →
    (p : Piece) × IsPieceOf text i s p × GoesOn i p
piece_of text i start.Space lt inside =
    let (j, run) = run_at (in_class class.Space) text (i + 1) (omega arith) in
    let from : i + 1 ≤ j = run.from in
    (Skip j, (j, run, refl), omega arith)
piece_of text i start.LineComment lt inside =
    let (j, run) = run_at (in_class class.SameLine) text (i + 1) (omega arith) in
    let from : i + 1 ≤ j = run.from in
    (Skip j, (j, run, refl), omega arith)
piece_of text i start.BlockComment lt inside = elim (close_of text (length text) (i + 2) (omega arith)) [
  | inl closed ↦
      let from : i + 2 ≤ closed.0 = closed.1.from in
      (Skip (closed.0 + 2), inl (closed.0, closed.1, refl), omega arith)
  | inr never ↦ (Fault Syntax, inr (never, refl), tt)
]
piece_of text i start.Word lt inside =
    let (j, run) = run_at (in_class class.Word) text (i + 1) (omega arith) in
    let from : i + 1 ≤ j = run.from in
    let bytes = slice_range text i j in
    (word_piece bytes j, (j, run, refl), word_on bytes i j (word_kind bytes) (omega arith))
piece_of text i start.Zero lt inside = (
  number_piece text (i + 1) true 0,
  refl,
  number_on text i (i + 1) true 0
      (omega arith),
)
piece_of text i start.Hex lt inside =
    let (j, run) = run_at (in_class class.Hex) text (i + 2) (inside refl) in
    let from : i + 2 ≤ j = run.from in
    (hex_piece text (i + 2) j, (j, run, refl), hex_on text i (i + 2) j (omega arith))
piece_of text i start.Decimal lt inside =
    let (j, run) = run_at (in_class class.Digit) text (i + 1) (omega arith) in
    let from : i + 1 ≤ j = run.from in
    let n = value_from 10 0 (slice_range text i j) in
    (number_piece text j true n, (j, run, refl), number_on text i j true n (omega arith))
piece_of text i start.Other lt inside =
    let b = slice_index text i in
    let c = slice_index text (i + 1) in
    (symbol_piece i b c, refl, symbol_on i (long_symbol b c) (short_symbol b))

piece_at : (text : List ℕ) (i : ℕ) → i < length text → (p : Piece) × IsPiece text i p × GoesOn i p
piece_at text i lt = piece_of text i (start_of (slice_index text i) (slice_index text (i + 1))) lt (hex_inside text i)

-- each piece goes on, since there is one at each byte
pub goes_on : (text : List ℕ) (i : ℕ) (p : Piece) → i < length text → IsPiece text i p → GoesOn i p
goes_on text i p lt is =
    let (q, found, on) = piece_at text i lt in
    subst (GoesOn i) (piece_unique text i q p found is) on

-- the rest is cut behind the piece
cut_behind : (text : List ℕ) (i : ℕ) (p : Piece) → i < length text → IsPiece text i p → GoesOn i p →
    ((j : ℕ) → i < j → (ts : List Token) × Cuts text j ts) → (ts : List Token) × Cuts text i ts
cut_behind text i (Skip j) lt is on rest = let (ts, cut) = rest j on in (ts, skipped i j ts lt is cut)
cut_behind text i (Whole k j) lt is on rest =
    let (ts, cut) = rest j on in
    (record { kind = k; line = line_at text i; start = i; end = j } ∷ ts, token i j k ts lt is cut)
cut_behind text i (Fault f) lt is on rest =
    (record { kind = kind.Bad f; line = line_at text i; start = i; end = i } ∷ [], faulty i f lt is)

cut_from : (text : List ℕ) (fuel i : ℕ) → length text ≤ i + fuel → (ts : List Token) × Cuts text i ts
cut_from text zero i e = ([], ended i (omega arith))
cut_from text (suc fuel) i e = elim (cases_lt i (length text)) [
  | inl lt ↦
      let (p, is, on) = piece_at text i lt in
      cut_behind text i p lt is on (λ j above. cut_from text fuel j (omega arith))
  | inr past ↦ ([], ended i past)
]

pub one_cut : (text : List ℕ) → HasOneCut text
one_cut text = let (ts, cut) = cut_from text (length text) 0 (omega arith) in
    (ts, cut, λ us other. cuts_unique text 0 us ts other cut)
