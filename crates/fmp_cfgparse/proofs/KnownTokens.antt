-- What the tokens of a text can be: a name is an identifier that is no word, and a number fits 32 bits.
use Rattle.std.proofs.Common.{◌≡◌, ℕ, zero, suc, pos, ◌+◌, ◌-◌, ◌<◌, ◌≤◌, nat_le, if◌then◌else◌, Bool, true, false}
use Rattle.std.proofs.Common.{◌&&◌, ◌==◌, List, [], ◌∷◌, Option, Some, None, inl, inr, length, take, drop, replicate}
use Rattle.std.proofs.Common.{slice_get, slice_index, slice_range, FitsSigned, refl, ap, arith, drop-cons}
use Rattle.std.proofs.Math.Seq.{take-append_seam}
use Rattle.std.specs.Int.{w32}
use Rattle.std.specs.List.{AllByRecursion, list_all}
use Rattle.std.proofs.lemmas.Bool.{leb-true}
use Rattle.fmp_base.specs.Names.{name_text, name_from}
use Rattle.fmp_lex.specs.declared.token.Token.{Token}
use Rattle.fmp_lex.specs.declared.token.TokenKind.{TokenKind}
use Rattle.fmp_lex.specs.declared.token.TokenKind.TheVariants as kind
use Rattle.fmp_lex.specs.declared.token.LexFault.TheVariants.{Syntax, Limit}
use Rattle.fmp_lex.specs.declared.token.Symbol.{Symbol}
use Rattle.fmp_lex.specs.declared.scanning.ByteClass.TheVariants as class
use Rattle.fmp_lex.specs.declared.cutting.PieceStart.{PieceStart}
use Rattle.fmp_lex.specs.declared.cutting.PieceStart.TheVariants as start
use Rattle.fmp_lex.specs.Cutting.{Piece}
use Rattle.fmp_lex.specs.Cutting.{Skip, Whole, Fault}
use Rattle.fmp_base.specs.Words.{is_letter, is_digit, is_word}
use Rattle.fmp_lex.specs.Scanning.{is_space, in_class, value_from, IsRun, greatest}
use Rattle.fmp_lex.specs.Cutting.{long_symbol, short_symbol, is_followed, number_piece, hex_piece, word_kind}
use Rattle.fmp_lex.specs.Cutting.{word_or_name, long_piece, start_of, IsPieceOf, IsPiece, Cuts, ended, skipped, token}
use Rattle.fmp_lex.specs.Cutting.{faulty}
use Rattle.fmp_lex.specs.Laws.{IsWord}
use Rattle.fmp_lex.specs.Reading.{kinds_of}
use Rattle.fmp_lex.proofs.Names.{reads_words}
use Rattle.fmp_cfgparse.specs.Tables.{is_identifier, IsObjectName}

-- what a token can be
abbrev pub IsKnown : TokenKind → Type 0
IsKnown (kind.Name n) = IsObjectName n
IsKnown (kind.Number z) = FitsSigned w32 z
IsKnown _ = Unit {0}

abbrev pub IsKnownAt : Option TokenKind → Type 0
IsKnownAt None = Unit {0}
IsKnownAt (Some k) = IsKnown k

abbrev PieceIs : Piece → Type 0
PieceIs (Whole k j) = IsKnown k
PieceIs (Skip j) = Unit {0}
PieceIs (Fault f) = Unit {0}

-- numbers
number_known : (text : List ℕ) (j : ℕ) (fits : Bool) (n : ℕ) → PieceIs (number_piece text j fits n)
number_known text j fits n = by_tests (is_followed text j) fits (nat_le n greatest) refl
  where
    by_tests : (a b c : Bool) → nat_le n greatest ≡ c → PieceIs (if a then Fault Syntax else
        (if b && c then Whole (kind.Number (pos n)) j else Fault Limit))
    by_tests true b c e = tt
    by_tests false true true e = let le = leb-true n greatest e in record { sfits = omega arith }
    by_tests false true false e = tt
    by_tests false false c e = tt

hex_known : (text : List ℕ) (k j : ℕ) → PieceIs (hex_piece text k j)
hex_known text k j = by_test (j == k)
  where
    by_test : (a : Bool) → PieceIs (if a then Fault Syntax else number_piece text j (nat_le (j - k) 8)
        (value_from 16 0 (slice_range text k j)))
    by_test true = tt
    by_test false = number_known text j (nat_le (j - k) 8) (value_from 16 0 (slice_range text k j))

symbol_known : (i : ℕ) (long short : Option Symbol) → PieceIs (long_piece i long short)
symbol_known i (Some s) short = tt
symbol_known i None (Some s) = tt
symbol_known i None None = tt

-- words and names
reserved_known : (bytes : List ℕ) (k : TokenKind) → IsWord bytes k → IsKnown k
reserved_known bytes (kind.Constant c) w = tt
reserved_known bytes (kind.Api a) w = tt
reserved_known bytes (kind.Service s) w = tt
reserved_known bytes (kind.Keyword k) w = tt
reserved_known bytes (kind.Number n) w = absurd w
reserved_known bytes (kind.Name n) w = absurd w
reserved_known bytes (kind.Symbol s) w = tt
reserved_known bytes (kind.Bad f) w = tt

name_known : (bytes : List ℕ) → length bytes ≤ 31 → is_identifier bytes ≡ true → word_kind bytes ≡ None
    → IsObjectName (name_from bytes)
name_known bytes short word free =
    let text : name_text (name_from bytes) ≡ bytes = take-append_seam bytes (replicate (31 - length bytes) 0) in
    record {
      canonical = ap name_from text;
      short = rw text short;
      identifier = rw text word;
      unreserved = rw text free;
    }

word_known : (bytes : List ℕ) (j : ℕ) (word : Option TokenKind) → is_identifier bytes ≡ true → word_kind bytes ≡ word
    → PieceIs (word_or_name bytes j word)
word_known bytes j (Some k) identifier e = reserved_known bytes k ((reads_words bytes k).0 e)
word_known bytes j None identifier e = by_test (nat_le (length bytes) 31) refl
  where
    by_test : (a : Bool) → nat_le (length bytes) 31 ≡ a → PieceIs (if a then Whole
        (kind.Name (name_from bytes)) j else Fault Limit)
    by_test true le = name_known bytes (leb-true (length bytes) 31 le) identifier e
    by_test false le = tt

-- the bytes of a run pass its test
run_passes : (text : List ℕ) (m i : ℕ) → i + m ≤ length text → ((k : ℕ) → i ≤ k → k < i + m
    → is_word (slice_index text k) ≡ true) →
    list_all is_word (take m (drop i text)) ≡ true
run_passes text zero i within each = refl
run_passes text (suc m) i within each =
    let here : is_word (slice_index text i) ≡ true = each i (omega arith) (omega arith) in
    let later : list_all is_word (take m (drop (suc i) text))
    ≡ true = run_passes text m (suc i) (omega arith) (λ k low high. each k (omega arith) (omega arith)) in
    let split : drop i text ≡ slice_index text i ∷ drop (suc i) text = drop-cons text i 0 (omega arith) in
    rw split (rw here later)

word_begins : (text : List ℕ) (i j : ℕ) → is_letter (slice_index text i) ≡ true
    → IsRun (in_class class.Word) text (i + 1) j →
    is_identifier (slice_range text i j) ≡ true
word_begins text i j letter run =
    let from : i + 1 ≤ j = run.from in
    let within : j ≤ length text = run.within in
    let many : j - i ≡ suc (j - suc i) = omega arith in
    let split : drop i text ≡ slice_index text i ∷ drop (suc i) text = drop-cons text i 0 (omega arith) in
    let later : list_all is_word (take (j - suc i) (drop (suc i) text)) ≡ true =
    run_passes text (j - suc i) (suc i) (omega arith) (λ k low high. run.each k (omega arith) (omega arith)) in
    rw (many, split) (rw letter later)

-- what begins like a word begins with a letter
fourth : (a b c d e f g : Bool) →
    (if a then start.Space else (if b then start.LineComment else (if c then start.BlockComment else
    (if d then start.Word
    else (if e then start.Hex else (if f then start.Zero else (if g then start.Decimal else start.Other)))))))
    ≡ start.Word → d ≡ true
fourth true b c d e f g h = cc
fourth false true c d e f g h = cc
fourth false false true d e f g h = cc
fourth false false false true e f g h = refl
fourth false false false false true f g h = cc
fourth false false false false false true g h = cc
fourth false false false false false false true h = cc
fourth false false false false false false false h = cc

begins_letter : (b c : ℕ) → start_of b c ≡ start.Word → is_letter b ≡ true
begins_letter b c e =
    fourth (is_space b) ((b == 47) && (c == 47)) ((b == 47) && (c == 42)) (is_letter b) ((b == 48) && (c == 120))
    (b == 48) (is_digit b) e

-- each piece
piece_known : (text : List ℕ) (i : ℕ) (s : PieceStart) (p : Piece)
    → (s ≡ start.Word → is_letter (slice_index text i) ≡ true) → IsPieceOf text i s p → PieceIs p
piece_known text i start.Space p letter x = rw x.2 tt
piece_known text i start.LineComment p letter x = rw x.2 tt
piece_known text i start.BlockComment p letter (inl x) = rw x.2 tt
piece_known text i start.BlockComment p letter (inr x) = rw x.1 tt
piece_known text i start.Word p letter x =
    let bytes = slice_range text i x.0 in
    rw x.2 (word_known bytes x.0 (word_kind bytes) (word_begins text i x.0 (letter refl) x.1) refl)
piece_known text i start.Zero p letter x = rw x (number_known text (i + 1) true 0)
piece_known text i start.Hex p letter x = rw x.2 (hex_known text (i + 2) x.0)
piece_known text i start.Decimal p letter x = rw x.2 (number_known text x.0 true
    (value_from 10 0 (slice_range text i x.0)))
piece_known text i start.Other p letter x = rw x (symbol_known i (long_symbol (slice_index text i)
    (slice_index text (i + 1))) (short_symbol (slice_index text i)))

known_piece : (text : List ℕ) (i : ℕ) (p : Piece) → IsPiece text i p → PieceIs p
known_piece text i p x =
    piece_known text i (start_of (slice_index text i) (slice_index text (i + 1))) p
    (begins_letter (slice_index text i) (slice_index text (i + 1))) x

-- each token of a text
pub cuts_known : (text : List ℕ) (i : ℕ) (ts : List Token) → Cuts text i ts → AllByRecursion IsKnown (kinds_of ts)
cuts_known text i ts (ended _ h) = tt
cuts_known text i ts (skipped _ j _ h p more) = cuts_known text j ts more
cuts_known text i ts (token _ j k us h p more) = (known_piece text i (Whole k j) p, cuts_known text j us more)
cuts_known text i ts (faulty _ f h p) = (tt, tt)

pub known_at : (ks : List TokenKind) (i : ℕ) → AllByRecursion IsKnown ks → IsKnownAt (slice_get ks i)
known_at [] i h = tt
known_at (k ∷ ks) zero h = h.0
known_at (k ∷ ks) (suc i) h = known_at ks i h.1
