-- A text is cut in one way.
use Rattle.std.proofs.Common.{◌≡◌, ℕ, ◌+◌, inl, inr, Bool, List, slice_index, refl, arith}
use Rattle.fmp_lex.specs.declared.cutting.PieceStart.{PieceStart}
use Rattle.fmp_lex.specs.declared.cutting.PieceStart.TheVariants.{Space, LineComment, BlockComment, Word, Zero, Hex}
use Rattle.fmp_lex.specs.declared.cutting.PieceStart.TheVariants.{Decimal, Other}
use Rattle.fmp_lex.specs.Cutting.{Piece}
use Rattle.fmp_lex.specs.Cutting.{Skip, Whole, Fault}
use Rattle.fmp_lex.specs.declared.token.Token.{Token}
use Rattle.fmp_lex.specs.Scanning.{IsRun, IsFirstClose}
use Rattle.fmp_lex.specs.Cutting.{IsPieceOf, IsPiece, Cuts, ended, skipped, token, faulty, start_of}
use Rattle.std.proofs.lemmas.Bool.{cases_order}

pub run_unique : (test : ℕ → Bool) (text : List ℕ) (i j k : ℕ) → IsRun test text i j → IsRun test text i k → j ≡ k
run_unique test text i j k a b = elim (cases_order j k) [
  | inl e ↦ e
  | inr o ↦ elim o [
    | inl lt ↦ let up = b.each j a.from lt in let down = a.longest (omega arith) in (cc)
    | inr lt ↦ let up = a.each k b.from lt in let down = b.longest (omega arith) in (cc)
  ]
]

pub close_unique : (text : List ℕ) (i j k : ℕ) → IsFirstClose text i j → IsFirstClose text i k → j ≡ k
close_unique text i j k a b = elim (cases_order j k) [
  | inl e ↦ e
  | inr o ↦ elim o [
    | inl lt ↦ absurd (b.first j a.from lt a.closes)
    | inr lt ↦ absurd (a.first k b.from lt b.closes)
  ]
]

pub piece_of_unique : (text : List ℕ) (i : ℕ) (s : PieceStart) (p q : Piece) → IsPieceOf text i s p
    → IsPieceOf text i s q → p ≡ q
piece_of_unique text i Space p q a b = let e = run_unique _ text (i + 1) a.0 b.0 a.1 b.1 in cc
piece_of_unique text i LineComment p q a b = let e = run_unique _ text (i + 1) a.0 b.0 a.1 b.1 in cc
piece_of_unique text i BlockComment p q (inl a) (inl b) = let e = close_unique text (i + 2) a.0 b.0 a.1 b.1 in cc
piece_of_unique text i BlockComment p q (inl a) (inr b) = absurd (b.0 a.0 a.1.from a.1.closes)
piece_of_unique text i BlockComment p q (inr a) (inl b) = absurd (a.0 b.0 b.1.from b.1.closes)
piece_of_unique text i BlockComment p q (inr a) (inr b) = cc
piece_of_unique text i Word p q a b = let e = run_unique _ text (i + 1) a.0 b.0 a.1 b.1 in cc
piece_of_unique text i Zero p q a b = cc
piece_of_unique text i Hex p q a b = let e = run_unique _ text (i + 2) a.0 b.0 a.1 b.1 in cc
piece_of_unique text i Decimal p q a b = let e = run_unique _ text (i + 1) a.0 b.0 a.1 b.1 in cc
piece_of_unique text i Other p q a b = cc

pub piece_unique : (text : List ℕ) (i : ℕ) (p q : Piece) → IsPiece text i p → IsPiece text i q → p ≡ q
piece_unique text i p q a b = piece_of_unique text i (start_of (slice_index text i) (slice_index text (i + 1))) p q a b

pub cuts_unique : (text : List ℕ) (i : ℕ) (ts us : List Token) → Cuts text i ts → Cuts text i us → ts ≡ us
cuts_unique text i ts us (ended _ h) (ended _ h') = refl
cuts_unique text i ts us (ended _ h) (skipped _ j us' h' p' r') = absurd (omega arith)
cuts_unique text i ts us (ended _ h) (token _ j k us' h' p' r') = absurd (omega arith)
cuts_unique text i ts us (ended _ h) (faulty _ f h' p') = absurd (omega arith)
cuts_unique text i ts us (skipped _ j ts' h p r) (ended _ h') = absurd (omega arith)
cuts_unique text i ts us (skipped _ j ts' h p r) (skipped _ j' us' h' p' r') =
    let e = piece_unique text i (Skip j) (Skip j') p p' in
    let e2 : j' ≡ j = cc in
    cuts_unique text j ts' us' r (rw e2 at r')
cuts_unique text i ts us (skipped _ j ts' h p r) (token _ j' k us' h' p' r') = let e = piece_unique text i (Skip j)
    (Whole k j') p p' in cc
cuts_unique text i ts us (skipped _ j ts' h p r) (faulty _ f h' p') = let e = piece_unique text i (Skip j)
    (Fault f) p p' in cc
cuts_unique text i ts us (token _ j k ts' h p r) (ended _ h') = absurd (omega arith)
cuts_unique text i ts us (token _ j k ts' h p r) (skipped _ j' us' h' p' r') = let e = piece_unique text i (Whole k j)
    (Skip j') p p' in cc
cuts_unique text i ts us (token _ j k ts' h p r) (token _ j' k' us' h' p' r') =
    let e = piece_unique text i (Whole k j) (Whole k' j') p p' in
    let e2 : j' ≡ j = cc in
    let e3 : k ≡ k' = cc in
    let e4 = cuts_unique text j ts' us' r (rw e2 at r') in
    cc
cuts_unique text i ts us (token _ j k ts' h p r) (faulty _ f h' p') = let e = piece_unique text i (Whole k j)
    (Fault f) p p' in cc
cuts_unique text i ts us (faulty _ f h p) (ended _ h') = absurd (omega arith)
cuts_unique text i ts us (faulty _ f h p) (skipped _ j us' h' p' r') = let e = piece_unique text i (Fault f)
    (Skip j) p p' in cc
cuts_unique text i ts us (faulty _ f h p) (token _ j k us' h' p' r') = let e = piece_unique text i (Fault f)
    (Whole k j) p p' in cc
cuts_unique text i ts us (faulty _ f h p) (faulty _ f' h' p') = let e = piece_unique text i (Fault f)
    (Fault f') p p' in cc
