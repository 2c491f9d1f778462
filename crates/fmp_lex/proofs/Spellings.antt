-- Pieces that are names.
use Rattle.std.proofs.Common.{◌≡◌, ℕ, ◌-◌, ◌<◌, ◌≤◌, nat_le, if◌then◌else◌, Bool, true, false, List, None, length}
use Rattle.std.proofs.Common.{length-take, length-drop, slice_range, drop, refl, sym, arith}
use Rattle.fmp_base.specs.Names.{name_from}
use Rattle.fmp_lex.specs.declared.token.LexFault.TheVariants.{Limit}
use Rattle.fmp_lex.specs.declared.token.TokenKind.TheVariants as kind
use Rattle.fmp_lex.specs.Cutting.{Whole, Fault, word_kind, word_or_name, word_piece}

pub range_length : (text : List ℕ) (i j : ℕ) → j ≤ length text → length (slice_range text i j) ≡ j - i
range_length text i j le = omega (arith, length-take (j - i) (drop i text), length-drop i text)

by_length : (bytes : List ℕ) (j : ℕ) (short : Bool) → nat_le (length bytes) 31 ≡ short →
    word_or_name bytes j None ≡ (if short then Whole (kind.Name (name_from bytes)) j else Fault Limit)
by_length bytes j short e = rw e refl

unworded : (bytes : List ℕ) (j : ℕ) → None ≡ word_kind bytes → word_piece bytes j ≡ word_or_name bytes j None
unworded bytes j none = rw (sym none) refl

pub name_short : (bytes : List ℕ) (j : ℕ) → None ≡ word_kind bytes → length bytes ≤ 31 →
    Whole (kind.Name (name_from bytes)) j ≡ word_piece bytes j
name_short bytes j none le =
    let short : nat_le (length bytes) 31 ≡ true = grind (arith, le) in
    rw (unworded bytes j none, by_length bytes j true short) refl

pub name_long : (bytes : List ℕ) (j : ℕ) → None ≡ word_kind bytes → 31 < length bytes → Fault Limit ≡ word_piece bytes j
name_long bytes j none gt =
    let long : nat_le (length bytes) 31 ≡ false = grind (arith, gt) in
    rw (unworded bytes j none, by_length bytes j false long) refl
