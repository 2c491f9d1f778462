-- Pieces that are put into the bytes of a line.
use Rattle.std.proofs.Common.{◌≡◌, ℕ, ◌+◌, ◌≤◌, List, ◌++◌, length, take, drop, append_assoc, refl, ap, sym, ◌∙◌, arith}
use Rattle.std.proofs.Common.{length-take-le, take-add, take-take, take_at, drop_at}
use Rattle.std.proofs.Math.Seq.{take-append-add}
use Rattle.std.proofs.lemmas.List.{take-append-drop}
use Rattle.std.proofs.lemmas.Slice.{take-put_mid}
use borrow.Rule.Slice.PartMut.{put_mid}

-- the first bytes of a piece that is put behind others follow these
pub take-put_front : (at k count end : ℕ) (line piece : List ℕ) → at ≤ length line → count ≤ length piece → end ≡ at
    + count
    → take end (put_mid at k line piece) ≡ take at line ++ take count piece
take-put_front at k count end line piece within few is =
    let front = length-take-le at line within in
    rw is (sym (take-take (at + count) (at + length piece) (put_mid at k line piece) (omega arith))
    ∙ ap (take (at + count)) (take-put_mid at k line piece (at + length piece) refl within)
    ∙ take-add at count (take at line ++ piece)
    ∙ (λ i. take_at (take at line) piece at front i ++ take count (drop_at (take at line) piece at front i)))

-- of the front of a line that was appended to a text, the last bytes are cut off
pub take-cut_off : (end most n : ℕ) (text line : List ℕ) → end ≤ most → n ≡ length text + end
    → take n (text ++ take most line) ≡ text ++ take end line
take-cut_off end most n text line below is =
    rw is (take-append-add text (take most line) end ∙ ap (λ xs. text ++ xs) (take-take end most line below))

-- where all of a piece of 31 bytes was put, in two parts that share a byte, its first bytes stand there
pub take-put_halves : (at count : ℕ) (line whole front back bytes : List ℕ) → at ≤ length line → count ≤ 31
    → front ≡ take 16 bytes → back ≡ drop 15 bytes → take (at + 31) whole ≡ (take at line ++ take 15 front) ++ back
    → take (at + count) whole ≡ take at line ++ take count bytes
take-put_halves at count line whole front back bytes within few first last is =
    let long : length (take at line) ≡ at = length-take-le at line within in
    let halves : take 15 front ++ back ≡ bytes =
    ap (λ xs. take 15 xs ++ back) first ∙ ap (λ xs. xs ++ back) (take-take 15 16 bytes (omega arith))
    ∙ ap (λ xs. take 15 bytes ++ xs) last ∙ take-append-drop 15 bytes in
    sym (take-take (at + count) (at + 31) whole (omega (arith, few)))
    ∙ ap (take (at + count)) (is ∙ append_assoc (take at line) (take 15 front) back
    ∙ ap (λ xs. take at line ++ xs) halves)
    ∙ take-add at count (take at line ++ bytes)
    ∙ (λ i. take_at (take at line) bytes at long i ++ take count (drop_at (take at line) bytes at long i))

-- a front, and the four bytes behind it
pub front_and_four : (count : ℕ) (bytes front more : List ℕ) → take count bytes ≡ front → take 4 (drop count bytes)
    ≡ more
    → take (count + 4) bytes ≡ front ++ more
front_and_four count bytes front more h k = take-add count 4 bytes ∙ (λ i. h i ++ k i)
