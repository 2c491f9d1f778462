-- Lists that have a front in common.
use Rattle.std.proofs.Common.{◌≡◌, ℕ, zero, suc, ◌+◌, ◌<◌, ◌≤◌, List, [], ◌∷◌, ◌++◌, length, slice_get, take, Some}
use Rattle.std.proofs.Common.{refl, sym, ◌∙◌, arith, length-append, length-take}
use Rattle.fmp_lex.specs.declared.token.TokenKind.{TokenKind}
use Rattle.fmp_lex.specs.Reading.{Same}

pub get_take : (xs : List TokenKind) (n k : ℕ) → k < n → slice_get (take n xs) k ≡ slice_get xs k
get_take xs zero k lt = absurd (omega arith)
get_take [] (suc n) k lt = refl
get_take (x ∷ xs) (suc n) zero lt = refl
get_take (x ∷ xs) (suc n) (suc k) lt = get_take xs n k (omega arith)

pub get_front : (xs ys : List TokenKind) (k : ℕ) → k < length xs → slice_get (xs ++ ys) k ≡ slice_get xs k
get_front [] ys k lt = absurd (omega arith)
get_front (x ∷ xs) ys zero lt = refl
get_front (x ∷ xs) ys (suc k) lt = get_front xs ys k (omega arith)

pub get_seam : (xs : List TokenKind) (y : TokenKind) (ys : List TokenKind) → slice_get (xs ++ y ∷ ys) (length xs)
    ≡ Some y
get_seam [] y ys = refl
get_seam (x ∷ xs) y ys = get_seam xs y ys

-- the first n tokens, and then others
pub same_take : (ts more : List TokenKind) (n : ℕ) → n ≤ length ts → Same n ts (take n ts ++ more)
same_take ts more n le = λ k lt. let short : k < length (take n ts) = simp length-take (omega arith) in sym
    (get_front (take n ts) more k short ∙ get_take ts n k lt)

pub take_long : (ts : List TokenKind) (n : ℕ) → n ≤ length ts → length (take n ts) ≡ n
take_long ts n le = simp length-take (omega arith)

pub same_more : (ts us more : List TokenKind) (n : ℕ) → Same n ts us → n ≤ length us → Same n ts (us ++ more)
same_more ts us more n same le = λ k lt. same k lt ∙ sym (get_front us more k (omega arith))

pub same_self : (us more : List TokenKind) → Same (length us) us (us ++ more)
same_self us more = λ k lt. sym (get_front us more k lt)

pub one_longer : (us : List TokenKind) (t : TokenKind) → length (us ++ t ∷ []) ≡ length us + 1
one_longer us t = length-append us (t ∷ [])
