-- Bytes that are put one after the other.
use Rattle.std.proofs.Common.{◌≡◌, ℕ, List, ◌++◌, append_assoc}

pub chain_7 : (o a b c d e f g : List ℕ) → ((((((o ++ a) ++ b) ++ c) ++ d) ++ e) ++ f) ++ g ≡ o
    ++ (a ++ (b ++ (c ++ (d ++ (e ++ (f ++ g))))))
chain_7 o a b c d e f g = simp append_assoc

pub chain_8 : (o a b c d e f g h : List ℕ) → (((((((o ++ a) ++ b) ++ c) ++ d) ++ e) ++ f) ++ g) ++ h ≡ o
    ++ (a ++ (b ++ (c ++ (d ++ (e ++ (f ++ (g ++ h)))))))
chain_8 o a b c d e f g h = simp append_assoc

pub chain_10 : (o a b c d e f g h i j : List ℕ) → (((((((((o ++ a) ++ b) ++ c) ++ d) ++ e) ++ f) ++ g) ++ h) ++ i)
    ++ j ≡ o ++ (a ++ (b ++ (c ++ (d ++ (e ++ (f ++ (g ++ (h ++ (i ++ j)))))))))
chain_10 o a b c d e f g h i j = simp append_assoc
