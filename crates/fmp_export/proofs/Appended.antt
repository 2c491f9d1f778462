-- Texts that are appended one after another.
use Rattle.std.proofs.Common.{◌≡◌, ◌∙◌, ap, List, ◌++◌, append_assoc}

-- a piece, and what was appended after it
pub two : {A : Type 0} (o a b n m : List A) → n ≡ o ++ a → m ≡ n ++ b → m ≡ o ++ (a ++ b)
two o a b n m first second = second ∙ ap (λ x. x ++ b) first ∙ append_assoc o a b
