-- Tokens that are written one after the other.
use Rattle.std.proofs.Common.{◌≡◌, ◌++◌, List, Result, OnOk, ap, ◌∙◌, append_assoc}
use Rattle.std.proofs.lemmas.Result.{on_ok_weaker}
use Rattle.json.specs.Token.{Token}

-- two writings are one
pub joined : (a b c s t : List Token) → b ≡ a ++ s → c ≡ b ++ t → c ≡ a ++ (s ++ t)
joined a b c s t e f = f ∙ ap (λ (l : List Token). l ++ t) e ∙ append_assoc a s t

-- what follows from what a call did
pub then_ok : {T E P Q : Type 0} (r : Result T E) → OnOk r P → (P → Q) → OnOk r Q
then_ok r h f = on_ok_weaker r f h
