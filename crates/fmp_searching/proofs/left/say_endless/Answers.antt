use Rattle.std.proofs.Common.{◌≡◌, ◌∙◌, ◌++◌, List, ℕ, OnOk, append_assoc, ap, codes, decimal, subst}
use Rattle.fmp_searching.specs.Said.{endless_text}
use Rattle.fmp_searching.proofs.left.say_endless.Goals as goal

pub returns : goal.returns
unfolding endless_text
returns c =
    let out = c.args.out.now.items in
    let head : List ℕ = codes "processor " in
    let number : List ℕ = decimal c.args.processor in
    let tail : List ℕ = codes " goes on for ever without a call" in
    let same : c.append_number.new.out.items ++ tail ≡ out ++ (head ++ (number ++ tail)) =
    ap (λ (xs : List ℕ). xs ++ tail) c.in_ok-append_number.ensures
    ∙ ap (λ (n : ℕ). (c.say.new.out.items ++ decimal n) ++ tail) c.from.ensures
    ∙ ap (λ (xs : List ℕ). (xs ++ number) ++ tail) c.in_ok-say.ensures
    ∙ append_assoc (out ++ head) number tail
    ∙ append_assoc out head (number ++ tail) in
    subst (λ (xs : List ℕ). OnOk c.say-2.result (c.say-2.new.out.items ≡ xs)) same c.say-2.ensures
