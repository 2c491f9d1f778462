use Rattle.std.proofs.Common.{◌≡◌, ◌++◌, List, ℕ, OnOk, append_assoc, decimal, ap, subst, ◌∙◌}
use Rattle.fmp_searching.proofs.ending.append_seconds_limit.Goals as goal
use Rattle.fmp_searching.specs.Claims.{second_word, seconds_limit}

pub returns : goal.returns
unfolding seconds_limit
returns c =
    let out = c.args.out.now.items in
    let number : List ℕ = decimal c.args.count in
    let word : List ℕ = second_word c.args.count in
    let same : c.append_number.new.out.items ++ c.second_word.result.now ≡ out ++ (number ++ word) =
    ap (λ (xs : List ℕ). xs ++ c.second_word.result.now) c.in_ok-append_number.ensures
    ∙ ap (λ (n : ℕ). (out ++ decimal n) ++ c.second_word.result.now) c.from.ensures
    ∙ ap (λ (xs : List ℕ). (out ++ number) ++ xs) c.second_word.ensures
    ∙ append_assoc out number word in
    subst
    (λ (xs : List ℕ). OnOk c.append.result (c.append.new.out.items ≡ xs))
    same
    c.append.ensures
