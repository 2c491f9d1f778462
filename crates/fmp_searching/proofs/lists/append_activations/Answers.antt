use Rattle.std.proofs.Common.{◌≡◌, ◌++◌, List, ℕ, OnOk, append_assoc, decimal, ap, subst, ◌∙◌}
use Rattle.fmp_searching.proofs.lists.append_activations.Goals as goal
use Rattle.fmp_searching.specs.Claims.{activations_text, activations_word}

pub returns : goal.returns
unfolding activations_text
returns c =
    let out = c.args.out.now.items in
    let number : List ℕ = decimal c.args.count in
    let same : c.append_small.new.out.items ++ c.activations_word.result.now ≡ out
    ++ (number ++ activations_word c.args.count) =
    ap (λ (xs : List ℕ). xs ++ c.activations_word.result.now) c.in_ok-append_small.ensures
    ∙ ap (λ (xs : List ℕ). (out ++ number) ++ xs) c.activations_word.ensures
    ∙ append_assoc out number (activations_word c.args.count) in
    subst
    (λ (xs : List ℕ). OnOk c.append.result (c.append.new.out.items ≡ xs))
    same
    c.append.ensures
