use Rattle.std.proofs.Common.{◌≡◌, ◌++◌, List, ℕ, OnOk, append_assoc, codes, decimal, ap, subst, ◌∙◌}
use Rattle.fmp_searching.proofs.lists.append_most.Goals as goal
use Rattle.fmp_searching.specs.Claims.{most_text}

pub returns : goal.returns
unfolding most_text
returns c =
    let out = c.args.out.now.items in
    let text : List ℕ = codes " with at most " in
    let same : c.append.new.out.items ++ decimal c.from.result ≡ out ++ (text ++ decimal c.args.count) =
    ap (λ xs. xs ++ decimal c.from.result) c.in_ok-append.ensures
    ∙ ap (λ n. (out ++ text) ++ decimal n) c.from.ensures
    ∙ append_assoc out text (decimal c.args.count) in
    subst
    (λ (xs : List ℕ). OnOk c.append_number.result (c.append_number.new.out.items ≡ xs))
    same
    c.append_number.ensures
