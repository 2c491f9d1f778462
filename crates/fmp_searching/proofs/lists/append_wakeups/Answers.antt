use Rattle.std.proofs.Common.{◌≡◌, ◌++◌, List, ℕ, OnOk, append_assoc, decimal, ap, subst, ◌∙◌}
use Rattle.fmp_searching.proofs.lists.append_wakeups.Goals as goal
use Rattle.fmp_searching.specs.Claims.{wakeups_text, wakeups_word}

pub returns : goal.returns
unfolding wakeups_text
returns c =
    let out = c.args.out.now.items in
    let number : List ℕ = decimal c.args.count in
    let same : c.append_small.new.out.items ++ c.wakeups_word.result.now ≡ out
    ++ (number ++ wakeups_word c.args.count) =
    ap (λ (xs : List ℕ). xs ++ c.wakeups_word.result.now) c.in_ok-append_small.ensures
    ∙ ap (λ (xs : List ℕ). (out ++ number) ++ xs) c.wakeups_word.ensures
    ∙ append_assoc out number (wakeups_word c.args.count) in
    subst
    (λ (xs : List ℕ). OnOk c.append.result (c.append.new.out.items ≡ xs))
    same
    c.append.ensures
