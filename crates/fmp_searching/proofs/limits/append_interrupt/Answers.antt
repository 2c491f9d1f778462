use Rattle.std.proofs.Common.{◌≡◌, ◌+◌, ◌++◌, List, ℕ, OnOk, append_assoc, codes, decimal, ap, subst, ◌∙◌}
use Rattle.fmp_searching.proofs.limits.append_interrupt.Goals as goal
use Rattle.fmp_searching.specs.Limits.{interrupt_text}

pub returns : goal.returns
unfolding interrupt_text
returns c =
    let out = c.args.out.now.items in
    let text : List ℕ = codes " of interrupt " in
    let same : c.append.new.out.items ++ decimal (c.from.result + 1) ≡ out ++ (text ++ decimal (c.args.interrupt + 1)) =
    ap (λ xs. xs ++ decimal (c.from.result + 1)) c.in_ok-append.ensures
    ∙ ap (λ n. (out ++ text) ++ decimal (n + 1)) c.from.ensures
    ∙ append_assoc out text (decimal (c.args.interrupt + 1)) in
    subst
    (λ (xs : List ℕ). OnOk c.append_number.result (c.append_number.new.out.items ≡ xs))
    same
    c.append_number.ensures
