use Rattle.std.proofs.Common.{◌≡◌, ◌++◌, List, ℕ, OnOk, append_assoc, codes, decimal, ap, subst, ◌∙◌}
use Rattle.fmp_searching.proofs.limits.append_count.Goals as goal
use Rattle.fmp_searching.specs.Limits.{count_text, interrupt_text}

pub returns : goal.returns
unfolding count_text
returns c =
    let out = c.args.out.now.items in
    let head : List ℕ = codes ", with at most " in
    let number : List ℕ = decimal c.args.count in
    let tail : List ℕ = interrupt_text c.args.interrupt in
    let same : c.append_number.new.out.items ++ tail ≡ out ++ (head ++ (number ++ tail)) =
    ap (λ (xs : List ℕ). xs ++ tail) c.in_ok-append_number.ensures
    ∙ ap (λ (n : ℕ). (c.append.new.out.items ++ decimal n) ++ tail) c.from.ensures
    ∙ ap (λ (xs : List ℕ). (xs ++ number) ++ tail) c.in_ok-append.ensures
    ∙ append_assoc (out ++ head) number tail
    ∙ append_assoc out head (number ++ tail) in
    subst
    (λ (xs : List ℕ). OnOk c.append_interrupt.result (c.append_interrupt.new.out.items ≡ xs))
    same
    c.append_interrupt.ensures
