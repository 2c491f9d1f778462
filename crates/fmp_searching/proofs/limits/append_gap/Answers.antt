use Rattle.std.proofs.Common.{◌≡◌, ◌++◌, List, ℕ, OnOk, append_assoc, codes, decimal, ap, subst, ◌∙◌}
use Rattle.fmp_searching.proofs.limits.append_gap.Goals as goal
use Rattle.fmp_searching.specs.Limits.{gap_text, interrupt_text, tick_word}

pub returns : goal.returns
unfolding gap_text
returns c =
    let out = c.args.out.now.items in
    let head : List ℕ = codes ", with at least " in
    let number : List ℕ = decimal c.args.ticks in
    let word : List ℕ = tick_word c.args.ticks in
    let two : List ℕ = codes " between two" in
    let tail : List ℕ = interrupt_text c.args.interrupt in
    let same : c.append-3.new.out.items ++ tail ≡ out ++ (head ++ (number ++ (word ++ (two ++ tail)))) =
    ap (λ (xs : List ℕ). xs ++ tail) c.in_ok-append-3.ensures
    ∙ ap (λ (xs : List ℕ). (xs ++ two) ++ tail) c.in_ok-append-2.ensures
    ∙ ap (λ (xs : List ℕ). ((c.append_number.new.out.items ++ xs) ++ two) ++ tail) c.tick_word.ensures
    ∙ ap (λ (xs : List ℕ). ((xs ++ word) ++ two) ++ tail) c.in_ok-append_number.ensures
    ∙ ap (λ (n : ℕ). (((c.append.new.out.items ++ decimal n) ++ word) ++ two) ++ tail) c.from.ensures
    ∙ ap (λ (xs : List ℕ). (((xs ++ number) ++ word) ++ two) ++ tail) c.in_ok-append.ensures
    ∙ append_assoc (((out ++ head) ++ number) ++ word) two tail
    ∙ append_assoc ((out ++ head) ++ number) word (two ++ tail)
    ∙ append_assoc (out ++ head) number (word ++ (two ++ tail))
    ∙ append_assoc out head (number ++ (word ++ (two ++ tail))) in
    subst
    (λ (xs : List ℕ). OnOk c.append_interrupt.result (c.append_interrupt.new.out.items ≡ xs))
    same
    c.append_interrupt.ensures
