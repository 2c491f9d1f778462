use Rattle.std.proofs.Common.{◌≡◌, ◌++◌, List, ℕ, OnOk, append_assoc, codes, ap, subst, ◌∙◌}
use Rattle.fmp_searching.proofs.lists.append_queue.Goals as goal
use Rattle.fmp_searching.specs.Claims.{activations_text, queue_text, wakeups_text}

pub returns : goal.returns
unfolding queue_text
returns c =
    let out = c.args.out.now.items in
    let head : List ℕ = codes " at most " in
    let a : List ℕ = activations_text c.args.count in
    let w : List ℕ = wakeups_text c.args.count in
    let tail : List ℕ = codes " of a task are queued" in
    let same : c.append_wakeups.new.out.items ++ tail ≡ out ++ (head ++ (a ++ (w ++ tail))) =
    ap (λ (xs : List ℕ). xs ++ tail) c.in_ok-append_wakeups.ensures
    ∙ ap (λ (xs : List ℕ). (xs ++ w) ++ tail) c.in_ok-append_activations.ensures
    ∙ ap (λ (xs : List ℕ). ((xs ++ a) ++ w) ++ tail) c.in_ok-append.ensures
    ∙ append_assoc ((out ++ head) ++ a) w tail
    ∙ append_assoc (out ++ head) a (w ++ tail)
    ∙ append_assoc out head (a ++ (w ++ tail)) in
    subst
    (λ (xs : List ℕ). OnOk c.append-2.result (c.append-2.new.out.items ≡ xs))
    same
    c.append-2.ensures
