use Rattle.std.proofs.Common.{◌≡◌, ◌++◌, List, ℕ, OnOk, append_assoc, codes, ap, subst, ◌∙◌}
use Rattle.fmp_schedules.specs.declared.monitor.Monitor.{Monitor}
use Rattle.fmp_searching.proofs.lists.append_lists.Goals as goal
use Rattle.fmp_searching.specs.Claims.{bound_text, lists_text, rules_text}
use Rattle.fmp_searching.specs.Limits.{limits_text}

pub returns : goal.returns
unfolding lists_text
returns c =
    let out = c.args.out.now.items in
    let head : List ℕ = codes ": over all lists of events" in
    let rules : List ℕ = rules_text c.args.question.now in
    let limits : List ℕ = limits_text c.args.question.now.monitors.items in
    let tail : List ℕ = bound_text c.args.bound in
    let same : c.append_limits.new.out.items ++ tail ≡ out ++ (head ++ (rules ++ (limits ++ tail))) =
    ap (λ (xs : List ℕ). xs ++ tail) c.in_ok-append_limits.ensures
    ∙ ap (λ (ms : List Monitor). (c.append_rules.new.out.items ++ limits_text ms) ++ tail) c.deref.ensures.value
    ∙ ap (λ (xs : List ℕ). (xs ++ limits) ++ tail) c.in_ok-append_rules.ensures
    ∙ ap (λ (xs : List ℕ). ((xs ++ rules) ++ limits) ++ tail) c.in_ok-append.ensures
    ∙ append_assoc ((out ++ head) ++ rules) limits tail
    ∙ append_assoc (out ++ head) rules (limits ++ tail)
    ∙ append_assoc out head (rules ++ (limits ++ tail)) in
    subst
    (λ (xs : List ℕ). OnOk c.append_bound.result (c.append_bound.new.out.items ≡ xs))
    same
    c.append_bound.ensures
