use Rattle.std.proofs.Common.{◌≡◌, ◌∙◌, ◌++◌, List, ℕ, OnOk, append_assoc, ap, codes, subst}
use Rattle.fmp_searching.specs.Said.{more_started, started_text}
use Rattle.fmp_searching.specs.Sources.{source_tables}
use Rattle.fmp_searching.proofs.left.say_tasks.Goals as goal

pub returns : goal.returns
returns c =
    let out = c.args.out.now.items in
    let s = source_tables c.args.sources.now in
    let head : List ℕ = codes "deadlock of " in
    let first : List ℕ = started_text s c.args.first in
    let more : List ℕ = more_started s c.args.more.now in
    let same : c.say_started.new.out.items ++ more ≡ out ++ (head ++ (first ++ more)) =
    ap (λ (xs : List ℕ). xs ++ more) c.in_ok-say_started.ensures
    ∙ append_assoc c.say.new.out.items first more
    ∙ ap (λ (xs : List ℕ). xs ++ (first ++ more)) c.in_ok-say.ensures
    ∙ append_assoc out head (first ++ more) in
    subst (λ (xs : List ℕ). OnOk c.say_more_started.result (c.say_more_started.new.out.items ≡ xs)) same
    c.say_more_started.ensures
