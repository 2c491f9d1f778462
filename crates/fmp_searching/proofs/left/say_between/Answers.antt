use Rattle.std.proofs.Common.{◌≡◌, ◌∙◌, ◌++◌, List, ℕ, OnOk, append_assoc, ap, codes, subst, w32}
use Rattle.std.proofs.lemmas.Int.{to_z-of_z}
use Rattle.std.specs.Fmt.{signed_decimal}
use Rattle.std.specs.Prelude.{ℤ}
use Rattle.fmp_base.specs.Systems.{tables_of}
use Rattle.fmp_base.specs.Texts.{task_name}
use Rattle.fmp_searching.specs.Said.{between_text}
use Rattle.fmp_searching.proofs.left.say_between.Goals as goal

pub returns : goal.returns
unfolding between_text
returns c =
    let out = c.args.out.now.items in
    let sys = tables_of c.args.sys.now in
    let head : List ℕ = codes ": while " in
    let task : List ℕ = task_name sys c.args.task in
    let after_task : List ℕ = codes " is between put(" in
    let enter_value : List ℕ = signed_decimal c.args.enters in
    let middle : List ℕ = codes ") and put(" in
    let left_value : List ℕ = signed_decimal c.args.leaves in
    let tail : List ℕ = codes ")" in
    let r1 : List ℕ = left_value ++ tail in
    let r2 : List ℕ = middle ++ r1 in
    let r3 : List ℕ = enter_value ++ r2 in
    let r4 : List ℕ = after_task ++ r3 in
    let r5 : List ℕ = task ++ r4 in
    let same : c.append_value-2.new.out.items ++ tail ≡ out ++ (head ++ r5) =
    ap (λ (xs : List ℕ). xs ++ tail) c.in_ok-append_value-2.ensures
    ∙ ap (λ (z : ℤ). (c.say-3.new.out.items ++ signed_decimal z) ++ tail)
    (to_z-of_z w32 c.args.leaves c.ranges.leaves)
    ∙ append_assoc c.say-3.new.out.items left_value tail
    ∙ ap (λ (xs : List ℕ). xs ++ r1) c.in_ok-say-3.ensures
    ∙ append_assoc c.append_value.new.out.items middle r1
    ∙ ap (λ (xs : List ℕ). xs ++ r2) c.in_ok-append_value.ensures
    ∙ ap (λ (z : ℤ). (c.say-2.new.out.items ++ signed_decimal z) ++ r2) (to_z-of_z w32 c.args.enters c.ranges.enters)
    ∙ append_assoc c.say-2.new.out.items enter_value r2
    ∙ ap (λ (xs : List ℕ). xs ++ r3) c.in_ok-say-2.ensures
    ∙ append_assoc c.append_task.new.out.items after_task r3
    ∙ ap (λ (xs : List ℕ). xs ++ r4) c.in_ok-append_task.ensures
    ∙ ap (λ (n : ℕ). (c.say.new.out.items ++ task_name sys n) ++ r4) c.from.ensures
    ∙ append_assoc c.say.new.out.items task r4
    ∙ ap (λ (xs : List ℕ). xs ++ r5) c.in_ok-say.ensures
    ∙ append_assoc out head r5 in
    subst (λ (xs : List ℕ). OnOk c.say-4.result (c.say-4.new.out.items ≡ xs)) same c.say-4.ensures
