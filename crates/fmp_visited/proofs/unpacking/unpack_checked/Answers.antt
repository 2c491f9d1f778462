use Rattle.std.proofs.Common.{◌≡◌, ◌++◌, ◌∙◌, List, ℕ, ap, length, sym}
use Rattle.std.proofs.lemmas.List.{take_at}
use Rattle.fmp_visited.specs.Rows.{row_of}
use Rattle.fmp_visited.proofs.unpacking.unpack_checked.Goals as goal

pub returns-clause-told : goal.returns-clause-told
returns-clause-told c v same values told =
    let first = c.args.first.now in
    let copied : c.deref_mut.result.now ≡ first =
    c.deref_mut.ensures.value
    ∙ (c.in_ok-extend_from_slice.ensures.items ∙ ap (λ (xs : List ℕ). xs ++ first) c.clear.ensures.items) in
    take_at _ _ _ (c.unpack_groups.ensures.length ∙ c.deref_mut.ensures.len)
    ∙ c.unpack_groups.ensures.told v (same ∙ ap (λ (xs : List ℕ). length xs) (sym copied)) values
    (told ∙ ap (λ (xs : List ℕ). row_of xs v) (sym copied))

pub returns-clause-exact : goal.returns-clause-exact
returns-clause-exact c = λ yes.
    let first = c.args.first.now in
    let copied : c.deref_mut.result.now ≡ first =
    c.deref_mut.ensures.value
    ∙ (c.in_ok-extend_from_slice.ensures.items ∙ ap (λ (xs : List ℕ). xs ++ first) c.clear.ensures.items) in
    let kept = take_at _ _ _ (c.unpack_groups.ensures.length ∙ c.deref_mut.ensures.len) in
    c.unpack_groups.ensures.exact yes
    ∙ (ap (λ (xs : List ℕ). row_of xs c.unpack_groups.new.values) copied
    ∙ ap (λ (xs : List ℕ). row_of first xs) (sym kept))
