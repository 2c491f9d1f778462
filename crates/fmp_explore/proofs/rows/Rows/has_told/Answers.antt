use Rattle.std.proofs.Common.{◌∙◌, List, ap, subst, sym, ℕ}
use Rattle.fmp_explore.specs.States.{IsRowOf}
use Rattle.fmp_visited.specs.Rows.{row_of}
use Rattle.fmp_explore.proofs.rows.Rows.has_told.Goals as goal

pub returns-clause-row : goal.returns-clause-row
returns-clause-row c = λ yes row has.
    let r = c.args.self.now in
    subst (λ (numbers : List ℕ). IsRowOf r.first.items numbers row)
    (c.deref-2.ensures.value ∙ c.in_ok-write_numbers.ensures.numbers)
    (c.tells.ensures yes r.first.items row
    (λ exact. has (sym c.write_numbers.ensures.exact ∙ exact)
    ∙ ap (λ (told : List ℕ). row_of r.first.items told) (sym (c.deref.ensures.value ∙ c.write_numbers.ensures.told))))
