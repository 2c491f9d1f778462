use Rattle.std.proofs.Common.{◌∙◌, List, ℕ, ap, arith}
use Rattle.std.proofs.lemmas.Grind.{get_or_default_zero}
use Rattle.fmp_visited.specs.Rows.{row_of}
use Rattle.fmp_explore.proofs.rows.tells.Goals as goal

pub returns : goal.returns
returns c = λ yes first row has.
    record {
      values = λ k d lt.
          let same = get_or_default_zero c.args.numbers.now k d lt in
          let fits = c.type_inv.numbers k in
          omega (arith, same, fits);
      is = has c.if-not-exact.false ∙ ap (λ (xs : List ℕ). row_of first xs) (c.are_same.ensures yes);
    }
