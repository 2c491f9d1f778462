use Rattle.std.proofs.Common.{arith}
use Rattle.std.proofs.lemmas.Grind.{get_or_default_zero}
use Rattle.std.proofs.lemmas.Result.{IfOk-weaker}
use Rattle.fmp_explore.proofs.rows.write_row.Goals as goal

pub returns : goal.returns
returns c =
    IfOk-weaker c.pack.result _ _
    (λ _ e. record {
      values = λ k d lt.
          let same = get_or_default_zero c.args.numbers.now k d lt in
          let fits = c.type_inv.numbers k in
          omega (arith, same, fits);
      is = e;
    }) c.pack.ensures
