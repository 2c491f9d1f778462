use Rattle.std.proofs.lemmas.Result.{IfOk-weaker, err_from_is_err_and}
use Rattle.fmp_looking.proofs.run_positions.positions_by_text.Goals as goal

pub returns-in_err-positions : goal.returns-in_err-positions
returns-in_err-positions c = rw ((err_from_is_err_and c.from_residual.result c.from_residual.ensures.1).1) tt

pub positions_over-requires : goal.positions_over-requires
positions_over-requires c = record { few = c.requires.few }

pub returns : goal.returns
returns c =
    IfOk-weaker c.positions_over.result _ _ (λ made h. record {
      bodies = c.in_ok-positions.positions;
      calls = c.in_ok-positions.ensures;
      made_so = h;
    }) c.positions_over.ensures
