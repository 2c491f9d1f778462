use Rattle.fmp_visited.proofs.RowLemmas.{rows-told}
use Rattle.fmp_visited.proofs.laws.rows_tell_values.Goals as goal

pub returns : goal.returns
returns c = rows-told
