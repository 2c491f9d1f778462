use Rattle.fmp_reachable.proofs.RowLaws.{rows-told}
use Rattle.fmp_reachable.proofs.row_laws.rows_tell_what_is_alike.Goals as goal

pub returns : goal.returns
returns c sys s u a b r = rows-told sys s u a b r
