use Rattle.fmp_server.proofs.Order.{in_order}
use Rattle.fmp_server.proofs.completion.write_of_source.Goals as goal

pub write_variables-requires : goal.write_variables-requires
write_variables-requires c = in_order _ _ c.in_ok-src.ensures
