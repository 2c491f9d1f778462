use Rattle.fmp_server.proofs.Feeding.{fed_append}
use Rattle.fmp_server.proofs.laws.parts_are_read_as_the_whole.Goals as goal

pub returns : goal.returns
returns c = fed_append
