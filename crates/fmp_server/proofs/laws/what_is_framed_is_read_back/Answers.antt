use Rattle.fmp_server.proofs.ReadBack.{read_back}
use Rattle.fmp_server.proofs.laws.what_is_framed_is_read_back.Goals as goal

pub returns : goal.returns
returns c = read_back
