use Rattle.fmp_cfgparse.proofs.Tables.{described_keeps}
use Rattle.fmp_cfgparse.proofs.laws.what_is_described_is_in_range.Goals as goal

pub returns : goal.returns
returns c = described_keeps
