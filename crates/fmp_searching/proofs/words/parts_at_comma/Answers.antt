use Rattle.std.proofs.Common.{arith}
use Rattle.fmp_searching.proofs.Grammar.{parts_split}
use Rattle.fmp_searching.proofs.words.parts_at_comma.Goals as goal

pub returns : goal.returns
returns c = parts_split 44 _ _ (omega arith) c.split_once.ensures.cases
