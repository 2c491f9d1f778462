use Rattle.std.proofs.Common.{arith}
use Rattle.fmp_searching.proofs.Grammar.{parts_split}
use Rattle.fmp_searching.proofs.words.parts_at_colon.Goals as goal

pub returns : goal.returns
returns c = parts_split 58 _ _ (omega arith) c.split_once.ensures.cases
