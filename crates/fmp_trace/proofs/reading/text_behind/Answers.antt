use Rattle.std.proofs.lemmas.Bool.Decides.{Decides-eqb}
use Rattle.std.proofs.lemmas.Slice.Eq.{strip_prefix_is}
use Rattle.fmp_trace.proofs.Words.{behind_by}
use Rattle.fmp_trace.proofs.reading.text_behind.Goals as goal

pub returns : goal.returns
returns c =
    behind_by c.args.front.now c.args.text.now _ (strip_prefix_is Decides-eqb c.args.text.now c.args.front.now _
    c.strip_prefix.ensures.cases)
