use Rattle.std.proofs.lemmas.Bool.Decides.{Decides-eqb}
use Rattle.std.proofs.lemmas.Slice.Eq.{strip_prefix_is}
use Rattle.fmp_expect.proofs.Fronts.{after_front_by}
use Rattle.fmp_expect.proofs.named.text_after.Goals as goal

pub returns : goal.returns
returns c =
    after_front_by c.args.front.now c.args.text.now _ (strip_prefix_is Decides-eqb c.args.text.now c.args.front.now _
    c.strip_prefix.ensures.cases)
