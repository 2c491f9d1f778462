use Rattle.std.proofs.lemmas.Result.{IfOk-weaker}
use Rattle.fmp_searching.proofs.StuckLemmas.{seen_none}
use Rattle.fmp_searching.proofs.fresh.fresh_kernel.Goals as goal

pub returns : goal.returns
returns c =
    IfOk-weaker c.kernel_of.result _ _ (λ k h. seen_none c.args.image.now c.args.n k h) c.kernel_of.ensures
