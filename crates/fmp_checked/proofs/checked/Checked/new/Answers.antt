use Rattle.fmp_checked.proofs.Steps.{begun}
use Rattle.fmp_checked.proofs.checked.Checked.new.Goals as goal

pub invariant_of-result : goal.invariant_of-result
invariant_of-result c =
    begun c.args.image c.args.bound c.in_ok-hosted.hosted c.in_ok-text.text c.in_ok-hosted.ensures.hosted
    c.in_ok-text.ensures
