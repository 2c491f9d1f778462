use Rattle.fmp_hostrun.proofs.Following.{front}
use Rattle.fmp_hostrun.proofs.follower.followed_text_is_front.Goals as goal

pub returns : goal.returns
returns c = front
