use Rattle.std.proofs.Common.{◌≡◌, ◌-◌, ℕ, arith}
use Rattle.fmp_looking.specs.Covered.{IsRunOf, seen_at}
use Rattle.fmp_looking.proofs.TrialRuns.{as_many, trials_seen}
use Rattle.fmp_looking.proofs.trying_beside.seen_of_trials.Goals as goal

all : (n : ℕ) → n - 0 ≡ n
all n = omega arith

pub returns : goal.returns
returns g c =
    let trials = c.args.trials.now in
    let positions = c.in_ok-positions.positions in
    let seen = seen_at positions c.in_ok-seen.seen in
    rw c.new-2.ensures
    (trials_seen (IsRunOf trials) c.args.src.now positions trials.opened.image.now trials.opened.bound c.args.last seen
    c.in_ok-positions.ensures
    (as_many (IsRunOf trials) positions trials.opened.image.now trials.opened.bound 0 _ c.args.last seen
    (all c.args.last) c.in_ok-seen.ensures))
