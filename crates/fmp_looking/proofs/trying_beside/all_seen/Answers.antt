use Rattle.std.proofs.Common.{◌≡◌, ◌-◌, ◌<◌, ◌≤◌, ℕ, ap, arith, sym}
use Rattle.fmp_trials.specs.Parts.{edge}
use Rattle.fmp_looking.specs.Covered.{IsRunOf, seen_at}
use Rattle.fmp_looking.proofs.SeenLemmas.{after_parts, before_parts, with_part}
use Rattle.fmp_looking.proofs.TrialRuns.{as_many}
use Rattle.fmp_looking.proofs.trying_beside.all_seen.Goals as goal

pub loop-k-init : goal.loop-k-init
loop-k-init c =
    λ t positions i n seeds jobs some order parts.
    before_parts i n (IsRunOf t) positions seeds jobs (seen_at positions c.none-seen.result)
    (c.none-seen.ensures positions)

within : (k m n : ℕ) → k < m → m ≡ n → k < n
within k m n before is = rw (sym is) before

pub loop-k-preserved : goal.loop-k-preserved
loop-k-preserved c =
    λ t positions i n seeds jobs some order parts.
    with_part i n (IsRunOf t) positions seeds jobs c.loop-k.k c.loop-k.seen c.in_ok-seen.seen
    c.index-parts-k.result order (c.loop-k.invariant t positions i n seeds jobs some order parts)
    (rw c.index-parts-k.is (parts.1 c.loop-k.k c.index-parts-k.result (within _ _ _ c.loop-k-test.true parts.0)))
    c.in_ok-seen.ensures

all : (k end jobs : ℕ) → end ≤ k → k ≤ end → end ≡ jobs → k ≡ jobs
all k end jobs after before is = omega (arith, after, before, is)

pub returns : goal.returns
returns c =
    λ t positions i n seeds jobs some order parts.
    let is : c.loop-k.k ≡ jobs = all _ _ _ c.loop-k-test.false c.loop-k.auto.k-end parts.0 in
    after_parts i n (IsRunOf t) positions seeds jobs (seen_at positions c.loop-k.seen) some
    (as_many (IsRunOf t) positions i n seeds.before _ _ (seen_at positions c.loop-k.seen)
    (ap (λ (k : ℕ). edge seeds jobs k - seeds.before) is)
    (c.loop-k.invariant t positions i n seeds jobs some order parts))
