use Rattle.std.proofs.Common.{◌≡◌, ◌+◌, ◌∙◌, ℕ, arith, subst, sym}
use Rattle.fmp_witness.proofs.OverLemmas.{Kernels}
use Rattle.fmp_explore.specs.Searching.{CanStep, HasTried, IsTrying, watched_in}
use Rattle.fmp_explore.proofs.SearchStepLemmas.{grows_on}
use Rattle.fmp_explore.proofs.searches.Search.try_from.Goals as goal
use Rattle.fmp_witness.specs.Asked.{asked_of}

pub try_at-requires-clause-trying : goal.try_at-requires-clause-trying
try_at-requires-clause-trying c =
    let asked = asked_of c.args.here.subject.now in
    let l = c.loop-place in
    subst (λ (k : Kernels). IsTrying asked k.world (watched_in asked.question c.args.here.at.now)
    l.marks l.place l.self) (sym l.invariant.same) l.invariant.tried.trying

pub loop-place-preserved : goal.loop-place-preserved
loop-place-preserved c =
    let asked = asked_of c.args.here.subject.now in
    let l = c.loop-place in
    let did = c.in_ok-try_at.ensures in
    let still = did.still c.if-branch.false in
    record {
      tried =
          record {
            trying =
                subst (λ (k : Kernels). IsTrying asked k.world
                (watched_in asked.question c.args.here.at.now) c.try_at.new.marks (l.place + 1) c.try_at.new.self)
                l.invariant.same did.trying;
            grows = grows_on c.args.self.now l.self c.try_at.new.self l.invariant.tried.grows did.grows;
          };
      ready = subst (λ (k : Kernels). CanStep asked k) (sym still) l.invariant.ready;
      same = still ∙ l.invariant.same;
    }

pub returns-then-branch-clause-tried : goal.returns-then-branch-clause-tried
returns-then-branch-clause-tried c =
    let asked = asked_of c.args.here.subject.now in
    let l = c.loop-place in
    let did = c.in_ok-try_at.ensures in
    record {
      trying =
          subst (λ (k : Kernels). IsTrying asked k.world
          (watched_in asked.question c.args.here.at.now) c.try_at.new.marks (l.place + 1) c.try_at.new.self)
          l.invariant.same did.trying;
      grows = grows_on c.args.self.now l.self c.try_at.new.self l.invariant.tried.grows did.grows;
    }

pub returns-clause-tried : goal.returns-clause-tried
returns-clause-tried c =
    let asked = asked_of c.args.here.subject.now in
    let l = c.loop-place in
    let last : l.place ≡ c.args.end = omega (arith, c.requires.first) in
    subst (λ (m : ℕ). HasTried asked c.args.kernel.now.world
    (watched_in asked.question c.args.here.at.now) l.marks c.args.self.now l.self m) last l.invariant.tried
