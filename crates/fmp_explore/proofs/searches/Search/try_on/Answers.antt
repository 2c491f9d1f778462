use Rattle.std.proofs.Common.{IfOk, subst, sym}
use Rattle.fmp_explore.specs.Searching.{CanStep, HasTried, IsTrying, watched_in}
use Rattle.fmp_witness.proofs.OverLemmas.{Kernels, same_body, same_bound, same_system}
use Rattle.fmp_explore.proofs.searches.Search.try_on.Goals as goal
use Rattle.fmp_witness.specs.Asked.{asked_of}

pub put_back-requires-clause-body : goal.put_back-requires-clause-body
put_back-requires-clause-body c =
    let s = c.args.here.subject.now in
    same_body s.image.now s.n c.args.kernel.now c.args.from.now c.requires.over c.requires.ready.over

pub put_back-requires-clause-bound : goal.put_back-requires-clause-bound
put_back-requires-clause-bound c =
    let s = c.args.here.subject.now in
    same_bound s.image.now s.n c.args.kernel.now c.args.from.now c.requires.over c.requires.ready.over

pub put_back-requires-clause-system : goal.put_back-requires-clause-system
put_back-requires-clause-system c =
    let s = c.args.here.subject.now in
    same_system s.image.now s.n c.args.kernel.now c.args.from.now c.requires.over c.requires.ready.over

pub try_from-requires-clause-ready : goal.try_from-requires-clause-ready
try_from-requires-clause-ready c =
    let asked = asked_of c.args.here.subject.now in
    subst (λ (k : Kernels). CanStep asked k) (sym c.put_back.ensures) c.requires.ready

pub try_from-requires-clause-trying : goal.try_from-requires-clause-trying
try_from-requires-clause-trying c =
    let asked = asked_of c.args.here.subject.now in
    subst (λ (k : Kernels). IsTrying asked k.world
    (watched_in asked.question c.args.here.at.now) c.args.marks.now c.args.first c.args.self.now) (sym
    c.put_back.ensures)
    c.requires.trying

pub returns-clause-tried : goal.returns-clause-tried
returns-clause-tried c =
    let asked = asked_of c.args.here.subject.now in
    subst (λ (k : Kernels). IfOk c.try_from.result (HasTried asked k.world
    (watched_in asked.question c.args.here.at.now) c.try_from.new.marks c.args.self.now c.try_from.new.self))
    c.put_back.ensures c.try_from.ensures.tried
