use Rattle.std.proofs.Common.{◌≤◌, List, ap, arith, length}
use Rattle.fmp_base.specs.declared.events.Event.{Event}
use Rattle.fmp_schedules.specs.Tries.{all_tries}
use Rattle.fmp_explore.proofs.SearchStepLemmas.{same_grows}
use Rattle.fmp_explore.proofs.TryingLemmas.{fewer_of}
use Rattle.fmp_explore.proofs.searches.Search.try_last.Goals as goal
use Rattle.fmp_witness.specs.Asked.{asked_of}

pub returns-then-last-end-clause-tried : goal.returns-then-last-end-clause-tried
returns-then-last-end-clause-tried c =
    let asked = asked_of c.args.here.subject.now in
    let a = c.args.self.now in
    let same = ap (λ (es : List Event). length es) c.requires.trying.search.table.tries in
    let long = a.tries.ok.0 in
    let all : length (all_tries asked.image.system) ≤ c.args.last = omega (arith, same, long, c.if-last-end.true) in
    fewer_of asked c.args.from.now.world _ a a c.args.marks c.args.last (length (all_tries asked.image.system)) all
    (record { trying = c.requires.trying; grows = same_grows a })

pub returns-clause-tried : goal.returns-clause-tried
returns-clause-tried c =
    let asked = asked_of c.args.here.subject.now in
    let a = c.args.self.now in
    let same = ap (λ (es : List Event). length es) c.requires.trying.search.table.tries in
    let long = a.tries.ok.0 in
    let next = c.in_ok-_next in
    let all : length (all_tries asked.image.system) ≤ next._next =
    omega (arith, same, long, c.requires.last, next.ensures.above) in
    fewer_of asked c.args.from.now.world _ a c.try_on.new.self c.try_on.new.marks next._next
    (length (all_tries asked.image.system)) all next.ensures.tried
