use Rattle.std.proofs.Common.{IsTrue, rules}
use Rattle.std.proofs.lemmas.List.Elements.{All-push}
use Rattle.fmp_witness.specs.Asked.{asked_of}
use Rattle.fmp_witness.specs.Findings.{IsFound}
use Rattle.fmp_explore.proofs.finding.add_if_stuck.Goals as goal

pub returns : goal.returns
returns g c =
    let asked = asked_of c.args.subject.now in
    let yes : IsTrue c.in_ok-found.found = search rules in
    rw c.in_ok-add.ensures.ok
    (All-push (IsFound asked.image asked.bound asked.question) c.args.findings.now.items c.args.finding
    c.requires.found (c.in_ok-found.ensures yes))
