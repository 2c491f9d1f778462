use Rattle.std.proofs.Common.{◌∙◌, ap}
use Rattle.fmp_expect.specs.Meaning.{first_broken}
use Rattle.fmp_expect.specs.Runs.{run_told}
use Rattle.fmp_trials.specs.Verdicts.{states_in}
use Rattle.fmp_looking.proofs.expecting.verdict_on.Goals as goal

pub tell_run-requires : goal.tell_run-requires
tell_run-requires g c = c.requires

pub returns-clause-broken : goal.returns-clause-broken
returns-clause-broken g c =
    let xs = c.args.expected.now in
    let told = run_told g.T.Coming.reaction c.args.kernel.now c.args.events.now in
    c.in_ok-broken.ensures xs told (c.tell_run.ensures.told xs c.in_ok-checker.ensures)
    ∙ ap (λ v. first_broken xs told (states_in v) v.done) c.tell_run.ensures.state

pub returns-clause-empty : goal.returns-clause-empty
returns-clause-empty g c =
    let xs = c.args.expected.now in
    let told = run_told g.T.Coming.reaction c.args.kernel.now c.args.events.now in
    c.in_ok-empty.ensures xs told (c.tell_run.ensures.told xs c.in_ok-checker.ensures)
