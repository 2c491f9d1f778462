use Rattle.std.proofs.Common.{◌≡◌, ◌∙◌, Option, ap}
use Rattle.fmp_expect.specs.declared.checker.BrokenExpectation.{BrokenExpectation}
use Rattle.fmp_expect.specs.Meaning.{first_broken}
use Rattle.fmp_expect.specs.Runs.{run_told}
use Rattle.fmp_trials.specs.Verdicts.{IsVerdictAtEnd, states_in, verdict}
use Rattle.fmp_trials.proofs.Besides.{beside_each, beside_itself, beside_same}
use Rattle.fmp_trials.proofs.States.{if_ok_so}
use Rattle.fmp_trials.proofs.verdict.run_verdict.Goals as goal

pub tell_run-requires : goal.tell_run-requires
tell_run-requires g c = c.requires

pub returns-in_err-checker-clause-beside : goal.returns-in_err-checker-clause-beside
returns-in_err-checker-clause-beside g c = beside_itself c.args.kernel.now

pub returns-clause-verdict : goal.returns-clause-verdict
returns-clause-verdict g c =
    let xs = c.args.expected.now in
    let told = run_told g.T.Coming.reaction c.args.kernel.now c.args.events.now in
    if_ok_so c.verdict_at_end.result (IsVerdictAtEnd c.tell_run.new.kernel c.tell_run.new.checker)
    (λ (b : Option BrokenExpectation). b ≡ verdict g.T.Coming.reaction c.args.kernel.now c.args.events.now xs)
    (λ b is.
    is xs told (c.tell_run.ensures.told xs c.in_ok-checker.ensures)
    ∙ ap (λ v. first_broken xs told (states_in v) v.done) c.tell_run.ensures.state)
    c.verdict_at_end.ensures

pub returns-clause-beside : goal.returns-clause-beside
returns-clause-beside g c =
    beside_same c.args.kernel.now _ c.tell_run.new.kernel
    (beside_each g.T.Coming.reaction c.args.kernel.now c.args.events.now) c.tell_run.ensures.state
