use Rattle.std.proofs.Common.{◌∙◌, ℕ, List, [], ap, subst, sym}
use Rattle.fmp_expect.specs.declared.expectation.Expected.{Expected}
use Rattle.fmp_image_bytes.specs.Images.{ImageTables}
use Rattle.fmp_instructions.specs.Machine.{code_meaning}
use Rattle.fmp_kernel.specs.Comings.{reaction_of}
use Rattle.fmp_replay.specs.Replays.{kernel_after}
use Rattle.fmp_trials.specs.Drawn.{any_of_end}
use Rattle.fmp_looking.specs.Looks.{ShowsBroken}
use Rattle.fmp_looking.specs.Tested.{plan_in}
use Rattle.fmp_looking.proofs.Failed.{have_met, is_failed}
use Rattle.fmp_looking.proofs.reporting.tested.Goals as goal

pub failed_test-requires : goal.failed_test-requires
failed_test-requires g c =
    let found = rw c.in-Some.is at c.in_ok-found.ensures.found in
    found.shortened.fails.few

pub returns-in-Some-clause-failed : goal.returns-in-Some-clause-failed
returns-in-Some-clause-failed g c =
    let run = c.in-Some.trial.run in
    let report = c.in_ok-failed-in-Some.failed.report.items in
    is_failed c.args.test.now.image.now c.args.test.now.testing.bound (plan_in c.args.test.now)
    c.args.test.now.testing.seeds c.args.src.now c.args.expectations.now.name.now c.args.expectations.now.text.now _
    c.in_ok-sentences.sentences c.deref-2.result.now c.deref-3.result.now c.in-Some.trial
    c.in_ok-failed-in-Some.failed c.in_ok-sentences.ensures c.deref-2.ensures.value c.deref-3.ensures.value
    (rw c.in-Some.is at c.in_ok-found.ensures.found) c.in_ok-failed-in-Some.ensures.trial
    c.in_ok-failed-in-Some.ensures.steps
    (subst
    (λ (i : ImageTables). ShowsBroken (reaction_of code_meaning) (kernel_after i c.args.test.now.testing.bound [])
    run.steps.items c.args.expectations.now.name.now c.args.expectations.now.text.now run.broken report)
    c.new-opened.ensures.image
    (subst
    (λ (n : ℕ). ShowsBroken (reaction_of code_meaning) (kernel_after c.new-opened.result.image.now n [])
    run.steps.items c.args.expectations.now.name.now c.args.expectations.now.text.now run.broken report)
    c.new-opened.ensures.bound c.in_ok-failed-in-Some.ensures.report))

pub returns-clause-met : goal.returns-clause-met
returns-clause-met g c =
    let none =
    ap (λ (xs : List Expected). any_of_end xs) (c.deref-2.ensures.value ∙ sym c.deref.ensures.value)
    ∙ c.in_ok-refuse_ends.ensures in
    have_met c.args.test.now.image.now c.args.test.now.testing.bound (plan_in c.args.test.now)
    c.args.test.now.testing.seeds c.args.src.now
    c.args.expectations.now.text.now _ c.in_ok-sentences.sentences c.deref-2.result.now c.deref-3.result.now
    c.in_ok-sentences.ensures c.deref-2.ensures.value c.deref-3.ensures.value
    (rw c.in-None.is at (c.in_ok-found.ensures.met none))
