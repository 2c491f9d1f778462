use Rattle.std.proofs.Common.{List, [], subst}
use Rattle.fmp_base.specs.declared.events.Event.{Event}
use Rattle.fmp_instructions.specs.Machine.{code_meaning}
use Rattle.fmp_kernel.specs.Comings.{reaction_of}
use Rattle.fmp_replay.specs.Replays.{kernel_after}
use Rattle.fmp_looking.specs.Looks.{ShowsBroken}
use Rattle.fmp_looking.proofs.reporting.printed_test.Goals as goal

pub returns-clause-report : goal.returns-clause-report
returns-clause-report c =
    subst
    (λ (es : List Event). ShowsBroken (reaction_of code_meaning)
    (kernel_after c.args.opened.now.image.now c.args.opened.now.bound []) es c.args.expectations.now.name.now
    c.args.expectations.now.text.now c.args.trial.run.broken c.in_ok-report.report.items)
    c.deref-2.ensures.value c.in_ok-report.ensures
