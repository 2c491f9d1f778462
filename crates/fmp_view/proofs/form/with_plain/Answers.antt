use Rattle.std.proofs.Common.{refl}
use Rattle.fmp_arguments.specs.Forms.{app_of_form}
use Rattle.fmp_view.proofs.FormLemmas.{command_more, no_globals}
use Rattle.fmp_view.proofs.form.with_plain.Goals as goal

pub loop-form-preserved : goal.loop-form-preserved
loop-form-preserved c =
    command_more (λ form. app_of_form form.now) _ _ _ c.args.forms.now c.loop-form.form-index _ _ c.loop-form-test.true
    c.loop-form.invariant c.in_ok-plain_command_of.ensures
    (c.in_ok-program.ensures.shape (no_globals _ _ c.in_ok-plain_command_of.ensures refl))
