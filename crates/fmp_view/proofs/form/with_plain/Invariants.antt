use Rattle.std.proofs.Common.{◌≡◌, fold, map, take}
use Rattle.clap.specs.Words.{app_of}
use Rattle.fmp_arguments.specs.Forms.{app_of_form}
use Rattle.fmp_view.specs.Form.{with_command}
use Rattle.fmp_view.proofs.form.with_plain.Given as goal

abbrev pub invariant-loop-form : goal.invariant-loop-form
invariant-loop-form l = app_of l.program ≡
    fold with_command (app_of l.fn.program) (map (λ form. app_of_form form.now) (take l.form-index l.forms))
