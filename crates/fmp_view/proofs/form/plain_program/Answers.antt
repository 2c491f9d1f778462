use Rattle.std.proofs.Common.{◌∙◌, IfOk, ap, ap₂, fold, refl}
use Rattle.std.proofs.lemmas.Result.{IfOk-weaker}
use Rattle.clap.specs.Words.{App, app_of}
use Rattle.fmp_view.specs.Form.{bare, import, with_command}
use Rattle.fmp_view.proofs.FormLemmas.{no_globals}
use Rattle.fmp_view.proofs.form.plain_program.Goals as goal

pub returns : goal.returns
returns c =
    IfOk-weaker c.subcommand.result _ _ (λ whole adds. (
      c.forms.ensures.0,
      c.forms.ensures.1,
      adds.shape (no_globals _ _ c.in_ok-import_command.ensures refl)
          ∙ ap₂ (λ (a b : App). with_command a b)
          (c.in_ok-program.ensures ∙ ap₂ (fold with_command) c.bare.ensures c.forms.ensures.2)
          c.in_ok-import_command.ensures,
    )) c.subcommand.ensures
