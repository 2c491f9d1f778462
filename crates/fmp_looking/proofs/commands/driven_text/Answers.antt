use Rattle.std.proofs.Common.{ℕ, ◌∙◌, List, ap, arith, subst}
use Rattle.std.proofs.lemmas.Result.{err_from_is_err_and}
use Rattle.fmp_base.specs.declared.events.Event.{Event}
use Rattle.fmp_trace.specs.Steps.{steps_text}
use Rattle.fmp_looking.specs.Drives.{DrivesImage}
use Rattle.fmp_looking.proofs.commands.driven_text.Goals as goal

pub driven-requires : goal.driven-requires
driven-requires c = record { few = c.kept_events.ensures.few }

pub why_of-requires : goal.why_of-requires
why_of-requires c =
    rw c.deref-2.ensures.value (omega (arith, c.in_ok-drive.ensures.driven.driven.few, c.kept_events.ensures.few))

pub returns-in_err-drive : goal.returns-in_err-drive
returns-in_err-drive c = rw ((err_from_is_err_and c.from_residual.result c.from_residual.ensures.1).1) tt

pub returns-in_err-steps : goal.returns-in_err-steps
returns-in_err-steps c =
    rw ((err_from_is_err_and c.from_residual-in_err-steps.result c.from_residual-in_err-steps.ensures.1).1) tt

pub returns-in_err-why : goal.returns-in_err-why
returns-in_err-why c =
    rw ((err_from_is_err_and c.from_residual-in_err-why.result c.from_residual-in_err-why.ensures.1).1) tt

pub returns : goal.returns
returns c =
    let drive = c.in_ok-drive.drive in
    record {
      drive = drive;
      driven =
          subst (λ (most : ℕ). DrivesImage c.args.image.now c.args.driving.bound most c.args.driving.seed drive)
          c.kept_events.ensures.kept c.in_ok-drive.ensures;
      steps = c.in_ok-steps.ensures ∙ ap (λ (es : List Event). steps_text es) c.deref.ensures.value;
      ends = c.ending_of-ending.ensures;
    }
