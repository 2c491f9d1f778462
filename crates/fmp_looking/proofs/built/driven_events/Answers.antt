use Rattle.std.proofs.Common.{ℕ, Some, ap, arith, refl, subst}
use Rattle.std.proofs.lemmas.Result.{err_from_is_err_and}
use Rattle.fmp_looking.specs.declared.commands.DriveEnding.{DriveEnding}
use Rattle.fmp_looking.specs.Drives.{DrivesImage}
use Rattle.fmp_looking.proofs.built.driven_events.Goals as goal

pub driven-requires : goal.driven-requires
driven-requires c = record { few = c.kept_events.ensures.few }

pub returns-in_err-drive-clause-drive : goal.returns-in_err-drive-clause-drive
returns-in_err-drive-clause-drive c =
    rw ((err_from_is_err_and c.from_residual.result c.from_residual.ensures.1).1) tt

pub returns-in_err-drive-clause-few : goal.returns-in_err-drive-clause-few
returns-in_err-drive-clause-few c =
    rw ((err_from_is_err_and c.from_residual.result c.from_residual.ensures.1).1) tt

pub returns-clause-drive : goal.returns-clause-drive
returns-clause-drive c =
    let drive = c.in_ok-drive.drive in
    record {
      drive = drive;
      driven =
          subst (λ (most : ℕ). DrivesImage c.args.image.now c.args.run.bound most c.args.run.seed drive)
          c.kept_events.ensures.kept c.in_ok-drive.ensures;
      events = refl;
      ends = ap (λ (e : DriveEnding). Some e) c.ending_of-ending.ensures;
    }

pub returns-clause-few : goal.returns-clause-few
returns-clause-few c = omega (arith, c.in_ok-drive.ensures.driven.driven.few, c.kept_events.ensures.few)
