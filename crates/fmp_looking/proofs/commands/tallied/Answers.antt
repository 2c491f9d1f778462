use Rattle.std.proofs.Common.{◌∙◌, ap}
use Rattle.std.proofs.lemmas.Result.{err_from_is_err_and}
use Rattle.fmp_frames.specs.Frames.{FrameTable}
use Rattle.fmp_frames.specs.Counting.{first_counts}
use Rattle.fmp_looking.proofs.commands.tallied.Goals as goal

pub show_all-requires : goal.show_all-requires
show_all-requires g c = record { few = c.requires.few }

pub returns-in_err-setup : goal.returns-in_err-setup
returns-in_err-setup g c =
    rw ((err_from_is_err_and c.from_residual.result c.from_residual.ensures.1).1) tt

pub returns-in_err-tallies : goal.returns-in_err-tallies
returns-in_err-tallies g c =
    rw ((err_from_is_err_and c.from_residual-in_err-tallies.result c.from_residual-in_err-tallies.ensures.1).1) tt

pub returns-in_err-show_all : goal.returns-in_err-show_all
returns-in_err-show_all g c =
    rw ((err_from_is_err_and c.from_residual-in_err-show_all.result c.from_residual-in_err-show_all.ensures.1).1) tt

pub returns : goal.returns
returns g c =
    record {
      first = c.in_ok-tallies.tallies;
      begins = c.in_ok-tallies.ensures ∙ ap (λ (f : FrameTable). first_counts f) c.in_ok-setup.ensures;
      frames = c.in_ok-show_all.ensures.shown;
    }
