use Rattle.std.proofs.Common.{subst}
use Rattle.std.proofs.lemmas.Result.{err_from_is_err_and}
use Rattle.fmp_base.specs.Systems.{tables_of}
use Rattle.fmp_frames.specs.DumpedRuns.{IsBegun}
use Rattle.fmp_frames.specs.Frames.{FrameTable}
use Rattle.fmp_looking.proofs.commands.waved.Goals as goal

pub show_all-requires : goal.show_all-requires
show_all-requires g c = record { few = c.requires.few }

pub returns-in_err-setup : goal.returns-in_err-setup
returns-in_err-setup g c =
    rw ((err_from_is_err_and c.from_residual.result c.from_residual.ensures.1).1) tt

pub returns-in_err-waves : goal.returns-in_err-waves
returns-in_err-waves g c =
    rw ((err_from_is_err_and c.from_residual-in_err-waves.result c.from_residual-in_err-waves.ensures.1).1) tt

pub returns-in_err-show_all : goal.returns-in_err-show_all
returns-in_err-show_all g c =
    rw ((err_from_is_err_and c.from_residual-in_err-show_all.result c.from_residual-in_err-show_all.ensures.1).1) tt

pub returns : goal.returns
returns g c =
    record {
      first = c.in_ok-waves.waves;
      begins = subst (λ (f : FrameTable). IsBegun (tables_of c.args.sys.now) f c.in_ok-waves.waves)
          c.in_ok-setup.ensures c.in_ok-waves.ensures;
      frames = c.in_ok-show_all.ensures.shown;
    }
