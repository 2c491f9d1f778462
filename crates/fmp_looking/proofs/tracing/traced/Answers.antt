use Rattle.std.proofs.Common.{subst}
use Rattle.std.proofs.lemmas.Result.{err_from_is_err_and}
use Rattle.fmp_base.specs.Systems.{tables_of}
use Rattle.fmp_frames.specs.Frames.{FrameTable}
use Rattle.fmp_looking.specs.Traces.{IsBegun}
use Rattle.fmp_looking.proofs.tracing.traced.Goals as goal

pub show_all-requires : goal.show_all-requires
show_all-requires g c = record { few = c.requires.few }

pub returns-in_err-setup : goal.returns-in_err-setup
returns-in_err-setup g c =
    rw ((err_from_is_err_and c.from_residual.result c.from_residual.ensures.1).1) tt

pub returns-in_err-tracer : goal.returns-in_err-tracer
returns-in_err-tracer g c =
    rw ((err_from_is_err_and c.from_residual-in_err-tracer.result c.from_residual-in_err-tracer.ensures.1).1) tt

pub returns-in_err-show_all : goal.returns-in_err-show_all
returns-in_err-show_all g c =
    rw ((err_from_is_err_and c.from_residual-in_err-show_all.result c.from_residual-in_err-show_all.ensures.1).1) tt

pub returns : goal.returns
returns g c =
    record {
      first = c.in_ok-tracer.tracer;
      begins = subst
          (λ (f : FrameTable). IsBegun c.args.printing.form (tables_of c.args.printing.sys.now)
          c.args.printing.positions.now c.in_ok-tracer.tracer f)
          c.in_ok-setup.ensures c.in_ok-tracer.ensures;
      frames = c.in_ok-show_all.ensures.shown;
    }
