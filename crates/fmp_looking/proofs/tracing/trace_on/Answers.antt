use Rattle.std.proofs.lemmas.Result.{IfOk-weaker, err_from_is_err_and}
use Rattle.fmp_looking.proofs.tracing.trace_on.Goals as goal

pub traced-requires : goal.traced-requires
traced-requires g c = record { few = c.requires.few }

pub returns-in_err-tracer : goal.returns-in_err-tracer
returns-in_err-tracer g c =
    rw ((err_from_is_err_and c.from_residual.result c.from_residual.ensures.1).1) tt

pub returns : goal.returns
returns g c =
    IfOk-weaker c.finish.result _ _ (λ out h. record {
      last = c.in_ok-tracer.tracer;
      shown = c.in_ok-tracer.ensures;
      whole = h;
    }) c.finish.ensures
