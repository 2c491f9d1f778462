use Rattle.std.proofs.Common.{◌∙◌, ◌≤◌, ◌^◌, arith, length}
use Rattle.std.proofs.lemmas.Result.{IfOk-weaker, err_from_is_err_and}
use Rattle.fmp_base.specs.Systems.{tables_of}
use Rattle.fmp_frames.proofs.DumpedRuns.{dump_of_run}
use Rattle.fmp_looking.proofs.commands.dump_on.Goals as goal

pub waved-requires : goal.waved-requires
waved-requires g c = record { few = c.requires.few }

pub returns-in_err-waves : goal.returns-in_err-waves
returns-in_err-waves g c =
    rw ((err_from_is_err_and c.from_residual.result c.from_residual.ensures.1).1) tt

pub returns : goal.returns
returns g c =
    let total = c.requires.few in
    let few : length c.args.events.now ≤ 2 ^ 31 = omega (arith, total) in
    IfOk-weaker c.finish.result _ _
    (λ text h. h
    ∙ dump_of_run (tables_of c.args.sys.now) g.B.Body.meaning g.T.Coming.reaction c.args.kernel.now c.args.events.now
    c.in_ok-waves.waves few c.in_ok-waves.ensures)
    c.finish.ensures
