use Rattle.std.proofs.Common.{map, refl}
use Rattle.fmp.proofs.Performing.{check_cut, sim_cut, sim_given, stored_cut, text_read}
use Rattle.fmp.proofs.perform.perform_into.Goals as goal

pub returns-in-Check-clause-err : goal.returns-in-Check-clause-err
returns-in-Check-clause-err g c =
    let xs = c.args.inputs.now in
    check_cut g.T.Outlet.gave g.T.Outlet.stopped _ _ c.checked.result c.args.cmd.now (map (λ s. s.now) xs) _ _
    (text_read (λ s. s.now) xs 0 _ refl) (text_read (λ s. s.now) xs 1 _ refl) c.in-Check.config c.in-Check.tasks
    c.in-Check.is c.checked.ensures.err

pub returns-in-Sim-clause-ok : goal.returns-in-Sim-clause-ok
returns-in-Sim-clause-ok g c =
    let xs = c.args.inputs.now in
    sim_given g.T.Outlet.gave g.T.Outlet.stopped _ _ c.simulated.result c.args.cmd.now (map (λ s. s.now) xs) _ _
    (text_read (λ s. s.now) xs 0 _ refl) (text_read (λ s. s.now) xs 1 _ refl) c.in-Sim.image c.in-Sim.steps
    c.in-Sim.bound c.in-Sim.is
    c.simulated.ensures.ok

pub returns-in-Sim-clause-err : goal.returns-in-Sim-clause-err
returns-in-Sim-clause-err g c =
    let xs = c.args.inputs.now in
    sim_cut g.T.Outlet.gave g.T.Outlet.stopped _ _ c.simulated.result c.args.cmd.now (map (λ s. s.now) xs) _ _
    (text_read (λ s. s.now) xs 0 _ refl) (text_read (λ s. s.now) xs 1 _ refl) c.in-Sim.image c.in-Sim.steps
    c.in-Sim.bound c.in-Sim.is
    c.simulated.ensures.err

pub returns-in-Stored-clause-err : goal.returns-in-Stored-clause-err
returns-in-Stored-clause-err g c =
    let xs = c.args.inputs.now in
    stored_cut g.T.Outlet.gave g.T.Outlet.stopped _ _ c.built_and_run.result c.args.cmd.now (map (λ s. s.now) xs) _ _ _
    c.as_bytes.ensures.value c.as_bytes-in-Stored.ensures.value c.as_bytes-in-Stored-2.ensures.value c.in-Stored.is
    c.built_and_run.ensures.err
