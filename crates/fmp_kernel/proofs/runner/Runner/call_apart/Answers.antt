use Rattle.std.proofs.Common.{◌∙◌}
use Rattle.fmp_base.specs.declared.states.Caller.TheVariants as caller
use Rattle.fmp_base.specs.Stretches as ends
use Rattle.fmp_kernel.proofs.StopLemmas.{done_free}
use Rattle.fmp_kernel.proofs.runner.Runner.call_apart.Goals as goal

pub returns : goal.returns
returns g c =
    let r = c.args.self.now in
    let x = ends.Call c.args.context c.args.made in
    let made = rw (c.await_reply.ensures) at c.make_call.ensures in
    record {
      effect = made.effect;
      after = made.after
          ∙ done_free (g.B.Body.meaning r.body) r c.args.p (caller.Task c.args.t) x tt c.requires.free;
      bodies = record { body = made.bodies.body; bound = made.bodies.bound; system = made.bodies.system };
      clock = made.clock;
    }
