use Rattle.std.proofs.Common.{◌∙◌, ap}
use Rattle.fmp_base.specs.Meanings.{context_of}
use Rattle.fmp_base.specs.Steps.{effect_of}
use Rattle.fmp_kernel.specs.KernelViews.{done_of, done_or, stretch_in, with_stretch}
use Rattle.fmp_kernel.proofs.StopLemmas.{done_free, runs_as, stops_so}
use Rattle.fmp_kernel.proofs.runner.Runner.make_stretch.Goals as goal

pub returns : goal.returns
returns g c =
    let r = c.args.self.now in
    let M = g.B.Body.meaning r.body in
    let x = stretch_in g.B.Body.meaning r c.args.p c.args.who in
    let made = rw (c.go_on-stop.ensures.kept, c.go_on-stop.ensures.stop) at c.carry_out_stop.ensures in
    record {
      effect = made.effect ∙ ap effect_of (stops_so M r c.args.p c.args.who x c.go_on-stop.ensures.hands_over
          ∙ runs_as r.system M r.bound r.world c.args.p c.args.who (context_of r.world.contexts c.args.p c.args.who));
      after = made.after
          ∙ ap (done_or (done_of (with_stretch r c.args.p c.args.who x))) (stops_so M r c.args.p c.args.who x
          c.go_on-stop.ensures.hands_over)
          ∙ done_free M r c.args.p c.args.who x c.go_on-stop.ensures.hands_over c.requires.free
          ∙ ap (done_or (done_of r)) (runs_as r.system M r.bound r.world c.args.p c.args.who
          (context_of r.world.contexts c.args.p c.args.who));
      bodies = record { body = made.bodies.body; bound = made.bodies.bound; system = made.bodies.system };
      clock = made.clock;
    }
