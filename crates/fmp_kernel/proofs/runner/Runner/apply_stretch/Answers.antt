use Rattle.std.proofs.Common.{◌∙◌, ap}
use Rattle.fmp_base.specs.Meanings.{context_of}
use Rattle.fmp_base.specs.Steps.{effect_of}
use Rattle.fmp_base.specs.Stretches.{ending}
use Rattle.fmp_kernel.specs.KernelViews.{done_of, done_or, with_stretch}
use Rattle.fmp_kernel.proofs.StopLemmas.{applies_as, done_free, ending_hands, stops_so}
use Rattle.fmp_kernel.proofs.runner.Runner.apply_stretch.Goals as goal

pub returns-in_default : goal.returns-in_default
returns-in_default g c =
    let r = c.args.self.now in
    let M = g.B.Body.meaning r.body in
    let x = ending c.args.stretch in
    let hands = ending_hands c.args.stretch in
    let made = rw (c.take-stop.ensures.kept, c.take-stop.ensures.stop) at c.carry_out_stop.ensures in
    record {
      effect = made.effect ∙ ap effect_of (stops_so M r c.args.p c.args.who x (ending_hands c.args.stretch)
          ∙ applies_as r.system M r.world c.args.p c.args.who (context_of r.world.contexts c.args.p c.args.who) x
          c.requires.goes);
      after = made.after
          ∙ ap (done_or (done_of (with_stretch r c.args.p c.args.who x))) (stops_so M r c.args.p c.args.who x hands)
          ∙ done_free M r c.args.p c.args.who x hands c.requires.free
          ∙ ap (done_or (done_of r)) (applies_as r.system M r.world c.args.p c.args.who
          (context_of r.world.contexts c.args.p c.args.who) x c.requires.goes);
      bodies = record { body = made.bodies.body; bound = made.bodies.bound; system = made.bodies.system };
      clock = made.clock;
    }
