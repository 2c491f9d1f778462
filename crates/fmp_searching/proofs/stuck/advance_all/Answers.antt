use Rattle.std.proofs.Common.{arith, ◌∙◌}
use Rattle.std.proofs.lemmas.List.{length-take}
use Rattle.fmp_searching.proofs.StuckLemmas.{seen_more}
use Rattle.fmp_searching.proofs.stuck.advance_all.Goals as goal

pub loop-e-preserved : goal.loop-e-preserved
loop-e-preserved c = record {
  body = c.advance-effect.ensures.body ∙ c.loop-e.invariant.body;
  seen = λ few.
      let seen = c.loop-e.invariant.seen few in
      let taken = length-take c.loop-e.e-index c.args.events.now in
      seen_more c.args.image.now c.args.n c.args.events.now c.loop-e.e-index _ c.loop-e.kernel
      c.advance-effect.new.kernel c.loop-e-test.true seen
      (c.advance-effect.ensures.taken (omega (arith, few, seen.taken, taken, c.loop-e-test.true)));
}
