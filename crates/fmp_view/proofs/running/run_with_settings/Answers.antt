use Rattle.std.proofs.Common.{inr}
use Rattle.fmp_view.proofs.RunEnds.{ends_alone, runs_command}
use Rattle.fmp_view.proofs.running.run_with_settings.Goals as goal

pub returns-in-Ok-None : goal.returns-in-Ok-None
returns-in-Ok-None g c = λ done.
    ends_alone _ _ _ _ _ (inr (runs_command _ _ _ _ _ _ c.requires (c.carry_out.ensures.entered done) (record {
      explore = c.carry_out.ensures.explore;
      explores = c.carry_out.ensures.explores;
      diff = c.carry_out.ensures.diff;
      why = c.carry_out.ensures.why;
      expect = c.carry_out.ensures.expect;
      tests = c.carry_out.ensures.tests;
    })))
