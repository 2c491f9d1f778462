use Rattle.fmp_view.proofs.RunEnds.{runs_command}
use Rattle.fmp_view.proofs.running.carry_out_with_settings.Goals as goal

pub returns-in-None : goal.returns-in-None
returns-in-None g c = λ typed entered done.
    runs_command _ typed _ _ _ _ entered (c.carry_out.ensures.entered done) (record {
      explore = c.carry_out.ensures.explore;
      explores = c.carry_out.ensures.explores;
      diff = c.carry_out.ensures.diff;
      why = c.carry_out.ensures.why;
      expect = c.carry_out.ensures.expect;
      tests = c.carry_out.ensures.tests;
    })
