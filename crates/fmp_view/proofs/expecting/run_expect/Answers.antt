use Rattle.std.proofs.Common.{is_some}
use Rattle.fmp_view.proofs.expecting.run_expect.Goals as goal

pub returns-in-Ok : goal.returns-in-Ok
returns-in-Ok g c = λ done.
    record {
      apart = c.overwrites_input.ensures c.if-overwrites_input.false;
      fails = is_some c.in-Ok.failure;
      is = c.in-Ok.ensures;
      shows = c.show_judged.ensures done;
    }
