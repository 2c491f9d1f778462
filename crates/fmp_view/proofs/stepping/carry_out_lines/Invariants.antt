use Rattle.fmp_session.specs.Sessions.{IsSession}
use Rattle.fmp_view.proofs.stepping.carry_out_lines.Given as goal

abbrev pub invariant-loop-number : goal.invariant-loop-number
invariant-loop-number g l = IsSession l.session
