use Rattle.fmp_session.specs.Sessions.{IsSession}
use Rattle.fmp_view.specs.Stepped.{GoesOn}
use Rattle.fmp_view.proofs.session_until.take_next.Given as goal

abbrev pub invariant-loop-place : goal.invariant-loop-place
invariant-loop-place l = record {
  session : IsSession l.session;
  goes : GoesOn l.fn.session l.session;
}
