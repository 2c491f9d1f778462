use Rattle.fmp_session.specs.Sessions.{IsSession}
use Rattle.fmp_view.specs.Stepped.{GoesOn}
use Rattle.fmp_view.proofs.session_until.go_on.Given as goal

abbrev pub invariant-loop-event : goal.invariant-loop-event
invariant-loop-event l = record {
  session : IsSession l.session;
  goes : GoesOn l.fn.session l.session;
}
