use Rattle.std.proofs.Common.{take}
use Rattle.fmp_session.specs.Sessions.{IsSession}
use Rattle.fmp_session.specs.Taking.{HasTaken}
use Rattle.fmp_view.proofs.session_files.take_all.Given as goal

abbrev pub invariant-loop-e : goal.invariant-loop-e
invariant-loop-e l = record {
  session : IsSession l.session;
  has : HasTaken l.fn.session (take l.e-index l.events) l.session;
}
