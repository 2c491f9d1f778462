use Rattle.std.proofs.Common.{replicate}
use Rattle.fmp_session.specs.Sessions.{IsSession}
use Rattle.fmp_session.specs.Taking.{HasTaken}
use Rattle.fmp_view.proofs.answering.taken_text.Given as goal

abbrev pub invariant-loop-turn : goal.invariant-loop-turn
invariant-loop-turn l = record {
  session : IsSession l.session;
  has : HasTaken l.fn.session (replicate l._turn l.e) l.session;
}
