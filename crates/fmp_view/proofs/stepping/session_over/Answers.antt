use Rattle.fmp_view.proofs.stepping.session_over.Goals as goal

pub begin-status-requires : goal.begin-status-requires
begin-status-requires g c = c.in_ok-session.ensures.session
