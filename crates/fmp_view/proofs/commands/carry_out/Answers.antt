use Rattle.fmp_looking.proofs.TestEnds.{mistake_refuses, not_done}
use Rattle.fmp_view.proofs.commands.carry_out.Goals as goal

pub returns-in-Some-clause-explore : goal.returns-in-Some-clause-explore
returns-in-Some-clause-explore g c = λ rows is.
    c.run_command.ensures.explore rows (rw c.in-Some.is at c.command.ensures.explore rows is)

pub returns-in-Some-clause-diff : goal.returns-in-Some-clause-diff
returns-in-Some-clause-diff g c = λ rows is.
    c.run_command.ensures.diff rows (rw c.in-Some.is at c.command.ensures.diff rows is)

pub returns-in-Some-clause-expect : goal.returns-in-Some-clause-expect
returns-in-Some-clause-expect g c = λ rows is.
    c.run_command.ensures.expect rows (rw c.in-Some.is at c.command.ensures.expect rows is)

pub returns-in-Some-clause-tests : goal.returns-in-Some-clause-tests
returns-in-Some-clause-tests g c = λ rows is.
    c.run_command.ensures.tests rows (rw c.in-Some.is at c.command.ensures.tests rows is)

pub returns-in-None-clause-explore : goal.returns-in-None-clause-explore
returns-in-None-clause-explore g c = λ rows is done. absurd (rw c.in-None.is at c.command.ensures.explore rows is)

pub returns-in-None-clause-diff : goal.returns-in-None-clause-diff
returns-in-None-clause-diff g c = λ rows is done. absurd (rw c.in-None.is at c.command.ensures.diff rows is)

pub returns-in-None-clause-expect : goal.returns-in-None-clause-expect
returns-in-None-clause-expect g c = λ rows is done. absurd (rw c.in-None.is at c.command.ensures.expect rows is)

pub returns-in-None-clause-tests : goal.returns-in-None-clause-tests
returns-in-None-clause-tests g c = λ rows is done. absurd (rw c.in-None.is at c.command.ensures.tests rows is)

pub returns-in-Some-clause-why : goal.returns-in-Some-clause-why
returns-in-Some-clause-why g c = λ rows is.
    c.run_command.ensures.why rows (rw c.in-Some.is at c.command.ensures.why rows is)

pub returns-in-None-clause-why : goal.returns-in-None-clause-why
returns-in-None-clause-why g c = λ rows is done. absurd (rw c.in-None.is at c.command.ensures.why rows is)

pub returns-in-Some-clause-explores : goal.returns-in-Some-clause-explores
returns-in-Some-clause-explores g c = λ rows is.
    c.run_command.ensures.explores rows (rw c.in-Some.is at c.command.ensures.explore rows is)

pub returns-in-None-clause-explores : goal.returns-in-None-clause-explores
returns-in-None-clause-explores g c = λ rows is. absurd (rw c.in-None.is at c.command.ensures.explore rows is)

pub returns-in-None-clause-entered : goal.returns-in-None-clause-entered
returns-in-None-clause-entered g c = λ done.
    absurd (not_done _ (mistake_refuses _ _ c.refuse_mistake.ensures.status) done)
