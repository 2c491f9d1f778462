use Rattle.fmp_arguments.proofs.refusals.refusal_text.Goals as goal

pub returns-in_ok-message-in-Member : goal.returns-in_ok-message-in-Member
returns-in_ok-message-in-Member c = rw c.in-Member.is c.at_line.ensures

pub returns-in-Form : goal.returns-in-Form
returns-in-Form c = rw c.in-Form.is c.at_line-in-Form.ensures
