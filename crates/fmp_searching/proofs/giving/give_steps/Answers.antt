use Rattle.std.proofs.Common.{map, string_bytes}
use Rattle.fmp_searching.proofs.Doing.{idle_writes, only_then, said_idle, says_may, says_one, steps_may, steps_write}
use Rattle.fmp_searching.proofs.Printing.{quiet_said, quiet_then}
use Rattle.fmp_searching.proofs.giving.give_steps.Goals as goal

pub returns-in-Err-clause-quiet : goal.returns-in-Err-clause-quiet
returns-in-Err-clause-quiet g c =
    let done = g.O.Outside.done in
    quiet_then _ _ _ c.write_steps.ensures.quiet
    (quiet_said (done c.write_steps.new.outside) (done c.end.new.outside) c.end.ensures.said)

pub returns-in-Ok-clause-writes : goal.returns-in-Ok-clause-writes
returns-in-Ok-clause-writes g c = λ out is.
    steps_write c.args.exploring.now out c.args.explored.now (map string_bytes c.args.names.now) _ _ is
    (rw c.deref.ensures.value at c.write_steps.ensures.fronts)

pub returns-in-Err-clause-writes : goal.returns-in-Err-clause-writes
returns-in-Err-clause-writes g c = λ out is.
    let done = g.O.Outside.done in
    only_then _ _ _
    (steps_write c.args.exploring.now out c.args.explored.now (map string_bytes c.args.names.now) _ _ is
    (rw c.deref.ensures.value at c.write_steps.ensures.fronts))
    (idle_writes c.args.exploring.now out c.args.explored.now (done c.write_steps.new.outside) (done c.end.new.outside)
    (said_idle (done c.write_steps.new.outside) (done c.end.new.outside) c.end.ensures.said))

pub returns-then-is_over_input-clause-writes : goal.returns-then-is_over_input-clause-writes
returns-then-is_over_input-clause-writes g c = λ out is.
    let done = g.O.Outside.done in
    idle_writes c.args.exploring.now out c.args.explored.now (done c.args.outside.now)
    (done c.refuse_mistake.new.outside)
    (said_idle (done c.args.outside.now) (done c.refuse_mistake.new.outside) c.refuse_mistake.ensures.said)

pub returns-in-Ok-clause-keeps : goal.returns-in-Ok-clause-keeps
returns-in-Ok-clause-keeps g c = λ out count is.
    steps_may c.args.exploring.now out count (map string_bytes c.args.names.now) _ _ is
    (c.is_over_input.ensures c.if-is_over_input.false) c.write_steps.ensures.only

pub returns-in-Err-clause-keeps : goal.returns-in-Err-clause-keeps
returns-in-Err-clause-keeps g c = λ out count is.
    let done = g.O.Outside.done in
    only_then _ _ _
    (steps_may c.args.exploring.now out count (map string_bytes c.args.names.now) _ _ is
    (c.is_over_input.ensures c.if-is_over_input.false) c.write_steps.ensures.only)
    (says_may c.args.exploring.now out (done c.write_steps.new.outside) (done c.end.new.outside)
    (says_one (done c.write_steps.new.outside) (done c.end.new.outside) c.end.ensures.said))
