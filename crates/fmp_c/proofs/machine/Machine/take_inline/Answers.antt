use Rattle.fmp_c.proofs.Taken.{agreed_taken, objected_taken}
use Rattle.fmp_c.proofs.machine.Machine.take_inline.Goals as goal

pub returns-in-None : goal.returns-in-None
returns-in-None c =
    agreed_taken c.args.self.now c.consult.new.self c.take_any.new.self c.args.given.now c.args.p c.take_any.new.out
    c.take_any.result c.args.self.now.text c.consult.result c.consult.ensures c.in-None.is c.take_any.ensures.machine
    c.take_any.ensures.outcome c.take_any.ensures.number

pub returns-in-Some : goal.returns-in-Some
returns-in-Some c =
    objected_taken c.args.self.now c.consult.new.self c.args.given.now c.args.p c.refuse.new.out c.refuse.result
    c.args.self.now.text c.consult.result c.in-Some.why c.consult.ensures c.in-Some.is c.refuse.ensures.outcome
    c.refuse.ensures.number
