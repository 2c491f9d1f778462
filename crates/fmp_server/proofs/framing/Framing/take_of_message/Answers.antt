use Rattle.std.proofs.Common.{◌≡◌, ◌-◌, arith, length, sym}
use Rattle.fmp_server.proofs.Feeding.{all_fed, more_fed}
use Rattle.fmp_server.proofs.framing.Framing.take_of_message.Goals as goal

pub returns-then-self-gt0 : goal.returns-then-self-gt0
returns-then-self-gt0 c =
    let f = c.args.self.now in
    rw c.in_ok-extend_from_slice.ensures.items
    (sym (more_fed f.line.items f.length f.message.items c.args.bytes.now f.left (omega (arith, c.if-self-gt0.true))))

pub returns : goal.returns
returns c =
    let f = c.args.self.now in
    let bytes = c.args.bytes.now in
    let all : f.left ≡ length bytes = omega (arith, c.if-self-gt0.false, c.requires.within) in
    let none : f.left - length bytes ≡ 0 = omega (arith, all) in
    rw none
    (rw c.replace.ensures.after
    (rw c.new.ensures.items
    (rw c.replace.ensures.value
    (rw c.in_ok-extend_from_slice.ensures.items
    (sym (all_fed f.line.items f.length f.message.items bytes f.left c.requires.some all))))))
