use Rattle.std.proofs.Common.{◌≤◌, inl, inr, arith, map, refl}
use Rattle.std.proofs.lemmas.Bool.{ltb-false}
use Rattle.fmp_lex.specs.Packing.{absent, whole_in}
use Rattle.fmp_lex.proofs.Packing.{behind_length}
use Rattle.fmp_lex.proofs.Windows.{part_end, passed_hold}
use Rattle.fmp_lex.proofs.window.Window.hold.Goals as goal

pub returns-clause-passed : goal.returns-clause-passed
returns-clause-passed c = λ before passed.
    let window = c.args.self.now in
    passed_hold window _ before (map (whole_in window.text.now) c.in_ok-part.part.packed.items) c.args.at
    c.start-start.result refl c.part.ensures (c.start-start.ensures.passed before passed) c.in_ok-part.ensures.cut
    passed

pub returns-clause-within : goal.returns-clause-within
returns-clause-within c = λ more.
    let found = map (whole_in c.args.self.now.text.now) c.in_ok-part.part.packed.items in
    rw c.part.ensures (omega (arith, behind_length c.args.at absent found))

pub returns-clause-stuck : goal.returns-clause-stuck
returns-clause-stuck c = λ still few.
    let window = c.args.self.now in
    let part = c.in_ok-part.part in
    let le : part.next ≤ window.next = ltb-false window.next part.next still in
    let stop = c.stop_behind-stop in
    elim (part_end window.text.now stop.result.at part.next part.fault c.in_ok-part.ensures.end) [
      | inl far ↦ inl (omega (arith, far, le, stop.ensures.far, c.max-stride.ensures))
      | inr fault ↦ inr fault
    ]
