use Rattle.std.proofs.Common.{rules, ◌+◌, ◌<◌, ap, ◌∙◌, length, w32, slice_set}
use Rattle.std.proofs.lemmas.Int.{to_z-of_z}
use Rattle.fmp_instructions.specs.Machine.{tops}
use Rattle.fmp_instructions.proofs.OperandLists.{tops-push}
use Rattle.fmp_instructions.proofs.operands.push_argument.Goals as goal

pub returns-clause-value : goal.returns-clause-value
returns-clause-value c =
    let values = c.args.values.now in
    let count = c.args.count.now in
    let within : count < length values = search rules in
    ap (λ z. tops (slice_set values count z) (count + 1)) (to_z-of_z w32 c.args.x c.ranges.x)
    ∙ tops-push values count c.args.x within
