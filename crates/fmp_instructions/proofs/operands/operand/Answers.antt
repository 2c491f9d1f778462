use Rattle.std.proofs.Common.{rules, ◌≡◌, ◌+◌, ◌-◌, ap, sym, ◌∙◌, w32, [], pos, get_or, arith, FitsSigned}
use Rattle.std.proofs.lemmas.Int.{to_z-of_z}
use Rattle.fmp_instructions.specs.Machine.{tops, unstacked}
use Rattle.fmp_instructions.proofs.OperandLists.{get_or-unstacked_below, get_or-unstacked_above}
use Rattle.fmp_instructions.proofs.operands.operand.Goals as goal

pub returns-then-index-count : goal.returns-then-index-count
returns-then-index-count c =
    let values = c.args.values.now in
    let small : FitsSigned w32 (get_or values c.args.index (pos 0)) = search rules in
    to_z-of_z w32 (get_or values c.args.index (pos 0)) small
    ∙ sym (get_or-unstacked_below values [] c.args.count c.args.index c.if-index-count.true)

pub returns-else-index-count : goal.returns-else-index-count
returns-else-index-count c =
    let values = c.args.values.now in
    let count = c.args.count in
    let e : count + (c.args.index - count) ≡ c.args.index = omega arith in
    sym (get_or-unstacked_above values [] count (c.args.index - count))
    ∙ ap (λ k. get_or (unstacked (tops values count) []) k (pos 0)) e
