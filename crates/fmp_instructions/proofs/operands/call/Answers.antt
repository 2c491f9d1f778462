use Rattle.std.proofs.Common.{rules, [], ◌∙◌, FitsSigned, w32}
use Rattle.std.proofs.lemmas.Int.{to_z-of_z}
use Rattle.fmp_instructions.specs.Machine.{tops, unstacked}
use Rattle.fmp_instructions.proofs.Requests.{request-arguments}
use Rattle.fmp_instructions.proofs.operands.call.Goals as goal

pub returns : goal.returns
returns c =
    let operands = unstacked (tops c.args.values.now c.args.count) [] in
    let first : FitsSigned w32 c.operand.result = search rules in
    let second : FitsSigned w32 c.operand-2.result = search rules in
    let third : FitsSigned w32 c.operand-3.result = search rules in
    let fourth : FitsSigned w32 c.operand-4.result = search rules in
    c.request.ensures
    ∙ request-arguments c.args.service operands _ _ _ _
    (to_z-of_z w32 c.operand.result first ∙ c.operand.ensures)
    (to_z-of_z w32 c.operand-2.result second ∙ c.operand-2.ensures)
    (to_z-of_z w32 c.operand-3.result third ∙ c.operand-3.ensures)
    (to_z-of_z w32 c.operand-4.result fourth ∙ c.operand-4.ensures)
