use Rattle.std.proofs.Common.{◌∙◌, sym}
use Rattle.fmp_instructions.specs.Instructions.{code_tables}
use Rattle.fmp_searching.proofs.Bodies.{position_found}
use Rattle.fmp_searching.proofs.sites.CallLines.position.Goals as goal

pub returns : goal.returns
returns c =
    c.position_among.ensures
    ∙ sym (position_found (code_tables c.args.code.now) c.args.self.now c.args.body c.args.pc _ _
    c.in_ok-instructions.ensures c.in_ok-calls.ensures)
