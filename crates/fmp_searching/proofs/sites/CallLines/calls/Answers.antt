use Rattle.std.proofs.Common.{◌++◌, ap, sym, ◌∙◌}
use Rattle.fmp_instructions.specs.Instructions.{code_tables}
use Rattle.fmp_searching.proofs.Bodies.{calls_below_more}
use Rattle.fmp_searching.proofs.sites.CallLines.calls.Goals as goal
use Rattle.fmp_searching.specs.Sites.{code_of, calls_of, sites_by}

pub loop-body-preserved : goal.loop-body-preserved
loop-body-preserved c =
    let n = c.loop-body.body in
    let code = code_tables c.args.code.now in
    c.in_ok-add_calls.ensures
    ∙ ap (λ xs. xs ++ sites_by n c.args.line (code_of code n) (calls_of c.args.self.now n)) c.loop-body.invariant
    ∙ sym (calls_below_more n c.args.line code c.args.self.now)
