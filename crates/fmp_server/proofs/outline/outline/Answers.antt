use Rattle.std.proofs.Common.{◌∙◌}
use Rattle.std.proofs.lemmas.Result.{IfOk-weaker}
use Rattle.fmp_server.proofs.Adding.{answered_by}
use Rattle.fmp_server.proofs.outline.outline.Goals as goal

pub returns : goal.returns
returns c =
    let before = c.in_ok-write_symbols.ensures.before ∙ c.in_ok-writer.ensures.before in
    let symbols = c.in_ok-write_symbols.ensures.tokens in
    IfOk-weaker c.finish.result _ _
    (λ bytes e. (symbols.0, answered_by _ _ _ _ _ _ before c.in_ok-writer.ensures.tokens symbols.1 e))
    c.finish.ensures
