use Rattle.std.proofs.Common.{◌∙◌}
use Rattle.std.proofs.lemmas.Result.{IfOk-weaker}
use Rattle.fmp_server.proofs.Adding.{notified}
use Rattle.fmp_server.proofs.diagnostics.published.Goals as goal

pub returns : goal.returns
returns c =
    let before = c.in_ok-write_document.ensures.before ∙ c.in_ok-writer.ensures.before in
    IfOk-weaker c.finish.result _ _
    (λ bytes e. (notified _ _ _ _ _ before c.in_ok-writer.ensures.tokens c.in_ok-write_document.ensures.tokens e, tt))
    c.finish.ensures
