use Rattle.std.proofs.Common.{map, ap, sym, ◌∙◌}
use Rattle.std.proofs.lemmas.Result.{IfOk-weaker}
use Rattle.fmp_tasklang.specs.Views.{expression_view, link_view}
use Rattle.fmp_export.specs.Expressions.{c_chain, c_expression}
use Rattle.fmp_export.specs.Sources.{source_view}
use Rattle.fmp_export.proofs.Views.{chain_is}
use Rattle.fmp_export.proofs.expressions.+expressions_in_c.Goals as goal

pub expression-returns-in_ok-inner-in-Chain : goal.expression-returns-in_ok-inner-in-Chain
expression-returns-in_ok-inner-in-Chain t c =
    let s = source_view c.args.source.now in
    let at = c.args.at in
    let first = c.deref-in-Chain.result.now in
    let rest = c.deref-in-Chain-2.result.now in
    IfOk-weaker c.chain.result _ _
    (λ p e. e ∙ ap (λ q. c_chain s q (map link_view rest)) c.in_ok-inner-in-Chain.ensures
    ∙ ap (λ xs. c_chain s (c_expression s at (expression_view first)) (map link_view xs))
    c.deref-in-Chain-2.ensures.value
    ∙ ap (λ x. c_chain s (c_expression s at (expression_view x)) (map link_view c.in-Chain.rest.items))
    c.deref-in-Chain.ensures
    ∙ sym (chain_is s at c.in-Chain.first c.in-Chain.rest)
    ∙ ap (λ x. c_expression s at (expression_view x)) (sym c.in-Chain.is)) c.chain.ensures
