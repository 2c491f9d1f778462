use Rattle.std.proofs.Common.{rules, ◌≡◌, None, Some, map, ap, sym, ◌∙◌, ◌+◌, drop}
use Rattle.fmp_tasklang.specs.Views.{expression_view, link_view}
use Rattle.fmp_scopes.specs.Chains.{links_uses}
use Rattle.fmp_scopes.specs.Naming.{uses_offence, expression_uses}
use Rattle.fmp_scopes.specs.Scopes.{scope_view}
use Rattle.fmp_scopes.proofs.KnownNames.{uses-here, uses-there}
use Rattle.fmp_scopes.proofs.ViewTrees.{uses-Chain, links-step}
use Rattle.fmp_scopes.proofs.uses.+expression_offences.Goals as goal

pub expression_offence-returns-in-Some : goal.expression_offence-returns-in-Some
expression_offence-returns-in-Some t c =
    let scope = scope_view c.args.names.now in
    let first = expression_uses (expression_view c.in-Chain.first.value) in
    let rest = links_uses (map link_view c.in-Chain.rest.items) in
    let here : Some c.in-Some.offence ≡ uses_offence scope first =
    c.in-Some.ensures ∙ ap (λ x. uses_offence scope (expression_uses (expression_view x))) c.deref-in-Chain.ensures in
    uses-here scope first rest c.in-Some.offence here
    ∙ ap (uses_offence scope) (sym (uses-Chain c.args.e.now c.in-Chain.first c.in-Chain.rest c.in-Chain.is))

pub expression_offence-returns-in_default : goal.expression_offence-returns-in_default
expression_offence-returns-in_default t c =
    let scope = scope_view c.args.names.now in
    let first = expression_uses (expression_view c.in-Chain.first.value) in
    let rest = links_uses (map link_view c.in-Chain.rest.items) in
    let none : None ≡ uses_offence scope first =
    search (rules, c.in_default, c.expression_offence-in-Chain.ensures, c.deref-in-Chain.ensures) in
    c.links_offence.ensures
    ∙ ap (λ xs. uses_offence scope (links_uses (map link_view xs))) c.deref-in-Chain-2.ensures.value
    ∙ uses-there scope first rest none
    ∙ ap (uses_offence scope) (sym (uses-Chain c.args.e.now c.in-Chain.first c.in-Chain.rest c.in-Chain.is))

pub links_offence-returns-in-Some : goal.links_offence-returns-in-Some
links_offence-returns-in-Some t c =
    let scope = scope_view c.args.names.now in
    let l = c.link-item.result in
    let i = c.loop-link.link-index in
    let step = links-step c.args.links.now i l c.loop-link-test.true c.link-item.is in
    let rest = links_uses (map link_view (drop (i + 1) c.args.links.now)) in
    uses-here scope (expression_uses (expression_view l.operand)) rest c.in-Some.offence c.in-Some.ensures
    ∙ sym (ap (λ ls. uses_offence scope (links_uses ls)) step)
    ∙ c.loop-link.invariant

pub links_offence-loop-link-preserved : goal.links_offence-loop-link-preserved
links_offence-loop-link-preserved t c =
    let scope = scope_view c.args.names.now in
    let l = c.link-item.result in
    let i = c.loop-link.link-index in
    let step = links-step c.args.links.now i l c.loop-link-test.true c.link-item.is in
    let rest = links_uses (map link_view (drop (i + 1) c.args.links.now)) in
    let none : None ≡ uses_offence scope (expression_uses (expression_view l.operand)) = search rules in
    uses-there scope (expression_uses (expression_view l.operand)) rest none
    ∙ sym (ap (λ ls. uses_offence scope (links_uses ls)) step)
    ∙ c.loop-link.invariant
