use Rattle.std.proofs.Common.{ap, arith, map}
use Rattle.fmp_tasklang.specs.Views.{expression_view, link_view}
use Rattle.fmp_scopes.specs.Chains.{links_size, links_depth}
use Rattle.fmp_scopes.specs.Depths.{expression_depth}
use Rattle.fmp_scopes.specs.Sizes.{expression_size}
use Rattle.fmp_scopes.proofs.ViewTrees.{size-Chain, depth-Chain}
use Rattle.fmp_scopes.proofs.extents.+expression_extents.Goals as goal

pub expression_extent-returns-in-Chain-clause-size : goal.expression_extent-returns-in-Chain-clause-size
expression_extent-returns-in-Chain-clause-size t c =
    let whole = size-Chain c.args.e.now c.in-Chain.first c.in-Chain.rest c.in-Chain.is in
    let first = ap (λ x. expression_size (expression_view x)) c.deref-in-Chain.ensures in
    let rest = ap (λ xs. links_size (map link_view xs)) c.deref-in-Chain-2.ensures.value in
    let one = c.expression_extent-one.ensures.size in
    let others = c.links_extent-others.ensures.size in
    omega (arith, whole, first, rest, one, others, c.cut_extent-in-Chain.ensures.size)

pub expression_extent-returns-in-Chain-clause-depth : goal.expression_extent-returns-in-Chain-clause-depth
expression_extent-returns-in-Chain-clause-depth t c =
    let whole = depth-Chain c.args.e.now c.in-Chain.first c.in-Chain.rest c.in-Chain.is in
    let first = ap (λ x. expression_depth (expression_view x)) c.deref-in-Chain.ensures in
    let rest = ap (λ xs. links_depth (map link_view xs)) c.deref-in-Chain-2.ensures.value in
    let one = c.expression_extent-one.ensures.depth in
    let others = c.links_extent-others.ensures.depth in
    omega (arith, whole, first, rest, one, others, c.greater.ensures, c.cut_extent-in-Chain.ensures.depth)
