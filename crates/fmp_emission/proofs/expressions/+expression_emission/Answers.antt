use Rattle.std.proofs.Common.{rules, map, ap, arith}
use Rattle.fmp_tasklang.specs.declared.trees.Expression.{the_lemmas}
use Rattle.fmp_tasklang.specs.Views.{expression_view, link_view}
use Rattle.fmp_scopes.specs.Chains.{links_size, links_depth}
use Rattle.fmp_scopes.specs.Depths.{expression_depth}
use Rattle.fmp_scopes.specs.Scopes.{scope_view}
use Rattle.fmp_scopes.specs.Sizes.{expression_size}
use Rattle.fmp_scopes.proofs.ViewTrees.{size-Chain, depth-Chain, unary-emitted, unary-deep, chain-emitted, chain-deep}
use Rattle.fmp_emission.proofs.Emitted.{element-emitted, load-named, element-deep}
use Rattle.fmp_emission.proofs.expressions.+expression_emission.Goals as goal

pub emit_expression-emit_expression-requires-in-Chain : goal.emit_expression-emit_expression-requires-in-Chain
emit_expression-emit_expression-requires-in-Chain t c =
    let size = size-Chain c.args.e.now c.in-Chain.first c.in-Chain.rest c.in-Chain.is in
    let depth = depth-Chain c.args.e.now c.in-Chain.first c.in-Chain.rest c.in-Chain.is in
    let first = ap (λ x. expression_size (expression_view x)) c.deref-in-Chain.ensures in
    let low = ap (λ x. expression_depth (expression_view x)) c.deref-in-Chain.ensures in (
      search (rules, the_lemmas),
      (
        c.requires.held,
        (
          omega (arith, size, first, c.requires.room),
          omega
              (arith, depth, low, c.requires.low),
        ),
      ),
    )

pub emit_expression-emit_links-requires : goal.emit_expression-emit_links-requires
emit_expression-emit_links-requires t c =
    let size = size-Chain c.args.e.now c.in-Chain.first c.in-Chain.rest c.in-Chain.is in
    let depth = depth-Chain c.args.e.now c.in-Chain.first c.in-Chain.rest c.in-Chain.is in
    let first = ap (λ x. expression_size (expression_view x)) c.deref-in-Chain.ensures in
    let rest = ap (λ xs. links_size (map link_view xs)) c.deref-in-Chain-2.ensures.value in
    let low = ap (λ xs. links_depth (map link_view xs)) c.deref-in-Chain-2.ensures.value in
    let len = c.in_ok-emit_expression-in-Chain.ensures.len in (
      search (rules, the_lemmas),
      (
        c.requires.held,
        (
          omega (arith, size, first, rest, len, c.requires.room),
          omega
              (arith, depth, low, c.requires.low),
        ),
      ),
    )

pub emit_expression-returns-in_ok-put-in-Element-clause-code :
    goal.emit_expression-returns-in_ok-put-in-Element-clause-code
emit_expression-returns-in_ok-put-in-Element-clause-code t c =
    element-emitted (scope_view c.args.names.now) c.args.e.now c.deref.result.now c.in-Element.array c.in-Element.index
    c.load_of.result c.in-Element.is c.deref.ensures
    (load-named (scope_view c.args.names.now) c.load_of.result c.deref-in-Element.result.now c.in-Element.array
    c.deref-in-Element.ensures c.load_of.ensures) c.args.out.now.instructions.items
    c.emit_expression.new.out.instructions.items c.put-in-Element.new.out.instructions.items
    c.in_ok-emit_expression-in-Element.ensures.code c.in_ok-put-in-Element.ensures.code

pub emit_expression-returns-in_ok-put-in-Element-clause-depths :
    goal.emit_expression-returns-in_ok-put-in-Element-clause-depths
emit_expression-returns-in_ok-put-in-Element-clause-depths t c =
    element-deep c.args.e.now c.deref.result.now c.in-Element.array c.in-Element.index c.args.depth c.in-Element.is
    c.deref.ensures c.args.out.now.depths.items c.emit_expression.new.out.depths.items
    c.put-in-Element.new.out.depths.items c.in_ok-emit_expression-in-Element.ensures.depths
    c.in_ok-put-in-Element.ensures.depths

pub emit_expression-returns-in_ok-put-in-Unary-clause-code : goal.emit_expression-returns-in_ok-put-in-Unary-clause-code
emit_expression-returns-in_ok-put-in-Unary-clause-code t c =
    unary-emitted (scope_view c.args.names.now) c.args.e.now c.deref-in-Unary.result.now c.in-Unary.operator
    c.in-Unary.operand
    c.in-Unary.is c.deref-in-Unary.ensures c.args.out.now.instructions.items
    c.emit_expression-in-Unary.new.out.instructions.items
    c.put-in-Unary.new.out.instructions.items c.in_ok-emit_expression-in-Unary.ensures.code
    c.in_ok-put-in-Unary.ensures.code

pub emit_expression-returns-in_ok-put-in-Unary-clause-depths :
    goal.emit_expression-returns-in_ok-put-in-Unary-clause-depths
emit_expression-returns-in_ok-put-in-Unary-clause-depths t c =
    unary-deep c.args.e.now c.deref-in-Unary.result.now c.in-Unary.operator c.in-Unary.operand c.args.depth
    c.in-Unary.is c.deref-in-Unary.ensures c.args.out.now.depths.items c.emit_expression-in-Unary.new.out.depths.items
    c.put-in-Unary.new.out.depths.items c.in_ok-emit_expression-in-Unary.ensures.depths
    c.in_ok-put-in-Unary.ensures.depths

pub emit_expression-returns-in_ok-emit_links-in-Chain-clause-code :
    goal.emit_expression-returns-in_ok-emit_links-in-Chain-clause-code
emit_expression-returns-in_ok-emit_links-in-Chain-clause-code t c =
    chain-emitted (scope_view c.args.names.now) c.args.e.now c.deref-in-Chain.result.now c.in-Chain.first
    c.in-Chain.rest
    c.deref-in-Chain-2.result.now c.in-Chain.is c.deref-in-Chain.ensures c.deref-in-Chain-2.ensures.value
    c.args.out.now.instructions.items c.emit_expression-in-Chain.new.out.instructions.items
    c.emit_links.new.out.instructions.items
    c.in_ok-emit_expression-in-Chain.ensures.code c.in_ok-emit_expression-in-Chain.ensures.len
    c.in_ok-emit_links-in-Chain.ensures.code

pub emit_expression-returns-in_ok-emit_links-in-Chain-clause-len :
    goal.emit_expression-returns-in_ok-emit_links-in-Chain-clause-len
emit_expression-returns-in_ok-emit_links-in-Chain-clause-len t c =
    let size = size-Chain c.args.e.now c.in-Chain.first c.in-Chain.rest c.in-Chain.is in
    let first = ap (λ x. expression_size (expression_view x)) c.deref-in-Chain.ensures in
    let rest = ap (λ xs. links_size (map link_view xs)) c.deref-in-Chain-2.ensures.value in
    omega (
      arith,
      size,
      first,
      rest,
      c.in_ok-emit_expression-in-Chain.ensures.len,
      c.in_ok-emit_links-in-Chain.ensures.len,
    )

pub emit_expression-returns-in_ok-emit_links-in-Chain-clause-depths :
    goal.emit_expression-returns-in_ok-emit_links-in-Chain-clause-depths
emit_expression-returns-in_ok-emit_links-in-Chain-clause-depths t c =
    chain-deep c.args.e.now c.deref-in-Chain.result.now c.in-Chain.first c.in-Chain.rest
    c.deref-in-Chain-2.result.now c.args.depth c.in-Chain.is c.deref-in-Chain.ensures c.deref-in-Chain-2.ensures.value
    c.args.out.now.depths.items c.emit_expression-in-Chain.new.out.depths.items c.emit_links.new.out.depths.items
    c.in_ok-emit_expression-in-Chain.ensures.depths c.in_ok-emit_links-in-Chain.ensures.depths
