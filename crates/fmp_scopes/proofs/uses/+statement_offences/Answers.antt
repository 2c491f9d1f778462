use Rattle.std.proofs.Common.{rules, ◌≡◌, ◌+◌, ◌++◌, None, ap, sym, ◌∙◌, drop}
use Rattle.fmp_tasklang.specs.declared.trees.Statement.{the_lemmas}
use Rattle.fmp_tasklang.specs.Views.{expression_view, statement_view, block_view}
use Rattle.fmp_scopes.specs.Naming.{uses_offence, expression_uses, statement_uses, block_uses}
use Rattle.fmp_scopes.specs.Scopes.{scope_view}
use Rattle.fmp_scopes.proofs.KnownNames.{uses-here, uses-there, two-parts}
use Rattle.fmp_scopes.proofs.ViewTrees.{block-step, view-If, view-IfElse, view-While}
use Rattle.fmp_scopes.proofs.uses.+statement_offences.Goals as goal

pub block_offence-returns-in-Some : goal.block_offence-returns-in-Some
block_offence-returns-in-Some t c =
    let scope = scope_view c.args.names.now in
    let s = c.s-item.result in
    let i = c.loop-s.s-index in
    let step = block-step c.args.statements.now i s c.loop-s-test.true c.s-item.is in
    let rest = block_uses (block_view (drop (i + 1) c.args.statements.now)) in
    uses-here scope (statement_uses (statement_view s)) rest c.in-Some.offence c.in-Some.ensures
    ∙ sym (ap (λ b. uses_offence scope (block_uses b)) step)
    ∙ c.loop-s.invariant

pub block_offence-loop-s-preserved : goal.block_offence-loop-s-preserved
block_offence-loop-s-preserved t c =
    let scope = scope_view c.args.names.now in
    let s = c.s-item.result in
    let i = c.loop-s.s-index in
    let step = block-step c.args.statements.now i s c.loop-s-test.true c.s-item.is in
    let rest = block_uses (block_view (drop (i + 1) c.args.statements.now)) in
    let none : None ≡ uses_offence scope (statement_uses (statement_view s)) = search rules in
    uses-there scope (statement_uses (statement_view s)) rest none
    ∙ sym (ap (λ b. uses_offence scope (block_uses b)) step)
    ∙ c.loop-s.invariant

pub statement_offence-returns-in-If : goal.statement_offence-returns-in-If
statement_offence-returns-in-If t c =
    let scope = scope_view c.args.names.now in
    let test = expression_uses (expression_view c.in-If.condition) in
    let block = block_uses (block_view c.deref-in-If.result.now) in
    two-parts scope test block c.expression_offence-in-If.result c.block_offence.result c.earlier.result
    c.expression_offence-in-If.ensures c.block_offence.ensures c.earlier.ensures
    ∙ ap (λ st. uses_offence scope (statement_uses st))
    (sym (view-If c.args.s.now c.in-If.condition c.in-If.then c.deref-in-If.result.now c.in-If.is
    c.deref-in-If.ensures.value))

pub statement_offence-returns-in-IfElse : goal.statement_offence-returns-in-IfElse
statement_offence-returns-in-IfElse t c =
    let scope = scope_view c.args.names.now in
    let test = expression_uses (expression_view c.deref-in-IfElse.result.now) in
    let first = block_uses (block_view c.deref-in-IfElse-2.result.now) in
    let second = block_uses (block_view c.deref-in-IfElse-3.result.now) in
    let both = two-parts scope first second c.block_offence-in-IfElse.result c.block_offence-in-IfElse-2.result
    c.earlier-in-IfElse.result c.block_offence-in-IfElse.ensures c.block_offence-in-IfElse-2.ensures
    c.earlier-in-IfElse.ensures in
    two-parts scope test (first ++ second) c.expression_offence-in-IfElse.result c.earlier-in-IfElse.result
    c.earlier-in-IfElse-2.result c.expression_offence-in-IfElse.ensures both c.earlier-in-IfElse-2.ensures
    ∙ ap (λ st. uses_offence scope (statement_uses st))
    (sym (view-IfElse c.args.s.now c.in-IfElse.condition c.in-IfElse.then c.in-IfElse.otherwise
    c.deref-in-IfElse.result.now c.deref-in-IfElse-2.result.now
    c.deref-in-IfElse-3.result.now c.in-IfElse.is c.deref-in-IfElse.ensures c.deref-in-IfElse-2.ensures.value
    c.deref-in-IfElse-3.ensures.value))

pub statement_offence-returns-in-While : goal.statement_offence-returns-in-While
statement_offence-returns-in-While t c =
    let scope = scope_view c.args.names.now in
    let test = expression_uses (expression_view c.in-While.condition) in
    let block = block_uses (block_view c.deref-in-While.result.now) in
    two-parts scope test block c.expression_offence-in-While.result c.block_offence-in-While.result
    c.earlier-in-While.result
    c.expression_offence-in-While.ensures c.block_offence-in-While.ensures c.earlier-in-While.ensures
    ∙ ap (λ st. uses_offence scope (statement_uses st))
    (sym (view-While c.args.s.now c.in-While.condition c.in-While.body c.deref-in-While.result.now c.in-While.is
    c.deref-in-While.ensures.value))

pub statement_offence-block_offence-requires-in-IfElse : goal.statement_offence-block_offence-requires-in-IfElse
statement_offence-block_offence-requires-in-IfElse t c = (search (rules, the_lemmas), c.requires)

pub statement_offence-block_offence-requires-in-IfElse-2 : goal.statement_offence-block_offence-requires-in-IfElse-2
statement_offence-block_offence-requires-in-IfElse-2 t c = (search (rules, the_lemmas), c.requires)
