use Rattle.std.proofs.Common.{◌≡◌, ◌+◌, ◌-◌, ◌≤◌, ◌<◌, ◌++◌, ◌∷◌, List, [], length, refl, arith, rules, append-nil}
use Rattle.std.proofs.lemmas.List.{length-map}
use Rattle.std.proofs.lemmas.Result.{err_from_is_err_and}
use Rattle.fmp_lex.specs.Reading.{kinds_of, found, stopped, map_result, RightToken}
use Rattle.fmp_lex.proofs.Answered.{err_as, step_as}
use Rattle.fmp_lex.proofs.Repetitions.{push_before}
use Rattle.fmp_tasklang.specs.Expressions.{loosest}
use Rattle.fmp_tasklang.specs.Reading.{links_view, RightOperand, RightBracketed, RightExpression, RightLinks}
use Rattle.fmp_tasklang.specs.Trees.{number}
use Rattle.fmp_tasklang.specs.Views.{LinkTree, chain_tree, expression_view}
use Rattle.fmp_tasklang.proofs.Links.{expression_zero, raised, raised_stop, raised_to, chain_then, links_more}
use Rattle.fmp_tasklang.proofs.Links.{links_stop, links_none}
use Rattle.fmp_tasklang.proofs.Names.{operand_missing, named_found, element_then}
use Rattle.fmp_tasklang.proofs.Operands.{right, close_bracket, ended_stop, ended_then, number_found, bracketed_deep}
use Rattle.fmp_tasklang.proofs.Operands.{bracketed_then, group_deep, group_then, unary_deep, unary_then}
use Rattle.fmp_tasklang.proofs.Views.{expression_view-Name, expression_view-Element, expression_view-Unary}
use Rattle.fmp_tasklang.proofs.Views.{expression_view-Chain, links_push}
use Rattle.fmp_tasklang.proofs.expressions.+expressions.Goals as goal

pub expression-returns-in_err-tree : goal.expression-returns-in_err-tree
expression-returns-in_err-tree m0 c =
    let ts = kinds_of c.args.tokens.now in
    let d = c.args.depth in
    let i = c.args.at in
    let l = c.args.level in
    let p = err_from_is_err_and c.from_residual.result c.from_residual.ensures.1 in
    rw (p.1, p.2) (err_as expression_view expression_view c.in_err-tree.field-0.0 (RightOperand ts d i)
    (RightExpression ts d l i)
    (λ j why x. raised_stop ts d i j why 0 l l (omega arith) (expression_zero ts d 0 i refl (stopped j why) x))
    c.in_err-tree.ensures)

pub expression-levels-init : goal.expression-levels-init
expression-levels-init m0 c =
    let ts = kinds_of c.args.tokens.now in
    let d = c.args.depth in
    let i = c.args.at in
    let x : RightExpression ts d 0 i (found (expression_view c.in_ok-tree.tree) c.in_ok-tree.next) =
    expression_zero ts d 0 i refl (found (expression_view c.in_ok-tree.tree) c.in_ok-tree.next) c.in_ok-tree.ensures in
    record { within = x.within; below = omega arith; right = x }

pub expression-returns-in_err-rest : goal.expression-returns-in_err-rest
expression-returns-in_err-rest m0 c =
    let ts = kinds_of c.args.tokens.now in
    let d = c.args.depth in
    let i = c.args.at in
    let l = c.args.level in
    let k = c.levels.next in
    let m = c.in-Some.found in
    let tree = expression_view c.levels.tree in
    let sign = c.in-Some.ensures in
    let here : RightExpression ts d m i (found tree k) =
    raised_to ts d i tree k c.levels.read m sign.2.0 sign.0 c.levels.invariant.within sign.2.1
    c.levels.invariant.right in
    let p = err_from_is_err_and c.from_residual-in_err-rest.result c.from_residual-in_err-rest.ensures.1 in
    rw (p.1, p.2) (err_as links_view expression_view c.in_err-rest.field-0.0 (RightLinks ts d m k)
    (RightExpression ts d l i)
    (λ j why x. raised_stop ts d i j why (m + 1) l (l - (m + 1)) (omega (arith, sign.1))
    (chain_then d m ts (m + 1) i refl tree k here (stopped j why) x)) c.in_err-rest.ensures)

pub expression-levels-preserved : goal.expression-levels-preserved
expression-levels-preserved m0 c =
    let ts = kinds_of c.args.tokens.now in
    let d = c.args.depth in
    let i = c.args.at in
    let k = c.levels.next in
    let m = c.in-Some.found in
    let tree = expression_view c.levels.tree in
    let sign = c.in-Some.ensures in
    let here : RightExpression ts d m i (found tree k) =
    raised_to ts d i tree k c.levels.read m sign.2.0 sign.0 c.levels.invariant.within sign.2.1
    c.levels.invariant.right in
    let x : RightExpression ts d (m + 1) i (found (chain_tree tree (links_view c.in_ok-rest.rest)) c.in_ok-rest.end) =
    chain_then d m ts (m + 1) i refl tree k here (found (links_view c.in_ok-rest.rest) c.in_ok-rest.end)
    c.in_ok-rest.ensures in
    record {
      within = x.within;
      below = omega (arith, sign.1);
      right = rw (expression_view-Chain c.in_ok-first.first c.in_ok-rest.rest, c.in_ok-first.ensures.ok) x;
    }

pub expression-returns : goal.expression-returns
expression-returns m0 c =
    let ts = kinds_of c.args.tokens.now in
    let l = c.args.level in
    let n = c.levels.read in
    raised ts c.args.depth c.args.at (expression_view c.levels.tree) c.levels.next n l (l - n)
    (omega (arith, c.levels.invariant.below)) c.levels.invariant.within c.in_default.ensures c.levels.invariant.right

pub group-returns-in_err-inside : goal.group-returns-in_err-inside
group-returns-in_err-inside m0 c =
    let ts = kinds_of c.args.tokens.now in
    let d = c.args.depth in
    let i = c.args.at in
    let p = err_from_is_err_and c.from_residual.result c.from_residual.ensures.1 in
    let (same, deep) = c.in_err-inside.ensures.deep in
    rw (p.1, p.2, same) (group_deep ts d i c.requires.first (omega (arith, deep)))

pub group-returns-in_err-inner : goal.group-returns-in_err-inner
group-returns-in_err-inner m0 c =
    let ts = kinds_of c.args.tokens.now in
    let d = c.args.depth in
    let i = c.args.at in
    let room = c.in_ok-inside.ensures.room in
    let p = err_from_is_err_and c.from_residual-in_err-inner.result c.from_residual-in_err-inner.ensures.1 in
    rw (p.1, p.2) (err_as expression_view expression_view c.in_err-inner.field-0.0
    (RightExpression ts (d + 1) loosest (i + 1)) (RightOperand ts d i)
    (λ j why x. group_then ts d i c.requires.first room.1 (stopped j why)
    (ended_stop (d + 1) right (refl, refl) ts (i + 1) j why x)) (rw room.0 at c.in_err-inner.ensures))

pub group-returns-in_err-next : goal.group-returns-in_err-next
group-returns-in_err-next m0 c =
    let room = c.in_ok-inside.ensures.room in
    let ts = kinds_of c.args.tokens.now in
    let d = c.args.depth in
    let i = c.args.at in
    let p = err_from_is_err_and c.from_residual-in_err-next.result c.from_residual-in_err-next.ensures.1 in
    rw (p.1, p.2) (step_as expression_view c.in_err-next.field-0.0 (RightToken ts right c.in_ok-inner.next)
    (RightOperand ts d i)
    (λ j why x. group_then ts d i c.requires.first room.1 (stopped j why)
    (ended_then (d + 1) right (refl, refl) ts (i + 1) (expression_view c.in_ok-inner.inner) c.in_ok-inner.next
    (rw room.0 at c.in_ok-inner.ensures) (stopped j why) x))
    c.in_err-next.ensures)

pub group-returns : goal.group-returns
group-returns m0 c =
    let room = c.in_ok-inside.ensures.room in
    let ts = kinds_of c.args.tokens.now in
    let d = c.args.depth in
    let i = c.args.at in
    group_then ts d i c.requires.first room.1 (found (expression_view c.in_ok-inner.inner) c.in_ok-next.next)
    (ended_then (d + 1) right (refl, refl) ts (i + 1) (expression_view c.in_ok-inner.inner) c.in_ok-inner.next
    (rw room.0 at c.in_ok-inner.ensures) (found tt c.in_ok-next.next) c.in_ok-next.ensures)

pub links-returns-in_err-operand : goal.links-returns-in_err-operand
links-returns-in_err-operand m0 c =
    let ts = kinds_of c.args.tokens.now in
    let d = c.args.depth in
    let i = c.args.at in
    let m = c.args.level in
    let k = c.links.i in
    let p = err_from_is_err_and c.from_residual-in_err-operand.result c.from_residual-in_err-operand.ensures.1 in
    rw (p.1, p.2) (err_as expression_view links_view c.in_err-operand.field-0.0 (RightExpression ts d m (k + 1))
    (RightLinks ts d m i)
    (λ j why x. c.links.invariant.goes (stopped j why) (links_stop d m ts k c.in-Some.operator
    c.in-Some.ensures.value.0 j why x)) c.in_err-operand.ensures)

pub links-links-preserved : goal.links-links-preserved
links-links-preserved m0 c =
    let ts = kinds_of c.args.tokens.now in
    let d = c.args.depth in
    let i = c.args.at in
    let m = c.args.level in
    let k = c.links.i in
    let e = expression_view c.in_ok-operand.operand in
    let n = c.in_ok-operand.next in
    let x : RightExpression ts d m (k + 1) (found e n) = c.in_ok-operand.ensures in
    let within = simp length-map at x.within in
    let a : LinkTree = record { operator = c.in-Some.operator; operand = e } in
    let xs = links_view c.links.found in
    let pushed : links_view c.push.new.self ≡ xs ++ a ∷ [] = rw c.in_ok-push.ensures.items
    (links_push c.links.found.items _) in
    record {
      within = within;
      goes = rw pushed (λ o rest. push_before xs a o (RightLinks ts d m i)
          (c.links.invariant.goes (map_result (λ (more : List LinkTree). a ∷ more) o)
          (links_more d m ts k c.in-Some.operator c.in-Some.ensures.value.0 e n x o rest)));
    }

pub links-returns : goal.links-returns
links-returns m0 c =
    let ts = kinds_of c.args.tokens.now in
    let d = c.args.depth in
    let i = c.args.at in
    let m = c.args.level in
    let k = c.links.i in
    let within : k ≤ length ts = simp length-map c.links.invariant.within in
    rw append-nil at (c.links.invariant.goes (found [] k) (links_none d m ts k c.in_default.ensures.value within))

pub operand-returns-in-Some-Number : goal.operand-returns-in-Some-Number
operand-returns-in-Some-Number m0 c =
    let ts = kinds_of c.args.tokens.now in
    let d = c.args.depth in
    let i = c.args.at in
    let n = c.in-Some-Number.number in
    let lt : i < length ts = simp length-map c.in-Some-Number.ensures.within in
    let first = rw c.in-Some-Number.field-0-is at c.in-Some-Number.ensures.value in
    let it : RightOperand ts d i (found (number n) (i + 1)) = number_found ts d i n lt first in
    rw c.literal.ensures (search (rules, it))

pub operand-returns-in-None : goal.operand-returns-in-None
operand-returns-in-None m0 c =
    let ts = kinds_of c.args.tokens.now in
    let within : c.args.at ≤ length ts = simp length-map c.requires.at in
    operand_missing ts c.args.depth c.args.at c.in-None.ensures.value within

pub named-returns : goal.named-returns
named-returns m0 c =
    let ts = kinds_of c.args.tokens.now in
    let lt : c.args.at < length ts = simp length-map c.requires.at in
    rw (expression_view-Name c.args.word) (named_found ts c.args.depth c.args.at c.args.word lt c.requires.word
    (c.is_symbol_at.ensures.no (search rules)))

pub element-returns-in_err-inner : goal.element-returns-in_err-inner
element-returns-in_err-inner m0 c =
    let ts = kinds_of c.args.tokens.now in
    let d = c.args.depth in
    let i = c.args.at in
    let lt : i < length ts = let long : i + 1 < length ts = simp length-map c.requires.at in omega (arith, long) in
    let p = err_from_is_err_and c.from_residual.result c.from_residual.ensures.1 in
    rw (p.1, p.2) (err_as expression_view expression_view c.in_err-inner.field-0.0 (RightBracketed ts d (i + 1))
    (RightOperand ts d i)
    (λ j why x. element_then ts d i c.args.word lt c.requires.word c.requires.bracket (stopped j why) x)
    c.in_err-inner.ensures)

pub element-returns : goal.element-returns
element-returns m0 c =
    let ts = kinds_of c.args.tokens.now in
    let d = c.args.depth in
    let i = c.args.at in
    let lt : i < length ts = let long : i + 1 < length ts = simp length-map c.requires.at in omega (arith, long) in
    rw (
      expression_view-Element c.in_ok-array.array c.in_ok-index.index,
      c.in_ok-array.ensures.ok,
      c.in_ok-index.ensures.ok,
    )
    (element_then ts d i c.args.word lt c.requires.word c.requires.bracket
    (found (expression_view c.in_ok-inner.inner) c.in_ok-inner.next) c.in_ok-inner.ensures)

pub bracketed-returns-in_err-inside : goal.bracketed-returns-in_err-inside
bracketed-returns-in_err-inside m0 c =
    let ts = kinds_of c.args.tokens.now in
    let p = err_from_is_err_and c.from_residual.result c.from_residual.ensures.1 in
    let (same, deep) = c.in_err-inside.ensures.deep in
    rw (p.1, p.2, same) (bracketed_deep ts c.args.depth c.args.at c.requires.first (omega (arith, deep)))

pub bracketed-returns-in_err-inner : goal.bracketed-returns-in_err-inner
bracketed-returns-in_err-inner m0 c =
    let ts = kinds_of c.args.tokens.now in
    let d = c.args.depth in
    let i = c.args.at in
    let room = c.in_ok-inside.ensures.room in
    let p = err_from_is_err_and c.from_residual-in_err-inner.result c.from_residual-in_err-inner.ensures.1 in
    rw (p.1, p.2) (err_as expression_view expression_view c.in_err-inner.field-0.0
    (RightExpression ts (d + 1) loosest (i + 1)) (RightBracketed ts d i)
    (λ j why x. bracketed_then ts d i c.requires.first room.1 (stopped j why)
    (ended_stop (d + 1) close_bracket (refl, refl) ts (i + 1) j why x))
    (rw room.0 at c.in_err-inner.ensures))

pub bracketed-returns-in_err-next : goal.bracketed-returns-in_err-next
bracketed-returns-in_err-next m0 c =
    let room = c.in_ok-inside.ensures.room in
    let ts = kinds_of c.args.tokens.now in
    let d = c.args.depth in
    let i = c.args.at in
    let p = err_from_is_err_and c.from_residual-in_err-next.result c.from_residual-in_err-next.ensures.1 in
    rw (p.1, p.2) (step_as expression_view c.in_err-next.field-0.0 (RightToken ts close_bracket c.in_ok-inner.next)
    (RightBracketed ts d i)
    (λ j why x. bracketed_then ts d i c.requires.first room.1 (stopped j why)
    (ended_then (d + 1) close_bracket (refl, refl) ts (i + 1) (expression_view c.in_ok-inner.inner) c.in_ok-inner.next
    (rw room.0 at c.in_ok-inner.ensures) (stopped j why) x))
    c.in_err-next.ensures)

pub bracketed-returns : goal.bracketed-returns
bracketed-returns m0 c =
    let room = c.in_ok-inside.ensures.room in
    let ts = kinds_of c.args.tokens.now in
    let d = c.args.depth in
    let i = c.args.at in
    bracketed_then ts d i c.requires.first room.1 (found (expression_view c.in_ok-inner.inner) c.in_ok-next.next)
    (ended_then (d + 1) close_bracket (refl, refl) ts (i + 1) (expression_view c.in_ok-inner.inner) c.in_ok-inner.next
    (rw room.0 at c.in_ok-inner.ensures)
    (found tt c.in_ok-next.next) c.in_ok-next.ensures)

pub unary-returns-in_err-inside : goal.unary-returns-in_err-inside
unary-returns-in_err-inside m0 c =
    let ts = kinds_of c.args.tokens.now in
    let d = c.args.depth in
    let i = c.args.at in
    let p = err_from_is_err_and c.from_residual.result c.from_residual.ensures.1 in
    let (same, deep) = c.in_err-inside.ensures.deep in
    rw (p.1, p.2, same) (unary_deep ts d i c.args.operator c.requires.first (omega (arith, deep)))

pub unary-returns-in_err-inner : goal.unary-returns-in_err-inner
unary-returns-in_err-inner m0 c =
    let ts = kinds_of c.args.tokens.now in
    let d = c.args.depth in
    let i = c.args.at in
    let room = c.in_ok-inside.ensures.room in
    let p = err_from_is_err_and c.from_residual-in_err-inner.result c.from_residual-in_err-inner.ensures.1 in
    rw (p.1, p.2) (err_as expression_view expression_view c.in_err-inner.field-0.0 (RightOperand ts (d + 1) (i + 1))
    (RightOperand ts d i)
    (λ j why x. unary_then ts d i c.args.operator c.requires.first room.1 (stopped j why) x)
    (rw room.0 at c.in_err-inner.ensures))

pub unary-returns : goal.unary-returns
unary-returns m0 c =
    let room = c.in_ok-inside.ensures.room in
    let ts = kinds_of c.args.tokens.now in
    let d = c.args.depth in
    let i = c.args.at in
    rw (expression_view-Unary c.args.operator c.in_ok-operand.operand, c.in_ok-operand.ensures.ok) (unary_then ts d
    i c.args.operator c.requires.first room.1
    (found (expression_view c.in_ok-inner.inner) c.in_ok-inner.next) (rw room.0 at c.in_ok-inner.ensures))
