use Rattle.std.proofs.Common.{◌++◌, ap, sym, ◌∙◌, codes}
use Rattle.std.proofs.lemmas.Result.{IfOk-weaker, on_ok_weaker}
use Rattle.fmp_tasklang.specs.Views.{expression_view, block_view}
use Rattle.fmp_scopes.proofs.ViewTrees.{view-If, view-IfElse, view-While}
use Rattle.fmp_export.specs.declared.source.Landmark.TheVariants as landmark
use Rattle.fmp_export.specs.Sources.{place_after, source_view}
use Rattle.fmp_export.specs.Statements.{block_end, c_block, c_choice, c_closed, c_head, c_statement, choice_end}
use Rattle.fmp_export.specs.Statements.{statement_end}
use Rattle.fmp_export.specs.Words.{tab}
use Rattle.fmp_export.proofs.Appended.{two}
use Rattle.fmp_export.proofs.statements.+statements_in_c.Goals as goal

pub append_statement-returns-in_ok-next-in-If-clause-text : goal.append_statement-returns-in_ok-next-in-If-clause-text
append_statement-returns-in_ok-next-in-If-clause-text t c =
    let s = source_view c.args.source.now in
    let margin = c.args.margin.now in
    let at = c.args.at in
    let view =
    view-If c.args.s.now c.in-If.condition c.in-If.then c.deref-in-If.result.now c.in-If.is
    c.deref-in-If.ensures.value in
    let b = block_view c.deref-in-If.result.now in
    let p = c_head s margin (codes "if (") at (expression_view c.in-If.condition) in
    let q = c_closed s margin (c_block s (margin ++ tab) (place_after landmark.LeftBrace s at) b)
    (block_end s (place_after landmark.LeftBrace s at) b) in
    on_ok_weaker c.append_closed.result
    (λ e. two c.args.out.now.items p q _ _ c.in_ok-next-in-If.ensures.text
    (e ∙ ap (λ i. c.append_head.new.out.items ++ c_closed s margin (c_block s (margin ++ tab) i b) (block_end s i b))
    c.in_ok-next-in-If.ensures.next)
    ∙ ap (λ x. c.args.out.now.items ++ c_statement s margin at x) (sym view)) c.append_closed.ensures.text

pub append_statement-returns-in_ok-next-in-If-clause-next : goal.append_statement-returns-in_ok-next-in-If-clause-next
append_statement-returns-in_ok-next-in-If-clause-next t c =
    let s = source_view c.args.source.now in
    let at = c.args.at in
    let view =
    view-If c.args.s.now c.in-If.condition c.in-If.then c.deref-in-If.result.now c.in-If.is
    c.deref-in-If.ensures.value in
    let b = block_view c.deref-in-If.result.now in
    IfOk-weaker c.append_closed.result _ _
    (λ next e. e ∙ ap (λ i. place_after landmark.RightBrace s (block_end s i b)) c.in_ok-next-in-If.ensures.next
    ∙ ap (λ x. statement_end s at x) (sym view)) c.append_closed.ensures.next

pub append_statement-returns-in_ok-next-in-IfElse-2-clause-text :
    goal.append_statement-returns-in_ok-next-in-IfElse-2-clause-text
append_statement-returns-in_ok-next-in-IfElse-2-clause-text t c =
    let s = source_view c.args.source.now in
    let margin = c.args.margin.now in
    let at = c.args.at in
    let view =
    view-IfElse c.args.s.now c.in-IfElse.condition c.in-IfElse.then c.in-IfElse.otherwise c.deref-in-IfElse.result.now
    c.deref-in-IfElse-2.result.now c.deref-in-IfElse-3.result.now c.in-IfElse.is c.deref-in-IfElse.ensures
    c.deref-in-IfElse-2.ensures.value c.deref-in-IfElse-3.ensures.value in
    let b = block_view c.deref-in-IfElse-2.result.now in
    let o = block_view c.deref-in-IfElse-3.result.now in
    let start = c.in_ok-next-in-IfElse.ensures.next in
    let end = c.in_ok-next-in-IfElse-2.ensures.next ∙ ap (λ i. block_end s i b) start in
    let p = c_head s margin (codes "if (") at (expression_view c.deref-in-IfElse.result.now) in
    let q = c_block s (margin ++ tab) (place_after landmark.LeftBrace s at) b in
    let r = c_choice s margin (block_end s (place_after landmark.LeftBrace s at) b) o in
    on_ok_weaker c.append_choice.result
    (λ e. two c.args.out.now.items p (q ++ r) _ _ c.in_ok-next-in-IfElse.ensures.text
    (two c.append_head-in-IfElse.new.out.items q r _ _
    (c.in_ok-next-in-IfElse-2.ensures.text
    ∙ ap (λ i. c.append_head-in-IfElse.new.out.items ++ c_block s (margin ++ tab) i b) start)
    (e ∙ ap (λ i. c.append_inner.new.out.items ++ c_choice s margin i o) end))
    ∙ ap (λ x. c.args.out.now.items ++ c_statement s margin at x) (sym view)) c.append_choice.ensures.text

pub append_statement-returns-in_ok-next-in-IfElse-2-clause-next :
    goal.append_statement-returns-in_ok-next-in-IfElse-2-clause-next
append_statement-returns-in_ok-next-in-IfElse-2-clause-next t c =
    let s = source_view c.args.source.now in
    let at = c.args.at in
    let view =
    view-IfElse c.args.s.now c.in-IfElse.condition c.in-IfElse.then c.in-IfElse.otherwise c.deref-in-IfElse.result.now
    c.deref-in-IfElse-2.result.now c.deref-in-IfElse-3.result.now c.in-IfElse.is c.deref-in-IfElse.ensures
    c.deref-in-IfElse-2.ensures.value c.deref-in-IfElse-3.ensures.value in
    let b = block_view c.deref-in-IfElse-2.result.now in
    let o = block_view c.deref-in-IfElse-3.result.now in
    let end = c.in_ok-next-in-IfElse-2.ensures.next ∙ ap (λ i. block_end s i b) c.in_ok-next-in-IfElse.ensures.next in
    IfOk-weaker c.append_choice.result _ _
    (λ next e. e ∙ ap (λ i. choice_end s i o) end ∙ ap (λ x. statement_end s at x) (sym view))
    c.append_choice.ensures.next

pub append_statement-returns-in_ok-next-in-While-clause-text :
    goal.append_statement-returns-in_ok-next-in-While-clause-text
append_statement-returns-in_ok-next-in-While-clause-text t c =
    let s = source_view c.args.source.now in
    let margin = c.args.margin.now in
    let at = c.args.at in
    let view =
    view-While c.args.s.now c.in-While.condition c.in-While.body c.deref-in-While.result.now c.in-While.is
    c.deref-in-While.ensures.value in
    let b = block_view c.deref-in-While.result.now in
    let p = c_head s margin (codes "fmp_while (") at (expression_view c.in-While.condition) in
    let q = c_closed s margin (c_block s (margin ++ tab) (place_after landmark.LeftBrace s at) b)
    (block_end s (place_after landmark.LeftBrace s at) b) in
    on_ok_weaker c.append_closed-in-While.result
    (λ e. two c.args.out.now.items p q _ _ c.in_ok-next-in-While.ensures.text
    (e
    ∙ ap
    (λ i. c.append_head-in-While.new.out.items ++ c_closed s margin (c_block s (margin ++ tab) i b) (block_end s i b))
    c.in_ok-next-in-While.ensures.next)
    ∙ ap (λ x. c.args.out.now.items ++ c_statement s margin at x) (sym view))
    c.append_closed-in-While.ensures.text

pub append_statement-returns-in_ok-next-in-While-clause-next :
    goal.append_statement-returns-in_ok-next-in-While-clause-next
append_statement-returns-in_ok-next-in-While-clause-next t c =
    let s = source_view c.args.source.now in
    let at = c.args.at in
    let view =
    view-While c.args.s.now c.in-While.condition c.in-While.body c.deref-in-While.result.now c.in-While.is
    c.deref-in-While.ensures.value in
    let b = block_view c.deref-in-While.result.now in
    IfOk-weaker c.append_closed-in-While.result _ _
    (λ next e. e ∙ ap (λ i. place_after landmark.RightBrace s (block_end s i b)) c.in_ok-next-in-While.ensures.next
    ∙ ap (λ x. statement_end s at x) (sym view)) c.append_closed-in-While.ensures.next
