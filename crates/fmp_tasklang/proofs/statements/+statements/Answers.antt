use Rattle.std.proofs.Common.{◌≡◌, ◌+◌, ◌≤◌, ◌++◌, ◌∷◌, [], None, option_and_then, length, slice_get, map, sym, ap}
use Rattle.std.proofs.Common.{subst, ◌∙◌, arith, rules, true, Ok}
use Rattle.std.proofs.lemmas.List.{length-map, map-append}
use Rattle.std.proofs.lemmas.Result.{err_from_is_err_and}
use Rattle.fmp_lex.specs.Reading.{kinds_of, found, stopped, RightToken}
use Rattle.fmp_lex.proofs.Answered.{answers_as, err_as, step_as}
use Rattle.fmp_tasklang.specs.Reading.{statements_view, block_view, else_view, RightCondition, RightAssignment}
use Rattle.fmp_tasklang.specs.Reading.{RightPlainCall, RightJump, RightStatement, RightIf, RightElse, RightOther}
use Rattle.fmp_tasklang.specs.Reading.{RightBlock, RightStatements}
use Rattle.fmp_tasklang.specs.Streaming.{Adds}
use Rattle.fmp_tasklang.specs.Views.{expression_view, statement_view}
use Rattle.fmp_tasklang.specs.Statements.{jump_of}
use Rattle.fmp_tasklang.proofs.Adding.{added_none, added_more, added_stopped, added_all, adds_none, adds_stopped}
use Rattle.fmp_tasklang.proofs.StatementFrames.{close_brace, statement_up}
use Rattle.fmp_tasklang.proofs.StatementPaths.{statement_call, statement_jump, statement_if, statement_assignment}
use Rattle.fmp_tasklang.proofs.StatementPaths.{while_test, while_body, if_test, if_then_stop, if_otherwise}
use Rattle.fmp_tasklang.proofs.StatementPaths.{without_else, with_else, block_other, if_other, deep_other}
use Rattle.fmp_tasklang.proofs.StatementPaths.{block_missing, block_deep, block_stop, block_open, block_found}
use Rattle.fmp_tasklang.proofs.Views.{while_view}
use Rattle.fmp_tasklang.proofs.statements.+statements.Goals as goal

pub statement-returns-in-Some : goal.statement-returns-in-Some
statement-returns-in-Some m0 c =
    let ts = kinds_of c.args.tokens.now in
    let d = c.args.depth in
    let i = c.args.at in
    let loop = c.args.looped in
    answers_as statement_view c.plain_call.result (RightPlainCall ts d i) (RightStatement ts d loop i)
    (λ o x. statement_call ts d loop i c.in-Some.service (sym c.in-Some.ensures.value) o x) c.plain_call.ensures

pub statement-returns-in-Some-jump_at : goal.statement-returns-in-Some-jump_at
statement-returns-in-Some-jump_at m0 c =
    let ts = kinds_of c.args.tokens.now in
    let d = c.args.depth in
    let i = c.args.at in
    let loop = c.args.looped in
    answers_as statement_view c.jump.result (RightJump ts loop i) (RightStatement ts d loop i)
    (λ o x. statement_jump ts d loop i (statement_view c.in-Some-jump_at.statement)
    (sym c.in-Some-jump_at.ensures.value) o x) c.jump.ensures

pub statement-returns-then-is_keyword_at : goal.statement-returns-then-is_keyword_at
statement-returns-then-is_keyword_at m0 c =
    let ts = kinds_of c.args.tokens.now in
    let d = c.args.depth in
    let i = c.args.at in
    let loop = c.args.looped in
    answers_as statement_view c.if_statement.result (RightIf ts d loop i) (RightStatement ts d loop i)
    (λ o x. statement_if ts d loop i (c.is_keyword_at.ensures.yes (search rules)) o x) c.if_statement.ensures

pub statement-returns : goal.statement-returns
statement-returns m0 c =
    let ts = kinds_of c.args.tokens.now in
    let d = c.args.depth in
    let i = c.args.at in
    let loop = c.args.looped in
    let no_jump : option_and_then (jump_of loop) (slice_get ts i) ≡ None = sym
    (rw c.in_default-jump_at.is at c.jump_at.ensures.value) in
    let no_if = c.is_keyword_at.ensures.no c.if-is_keyword_at.false in
    let no_while = c.is_keyword_at-2.ensures.no c.if-is_keyword_at-2.false in
    answers_as statement_view c.assignment.result (RightAssignment ts d i) (RightStatement ts d loop i)
    (λ o x. statement_assignment ts d loop i (sym c.in_default.ensures.value) no_jump no_if no_while o x)
    c.assignment.ensures

pub while_statement-returns-in_err-condition : goal.while_statement-returns-in_err-condition
while_statement-returns-in_err-condition m0 c =
    let ts = kinds_of c.args.tokens.now in
    let d = c.args.depth in
    let i = c.args.at in
    let loop = c.args.looped in
    let p = err_from_is_err_and c.from_residual.result c.from_residual.ensures.1 in
    rw (p.1, p.2) (err_as expression_view statement_view c.in_err-condition.field-0.0 (RightCondition ts d (i + 1))
    (RightStatement ts d loop i)
    (λ j why x. while_test ts d loop i c.requires.first j why x) c.in_err-condition.ensures)

pub while_statement-returns-in_err-body : goal.while_statement-returns-in_err-body
while_statement-returns-in_err-body m0 c =
    let ts = kinds_of c.args.tokens.now in
    let d = c.args.depth in
    let i = c.args.at in
    let loop = c.args.looped in
    let p = err_from_is_err_and c.from_residual-in_err-body.result c.from_residual-in_err-body.ensures.1 in
    rw (p.1, p.2) (err_as block_view statement_view c.in_err-body.field-0.0
    (RightBlock ts d true c.in_ok-condition.next) (RightStatement ts d loop i)
    (λ j why x. while_body ts d loop i c.requires.first (expression_view c.in_ok-condition.condition)
    c.in_ok-condition.next c.in_ok-condition.ensures (stopped j why) x) c.in_err-body.ensures)

pub while_statement-returns : goal.while_statement-returns
while_statement-returns m0 c =
    let ts = kinds_of c.args.tokens.now in
    let d = c.args.depth in
    let i = c.args.at in
    let loop = c.args.looped in
    rw (while_view c.in_ok-condition.condition c.in_ok-body.body) (while_body ts d loop i c.requires.first
    (expression_view c.in_ok-condition.condition) c.in_ok-condition.next c.in_ok-condition.ensures
    (found (block_view c.in_ok-body.body) c.in_ok-body.next) c.in_ok-body.ensures)

pub if_statement-returns-in_err-condition : goal.if_statement-returns-in_err-condition
if_statement-returns-in_err-condition m0 c =
    let ts = kinds_of c.args.tokens.now in
    let d = c.args.depth in
    let i = c.args.at in
    let loop = c.args.looped in
    let p = err_from_is_err_and c.from_residual.result c.from_residual.ensures.1 in
    rw (p.1, p.2) (err_as expression_view statement_view c.in_err-condition.field-0.0 (RightCondition ts d (i + 1))
    (RightIf ts d loop i)
    (λ j why x. if_test d loop ts i c.requires.first j why x) c.in_err-condition.ensures)

pub if_statement-returns-in_err-then : goal.if_statement-returns-in_err-then
if_statement-returns-in_err-then m0 c =
    let ts = kinds_of c.args.tokens.now in
    let d = c.args.depth in
    let i = c.args.at in
    let loop = c.args.looped in
    let p = err_from_is_err_and c.from_residual-in_err-then.result c.from_residual-in_err-then.ensures.1 in
    rw (p.1, p.2) (err_as block_view statement_view c.in_err-then.field-0.0
    (RightBlock ts d loop c.in_ok-condition.next) (RightIf ts d loop i)
    (λ j why x. if_then_stop d loop ts i c.requires.first (expression_view c.in_ok-condition.condition)
    c.in_ok-condition.next c.in_ok-condition.ensures j why x) c.in_err-then.ensures)

pub if_statement-returns-in_err-otherwise : goal.if_statement-returns-in_err-otherwise
if_statement-returns-in_err-otherwise m0 c =
    let ts = kinds_of c.args.tokens.now in
    let d = c.args.depth in
    let i = c.args.at in
    let loop = c.args.looped in
    let p = err_from_is_err_and c.from_residual-in_err-otherwise.result c.from_residual-in_err-otherwise.ensures.1 in
    rw (p.1, p.2) (err_as else_view statement_view c.in_err-otherwise.field-0.0
    (RightElse ts d loop c.in_ok-then.next) (RightIf ts d loop i)
    (λ j why x. if_otherwise d loop ts i c.requires.first (expression_view c.in_ok-condition.condition)
    c.in_ok-condition.next c.in_ok-condition.ensures (block_view c.in_ok-then.then) c.in_ok-then.next
    c.in_ok-then.ensures (stopped j why) x) c.in_err-otherwise.ensures)

pub if_statement-returns : goal.if_statement-returns
if_statement-returns m0 c =
    let ts = kinds_of c.args.tokens.now in
    let d = c.args.depth in
    let i = c.args.at in
    let loop = c.args.looped in
    rw c.in_ok-chosen.ensures.tree (if_otherwise d loop ts i c.requires.first
    (expression_view c.in_ok-condition.condition)
    c.in_ok-condition.next c.in_ok-condition.ensures (block_view c.in_ok-then.then) c.in_ok-then.next
    c.in_ok-then.ensures (found (else_view c.in_ok-otherwise.otherwise) c.in_ok-otherwise.next)
    c.in_ok-otherwise.ensures)

pub else_part-returns-then-not-is_keyword_at : goal.else_part-returns-then-not-is_keyword_at
else_part-returns-then-not-is_keyword_at m0 c =
    let ts = kinds_of c.args.tokens.now in
    let d = c.args.depth in
    let i = c.args.at in
    let loop = c.args.looped in
    let within : i ≤ length ts = simp length-map c.requires.at in
    without_else d loop ts i (c.is_keyword_at.ensures.no (search rules)) within

pub else_part-returns-in_err-body : goal.else_part-returns-in_err-body
else_part-returns-in_err-body m0 c =
    let ts = kinds_of c.args.tokens.now in
    let d = c.args.depth in
    let i = c.args.at in
    let loop = c.args.looped in
    let p = err_from_is_err_and c.from_residual.result c.from_residual.ensures.1 in
    rw (p.1, p.2) (err_as block_view else_view c.in_err-body.field-0.0 (RightOther ts d loop (i + 1))
    (RightElse ts d loop i)
    (λ j why x. with_else d loop ts i (c.is_keyword_at.ensures.yes (search rules)) (stopped j why) x)
    c.in_err-body.ensures)

pub else_part-returns : goal.else_part-returns
else_part-returns m0 c =
    let ts = kinds_of c.args.tokens.now in
    let d = c.args.depth in
    let i = c.args.at in
    let loop = c.args.looped in
    with_else d loop ts i (c.is_keyword_at.ensures.yes (search rules))
    (found (block_view c.in_ok-body.body) c.in_ok-body.next) c.in_ok-body.ensures

pub other-returns-then-not-is_keyword_at : goal.other-returns-then-not-is_keyword_at
other-returns-then-not-is_keyword_at m0 c =
    let ts = kinds_of c.args.tokens.now in
    let d = c.args.depth in
    let i = c.args.at in
    let loop = c.args.looped in
    answers_as block_view c.block.result (RightBlock ts d loop i) (RightOther ts d loop i)
    (λ o x. block_other d loop ts i (c.is_keyword_at.ensures.no (search rules)) o x) c.block.ensures

pub other-returns-in_err-inside : goal.other-returns-in_err-inside
other-returns-in_err-inside m0 c =
    let ts = kinds_of c.args.tokens.now in
    let d = c.args.depth in
    let i = c.args.at in
    let loop = c.args.looped in
    let p = err_from_is_err_and c.from_residual.result c.from_residual.ensures.1 in
    let (same, deep) = c.in_err-inside.ensures.deep in
    rw (p.1, p.2, same) (deep_other d loop ts i (c.is_keyword_at.ensures.yes (search rules)) (omega (arith, deep)))

pub other-returns-in_err-inner : goal.other-returns-in_err-inner
other-returns-in_err-inner m0 c =
    let ts = kinds_of c.args.tokens.now in
    let d = c.args.depth in
    let i = c.args.at in
    let loop = c.args.looped in
    let room = c.in_ok-inside.ensures.room in
    let p = err_from_is_err_and c.from_residual-in_err-inner.result c.from_residual-in_err-inner.ensures.1 in
    rw (p.1, p.2) (err_as statement_view block_view c.in_err-inner.field-0.0 (RightIf ts (d + 1) loop i)
    (RightOther ts d loop i)
    (λ j why x. if_other d loop ts i (c.is_keyword_at.ensures.yes (search rules)) room.1 (stopped j why) x)
    (rw room.0 at c.in_err-inner.ensures))

pub other-returns : goal.other-returns
other-returns m0 c =
    let room = c.in_ok-inside.ensures.room in
    let ts = kinds_of c.args.tokens.now in
    let d = c.args.depth in
    let i = c.args.at in
    let loop = c.args.looped in
    let pushed : c.push.new.self.items ≡ c.in_ok-inner.inner ∷ [] = c.in_ok-push.ensures.items ∙ ap
    (λ z. z ++ c.in_ok-inner.inner ∷ []) c.in_ok-body.ensures.items in
    rw pushed (if_other d loop ts i (c.is_keyword_at.ensures.yes (search rules)) room.1
    (found (statement_view c.in_ok-inner.inner) c.in_ok-inner.next) (rw room.0 at c.in_ok-inner.ensures))

pub block-returns-then-not-is_symbol_at : goal.block-returns-then-not-is_symbol_at
block-returns-then-not-is_symbol_at m0 c =
    let ts = kinds_of c.args.tokens.now in
    let d = c.args.depth in
    let i = c.args.at in
    let loop = c.args.looped in
    let within : i ≤ length ts = simp length-map c.requires.at in
    block_missing d loop ts i (c.is_symbol_at.ensures.no (search rules)) within

pub block-returns-in_err-inside : goal.block-returns-in_err-inside
block-returns-in_err-inside m0 c =
    let ts = kinds_of c.args.tokens.now in
    let d = c.args.depth in
    let i = c.args.at in
    let loop = c.args.looped in
    let p = err_from_is_err_and c.from_residual.result c.from_residual.ensures.1 in
    let (same, deep) = c.in_err-inside.ensures.deep in
    rw (p.1, p.2, same) (block_deep d loop ts i (c.is_symbol_at.ensures.yes (search rules)) (omega (arith, deep)))

pub block-returns-in_err-body : goal.block-returns-in_err-body
block-returns-in_err-body m0 c =
    let ts = kinds_of c.args.tokens.now in
    let d = c.args.depth in
    let i = c.args.at in
    let loop = c.args.looped in
    let room = c.in_ok-inside.ensures.room in
    let p = err_from_is_err_and c.from_residual-in_err-body.result c.from_residual-in_err-body.ensures.1 in
    rw (p.1, p.2) (err_as statements_view block_view c.in_err-body.field-0.0
    (RightStatements ts (d + 1) loop (i + 1)) (RightBlock ts d loop i)
    (λ j why x. block_stop d loop ts i (c.is_symbol_at.ensures.yes (search rules)) room.1 j why x)
    (rw room.0 at c.in_err-body.ensures))

pub block-returns-in_err-next : goal.block-returns-in_err-next
block-returns-in_err-next m0 c =
    let room = c.in_ok-inside.ensures.room in
    let ts = kinds_of c.args.tokens.now in
    let d = c.args.depth in
    let i = c.args.at in
    let loop = c.args.looped in
    let p = err_from_is_err_and c.from_residual-in_err-next.result c.from_residual-in_err-next.ensures.1 in
    rw (p.1, p.2) (step_as block_view c.in_err-next.field-0.0 (RightToken ts close_brace c.in_ok-body.next)
    (RightBlock ts d loop i)
    (λ j why x. block_open d loop ts i (c.is_symbol_at.ensures.yes (search rules)) room.1
    (statements_view c.in_ok-body.body) c.in_ok-body.next (rw room.0 at c.in_ok-body.ensures) j why x) c.in_err-next.ensures)

pub block-returns : goal.block-returns
block-returns m0 c =
    let room = c.in_ok-inside.ensures.room in
    let ts = kinds_of c.args.tokens.now in
    let d = c.args.depth in
    let i = c.args.at in
    let loop = c.args.looped in
    block_found d loop ts i (c.is_symbol_at.ensures.yes (search rules)) room.1
    (statements_view c.in_ok-body.body) c.in_ok-body.next (rw room.0 at c.in_ok-body.ensures) c.in_ok-next.next
    c.in_ok-next.ensures

pub statements-returns-in_err-add_statements : goal.statements-returns-in_err-add_statements
statements-returns-in_err-add_statements m0 c =
    let r = c.from_residual-in_err-add_statements in
    let p = err_from_is_err_and r.result r.ensures.1 in
    rw (p.1, p.2) (adds_stopped (kinds_of c.args.tokens.now) c.args.depth c.args.looped c.args.at
    c.add_statements.new.at
    (statements_view c.in_ok-found.found) (statements_view c.add_statements.new.found)
    c.in_err-add_statements.field-0.0 c.in_err-add_statements.ensures)

pub statements-returns : goal.statements-returns
statements-returns m0 c =
    let ts = kinds_of c.args.tokens.now in
    let d = c.args.depth in
    let i = c.args.at in
    let loop = c.args.looped in
    let j = c.add_statements.new.at in
    let after = statements_view c.add_statements.new.found in
    let none : statements_view c.in_ok-found.found ≡ [] = ap (map statement_view) c.in_ok-found.ensures.items in
    adds_none ts d loop i j after
    (subst (λ before. Adds ts d loop i j before after (Ok tt)) none c.in_ok-add_statements.ensures)

pub add_statements-statements-init : goal.add_statements-statements-init
add_statements-statements-init m0 c = record {
  within = c.requires.at;
  added = added_none (kinds_of c.args.tokens.now) c.args.depth c.args.looped c.args.at.now
      (statements_view c.args.found.now);
}

pub add_statements-returns-in_err-one : goal.add_statements-returns-in_err-one
add_statements-returns-in_err-one m0 c =
    let ts = kinds_of c.args.tokens.now in
    let k = c.statements.at in
    let within : k ≤ length ts = simp length-map c.statements.invariant.within in
    let is_not = c.statements-test.ensures.no (search rules) in
    let p = err_from_is_err_and c.from_residual.result c.from_residual.ensures.1 in
    rw (p.1, p.2) (added_stopped ts c.args.depth c.args.looped c.args.at.now k (statements_view c.args.found.now)
    (statements_view c.statements.found) c.statements.invariant.added is_not within
    c.in_err-one.field-0.0 c.in_err-one.ensures)

pub add_statements-statements-smaller : goal.add_statements-statements-smaller
add_statements-statements-smaller m0 c =
    let ts = kinds_of c.args.tokens.now in
    let x : RightStatement ts c.args.depth c.args.looped c.statements.at
    (found (statement_view c.in_ok-one.one) c.in_ok-one.next) = c.in_ok-one.ensures in
    let longer = statement_up ts 0 (x.reads 0) in
    let within = simp length-map at x.within in
    omega arith

pub add_statements-statements-preserved : goal.add_statements-statements-preserved
add_statements-statements-preserved m0 c =
    let ts = kinds_of c.args.tokens.now in
    let d = c.args.depth in
    let loop = c.args.looped in
    let k = c.statements.at in
    let is_not = c.statements-test.ensures.no (search rules) in
    let a = statement_view c.in_ok-one.one in
    let n = c.in_ok-one.next in
    let x : RightStatement ts d loop k (found a n) = c.in_ok-one.ensures in
    let within = simp length-map at x.within in
    let xs = statements_view c.statements.found in
    let pushed : map statement_view c.push.new.self.items ≡ xs ++ a ∷ [] =
    rw c.in_ok-push.ensures.items (map-append statement_view c.statements.found.items (c.in_ok-one.one ∷ [])) in
    record {
      within = within;
      added = rw pushed (added_more ts d loop c.args.at.now k (statements_view c.args.found.now) xs
          c.statements.invariant.added is_not a n x);
    }

pub add_statements-returns : goal.add_statements-returns
add_statements-returns m0 c =
    let ts = kinds_of c.args.tokens.now in
    let k = c.statements.at in
    let within : k ≤ length ts = simp length-map c.statements.invariant.within in
    added_all ts c.args.depth c.args.looped c.args.at.now k (statements_view c.args.found.now)
    (statements_view c.statements.found) c.statements.invariant.added (c.statements-test.ensures.yes (search rules))
    within
