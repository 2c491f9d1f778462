use Rattle.std.proofs.lemmas.Result.{err_from_is_err_and}
use Rattle.fmp_lex.specs.Reading.{kinds_of, found, stopped, RightToken}
use Rattle.fmp_lex.proofs.Answered.{err_as, find_as, step_as}
use Rattle.fmp_lex.specs.Forms.{mark_kind}
use Rattle.fmp_tasklang.specs.Expressions.{loosest}
use Rattle.fmp_tasklang.specs.Reading.{itself, argument_view, RightWord, RightExpression, RightPart}
use Rattle.fmp_tasklang.specs.Views.{expression_view}
use Rattle.fmp_tasklang.specs.declared.forms.CallPart.TheVariants as part
use Rattle.fmp_tasklang.proofs.Arguments.{ampersand, mark_as, value_stop, value_unmarked, value_found, out_missing}
use Rattle.fmp_tasklang.proofs.Arguments.{out_stop, out_unmarked, out_found}
use Rattle.fmp_tasklang.proofs.calls.part.Goals as goal

pub returns-in_err-next-in-Mark : goal.returns-in_err-next-in-Mark
returns-in_err-next-in-Mark c =
    let ts = kinds_of c.args.tokens.now in
    let d = c.args.depth in
    let i = c.args.at in
    let p = err_from_is_err_and c.from_residual.result c.from_residual.ensures.1 in
    rw (p.1, p.2, c.in-Mark.is) (step_as argument_view c.in_err-next-in-Mark.field-0.0
    (RightToken ts (mark_kind c.in-Mark.mark) i) (RightPart ts d (part.Mark c.in-Mark.mark) i)
    (λ j why x. mark_as d ts i c.in-Mark.mark (stopped j why) x) c.in_err-next-in-Mark.ensures)

pub returns-in_err-value-in-Value : goal.returns-in_err-value-in-Value
returns-in_err-value-in-Value c =
    let ts = kinds_of c.args.tokens.now in
    let d = c.args.depth in
    let i = c.args.at in
    let p = err_from_is_err_and c.from_residual-in_err-value-in-Value.result
    c.from_residual-in_err-value-in-Value.ensures.1 in
    rw (p.1, p.2, c.in-Value.is) (err_as expression_view argument_view c.in_err-value-in-Value.field-0.0
    (RightExpression ts d loosest i) (RightPart ts d (part.Value c.in-Value.mark) i)
    (λ j why x. value_stop d ts i c.in-Value.mark j why x) c.in_err-value-in-Value.ensures)

pub returns-in_err-next-in-Value : goal.returns-in_err-next-in-Value
returns-in_err-next-in-Value c =
    let ts = kinds_of c.args.tokens.now in
    let d = c.args.depth in
    let i = c.args.at in
    let p = err_from_is_err_and c.from_residual-in_err-next-in-Value.result
    c.from_residual-in_err-next-in-Value.ensures.1 in
    rw (p.1, p.2, c.in-Value.is) (step_as argument_view c.in_err-next-in-Value.field-0.0
    (RightToken ts (mark_kind c.in-Value.mark) c.in_ok-value-in-Value.next)
    (RightPart ts d (part.Value c.in-Value.mark) i)
    (λ j why x. value_unmarked d ts i c.in-Value.mark (expression_view c.in_ok-value-in-Value.value)
    c.in_ok-value-in-Value.next c.in_ok-value-in-Value.ensures j why x) c.in_err-next-in-Value.ensures)

pub returns-in_err-next-in-Out : goal.returns-in_err-next-in-Out
returns-in_err-next-in-Out c =
    let ts = kinds_of c.args.tokens.now in
    let d = c.args.depth in
    let i = c.args.at in
    let p = err_from_is_err_and c.from_residual-in_err-next-in-Out.result c.from_residual-in_err-next-in-Out.ensures.1
    in
    rw (p.1, p.2, c.in-Out.is) (step_as argument_view c.in_err-next-in-Out.field-0.0 (RightToken ts ampersand i)
    (RightPart ts d (part.Out c.in-Out.mark) i)
    (λ j why x. out_missing d ts i c.in-Out.mark j why x) c.in_err-next-in-Out.ensures)

pub returns-in_err-word-in-Out : goal.returns-in_err-word-in-Out
returns-in_err-word-in-Out c =
    let ts = kinds_of c.args.tokens.now in
    let d = c.args.depth in
    let i = c.args.at in
    let p = err_from_is_err_and c.from_residual-in_err-word-in-Out.result c.from_residual-in_err-word-in-Out.ensures.1
    in
    rw (p.1, p.2, c.in-Out.is) (find_as itself argument_view c.in_err-word-in-Out.field-0.0
    (RightWord ts c.in_ok-next-in-Out.next) (RightPart ts d (part.Out c.in-Out.mark) i)
    (λ j why x. out_stop d ts i c.in-Out.mark c.in_ok-next-in-Out.next c.in_ok-next-in-Out.ensures j why x)
    c.in_err-word-in-Out.ensures)

pub returns-in_err-next-in-Out-2 : goal.returns-in_err-next-in-Out-2
returns-in_err-next-in-Out-2 c =
    let ts = kinds_of c.args.tokens.now in
    let d = c.args.depth in
    let i = c.args.at in
    let p = err_from_is_err_and c.from_residual-in_err-next-in-Out-2.result
    c.from_residual-in_err-next-in-Out-2.ensures.1 in
    rw (p.1, p.2, c.in-Out.is) (step_as argument_view c.in_err-next-in-Out-2.field-0.0
    (RightToken ts (mark_kind c.in-Out.mark) c.in_ok-word-in-Out.next)
    (RightPart ts d (part.Out c.in-Out.mark) i)
    (λ j why x. out_unmarked d ts i c.in-Out.mark c.in_ok-next-in-Out.next c.in_ok-next-in-Out.ensures
    c.in_ok-word-in-Out.word c.in_ok-word-in-Out.next c.in_ok-word-in-Out.ensures j why x)
    c.in_err-next-in-Out-2.ensures)

pub returns-in_ok-next-in-Mark : goal.returns-in_ok-next-in-Mark
returns-in_ok-next-in-Mark c =
    let ts = kinds_of c.args.tokens.now in
    let d = c.args.depth in
    let i = c.args.at in
    rw c.in-Mark.is (mark_as d ts i c.in-Mark.mark (found tt c.in_ok-next-in-Mark.next) c.in_ok-next-in-Mark.ensures)

pub returns-in_ok-next-in-Value : goal.returns-in_ok-next-in-Value
returns-in_ok-next-in-Value c =
    let ts = kinds_of c.args.tokens.now in
    let d = c.args.depth in
    let i = c.args.at in
    rw c.in-Value.is (value_found d ts i c.in-Value.mark (expression_view c.in_ok-value-in-Value.value)
    c.in_ok-value-in-Value.next c.in_ok-value-in-Value.ensures c.in_ok-next-in-Value.next
    c.in_ok-next-in-Value.ensures)

pub returns-in_ok-next-in-Out-2 : goal.returns-in_ok-next-in-Out-2
returns-in_ok-next-in-Out-2 c =
    let ts = kinds_of c.args.tokens.now in
    let d = c.args.depth in
    let i = c.args.at in
    rw c.in-Out.is (out_found d ts i c.in-Out.mark c.in_ok-next-in-Out.next c.in_ok-next-in-Out.ensures
    c.in_ok-word-in-Out.word c.in_ok-word-in-Out.next c.in_ok-word-in-Out.ensures c.in_ok-next-in-Out-2.next
    c.in_ok-next-in-Out-2.ensures)
