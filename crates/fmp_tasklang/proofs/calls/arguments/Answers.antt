use Rattle.std.proofs.Common.{◌≡◌, ◌+◌, ◌≤◌, ◌++◌, ◌∷◌, [], None, length, map, refl, sym, ap, ◌∙◌, arith, rules}
use Rattle.std.proofs.Common.{append-nil}
use Rattle.std.proofs.lemmas.List.{length-map}
use Rattle.std.proofs.lemmas.Result.{err_from_is_err_and}
use Rattle.fmp_lex.specs.Reading.{kinds_of, found, stopped, map_result}
use Rattle.fmp_lex.proofs.Answered.{err_as}
use Rattle.fmp_lex.specs.Forms.{put}
use Rattle.fmp_tasklang.specs.Reading.{argument_view, called_view, RightPart, RightParts, RightArguments}
use Rattle.fmp_tasklang.specs.Views.{expression_view}
use Rattle.std.proofs.Common.{drop, get_or, subst, add-one, drop-cons}
use Rattle.fmp_lex.specs.declared.marks.Mark.TheVariants as mark
use Rattle.fmp_tasklang.specs.declared.forms.CallPart.TheVariants as part
use Rattle.fmp_tasklang.specs.Calls.{values_of, out_from}
use Rattle.fmp_tasklang.proofs.Arguments.{arguments_as, parts_then, parts_stop, parts_none, parts_done, push_put}
use Rattle.fmp_tasklang.proofs.Arguments.{no_before, values_of-append, out_from-append, called_is}
use Rattle.fmp_tasklang.proofs.calls.arguments.Goals as goal

pub loop-one-init : goal.loop-one-init
loop-one-init c =
    let ts = kinds_of c.args.tokens.now in
    let d = c.args.depth in
    let i = c.args.at in
    let s = c.args.service in
    let ps = c.args.parts.now in
    record {
      within = c.requires.at;
      service = refl;
      seen = [];
      values = search rules;
      out = search rules;
      result = search rules;
      goes = λ o x. no_before o (RightParts ts d ps i) x;
    }

pub returns-in_err-argument-clause-reads : goal.returns-in_err-argument-clause-reads
returns-in_err-argument-clause-reads c =
    let ts = kinds_of c.args.tokens.now in
    let d = c.args.depth in
    let i = c.args.at in
    let s = c.args.service in
    let ps = c.args.parts.now in
    let n = c.loop-one.one-index in
    let k = c.loop-one.i in
    let row = get_or ps n (part.Mark mark.LeftParen) in
    let split : drop n ps ≡ row ∷ drop (n + 1) ps = rw add-one (drop-cons ps n
    (part.Mark mark.LeftParen) c.loop-one-test.true) in
    let p = err_from_is_err_and c.from_residual-in_err-argument.result c.from_residual-in_err-argument.ensures.1 in
    rw (p.1, p.2) (err_as argument_view called_view c.in_err-argument.field-0.0 (RightPart ts d row k)
    (RightArguments ts d s ps i)
    (λ j why x. arguments_as d s ps ts i (stopped j why)
    (c.loop-one.invariant.goes (stopped j why) (subst (λ rows. RightParts ts d rows k (stopped j why)) (sym split)
    (parts_stop d row (drop (n + 1) ps) ts k j why x))))
    c.in_err-argument.ensures)

pub loop-one-preserved : goal.loop-one-preserved
loop-one-preserved c =
    let ts = kinds_of c.args.tokens.now in
    let d = c.args.depth in
    let i = c.args.at in
    let s = c.args.service in
    let ps = c.args.parts.now in
    let n = c.loop-one.one-index in
    let k = c.loop-one.i in
    let row = get_or ps n (part.Mark mark.LeftParen) in
    let split : drop n ps ≡ row ∷ drop (n + 1) ps = rw add-one (drop-cons ps n
    (part.Mark mark.LeftParen) c.loop-one-test.true) in
    let a = argument_view c.in_ok-argument.argument in
    let m = c.in_ok-argument.next in
    let x : RightPart ts d row k (found a m) = c.in_ok-argument.ensures in
    let within = simp length-map at x.within in
    let seen = c.loop-one.invariant.seen in
    record {
      within = within;
      service = c.in_ok-put.ensures.service ∙ c.loop-one.invariant.service;
      seen = seen ++ put a [];
      values = c.in_ok-put.ensures.arguments ∙ (ap (λ z. z ++ values_of (put a [])) c.loop-one.invariant.values
          ∙ sym (values_of-append seen (put a [])));
      out = c.in_ok-put.ensures.out ∙ (ap (λ w. out_from w (put a [])) c.loop-one.invariant.out
          ∙ sym (out_from-append None seen (put a [])));
      result = c.in_ok-put.ensures.result ∙ c.loop-one.invariant.result;
      goes = λ o rest. push_put seen a o (RightParts ts d ps i) (c.loop-one.invariant.goes (map_result (put a) o)
          (subst (λ rows. RightParts ts d rows k (map_result (put a) o)) (sym split)
          (parts_then d row (drop (n + 1) ps) ts k a m x o rest)));
    }

pub returns-clause-reads : goal.returns-clause-reads
returns-clause-reads c =
    let ts = kinds_of c.args.tokens.now in
    let d = c.args.depth in
    let i = c.args.at in
    let s = c.args.service in
    let ps = c.args.parts.now in
    let n = c.loop-one.one-index in
    let k = c.loop-one.i in
    let seen = c.loop-one.invariant.seen in
    let within : k ≤ length ts = simp length-map c.loop-one.invariant.within in
    let all : RightParts ts d ps i (found seen k) = rw append-nil at (c.loop-one.invariant.goes (found [] k)
    (parts_none d (drop n ps) ts k (parts_done ps n (omega arith)) within)) in
    let same = called_is c.loop-one.call.service s (map expression_view c.loop-one.call.arguments.items)
    (values_of seen) c.loop-one.call.receivers.out (out_from None seen)
    c.loop-one.invariant.service c.loop-one.invariant.values c.loop-one.invariant.out in
    subst (λ z. RightArguments ts d s ps i (found z k)) (sym same) (arguments_as d s ps ts i (found seen k) all)
