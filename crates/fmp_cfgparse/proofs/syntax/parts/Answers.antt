use Rattle.std.proofs.Common.{◌≡◌, ◌+◌, ◌≤◌, [], ◌∷◌, ◌++◌, length, drop, get_or, arith, sym, subst, append-nil}
use Rattle.std.proofs.Common.{add-one, drop-cons}
use Rattle.std.proofs.lemmas.List.{length-map}
use Rattle.std.proofs.lemmas.Result.{err_from_is_err_and}
use Rattle.fmp_lex.specs.Reading.{kinds_of, found, stopped, map_result}
use Rattle.fmp_lex.proofs.Answered.{err_as}
use Rattle.fmp_lex.specs.Forms.{put}
use Rattle.fmp_lex.specs.declared.marks.Mark.TheVariants as mark
use Rattle.fmp_cfgparse.specs.declared.forms.ApiPart.TheVariants as part
use Rattle.fmp_cfgparse.specs.Reading.{RightPart, RightParts}
use Rattle.fmp_cfgparse.specs.Trees.{part_view, fields_view}
use Rattle.fmp_cfgparse.proofs.Parts.{parts_then, parts_stop, parts_none, parts_done, push_put}
use Rattle.fmp_cfgparse.proofs.syntax.parts.Goals as goal

pub returns-in_err-field : goal.returns-in_err-field
returns-in_err-field c =
    let ps = c.args.parts.now in
    let ts = kinds_of c.args.tokens.now in
    let at = c.args.at in
    let n = c.loop-one.one-index in
    let i = c.loop-one.i in
    let p = get_or ps n (part.Mark mark.LeftParen) in
    let split : drop n ps ≡ p ∷ drop (n + 1) ps = rw add-one (drop-cons ps n
    (part.Mark mark.LeftParen) c.loop-one-test.true) in
    let e = err_from_is_err_and c.from_residual-in_err-field.result c.from_residual-in_err-field.ensures.1 in
    rw (e.1, e.2) (err_as part_view fields_view c.in_err-field.field-0.0 (RightPart p ts i) (RightParts ps ts at)
    (λ j why x. c.loop-one.invariant.goes (stopped j why) (subst (λ rows. RightParts rows ts i (stopped j why))
    (sym split) (parts_stop p (drop (n + 1) ps) ts i j why x))) c.in_err-field.ensures)

pub loop-one-preserved : goal.loop-one-preserved
loop-one-preserved c =
    let ps = c.args.parts.now in
    let ts = kinds_of c.args.tokens.now in
    let at = c.args.at in
    let n = c.loop-one.one-index in
    let i = c.loop-one.i in
    let p = get_or ps n (part.Mark mark.LeftParen) in
    let split : drop n ps ≡ p ∷ drop (n + 1) ps = rw add-one (drop-cons ps n
    (part.Mark mark.LeftParen) c.loop-one-test.true) in
    let f = part_view c.in_ok-field.field in
    let k = c.in_ok-field.next in
    let x : RightPart p ts i (found f k) = c.in_ok-field.ensures in
    let within = simp length-map at x.within in
    let xs = fields_view c.loop-one.fields in
    let pushed : fields_view c.put.new.fields ≡ xs ++ put f [] = c.in_ok-put.ensures.fields in
    record {
      within = within;
      goes = rw pushed (λ o rest. push_put xs f o (RightParts ps ts at)
          (c.loop-one.invariant.goes (map_result (put f) o)
          (subst (λ rows. RightParts rows ts i (map_result (put f) o)) (sym split)
          (parts_then p (drop (n + 1) ps) ts i f k x o rest))));
    }

pub returns : goal.returns
returns c =
    let ps = c.args.parts.now in
    let ts = kinds_of c.args.tokens.now in
    let n = c.loop-one.one-index in
    let i = c.loop-one.i in
    let within : i ≤ length ts = simp length-map c.loop-one.invariant.within in
    rw append-nil at (c.loop-one.invariant.goes (found [] i) (parts_none (drop n ps) ts i
    (parts_done ps n (omega arith)) within))
