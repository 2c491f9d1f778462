use Rattle.std.proofs.Common.{◌≡◌, ◌≤◌, ◌++◌, ◌∷◌, List, [], length, map, sym, arith, append-nil}
use Rattle.std.proofs.lemmas.List.{length-map, map-append}
use Rattle.std.proofs.lemmas.Result.{err_from_is_err_and}
use Rattle.fmp_lex.specs.Reading.{kinds_of, found, stopped, map_result}
use Rattle.fmp_lex.proofs.Answered.{err_as}
use Rattle.fmp_lex.proofs.Repetitions.{push_before}
use Rattle.fmp_tasklang.specs.Reading.{bodies_view, RightBody, RightBodies}
use Rattle.fmp_tasklang.specs.Trees.{BodyTree}
use Rattle.fmp_tasklang.specs.Views.{body_view}
use Rattle.fmp_tasklang.proofs.BodyPaths.{body_longer, bodies_more, bodies_stop, bodies_none}
use Rattle.fmp_tasklang.proofs.bodies.bodies.Goals as goal

pub returns-in_err-one : goal.returns-in_err-one
returns-in_err-one c =
    let ts = kinds_of c.args.tokens.now in
    let i = c.args.at in
    let k = c.bodies.i in
    let is = sym c.in-Some.ensures.value in
    let p = err_from_is_err_and c.from_residual.result c.from_residual.ensures.1 in
    rw (p.1, p.2) (err_as body_view bodies_view c.in_err-one.field-0.0 (RightBody ts k) (RightBodies ts i)
    (λ j why x. c.bodies.invariant.goes (stopped j why) (bodies_stop ts k c.in-Some.kind is j why x))
    c.in_err-one.ensures)

pub bodies-smaller : goal.bodies-smaller
bodies-smaller c =
    let ts = kinds_of c.args.tokens.now in
    let i = c.args.at in
    let k = c.bodies.i in
    let is = sym c.in-Some.ensures.value in
    let x : RightBody ts k (found (body_view c.in_ok-one.one) c.in_ok-one.next) = c.in_ok-one.ensures in
    let longer = body_longer ts 0 k (body_view c.in_ok-one.one) c.in_ok-one.next (x.reads 0) in
    let within = simp length-map at x.within in
    omega arith

pub bodies-preserved : goal.bodies-preserved
bodies-preserved c =
    let ts = kinds_of c.args.tokens.now in
    let i = c.args.at in
    let k = c.bodies.i in
    let is = sym c.in-Some.ensures.value in
    let a = body_view c.in_ok-one.one in
    let n = c.in_ok-one.next in
    let x : RightBody ts k (found a n) = c.in_ok-one.ensures in
    let within = simp length-map at x.within in
    let xs = bodies_view c.bodies.found in
    let pushed : map body_view c.push.new.self.items ≡ xs ++ a
    ∷ [] = rw c.in_ok-push.ensures.items (map-append body_view c.bodies.found.items (c.in_ok-one.one ∷ [])) in
    record {
      within = within;
      goes = rw pushed (λ o rest. push_before xs a o (RightBodies ts i)
          (c.bodies.invariant.goes (map_result (λ (more : List BodyTree). a ∷ more) o)
          (bodies_more ts k c.in-Some.kind is a n x o rest)));
    }

pub returns : goal.returns
returns c =
    let ts = kinds_of c.args.tokens.now in
    let i = c.args.at in
    let k = c.bodies.i in
    let within : k ≤ length ts = simp length-map c.bodies.invariant.within in
    rw append-nil at (c.bodies.invariant.goes (found [] k) (bodies_none ts k c.in_default.ensures.value within))
