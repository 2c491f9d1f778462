use Rattle.std.proofs.Common.{◌≤◌, ◌++◌, ◌∷◌, List, [], length, sym, arith, append-nil, rules}
use Rattle.std.proofs.lemmas.List.{length-map}
use Rattle.std.proofs.lemmas.Result.{err_from_is_err_and}
use Rattle.fmp_base.specs.Systems.{tables_of}
use Rattle.fmp_lex.specs.Reading.{kinds_of, found, stopped, map_result}
use Rattle.fmp_lex.proofs.Repetitions.{push_before}
use Rattle.fmp_tasklang.specs.Reading.{RightBody, RightBodies}
use Rattle.fmp_tasklang.specs.Trees.{BodyTree}
use Rattle.fmp_tasklang.specs.Views.{body_view}
use Rattle.fmp_tasklang.proofs.BodyPaths.{body_longer, bodies_more, bodies_stop, bodies_none}
use Rattle.fmp_codegen.proofs.TextMaking.{read-error}
use Rattle.fmp_codegen.proofs.texts.compile_bodies.Goals as goal

pub bodies-init : goal.bodies-init
bodies-init c = record {
  within = omega arith;
  goes = ([], c.no_bodies-made.ensures (tables_of c.args.objects.now.system.now), search rules);
}

pub returns-in_err-one : goal.returns-in_err-one
returns-in_err-one c =
    let ts = kinds_of c.args.tokens.now in
    let k = c.bodies.i in
    let is = sym c.in-Some.ensures.value in
    let p = err_from_is_err_and c.from_residual.result c.from_residual.ensures.1 in
    rw (p.1, p.2) (read-error (tables_of c.args.objects.now.system.now) ts c.in_err-one.field-0.0 (RightBody ts k)
    (λ j why x. c.bodies.invariant.goes.2 (stopped j why) (bodies_stop ts k c.in-Some.kind is j why x))
    c.in_err-one.ensures)

pub bodies-smaller : goal.bodies-smaller
bodies-smaller c =
    let ts = kinds_of c.args.tokens.now in
    let k = c.bodies.i in
    let x : RightBody ts k (found (body_view c.in_ok-one.one) c.in_ok-one.next) = c.in_ok-one.ensures in
    let longer = body_longer ts 0 k (body_view c.in_ok-one.one) c.in_ok-one.next (x.reads 0) in
    let within = simp length-map at x.within in
    omega arith

pub bodies-preserved : goal.bodies-preserved
bodies-preserved c =
    let ts = kinds_of c.args.tokens.now in
    let k = c.bodies.i in
    let is = sym c.in-Some.ensures.value in
    let a = body_view c.in_ok-one.one in
    let n = c.in_ok-one.next in
    let x : RightBody ts k (found a n) = c.in_ok-one.ensures in
    let within = simp length-map at x.within in
    let before = c.bodies.invariant.goes in
    record {
      within = within;
      goes = (
        before.0 ++ a ∷ [],
        c.in_ok-add_body.ensures before.0 before.1,
        λ o rest. push_before before.0 a o (RightBodies ts 0) (before.2
            (map_result (λ (more : List BodyTree). a ∷ more) o)
            (bodies_more ts k c.in-Some.kind is a n x o rest)),
      );
    }

pub returns : goal.returns
returns c =
    let ts = kinds_of c.args.tokens.now in
    let k = c.bodies.i in
    let within : k ≤ length ts = simp length-map c.bodies.invariant.within in
    let before = c.bodies.invariant.goes in
    (before.0, before.1, rw append-nil at (before.2 (found [] k) (bodies_none ts k c.in_default.ensures.value within)))
