use Rattle.std.proofs.Common.{◌≡◌, ◌≤◌, ◌++◌, ◌∷◌, List, [], length, map, refl, arith, rules, append-nil}
use Rattle.std.proofs.lemmas.List.{length-map, map-append}
use Rattle.std.proofs.lemmas.Result.{err_from_is_err_and}
use Rattle.fmp_lex.specs.Reading.{kinds_of, found, stopped, map_result}
use Rattle.fmp_lex.proofs.Answered.{err_as}
use Rattle.fmp_cfgparse.specs.Reading.{RightClass, RightClasses}
use Rattle.fmp_cfgparse.specs.Trees.{ClassTree, class_view, classes_view}
use Rattle.fmp_cfgparse.proofs.Classes.{class_longer, more_classes, classes_stop, no_more_classes}
use Rattle.fmp_lex.proofs.Repetitions.{push_before}
use Rattle.fmp_cfgparse.proofs.syntax.classes.Goals as goal

pub returns-in_err-one : goal.returns-in_err-one
returns-in_err-one c =
    let ts = kinds_of c.args.tokens.now in
    let i = c.args.at in
    let m = c.classes.i in
    let e = err_from_is_err_and c.from_residual.result c.from_residual.ensures.1 in
    rw (e.1, e.2) (err_as class_view classes_view c.in_err-one.field-0.0 (RightClass ts m) (RightClasses ts i)
    (λ j why x. c.classes.invariant.goes (stopped j why) (classes_stop ts m
    (c.classes-test.ensures.yes (search rules)) j why x)) c.in_err-one.ensures)

pub classes-smaller : goal.classes-smaller
classes-smaller c =
    let ts = kinds_of c.args.tokens.now in
    let m = c.classes.i in
    let x : RightClass ts m (found (class_view c.in_ok-one.one) c.in_ok-one.next) = c.in_ok-one.ensures in
    let longer = class_longer ts 0 m (class_view c.in_ok-one.one) c.in_ok-one.next (x.reads 0) in
    let within = simp length-map at x.within in
    omega arith

pub classes-preserved : goal.classes-preserved
classes-preserved c =
    let ts = kinds_of c.args.tokens.now in
    let i = c.args.at in
    let m = c.classes.i in
    let a = class_view c.in_ok-one.one in
    let k = c.in_ok-one.next in
    let xs = classes_view c.classes.found in
    let x : RightClass ts m (found a k) = c.in_ok-one.ensures in
    let within = simp length-map at x.within in
    let pushed : map class_view c.push.new.self.items ≡ xs ++ a
    ∷ [] = rw c.in_ok-push.ensures.items (map-append class_view c.classes.found.items (c.in_ok-one.one ∷ [])) in
    record {
      within = within;
      goes = rw pushed (λ o rest. push_before xs a o (RightClasses ts i)
          (c.classes.invariant.goes (map_result (λ (more : List ClassTree). a ∷ more) o)
          (more_classes ts m (c.classes-test.ensures.yes (search rules)) a k x o rest)));
    }

pub returns : goal.returns
returns c =
    let ts = kinds_of c.args.tokens.now in
    let m = c.classes.i in
    let within : m ≤ length ts = simp length-map c.classes.invariant.within in
    rw append-nil at (c.classes.invariant.goes (found [] m) (no_more_classes ts m
    (c.classes-test.ensures.no refl) within))
