use Rattle.std.proofs.Common.{◌≡◌, ◌≤◌, ◌++◌, ◌∷◌, List, [], length, refl, arith, rules, append-nil}
use Rattle.std.proofs.lemmas.List.{length-map}
use Rattle.std.proofs.lemmas.Result.{err_from_is_err_and}
use Rattle.fmp_lex.specs.Reading.{kinds_of, found, stopped, map_result}
use Rattle.fmp_lex.proofs.Answered.{find_as}
use Rattle.fmp_lex.proofs.Repetitions.{push_before}
use Rattle.fmp_tasklang.specs.Reading.{itself, declarations_view, RightVariable, RightVariables}
use Rattle.fmp_tasklang.specs.declared.trees.Declaration.{Declaration}
use Rattle.fmp_tasklang.proofs.BodyPaths.{variable_longer, variables_more, variables_stop, variables_none}
use Rattle.fmp_tasklang.proofs.bodies.variables.Goals as goal

pub returns-in_err-one : goal.returns-in_err-one
returns-in_err-one c =
    let ts = kinds_of c.args.tokens.now in
    let i = c.args.at in
    let k = c.variables.i in
    let is = c.variables-test.ensures.yes (search rules) in
    let p = err_from_is_err_and c.from_residual.result c.from_residual.ensures.1 in
    rw (p.1, p.2) (find_as itself declarations_view c.in_err-one.field-0.0 (RightVariable ts k) (RightVariables ts i)
    (λ j why x. c.variables.invariant.goes (stopped j why) (variables_stop ts k is j why x)) c.in_err-one.ensures)

pub variables-smaller : goal.variables-smaller
variables-smaller c =
    let ts = kinds_of c.args.tokens.now in
    let i = c.args.at in
    let k = c.variables.i in
    let is = c.variables-test.ensures.yes (search rules) in
    let x : RightVariable ts k (found c.in_ok-one.one c.in_ok-one.next) = c.in_ok-one.ensures in
    let longer = variable_longer ts 0 k c.in_ok-one.one c.in_ok-one.next (x.reads 0) in
    let within = simp length-map at x.within in
    omega arith

pub variables-preserved : goal.variables-preserved
variables-preserved c =
    let ts = kinds_of c.args.tokens.now in
    let i = c.args.at in
    let k = c.variables.i in
    let is = c.variables-test.ensures.yes (search rules) in
    let a = c.in_ok-one.one in
    let n = c.in_ok-one.next in
    let x : RightVariable ts k (found a n) = c.in_ok-one.ensures in
    let within = simp length-map at x.within in
    let xs = declarations_view c.variables.found in
    let pushed : c.push.new.self.items ≡ xs ++ a ∷ [] = c.in_ok-push.ensures.items in
    record {
      within = within;
      goes = rw pushed (λ o rest. push_before xs a o (RightVariables ts i)
          (c.variables.invariant.goes (map_result (λ (more : List Declaration). a ∷ more) o)
          (variables_more ts k is a n x o rest)));
    }

pub returns : goal.returns
returns c =
    let ts = kinds_of c.args.tokens.now in
    let i = c.args.at in
    let k = c.variables.i in
    let within : k ≤ length ts = simp length-map c.variables.invariant.within in
    rw append-nil at (c.variables.invariant.goes (found [] k) (variables_none ts k
    (c.variables-test.ensures.no refl) within))
