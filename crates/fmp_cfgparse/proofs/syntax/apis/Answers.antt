use Rattle.std.proofs.Common.{◌≡◌, ◌≤◌, ◌++◌, ◌∷◌, List, [], length, map, sym, arith, append-nil}
use Rattle.std.proofs.lemmas.List.{length-map, map-append}
use Rattle.std.proofs.lemmas.Result.{err_from_is_err_and}
use Rattle.fmp_lex.specs.Reading.{kinds_of, found, stopped, map_result}
use Rattle.fmp_lex.proofs.Answered.{err_as}
use Rattle.fmp_cfgparse.specs.Reading.{RightApi, RightApis}
use Rattle.fmp_cfgparse.specs.Trees.{ApiTree, api_view, apis_view}
use Rattle.fmp_cfgparse.proofs.Classes.{api_longer, more_apis, apis_stop, no_more_apis}
use Rattle.fmp_lex.proofs.Repetitions.{push_before}
use Rattle.fmp_cfgparse.proofs.syntax.apis.Goals as goal

pub returns-in_err-one : goal.returns-in_err-one
returns-in_err-one c =
    let ts = kinds_of c.args.tokens.now in
    let i = c.args.at in
    let m = c.apis.i in
    let e = err_from_is_err_and c.from_residual.result c.from_residual.ensures.1 in
    rw (e.1, e.2) (err_as api_view apis_view c.in_err-one.field-0.0 (RightApi ts m) (RightApis ts i)
    (λ j why x. c.apis.invariant.goes (stopped j why) (apis_stop ts m c.in-Some.kind
    (sym c.in-Some.ensures.value) j why x)) c.in_err-one.ensures)

pub apis-smaller : goal.apis-smaller
apis-smaller c =
    let ts = kinds_of c.args.tokens.now in
    let m = c.apis.i in
    let x : RightApi ts m (found (api_view c.in_ok-one.one) c.in_ok-one.next) = c.in_ok-one.ensures in
    let longer = api_longer ts 0 m (api_view c.in_ok-one.one) c.in_ok-one.next (x.reads 0) in
    let within = simp length-map at x.within in
    omega arith

pub apis-preserved : goal.apis-preserved
apis-preserved c =
    let ts = kinds_of c.args.tokens.now in
    let i = c.args.at in
    let m = c.apis.i in
    let a = api_view c.in_ok-one.one in
    let k = c.in_ok-one.next in
    let xs = apis_view c.apis.found in
    let x : RightApi ts m (found a k) = c.in_ok-one.ensures in
    let within = simp length-map at x.within in
    let pushed : map api_view c.push.new.self.items ≡ xs ++ a
    ∷ [] = rw c.in_ok-push.ensures.items (map-append api_view c.apis.found.items (c.in_ok-one.one ∷ [])) in
    record {
      within = within;
      goes = rw pushed (λ o rest. push_before xs a o (RightApis ts i) (c.apis.invariant.goes
          (map_result (λ (more : List ApiTree). a ∷ more) o)
          (more_apis ts m c.in-Some.kind (sym c.in-Some.ensures.value) a k x o rest)));
    }

pub returns : goal.returns
returns c =
    let ts = kinds_of c.args.tokens.now in
    let m = c.apis.i in
    let within : m ≤ length ts = simp length-map c.apis.invariant.within in
    rw append-nil at (c.apis.invariant.goes (found [] m) (no_more_apis ts m c.in_default.ensures.value within))
