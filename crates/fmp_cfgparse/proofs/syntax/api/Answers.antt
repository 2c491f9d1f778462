use Rattle.std.proofs.Common.{◌+◌}
use Rattle.std.proofs.lemmas.Result.{err_from_is_err_and}
use Rattle.fmp_lex.specs.Reading.{kinds_of, found, stopped}
use Rattle.fmp_lex.proofs.Answered.{err_as}
use Rattle.fmp_cfgparse.specs.Grammar.{api_parts}
use Rattle.fmp_cfgparse.specs.Reading.{RightParts, RightApi}
use Rattle.fmp_cfgparse.specs.Trees.{fields_view, api_view}
use Rattle.fmp_cfgparse.proofs.Classes.{api_then}
use Rattle.fmp_cfgparse.proofs.syntax.api.Goals as goal

pub returns-in_err-fields : goal.returns-in_err-fields
returns-in_err-fields c =
    let ts = kinds_of c.args.tokens.now in
    let i = c.args.at in
    let a = c.args.kind in
    let e = err_from_is_err_and c.from_residual.result c.from_residual.ensures.1 in
    let x = rw c.parts_of.ensures at c.in_err-fields.ensures in
    rw (e.1, e.2) (err_as fields_view api_view c.in_err-fields.field-0.0 (RightParts (api_parts a) ts (i + 1))
    (RightApi ts i)
    (λ j why x. api_then ts i a c.requires.first (stopped j why) x) x)

pub returns : goal.returns
returns c =
    let ts = kinds_of c.args.tokens.now in
    let i = c.args.at in
    let a = c.args.kind in
    let x = rw c.parts_of.ensures at c.in_ok-fields.ensures in
    api_then ts i a c.requires.first (found (fields_view c.in_ok-fields.fields) c.in_ok-fields.next) x
