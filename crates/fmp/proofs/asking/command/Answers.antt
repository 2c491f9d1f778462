use Rattle.std.proofs.Common.{◌≡◌, ◌<◌, ◌∙◌, List, Some, ap, arith, length, map, option_map, subst, sym}
use Rattle.std.proofs.lemmas.List.{length-map}
use Rattle.std.specs.Option.{IsSomeAnd}
use Rattle.clap.specs.Words.{Row, Text, found_of, rows_of, subcommand_of}
use Rattle.fmp.specs.Asked.{HasWords}
use Rattle.fmp.specs.Form.{fmp}
use Rattle.fmp.proofs.Entering.{asks_for, enters_form, fits_form, refused_form, some_beside}
use Rattle.fmp.proofs.Given.{form_has}
use Rattle.fmp.proofs.asking.command.Goals as goal

pub unwrap-requires : goal.unwrap-requires
unwrap-requires c =
    let words = map (λ word. word.now) c.args.words.now in
    let fits = fits_form _ words c.in_ok-program.ensures c.in_ok-matches.ensures.kinds in
    let enters = enters_form _ words c.in_ok-matches.matches _ c.in_ok-program.ensures c.in_ok-matches.ensures.matches
    c.entered.ensures in
    some_beside (λ p. (p.0.now, rows_of (found_of p.1.now))) c.entered.result (subcommand_of fmp words)
    (λ (p : Text × List Row). HasWords p.0 p.1) enters (form_has words fits)

pub asked-requires : goal.asked-requires
asked-requires c =
    let words = map (λ word. word.now) c.args.words.now in
    let fits = fits_form _ words c.in_ok-program.ensures c.in_ok-matches.ensures.kinds in
    let enters = enters_form _ words c.in_ok-matches.matches _ c.in_ok-program.ensures c.in_ok-matches.ensures.matches
    c.entered.ensures in
    subst (λ o. IsSomeAnd (option_map (λ p. (p.0.now, rows_of (found_of p.1.now))) o)
    (λ (p : Text × List Row). HasWords p.0 p.1)) c.unwrap.ensures
    (subst (λ o. IsSomeAnd o (λ (p : Text × List Row). HasWords p.0 p.1)) (sym enters) (form_has words fits))

pub returns-in_err-matches-clause-refused : goal.returns-in_err-matches-clause-refused
returns-in_err-matches-clause-refused c =
    let words = map (λ word. word.now) c.args.words.now in
    refused_form _ words _ _ c.in_ok-program.ensures c.from_residual-in_err-matches.ensures.1
    c.in_err-matches.ensures.kinds

pub returns-clause-asked : goal.returns-clause-asked
returns-clause-asked c =
    let words = map (λ word. word.now) c.args.words.now in
    let name = c.unwrap.result.0.now in
    let rows = rows_of (found_of c.unwrap.result.1.now) in
    let fits = fits_form _ words c.in_ok-program.ensures c.in_ok-matches.ensures.kinds in
    let enters = enters_form _ words c.in_ok-matches.matches _ c.in_ok-program.ensures c.in_ok-matches.ensures.matches
    c.entered.ensures in
    let entered : subcommand_of fmp words ≡ Some (name, rows) = sym enters
    ∙ ap (option_map (λ p. (p.0.now, rows_of (found_of p.1.now)))) c.unwrap.ensures in
    let long : 1 < length words = omega (arith, length-map c.args.words.now (λ word. word.now), c.if-words-le1.false) in
    asks_for words name rows c.in_ok-asked.field-0 long fits entered c.in_ok-asked.ensures.asked
