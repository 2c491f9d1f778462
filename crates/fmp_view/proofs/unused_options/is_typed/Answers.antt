use Rattle.std.proofs.Common.{◌∙◌, Option, ap, false}
use Rattle.std.specs.Option.{option_map_or}
use Rattle.clap.specs.Words.{found_of}
use Rattle.clap.specs.declared.parser.matches.ValueSource.{ValueSource}
use Rattle.fmp_view.specs.UnusedOptions.{is_given}
use Rattle.fmp_view.proofs.UnusedWords.{typed_by_rows}
use Rattle.fmp_view.proofs.unused_options.is_typed.Goals as goal

pub returns-in-Some : goal.returns-in-Some
returns-in-Some c =
    let by_rows = typed_by_rows (found_of c.args.words.now) c.args.id.now in
    c.is_given.ensures ∙ ap (λ (o : Option ValueSource). option_map_or is_given o false) c.in-Some.ensures ∙ by_rows

pub returns-in-None : goal.returns-in-None
returns-in-None c =
    let by_rows = typed_by_rows (found_of c.args.words.now) c.args.id.now in
    ap (λ (o : Option ValueSource). option_map_or is_given o false) c.in-None.ensures ∙ by_rows
