-- Where the value of an argument came from, by the rows of the words.
use Rattle.std.proofs.Common.{◌≡◌, ◌∙◌, Option, None, Some, false, refl, sym, ap}
use Rattle.std.specs.Option.{option_map_or}
use Rattle.std.specs.Prelude.{find, option_and_then, option_map}
use Rattle.clap.proofs.WalkLemmas.{find_row}
use Rattle.clap.specs.Facts.{Entry}
use Rattle.clap.specs.Matches.{matched_of}
use Rattle.clap.specs.Walk.{row_of}
use Rattle.clap.specs.Words.{Row, Text, rows_of}
use Rattle.clap.specs.declared.parser.matches.Found.{Found}
use Rattle.clap.specs.declared.parser.matches.MatchedArg.{MatchedArg}
use Rattle.std.specs.Str.{bytes_eq}
use Rattle.fmp_view.specs.UnusedOptions.{is_given, is_typed}

pub typed_by_rows : (found : Found) (id : Text)
    → option_map_or is_given (option_and_then (λ (a : MatchedArg). a.source) (matched_of found id)) false
    ≡ is_typed (rows_of found) id
typed_by_rows found id =
    go (find (λ (e : Entry). bytes_eq e.0.now id) found.entries.items)
    ∙ ap (λ o. option_map_or is_given (option_and_then (λ (r : Row). r.source) o) false)
    (sym (find_row found.entries.items id))
  where
    go : (o : Option Entry)
        → option_map_or is_given (option_and_then (λ (a : MatchedArg). a.source) (option_map (λ e. e.1) o)) false
        ≡ option_map_or is_given (option_and_then (λ (r : Row). r.source) (option_map row_of o)) false
    go None = refl
    go (Some e) = refl
