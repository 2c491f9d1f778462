-- Options that say nothing beside another argument.
use Rattle.std.specs.Prelude.{◌&&◌, Bool, true, false, List, find, option_and_then}
use Rattle.std.specs.Option.{option_map_or}
use Rattle.std.specs.Str.{bytes_eq}
use Rattle.clap.specs.Words.{Row, Text}
use Rattle.clap.specs.declared.parser.matches.ValueSource.{ValueSource}
use Rattle.clap.specs.declared.parser.matches.ValueSource.TheVariants as source
use Rattle.fmp_view.specs.declared.unused_options.UnusedOption.{UnusedOption}

-- a value is that of words, and not of a default
abbrev pub is_given : ValueSource → Bool
is_given source.CommandLine = true
is_given source.DefaultValue = false

-- an argument of this name is typed
abbrev pub is_typed : List Row → (id : Text) → Bool
is_typed rows id =
    option_map_or is_given (option_and_then (λ r. r.source) (find (λ r. bytes_eq r.id id) rows)) false

-- an option of a command of this name is typed beside the argument beside which it says nothing
abbrev pub is_unused : (command : Text) → List Row → UnusedOption → Bool
is_unused command rows v =
    bytes_eq v.command.now command && (is_typed rows v.option.now && is_typed rows v.beside.now)
