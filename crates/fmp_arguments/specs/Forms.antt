-- The form of a command line, by the arguments of its commands.
use Rattle.std.specs.Prelude.{ℕ, List, [], ◌∷◌, Some, false, map, true}
use Rattle.std.specs.Borrow.{Bor}
use Rattle.clap.specs.Words.{App, Rule, Text, new_app, new_rule}
use Rattle.clap.specs.declared.builder.action.ArgAction.TheVariants.{Append, SetTrue}
use Rattle.clap.specs.declared.builder.value_parser.ValueParser.TheVariants.{Names, Unsigned}
use Rattle.fmp_arguments.specs.declared.arguments.Argument.{Argument}
use Rattle.fmp_arguments.specs.declared.arguments.ArgumentKind.{ArgumentKind}
use Rattle.fmp_arguments.specs.declared.arguments.ArgumentKind.TheVariants as kind
use Rattle.fmp_arguments.specs.declared.arguments.CommandForm.{CommandForm}
use Rattle.fmp_arguments.specs.declared.arguments.OptionValue.{OptionValue}
use Rattle.fmp_arguments.specs.declared.arguments.OptionValue.TheVariants as value

-- a word that has to be there, and one that a recording replaces
abbrev pub word : Text → Rule
word id = record (new_rule id) { required = true }

abbrev pub word_of_steps : Text → Rule
word_of_steps id = record (new_rule id) { is_free = false }

-- an option with no value, and with a text
abbrev pub flag : Text → Rule
flag id = record (new_rule id) { long = Some id; action = Some SetTrue }

abbrev pub text : Text → Rule
text id = record (new_rule id) { long = Some id; value_names = 1 }

-- one that may be given again
abbrev pub again : Text → Rule
again id = record (text id) { action = Some Append }

-- an option with a number from `low` to `high`, and one with a number that it has where none is given
abbrev pub number : (low high : ℕ) → Text → Rule
number low high id = record (text id) { parser = Some (Unsigned low high) }

abbrev pub number_or : Text → (low high : ℕ) → Text → Rule
number_or default low high id = record (number low high id) { defaults = default ∷ [] }

-- an option with one of these words, and with this one where none is given
abbrev pub choice : Bor (List (Bor Text)) → Text → Text → Rule
choice words default id = record (text id) { parser = Some (Names words); defaults = default ∷ [] }

-- an argument that does not go with another one
abbrev pub without : Rule → Rule
without rule = record rule { is_free = false }

-- an option with a value of this kind
abbrev pub valued : OptionValue → Text → Rule
valued value.Text id = text id
valued (value.OneOf words default) id = choice words default.now id
valued (value.Number low high) id = number low high id
valued (value.Default low high default) id = number_or default.now low high id

-- an argument of this kind
abbrev pub rule_by : ArgumentKind → Text → Rule
rule_by kind.Word id = word id
rule_by kind.MayBeWord id = new_rule id
rule_by kind.WordNoRecording id = word_of_steps id
rule_by kind.WordOrNegative id = word id
rule_by kind.Flag id = flag id
rule_by (kind.FlagWithout other) id = without (flag id)
rule_by (kind.Option name value) id = valued value id
rule_by (kind.TextWithout name other) id = without (text id)
rule_by (kind.Again name) id = again id
rule_by (kind.Either name other) id = without (text id)

abbrev pub rule_of_argument : Argument → Rule
rule_of_argument argument = rule_by argument.1 argument.0.now

-- a command of this name with these arguments
abbrev pub command : Text → List Rule → App
command name arguments = record (new_app name) { top = record (new_app name).top { rules = arguments } }

-- a command of this form, which takes a number below 0 for an option
abbrev pub app_of_form : CommandForm → App
app_of_form form = command form.name.now (map rule_of_argument form.arguments.now)
