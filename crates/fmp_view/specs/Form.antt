-- The form of the command line.
use Rattle.std.specs.Prelude.{◌≡◌, ◌⊎◌, List, [], ◌∷◌, Some, codes, fold, map, true}
use Rattle.std.specs.Borrow.{Bor}
use Rattle.clap.specs.Words.{App, Row, Rule, Text, new_app, new_rule, subcommand_of, takes, with_subcommand}
use Rattle.clap.specs.declared.builder.action.ArgAction.TheVariants.{Append}
use Rattle.clap.specs.declared.error.kind.ErrorKind.{ErrorKind}
use Rattle.clap.specs.declared.error.kind.ErrorKind.TheVariants.{OutOfMemory}
use Rattle.fmp_arguments.specs.Forms.{again, choice, command, flag, number, number_or, text, without, word}
use Rattle.fmp_arguments.specs.Forms.{word_of_steps}

-- words of which one is chosen, as the program holds them
abbrev pub Choices : Type 0
Choices = Bor (List (Bor Text))

-- `--bound N`, and what runs are of
abbrev bound : Rule
bound = number_or (codes "100000") 1 281474976710656 (codes "bound")

abbrev recording : Rule
recording = text (codes "recording")

-- an option with the number of an event
abbrev event : Text → Rule
event = number 0 2147483648

-- how far a system is driven, and by which seed
abbrev events : Rule
events = number_or (codes "1000") 0 1048576 (codes "events")

abbrev seed : Rule
seed = number 0 18446744073709551615 (codes "seed")

abbrev code : App
code = command (codes "code") (word (codes "CODE") ∷ [])

abbrev fault : App
fault = command (codes "fault")
    (word (codes "CFG") ∷ word (codes "SRC") ∷ new_rule (codes "STEPS") ∷ flag (codes "json") ∷ [])

abbrev run : App
run = command (codes "run")
    (word (codes "CFG") ∷ word_of_steps (codes "SRC") ∷ new_rule (codes "STEPS") ∷ recording ∷ flag (codes "json")
    ∷ without (flag (codes "places")) ∷ without (text (codes "lcov")) ∷ without (text (codes "coverage"))
    ∷ without (flag (codes "calls")) ∷ events ∷ seed ∷ bound ∷ [])

abbrev step : App
step = command (codes "step") (word (codes "CFG") ∷ word (codes "SRC") ∷ flag (codes "json") ∷ bound ∷ [])

abbrev lsp : App
lsp = command (codes "lsp") []

abbrev drive : App
drive = command (codes "drive") (word (codes "IMAGE") ∷ events ∷ seed ∷ bound ∷ [])

abbrev why : App
why = command (codes "why")
    (word (codes "IMAGE") ∷ word_of_steps (codes "STEPS") ∷ recording ∷ bound ∷ event (codes "at")
    ∷ flag (codes "json") ∷ [])

abbrev explore : Choices → App
explore ticks = command (codes "explore")
    (word (codes "CFG") ∷ word (codes "SRC") ∷ again (codes "never") ∷ again (codes "alone") ∷ again (codes "rest")
    ∷ text (codes "expect") ∷ choice ticks (codes "any") (codes "ticks") ∷ number 0 255 (codes "ints")
    ∷ again (codes "int") ∷ again (codes "gap") ∷ number 0 255 (codes "queued") ∷ bound
    ∷ number_or (codes "16777216") 1 2147483648 (codes "states") ∷ number 1 2147483648 (codes "time")
    ∷ number_or (codes "1") 1 64 (codes "jobs") ∷ flag (codes "all") ∷ flag (codes "answers")
    ∷ flag (codes "strict") ∷ text (codes "out") ∷ flag (codes "json") ∷ text (codes "junit")
    ∷ flag (codes "no-settings") ∷ [])

abbrev diff : App
diff = command (codes "diff")
    (word (codes "IMAGE") ∷ word (codes "A") ∷ word (codes "B") ∷ flag (codes "recordings") ∷ bound ∷ [])

abbrev expect : App
expect = command (codes "expect")
    (word (codes "IMAGE") ∷ word (codes "STEPS") ∷ recording ∷ bound ∷ word_of_steps (codes "EXPECT")
    ∷ without (text (codes "src")) ∷ flag (codes "strict") ∷ flag (codes "json") ∷ text (codes "junit")
    ∷ flag (codes "no-settings") ∷ [])

abbrev tests : App
tests = command (codes "test")
    (word (codes "CFG") ∷ word (codes "SRC") ∷ text (codes "expect")
    ∷ number_or (codes "1000") 1 4294967295 (codes "seeds") ∷ number_or (codes "1000") 1 1048576 (codes "events")
    ∷ number_or (codes "20") 0 4294967295 (codes "every-tick") ∷ again (codes "int") ∷ bound
    ∷ number_or (codes "1") 1 64 (codes "jobs") ∷ flag (codes "json") ∷ text (codes "junit") ∷ text (codes "lcov")
    ∷ text (codes "coverage") ∷ flag (codes "no-settings") ∷ [])

abbrev stats : App
stats = command (codes "stats")
    (word (codes "IMAGE") ∷ word_of_steps (codes "STEPS") ∷ recording ∷ bound ∷ without (text (codes "src"))
    ∷ flag (codes "json") ∷ [])

abbrev waves : Choices → App
waves formats = command (codes "waves")
    (word (codes "IMAGE") ∷ word (codes "STEPS") ∷ recording ∷ bound ∷ word_of_steps (codes "OUT")
    ∷ choice formats (codes "vcd") (codes "format") ∷ [])

abbrev timeline : App
timeline = command (codes "timeline")
    (word (codes "IMAGE") ∷ word (codes "STEPS") ∷ recording ∷ bound ∷ word_of_steps (codes "OUT")
    ∷ number_or (codes "0") 0 2147483648 (codes "from") ∷ event (codes "to") ∷ without (text (codes "src"))
    ∷ flag (codes "objects") ∷ flag (codes "html") ∷ [])

abbrev export : App
export = command (codes "export")
    (word (codes "CFG") ∷ word (codes "SRC") ∷ without (text (codes "c")) ∷ without (text (codes "toppers"))
    ∷ without (flag (codes "fmp3")) ∷ without (flag (codes "line-directives")) ∷ [])

-- the commands, but for `import`
abbrev pub commands : (ticks formats : Choices) → List App
commands ticks formats =
    code ∷ fault ∷ run ∷ step ∷ lsp ∷ drive ∷ why ∷ explore ticks ∷ diff ∷ expect ∷ tests ∷ stats ∷ waves formats
    ∷ timeline ∷ export ∷ []

-- `--define NAME=VALUE`, for short `-D`
abbrev pub define : Rule
define = record (again (codes "define")) { short = Some 68 }

abbrev pub import : App
import = command (codes "import") (word (codes "CFG") ∷ define ∷ text (codes "out") ∷ [])

-- a version, and a command that has to be there; without words there is help
abbrev pub bare : App
bare = record (new_app (codes "fmp_view")) {
  top = record (new_app (codes "fmp_view")).top {
    has_version = true;
    subcommand_required = true;
    arg_required_else_help = true;
  };
}

abbrev pub with_command : App → App → App
with_command app command = with_subcommand app command.top

-- the whole command line
abbrev pub fmp_view : (ticks formats : Choices) → App
fmp_view ticks formats = with_command (fold with_command bare (commands ticks formats)) import

-- this is the form of the command line, wherever the program holds the words that may be chosen
abbrev pub IsForm : App → Type 0
IsForm app = (ticks formats : Choices) × (app ≡ fmp_view ticks formats)

-- words enter this command, with these for its arguments
pub record Enters (words : List Text) (name : Text) (rows : List Row) : Type 0 where
  pub app : App
  pub form : IsForm app
  pub enters : subcommand_of app words ≡ Some (name, rows)

-- the same, but of `code` nothing more is said: it takes a number below 0
abbrev pub IsEntered : (words : List Text) → (entered : Text × List Row) → Type 0
IsEntered words entered = (entered.0 ≡ codes "code") ⊎ Enters words entered.0 entered.1

-- words that the form takes are refused only where memory runs out
pub record IsRefused (words : List Text) (kind : ErrorKind) : Type 0 where
  pub app : App
  pub form : IsForm app
  pub why : takes app words ≡ true → kind ≡ OutOfMemory
