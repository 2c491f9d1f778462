-- The form of the command line.
use Rattle.std.specs.Prelude.{ℕ, [], ◌∷◌, Some, true, codes}
use Rattle.clap.specs.Words.{App, Rule, Text, new_app, new_rule, with_rule, with_subcommand}
use Rattle.clap.specs.declared.builder.value_parser.ValueParser.TheVariants.{Unsigned}

-- a word that names a file, and has to be there
abbrev pub file : Text → Rule
file id = record (new_rule id) { required = true }

-- `--bound N`: a number from 1 to 2^48, and 100000 if it is not given
abbrev pub bound : Rule
bound = record (new_rule (codes "bound")) {
  long = Some (codes "bound");
  value_names = 1;
  parser = Some (Unsigned 1 281474976710656);
  defaults = codes "100000" ∷ [];
}

-- an option with a number from 0 to 2^20, which has to be there
abbrev pub count : Text → Rule
count id = record (new_rule id) {
  long = Some id;
  value_names = 1;
  parser = Some (Unsigned 0 1048576);
  required = true;
}

-- an option with a number from 1 to this one
abbrev pub number : Text → (most : ℕ) → Rule
number id most = record (new_rule id) { long = Some id; value_names = 1; parser = Some (Unsigned 1 most) }

-- `check CFG SRC`
abbrev pub check : App
check = with_rule (with_rule (new_app (codes "check")) (file (codes "CFG"))) (file (codes "SRC"))

-- `build CFG SRC OUT`
abbrev pub build : App
build =
    with_rule (with_rule (with_rule (new_app (codes "build")) (file (codes "CFG"))) (file (codes "SRC")))
    (file (codes "OUT"))

-- `sim IMAGE STEPS [--bound N]`
abbrev pub sim : App
sim =
    with_rule (with_rule (with_rule (new_app (codes "sim")) (file (codes "IMAGE"))) (file (codes "STEPS")))
    bound

-- `host IMAGE JOURNAL --turns T --ticks K [--tick-us U] [--int I] [--bound N]`
abbrev pub host : App
host =
    with_rule (with_rule (with_rule (with_rule (with_rule (with_rule (with_rule (new_app (codes "host"))
    (file (codes "IMAGE"))) (file (codes "JOURNAL"))) (count (codes "turns"))) (count (codes "ticks")))
    (number (codes "tick-us") 1000000)) (number (codes "int") 32))
    bound

-- a version, and a command that has to be there
abbrev pub bare_fmp : App
bare_fmp = record (new_app (codes "fmp")) {
  top = record (new_app (codes "fmp")).top { has_version = true; subcommand_required = true };
}

-- the whole command line
abbrev pub fmp : App
fmp =
    with_subcommand (with_subcommand (with_subcommand (with_subcommand bare_fmp check.top) build.top) sim.top)
    host.top
