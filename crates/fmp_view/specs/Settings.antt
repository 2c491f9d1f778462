-- What settings add, why they are not used, and which words leave their file as it is.
use Rattle.std.specs.Prelude.{ℕ, ◌≢◌, List, IfSome, codes, string_bytes}
use Rattle.clap.specs.Words.{Row, Text, first_of}
use Rattle.fmp_arguments.specs.declared.keys.Key.{Key}
use Rattle.fmp_arguments.specs.Joined.{IsAdded}
use Rattle.fmp_files.specs.Messages.{failure_message}
use Rattle.fmp_files.specs.Outside.{Files}
use Rattle.fmp_searching.specs.Claimed.{IsFile}
use Rattle.fmp_view.specs.declared.settings.SettingsExit.{SettingsExit}
use Rattle.fmp_view.specs.declared.settings.SettingsExit.TheVariants as exit

-- the status that the program ends with
abbrev pub status_of : SettingsExit → ℕ
status_of (exit.Refused text) = 1
status_of (exit.Failed failure) = 3

-- what is said
abbrev pub exit_message : SettingsExit → List ℕ
exit_message (exit.Refused text) = string_bytes text
exit_message (exit.Failed failure) = failure_message failure

-- what the text of this file says for options of some names, by keys of settings and from a folder on
pub record Adds (files : Files) (file : Text) (words : List Text) : Type 0 where
  pub folder : Text
  pub text : List ℕ
  pub is_text : IsFile files file text
  pub keys : List Key
  pub names : List Text
  pub says : IsAdded folder keys text names words

-- the option of a name, if it is given, names another file
abbrev pub IsApart : List Row → (option settings : List ℕ) → Type 0
IsApart rows option settings = IfSome (first_of option rows) (λ name. name ≢ settings)

-- no report, tracefile or table of coverage is written to the file of settings
abbrev pub KeepsSettings : List Row → (settings : List ℕ) → Type 0
KeepsSettings rows settings =
    IsApart rows (codes "junit") settings
    × (IsApart rows (codes "lcov") settings × IsApart rows (codes "coverage") settings)
