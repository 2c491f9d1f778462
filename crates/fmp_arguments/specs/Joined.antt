-- The words of a command line, with those of settings.
use Rattle.std.specs.Prelude.{ℕ, ◌≡◌, if◌then◌else◌, List, [], ◌∷◌, ◌++◌, Some, bytes_eq, codes}
use Rattle.std.specs.List.{list_any}
use Rattle.fmp_arguments.specs.declared.keys.Key.{Key}
use Rattle.fmp_arguments.specs.Settings.{Text, settings_of}

-- the words of a setting, if its name is among these
abbrev pub words_by : (names : List Text) → Text × List Text → List Text
words_by names s = if list_any (λ name. bytes_eq name s.0) names then s.1 else []

-- the words of the settings whose names are among these
abbrev pub words_taken : (names : List Text) → List (Text × List Text) → List Text
words_taken names [] = []
words_taken names (s ∷ ss) = words_by names s ++ words_taken names ss

-- what a text of settings adds for the options of these names
pub record IsAdded (folder : Text) (keys : List Key) (text : List ℕ) (names added : List Text) : Type 0 where
  pub settings : List (Text × List Text)
  pub says : settings_of folder keys text ≡ Some settings
  pub are : added ≡ words_taken names settings

-- words of settings stand after the names of the program and of the command
abbrev pub joined : (names added rest : List Text) → List Text
joined names added rest = names ++ (added ++ rest)

-- what is printed of the words that settings gave
abbrev pub added_text : List Text → List ℕ
added_text [] = codes "\n"
added_text (word ∷ words) = codes " " ++ (word ++ added_text words)

abbrev pub used_text : (file : Text) → (added : List Text) → List ℕ
used_text file added = codes "settings of " ++ (file ++ (codes ":" ++ added_text added))
