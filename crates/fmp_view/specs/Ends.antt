-- How the program ends with status 0 or 4, by the words of its command line.
use Rattle.std.specs.Prelude.{ℕ, ◌≡◌, ◌⊎◌, List, [], Option, Some, codes, drop, string_bytes, take}
use Rattle.clap.specs.Words.{Row, Text}
use Rattle.clap.specs.declared.error.kind.ErrorKind.{ErrorKind}
use Rattle.fmp_arguments.specs.Joined.{joined, used_text}
use Rattle.fmp_arguments.specs.Settings.{texts_of}
use Rattle.fmp_files.specs.Deeds.{Deed, Says}
use Rattle.fmp_files.specs.Endings.{IsShown}
use Rattle.fmp_files.specs.Outside.{Files}
use Rattle.fmp_files.specs.Prints.{Prints}
use Rattle.fmp_looking.specs.TestDeeds.{IsDone}
use Rattle.fmp_searching.specs.Claimed.{HoldsOfWords}
use Rattle.fmp_searching.specs.Shown.{ExploresWords}
use Rattle.fmp_view.specs.declared.settings.Added.{Added}
use Rattle.fmp_view.specs.Commands.{DiffOfWords, ExpectOfWords, TestOfWords, WhyOfWords}
use Rattle.fmp_view.specs.Form.{IsEntered, IsRefused}
use Rattle.fmp_view.specs.Settings.{Adds}

-- what a command comes to that searches, compares, explains, judges or tests runs, with these words for its arguments
pub record ComesTo (files : Files) (entered : Option (Text × List Row)) (before after : Option (List Deed))
    (status : ℕ) : Type 0 where
  pub explore : (rows : List Row) → entered ≡ Some (codes "explore", rows) → status ≡ 0 → HoldsOfWords files rows after
  pub explores : (rows : List Row) → entered ≡ Some (codes "explore", rows) → ExploresWords files rows before after
  pub diff : (rows : List Row) → entered ≡ Some (codes "diff", rows) → IsDone status
      → DiffOfWords files rows before after status
  pub why : (rows : List Row) → entered ≡ Some (codes "why", rows) → IsDone status
      → WhyOfWords files rows before after status
  pub expect : (rows : List Row) → entered ≡ Some (codes "expect", rows) → IsDone status
      → ExpectOfWords files rows before after status
  pub tests : (rows : List Row) → entered ≡ Some (codes "test", rows) → IsDone status
      → TestOfWords files rows before after status

-- what settings add is what their file says, and the line tells it
pub record IsOfSettings (files : Files) (a : Added) : Type 0 where
  pub adds : Adds files (string_bytes a.file) (texts_of a.words)
  pub line : string_bytes a.line ≡ used_text (string_bytes a.file) (texts_of a.words)

-- the line was printed or said; nothing was, if settings add nothing
abbrev pub Tells : Added → (before after : Option (List Deed)) → Type 0
Tells a before after =
    Prints before (string_bytes a.line) after ⊎ (Says before after ⊎ ((texts_of a.words ≡ []) × (after ≡ before)))

-- the words that are carried out where these are typed, and what was done then: the same words; or with those of
-- settings, after the names of the program and of its command
pub data Takes (files : Files) (before : Option (List Deed)) (typed : List Text) (between : Option (List Deed))
    (words : List Text) : Type 0 where
  alone : between ≡ before → words ≡ typed → Takes files before typed between words
  with_settings : (a : Added) → IsOfSettings files a → Tells a before between
      → words ≡ joined (take 2 typed) (texts_of a.words) (drop 2 typed) → Takes files before typed between words

-- help or the version is printed, which words ask for that are no command
pub record Shows (words : List Text) (before after : Option (List Deed)) : Type 0 where
  pub kind : ErrorKind
  pub refused : IsRefused words kind
  pub shown : IsShown kind
  pub text : List ℕ
  pub printed : Prints before text after

-- the command that words enter comes to this
pub record RunsCommand (files : Files) (words : List Text) (before after : Option (List Deed)) (status : ℕ) : Type 0
  where
    pub entered : Text × List Row
    pub is : IsEntered words entered
    pub comes : ComesTo files (Some entered) before after status

-- how the program ends where these words are typed
pub record Ends (files : Files) (typed : List Text) (before after : Option (List Deed)) (status : ℕ) : Type 0 where
  pub between : Option (List Deed)
  pub words : List Text
  pub takes : Takes files before typed between words
  pub ends : Shows words between after ⊎ RunsCommand files words between after status
