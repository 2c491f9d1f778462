-- Files that are written and files that are read: names that lead to different files.
use Rattle.std.specs.Prelude.{◌≢◌, ℕ, List, Some, true}
use Rattle.fmp_files.specs.Outside.{Files}
use Rattle.fmp_warnings.specs.declared.verdicts.FileNames.{FileNames}

-- two names differ, and the system does not say that they lead to one file
pub record AreApart (files : Files) (name other : List ℕ) : Type 0 where
  pub names : name ≢ other
  pub said : files.says_one name other ≢ Some true

-- a name leads to neither of the two texts of a system
pub record IsApartFromTexts (files : Files) (texts : FileNames) (name : List ℕ) : Type 0 where
  pub cfg : AreApart files name texts.cfg.now
  pub src : AreApart files name texts.src.now
