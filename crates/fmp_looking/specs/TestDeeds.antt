-- What a test does outside of the program, and how it ends.
use Rattle.std.specs.Prelude.{ℕ, ◌≡◌, ◌⊎◌, ◌++◌, ◌≤◌, Bool, true, false, IfSome, List, Option, Some, None, map}
use Rattle.std.specs.Prelude.{[], ◌∷◌, option_map}
use Rattle.std.specs.Str.Lossy.{utf8_lossy}
use Rattle.fmp_base.specs.Systems.{tables_of}
use Rattle.fmp_files.specs.Deeds.{Deed, Does, Says, said, wrote}
use Rattle.fmp_files.specs.Outside.{Files}
use Rattle.fmp_files.specs.Prints.{Prints}
use Rattle.fmp_trials.specs.declared.choices.InterruptRate.{InterruptRate}
use Rattle.fmp_looking.specs.declared.built_system.BuiltSystem.{BuiltSystem}
use Rattle.fmp_looking.specs.declared.reporting.FailedTest.{FailedTest}
use Rattle.fmp_looking.specs.declared.wanted.ImageTest.{ImageTest}
use Rattle.fmp_looking.specs.declared.wanted.ReadTest.{ReadTest}
use Rattle.fmp_looking.specs.declared.wanted.Testing.{Testing}
use Rattle.fmp_looking.specs.Covered.{IsTable, IsTestSeen, IsTracefile, Seen}
use Rattle.fmp_looking.specs.FilesWritten.{file_written}
use Rattle.fmp_looking.specs.Judgements.{IsTestReport}
use Rattle.fmp_looking.specs.Rates.{rate_mistake, rates_named}
use Rattle.fmp_looking.specs.Tested.{HaveMetText, IsFailedTest, plan_in}
use Rattle.fmp_looking.specs.TestFiles.{AreApart}
use Rattle.fmp_looking.specs.TestLines.{lines_said, none_line, seed_line}
use Rattle.fmp_looking.specs.TestRecords.{test_record}
use Rattle.fmp_looking.specs.TestRefusals.{AreTestRefusals}

-- a file has this text, where that is known
abbrev pub IsTextOf : Files → (name text : List ℕ) → Type 0
IsTextOf files name text = IfSome (files.bytes name) (λ bytes. text ≡ bytes)

-- the texts of a test are those of its files
pub record IsRead (files : Files) (r : ReadTest) : Type 0 where
  pub src : IsTextOf files r.test.now.testing.src.now r.texts.src.now
  pub expectations : IsTextOf files r.test.now.expect.now r.texts.expectations.now

-- this is the first run that fails what is expected
abbrev pub FailsTest : ReadTest → FailedTest → Type 0
FailsTest r f =
    IsFailedTest r.test.now.image.now (tables_of r.test.now.configured.now) r.test.now.testing.bound
    (plan_in r.test.now) r.test.now.testing.seeds r.texts.src.now r.test.now.expect.now r.texts.expectations.now f

-- all runs meet what is expected
abbrev pub MeetsTest : ReadTest → Type 0
MeetsTest r =
    HaveMetText r.test.now.image.now (tables_of r.test.now.configured.now) r.test.now.testing.bound
    (plan_in r.test.now) r.test.now.testing.seeds r.texts.src.now r.texts.expectations.now

-- the status of a test that is made: 0 where no run fails, and 4 where one does
abbrev pub verdict_status : Option FailedTest → ℕ
verdict_status None = 0
verdict_status (Some f) = 4

abbrev pub IsDone : (status : ℕ) → Type 0
IsDone status = (status ≡ 0) ⊎ (status ≡ 4)

-- the other statuses
abbrev pub IsRefusal : (status : ℕ) → Type 0
IsRefusal status = (1 ≤ status) × (status ≤ 3)

-- some texts were said
abbrev pub SaysSome : (before after : Option (List Deed)) → Type 0
SaysSome before after = (texts : List (List ℕ)) × Does before (map said texts) after

-- how many runs were made: those after the first that fails are not
abbrev pub runs_made : ReadTest → Option FailedTest → ℕ
runs_made r None = r.test.now.testing.seeds
runs_made r (Some f) = f.trial.seed

-- the coverage of this many runs was written, where that is asked for
pub record Covers (r : ReadTest) (runs : ℕ) (before after : Option (List Deed)) : Type 0 where
  pub tracefile : List ℕ
  pub table : List ℕ
  pub lcov :
      IfSome r.test.now.testing.files.lcov (λ _. (s : Seen) × IsTestSeen r.test.now r.texts runs s
      × IsTracefile r.test.now.testing.src.now r.texts.src.now s tracefile)
  pub coverage :
      IfSome r.test.now.testing.files.coverage (λ _. (s : Seen) × IsTestSeen r.test.now r.texts runs s
      × IsTable r.test.now.testing.src.now r.texts.src.now s table)
  pub done :
      Does before
      (file_written (option_map (λ n. n.now) r.test.now.testing.files.lcov) tracefile
      ++ file_written (option_map (λ n. n.now) r.test.now.testing.files.coverage) table)
      after

-- the report of runs, of which this one fails, if one does, was written, where that is asked for
pub record Reports (r : ReadTest) (found : Option FailedTest) (before after : Option (List Deed)) : Type 0 where
  pub report : List ℕ
  pub is :
      IfSome r.test.now.testing.junit (λ _. IsTestReport (tables_of r.test.now.configured.now) r.test.now.expect.now
      r.texts.expectations.now (option_map (λ f. f.trial.run.broken) found) report)
  pub done : Does before (file_written (option_map (λ n. n.now) r.test.now.testing.junit) report) after

-- what came of runs was told: as an object of JSON; or the seed of the run that fails and its report were said, and its
-- steps printed
abbrev pub TellsFound : (json : Bool) → ReadTest → Option FailedTest → (before after : Option (List Deed)) → Type 0
TellsFound true r found before after =
    Prints before
    (test_record r.test.now.expect.now r.texts.expectations.now r.test.now.testing.seeds found) after
TellsFound false r None before after = Does before (said (none_line r.test.now.testing.seeds) ∷ []) after
TellsFound false r (Some f) before after =
    (between : Option (List Deed))
    × Does before (said (seed_line f.trial) ∷ said (utf8_lossy f.report.items) ∷ []) between
    × Prints between f.steps.items after

-- lines were told, if there are some: objects of JSON are printed, and lines for readers said
abbrev pub TellsLines : (json : Bool) → (lines : List ℕ) → (before after : Option (List Deed)) → Type 0
TellsLines true lines before after = Prints before lines after
TellsLines false lines before after = Does before (lines_said lines) after

-- runs were made, of which this one fails, if one does: their coverage and their report were written, to files that are
-- not read, and it was told what came of them, and which calls were refused in them
pub record HasTested (r : ReadTest) (found : Option FailedTest) (before after : Option (List Deed)) : Type 0 where
  pub covered : Option (List Deed)
  pub covers : Covers r (runs_made r found) before covered
  pub reported : Option (List Deed)
  pub reports : Reports r found covered reported
  pub told : Option (List Deed)
  pub tells : TellsFound r.test.now.testing.json r found reported told
  pub refused : List ℕ
  pub are : AreTestRefusals r.test.now r.texts (runs_made r found) refused
  pub refuses : TellsLines r.test.now.testing.json refused told after

-- a test was made, of whose runs this is the first that fails what its files expect; where there is none, all meet it
pub record IsTested (r : ReadTest) (before after : Option (List Deed)) (status : ℕ) : Type 0 where
  pub apart : AreApart r.test.now
  pub found : Option FailedTest
  pub fails : IfSome found (FailsTest r)
  pub meets : found ≡ None → MeetsTest r
  pub verdict : status ≡ verdict_status found
  pub has : HasTested r found before after

-- this test of a system is asked for, in which interrupts come at these rates
pub record IsTestOf (built : BuiltSystem) (testing : Testing) (named : List InterruptRate) (t : ImageTest)
    : Type 0 where
  pub image : t.image ≡ built.image
  pub configured : t.configured ≡ built.configured
  pub expect : testing.expect ≡ Some t.expect
  pub rates : t.rates.now ≡ named
  pub asked : t.testing ≡ testing
  pub right : rate_mistake testing.tick named ≡ None

-- a test of a system was made with the texts of its files, at the rates that words say; before that some texts were
-- said
pub record EndsTest (files : Files) (built : BuiltSystem) (testing : Testing) (before after : Option (List Deed))
    (status : ℕ) : Type 0 where
  pub read : ReadTest
  pub rates : List InterruptRate
  pub named : rates_named (tables_of built.configured.now) testing.rates.now ≡ Some rates
  pub is_test : IsTestOf built testing rates read.test.now
  pub is_read : IsRead files read
  pub said : Option (List Deed)
  pub says : SaysSome before said
  pub tested : IsTested read said after status
