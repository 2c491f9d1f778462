-- How commands end that compare, explain, judge or test runs: by what is asked, and by the words of a command line.
use Rattle.std.specs.Prelude.{ℕ, List, Option, codes, ⊤}
use Rattle.clap.specs.Words.{Row}
use Rattle.fmp_files.specs.Deeds.{Deed}
use Rattle.fmp_files.specs.Outside.{Files}
use Rattle.fmp_arguments.specs.Given.{HasNumber}
use Rattle.fmp_looking.specs.declared.wanted.Testing.{Testing}
use Rattle.fmp_looking.specs.declared.why.Why.{Why}
use Rattle.fmp_looking.specs.Asked.{IsTesting}
use Rattle.fmp_view.specs.declared.asking.Asked.{Asked}
use Rattle.fmp_view.specs.declared.asking.Asked.TheVariants as asked
use Rattle.fmp_view.specs.declared.asking.Expecting.{Expecting}
use Rattle.fmp_view.specs.declared.asking.RunFiles.{RunFiles}
use Rattle.fmp_view.specs.declared.asking.RunPair.{RunPair}
use Rattle.fmp_searching.specs.Explored.{IsForm}
use Rattle.fmp_view.specs.Asked.{IsExpecting, IsPair, IsRun}
use Rattle.fmp_view.specs.Expected.{EndsExpect}
use Rattle.fmp_view.specs.Verdicts.{EndsDiff, EndsTestFiles, EndsWhy}

-- how what is asked ends with status 0 or 4, where runs are compared, explained, judged or tested
abbrev pub EndsLook : Files → Asked → (before after : Option (List Deed)) → (status : ℕ) → Type 0
EndsLook files (asked.Diff p) before after status = EndsDiff files p before after status
EndsLook files (asked.Why r number f) before after status =
    EndsWhy files r (record { at = number; form = f }) before after status
EndsLook files (asked.Expect r e) before after status = EndsExpect files r e before after status
EndsLook files (asked.Test t) before after status = EndsTestFiles files t before after status
EndsLook files _ before after status = ⊤

-- the runs were compared that these words of `diff` name
pub record DiffOfWords (files : Files) (rows : List Row) (before after : Option (List Deed)) (status : ℕ) : Type 0 where
  pub runs : RunPair
  pub asked : IsPair rows runs
  pub ends : EndsDiff files runs before after status

-- what tasks wait for was printed, of the run and after the event that these words of `why` name
pub record WhyOfWords (files : Files) (rows : List Row) (before after : Option (List Deed)) (status : ℕ) : Type 0 where
  pub run : RunFiles
  pub is_run : IsRun rows run
  pub why : Why
  pub number : HasNumber 32 rows (codes "at") why.at
  pub form : IsForm rows why.form
  pub ends : EndsWhy files run why before after status

-- the run was judged that these words of `expect` name, by the text that they name
pub record ExpectOfWords (files : Files) (rows : List Row) (before after : Option (List Deed)) (status : ℕ)
    : Type 0 where
  pub run : RunFiles
  pub is_run : IsRun rows run
  pub expecting : Expecting
  pub asked : IsExpecting rows run expecting
  pub ends : EndsExpect files run expecting before after status

-- the system was tested that these words of `test` name, as they say
pub record TestOfWords (files : Files) (rows : List Row) (before after : Option (List Deed)) (status : ℕ) : Type 0 where
  pub testing : Testing
  pub asked : IsTesting rows testing
  pub ends : EndsTestFiles files testing before after status
