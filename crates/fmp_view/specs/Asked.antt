-- What the words of commands ask for that compare and judge runs.
use Rattle.std.specs.Prelude.{ℕ, ◌≡◌, Bool, true, false, List, Option, Some, None, codes, option_map}
use Rattle.clap.specs.Words.{Row, Text, first_of}
use Rattle.fmp_arguments.specs.Given.{HasFlag, HasNumber, HasNumberOr, word_for}
use Rattle.fmp_looking.specs.declared.wanted.Testing.{Testing}
use Rattle.fmp_looking.specs.Asked.{IsTesting}
use Rattle.fmp_view.specs.declared.asking.Asked.TheVariants as asked
use Rattle.fmp_view.specs.declared.asking.Cmd.{Cmd}
use Rattle.fmp_view.specs.declared.asking.Cmd.TheVariants as cmd
use Rattle.fmp_view.specs.declared.asking.Expecting.{Expecting}
use Rattle.fmp_view.specs.declared.asking.RunFiles.{RunFiles}
use Rattle.fmp_view.specs.declared.asking.RunFiles.TheVariants as run
use Rattle.fmp_view.specs.declared.asking.RunPair.{RunPair}
use Rattle.fmp_searching.specs.Explored.{IsExploring, IsForm}
use Rattle.fmp_warnings.specs.declared.verdicts.Form.{Form}

-- the files of a run: a recording, if one is named
abbrev pub IsRun : List Row → RunFiles → Type 0
IsRun rows (run.Steps image steps bound) =
    (first_of (codes "recording") rows ≡ None) × (image.now ≡ word_for rows (codes "IMAGE"))
    × (steps.now ≡ word_for rows (codes "STEPS")) × HasNumberOr 64 1 rows (codes "bound") bound
IsRun rows (run.Recording cfg recording) =
    (first_of (codes "recording") rows ≡ Some recording.now) × (cfg.now ≡ word_for rows (codes "IMAGE"))

-- the word after those of a run, for the argument of this name: of a recording there are no steps, so it stands there
abbrev pub word_after : List Row → RunFiles → (id : Text) → Text
word_after rows (run.Steps image steps bound) id = word_for rows id
word_after rows (run.Recording cfg recording) id = word_for rows (codes "STEPS")

-- the bound of a stretch, unless runs are recordings
abbrev pub IsPairBound : List Row → (recordings : Bool) → Option ℕ → Type 0
IsPairBound rows true bound = bound ≡ None
IsPairBound rows false None = ⊥
IsPairBound rows false (Some bound) = HasNumberOr 64 1 rows (codes "bound") bound

-- two runs
pub record IsPair (rows : List Row) (p : RunPair) : Type 0 where
  pub system : p.system.now ≡ word_for rows (codes "IMAGE")
  pub a : p.a.now ≡ word_for rows (codes "A")
  pub b : p.b.now ≡ word_for rows (codes "B")
  pub recordings : Bool
  pub flag : HasFlag rows (codes "recordings") recordings
  pub bound : IsPairBound rows recordings p.bound

-- what is expected of a run
pub record IsExpecting (rows : List Row) (r : RunFiles) (e : Expecting) : Type 0 where
  pub name : e.name.now ≡ word_after rows r (codes "EXPECT")
  pub strict : HasFlag rows (codes "strict") e.strict
  pub form : IsForm rows e.form
  pub junit : option_map (λ word. word.now) e.junit ≡ first_of (codes "junit") rows
  pub src : option_map (λ word. word.now) e.src ≡ first_of (codes "src") rows

-- what a command asks for with these words
abbrev pub AsksToExplore : List Row → Cmd → Type 0
AsksToExplore rows (cmd.Explore e) = IsExploring rows e
AsksToExplore rows (cmd.Look a) = ⊥

abbrev pub AsksToDiff : List Row → Cmd → Type 0
AsksToDiff rows c = (p : RunPair) × (c ≡ cmd.Look (asked.Diff p)) × IsPair rows p

abbrev pub AsksToWhy : List Row → Cmd → Type 0
AsksToWhy rows c =
    (r : RunFiles) × (number : Option ℕ) × (f : Form) × (c ≡ cmd.Look (asked.Why r number f)) × IsRun rows r
    × HasNumber 32 rows (codes "at") number × IsForm rows f

abbrev pub AsksToExpect : List Row → Cmd → Type 0
AsksToExpect rows c =
    (r : RunFiles) × (e : Expecting) × (c ≡ cmd.Look (asked.Expect r e)) × IsRun rows r × IsExpecting rows r e

abbrev pub AsksToTest : List Row → Cmd → Type 0
AsksToTest rows c = (t : Testing) × (c ≡ cmd.Look (asked.Test t)) × IsTesting rows t
