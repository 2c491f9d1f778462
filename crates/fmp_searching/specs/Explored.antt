-- What the words of `explore` ask for.
use Rattle.std.specs.Prelude.{◌≡◌, List, Bool, false, true, Option, None, Some, codes, map, option_map}
use Rattle.std.specs.Prelude.{bytes_eq, if◌then◌else◌}
use Rattle.clap.specs.Words.{Row, Text, first_of}
use Rattle.fmp_question.specs.declared.question.Ticks.{Ticks}
use Rattle.fmp_question.specs.declared.question.Ticks.TheVariants.{Any, Idle}
use Rattle.fmp_warnings.specs.declared.verdicts.Form.{Form}
use Rattle.fmp_warnings.specs.declared.verdicts.Form.TheVariants as form
use Rattle.fmp_searching.specs.declared.asking.ExploreWords.{ExploreWords}
use Rattle.fmp_searching.specs.declared.sources.Exploring.{Exploring}
use Rattle.fmp_arguments.specs.Given.{HasFlag, HasNumber, HasNumberOr, word_for, words_for}

-- when the clock may advance, by the word for it
abbrev pub ticks_by : Option Text → Ticks
ticks_by None = Any
ticks_by (Some word) = if bytes_eq word (codes "idle") then Idle else Any

-- what the words ask of all schedules
pub record IsAsked (rows : List Row) (a : ExploreWords) : Type 0 where
  pub nevers : map (λ word. word.now) a.nevers.now ≡ words_for rows (codes "never")
  pub alone : map (λ word. word.now) a.alone.now ≡ words_for rows (codes "alone")
  pub rest : map (λ word. word.now) a.rest.now ≡ words_for rows (codes "rest")
  pub ticks : a.ticks ≡ ticks_by (first_of (codes "ticks") rows)
  pub interrupts : HasNumber 8 rows (codes "ints") a.interrupts
  pub counts : map (λ word. word.now) a.counts.now ≡ words_for rows (codes "int")
  pub gaps : map (λ word. word.now) a.gaps.now ≡ words_for rows (codes "gap")
  pub queued : HasNumber 8 rows (codes "queued") a.queued
  pub all : HasFlag rows (codes "all") a.all
  pub states : HasNumberOr 32 1 rows (codes "states") a.states
  pub seconds : HasNumber 32 rows (codes "time") a.seconds

abbrev pub is_json : Form → Bool
is_json form.Json = true
is_json form.Text = false

-- how what a search comes to is printed
abbrev pub IsForm : (rows : List Row) → Form → Type 0
IsForm rows f = HasFlag rows (codes "json") (is_json f)

-- what is explored, and how
pub record IsExploring (rows : List Row) (e : Exploring) : Type 0 where
  pub cfg : e.cfg.now ≡ word_for rows (codes "CFG")
  pub src : e.src.now ≡ word_for rows (codes "SRC")
  pub asked : IsAsked rows e.asked
  pub bound : HasNumberOr 64 1 rows (codes "bound") e.bound
  pub answers : HasFlag rows (codes "answers") e.answers
  pub strict : HasFlag rows (codes "strict") e.strict
  pub expect : option_map (λ word. word.now) e.expect ≡ first_of (codes "expect") rows
  pub out : option_map (λ word. word.now) e.out ≡ first_of (codes "out") rows
  pub form : IsForm rows e.form
  pub jobs : HasNumberOr 32 1 rows (codes "jobs") e.jobs
  pub junit : option_map (λ word. word.now) e.junit ≡ first_of (codes "junit") rows
