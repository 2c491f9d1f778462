-- What the words of `test` ask for.
use Rattle.std.specs.Prelude.{◌≡◌, List, codes, map, option_map}
use Rattle.clap.specs.Words.{Row, first_of}
use Rattle.fmp_arguments.specs.Given.{HasFlag, HasNumberOr, word_for, words_for}
use Rattle.fmp_looking.specs.declared.wanted.CoverageFiles.{CoverageFiles}
use Rattle.fmp_looking.specs.declared.wanted.Testing.{Testing}

-- the files to which the coverage of runs is written
pub record AreCoverageFiles (rows : List Row) (f : CoverageFiles) : Type 0 where
  pub lcov : option_map (λ word. word.now) f.lcov ≡ first_of (codes "lcov") rows
  pub coverage : option_map (λ word. word.now) f.coverage ≡ first_of (codes "coverage") rows

-- what is tested, and how
pub record IsTesting (rows : List Row) (t : Testing) : Type 0 where
  pub cfg : t.cfg.now ≡ word_for rows (codes "CFG")
  pub src : t.src.now ≡ word_for rows (codes "SRC")
  pub expect : option_map (λ word. word.now) t.expect ≡ first_of (codes "expect") rows
  pub rates : map (λ word. word.now) t.rates.now ≡ words_for rows (codes "int")
  pub tick : HasNumberOr 32 0 rows (codes "every-tick") t.tick
  pub events : HasNumberOr 32 1 rows (codes "events") t.events
  pub seeds : HasNumberOr 32 1 rows (codes "seeds") t.seeds
  pub jobs : HasNumberOr 32 1 rows (codes "jobs") t.jobs
  pub bound : HasNumberOr 64 1 rows (codes "bound") t.bound
  pub junit : option_map (λ word. word.now) t.junit ≡ first_of (codes "junit") rows
  pub json : HasFlag rows (codes "json") t.json
  pub files : AreCoverageFiles rows t.files
