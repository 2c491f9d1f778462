-- The files that a search writes and removes.
use Rattle.std.specs.Prelude.{ℕ, ◌≡◌, ◌≢◌, ◌<◌, ◌++◌, ◌⊎◌, List, [], ◌∷◌, Option, Some, None, IfSome, Bool, ◌||◌, codes}
use Rattle.std.specs.Prelude.{◌^◌, get_or, length, map, nat_eq, option_map, unwrap_or, ⊤}
use Rattle.std.specs.List.{AllByRecursion, range_with_len}
use Rattle.fmp_files.specs.Deeds.{Deed, Does, printed, removed, said, wrote}
use Rattle.fmp_searching.specs.Sources.{steps_name}
use Rattle.fmp_searching.specs.Words.{before}
use Rattle.fmp_searching.specs.declared.sources.Exploring.{Exploring}

-- the name of a configuration without `.cfg`
abbrev pub stem : List ℕ → List ℕ
stem cfg = unwrap_or (before (codes ".cfg") cfg) cfg

-- the name of the files of steps, without the dot and the number: the one that is asked for, or that of the
-- configuration
abbrev pub out_name : (cfg : List ℕ) → (asked : Option (List ℕ)) → List ℕ
out_name cfg (Some name) = name
out_name cfg None = stem cfg ++ codes ".found"

-- the names of this many files of steps
abbrev pub steps_names : (out : List ℕ) → (count : ℕ) → List (List ℕ)
steps_names out count = map (λ number. steps_name out number) (range_with_len 1 count)

-- a name is none of the files that are read
pub record IsApart (e : Exploring) (name : List ℕ) : Type 0 where
  pub cfg : name ≢ e.cfg.now
  pub src : name ≢ e.src.now
  pub expect : IfSome e.expect (λ read. name ≢ read.now)

-- the file of the report, if one is asked for, is none of the files that are read
abbrev pub IsReportApart : Exploring → Type 0
IsReportApart e = IfSome e.junit (λ name. IsApart e name.now)

-- the file of the report, if one is asked for, is none of steps
abbrev pub IsReportNoSteps : Exploring → Type 0
IsReportNoSteps e =
    IfSome e.junit (λ name. (number : ℕ) → 0 < number → number < 2 ^ 64 →
    name.now ≢ steps_name (out_name e.cfg.now (option_map (λ n. n.now) e.out)) number)

-- a byte stands nowhere in a text
abbrev pub HasNo : (byte : ℕ) → (text : List ℕ) → Type 0
HasNo byte text = (i : ℕ) → i < length text → get_or text i 0 ≢ byte

-- each of these files was written, with its text
abbrev pub files_written : (names texts : List (List ℕ)) → List Deed
files_written [] texts = []
files_written (name ∷ names) [] = []
files_written (name ∷ names) (text ∷ texts) = wrote name text ∷ files_written names texts

-- a report was written to its file, if there are both
abbrev pub report_written : (file report : Option (List ℕ)) → List Deed
report_written None report = []
report_written (Some name) None = []
report_written (Some name) (Some report) = wrote name report ∷ []

-- a file of steps was removed whose number comes after this many, and which is not read; or a text was said
abbrev pub IsRemoval : Exploring → (out : List ℕ) → (count : ℕ) → Deed → Type 0
IsRemoval e out count (removed name) =
    ((number : ℕ) × ((count < number) × (name ≡ steps_name out number))) × IsApart e name
IsRemoval e out count (said text) = ⊤
IsRemoval e out count (wrote name bytes) = ⊥
IsRemoval e out count (printed bytes) = ⊥

-- of an earlier search files of steps were removed, and nothing else was done
pub record RemovesSteps (e : Exploring) (out : List ℕ) (count : ℕ) (before after : Option (List Deed)) : Type 0 where
  pub deeds : List Deed
  pub each : AllByRecursion (IsRemoval e out count) deeds
  pub done : Does before deeds after

-- the status of what was refused: a fault of the texts, a mistake of the words, or a failure
abbrev pub is_refusal : (status : ℕ) → Bool
is_refusal status = nat_eq status 1 || (nat_eq status 2 || nat_eq status 3)
