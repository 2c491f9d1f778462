-- What an exploration does outside of itself: which files it writes and removes, and that else it only prints and says.
use Rattle.std.specs.Prelude.{ℕ, ◌≡◌, ◌⊎◌, List, [], ◌∷◌, Bool, true, false, MatchOption, Option, Some, None, drop}
use Rattle.std.specs.Prelude.{length, map, option_map, take, ⊤}
use Rattle.std.specs.List.{AllByRecursion, list_any}
use Rattle.fmp_files.specs.Deeds.{Deed, Does, printed, removed, said, wrote}
use Rattle.fmp_files.specs.Endings.{IsOneOf}
use Rattle.fmp_searching.specs.Files.{IsApart, out_name, steps_names}
use Rattle.fmp_searching.specs.Sources.{steps_name}
use Rattle.fmp_searching.specs.declared.exploring.Explored.{Explored}
use Rattle.fmp_searching.specs.declared.sources.Exploring.{Exploring}

-- each deed is such a one
pub record DoesOnly (P : Deed → Type 0) (before after : Option (List Deed)) : Type 0 where
  pub deeds : List Deed
  pub each : AllByRecursion P deeds
  pub done : Does before deeds after

-- a text is said
abbrev pub IsSaying : Deed → Type 0
IsSaying (wrote name bytes) = ⊥
IsSaying (removed name) = ⊥
IsSaying (printed bytes) = ⊥
IsSaying (said text) = ⊤

-- nothing was done but texts were said
abbrev pub SaysOnly : (before after : Option (List Deed)) → Type 0
SaysOnly before after = DoesOnly IsSaying before after

-- something is printed, or said
abbrev pub IsTelling : Deed → Type 0
IsTelling (wrote name bytes) = ⊥
IsTelling (removed name) = ⊥
IsTelling (printed bytes) = ⊤
IsTelling (said text) = ⊤

-- nothing was done but something was printed, and texts were said
abbrev pub TellsOnly : (before after : Option (List Deed)) → Type 0
TellsOnly before after = DoesOnly IsTelling before after

-- a file is removed, or a text is said
abbrev pub IsIdle : Deed → Type 0
IsIdle (wrote name bytes) = ⊥
IsIdle (removed name) = ⊤
IsIdle (printed bytes) = ⊥
IsIdle (said text) = ⊤

-- nothing was printed or written
abbrev pub GivesNothing : (before after : Option (List Deed)) → Type 0
GivesNothing before after = DoesOnly IsIdle before after

-- one of these files is written, or a text is said
abbrev pub IsWriteOf : (names : List (List ℕ)) → Deed → Type 0
IsWriteOf names (wrote name bytes) = IsOneOf names name
IsWriteOf names (removed name) = ⊥
IsWriteOf names (printed bytes) = ⊥
IsWriteOf names (said text) = ⊤

-- the name of a file of steps, whatever its number
abbrev pub IsStepsFile : (out name : List ℕ) → Type 0
IsStepsFile out name = (number : ℕ) × (name ≡ steps_name out number)

-- the name of the file of the report of tests, if one is asked for
abbrev pub IsReportFile : Exploring → (name : List ℕ) → Type 0
IsReportFile e name = option_map (λ junit. junit.now) e.junit ≡ Some name

-- An exploration with files of steps of this name may do this. It writes and removes files of steps and writes that of
-- its report, but none that it reads.
abbrev pub MayDo : Exploring → (out : List ℕ) → Deed → Type 0
MayDo e out (wrote name bytes) = IsApart e name × (IsStepsFile out name ⊎ IsReportFile e name)
MayDo e out (removed name) = IsApart e name × IsStepsFile out name
MayDo e out (printed bytes) = ⊤
MayDo e out (said text) = ⊤

-- nothing else was done by an exploration: the files that it reads stay as they are, and so do all that are not its own
abbrev pub KeepsFiles : Exploring → (before after : Option (List Deed)) → Type 0
KeepsFiles e before after = DoesOnly (MayDo e (out_name e.cfg.now (option_map (λ name. name.now) e.out))) before after

-- ---- what files have that are written

-- a beginning of a text, or all of it
abbrev pub IsFront : (text bytes : List ℕ) → Type 0
IsFront text bytes = (count : ℕ) × (bytes ≡ take count text)

-- a name is one of these, and the bytes are a beginning of the text at its place
abbrev pub IsFrontOfOne : (names texts : List (List ℕ)) → (name bytes : List ℕ) → Type 0
IsFrontOfOne [] texts name bytes = ⊥
IsFrontOfOne (first ∷ names) [] name bytes = ⊥
IsFrontOfOne (first ∷ names) (text ∷ texts) name bytes =
    ((name ≡ first) × IsFront text bytes) ⊎ IsFrontOfOne names texts name bytes

-- if a file is written, then one of these, with a beginning of its text
abbrev pub WritesFront : (names texts : List (List ℕ)) → Deed → Type 0
WritesFront names texts (wrote name bytes) = IsFrontOfOne names texts name bytes
WritesFront names texts (removed name) = ⊤
WritesFront names texts (printed bytes) = ⊤
WritesFront names texts (said text) = ⊤

-- the bytes are a beginning of the steps of the finding whose file has this name
abbrev pub IsFrontOfSteps : (out : List ℕ) → Explored → (name bytes : List ℕ) → Type 0
IsFrontOfSteps out x name bytes =
    IsFrontOfOne (steps_names out (length x.steps.items)) (map (λ text. text.items) x.steps.items) name bytes

-- the bytes are a beginning of the report of tests, whose file has this name
abbrev pub IsFrontOfReport : Exploring → Explored → (name bytes : List ℕ) → Type 0
IsFrontOfReport e x name bytes = IsReportFile e name × MatchOption x.report ⊥ (λ report. IsFront report.items bytes)

-- if a file is written, then one of steps or that of the report, with a beginning of what this search came to
abbrev pub WritesResult : Exploring → (out : List ℕ) → Explored → Deed → Type 0
WritesResult e out x (wrote name bytes) = IsFrontOfSteps out x name bytes ⊎ IsFrontOfReport e x name bytes
WritesResult e out x (removed name) = ⊤
WritesResult e out x (printed bytes) = ⊤
WritesResult e out x (said text) = ⊤

-- ---- what a type keeps of a search

-- of what was done, as many of the first deeds as were done before
abbrev pub first_done : (before after : Option (List Deed)) → Option (List Deed)
first_done None after = None
first_done (Some before) None = None
first_done (Some before) (Some after) = Some (take (length before) after)

-- the deeds that follow these
abbrev pub done_since : (before after : Option (List Deed)) → List Deed
done_since None after = []
done_since (Some before) None = []
done_since (Some before) (Some after) = drop (length before) after

abbrev pub is_no_saying : Deed → Bool
is_no_saying (said text) = false
is_no_saying _ = true

-- `SaysOnly`, as a proposition
pub record HasSaid (before after : Option (List Deed)) : Type 0 where
  pub first : first_done before after ≡ before
  pub texts : list_any is_no_saying (done_since before after) ≡ false
