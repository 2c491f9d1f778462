-- How a program ends: what it says and prints, and its status.
use Rattle.std.specs.Prelude.{ℕ, ◌≡◌, ◌≢◌, ◌⊎◌, ◌++◌, Bool, IsTrue, List, [], ◌∷◌, Option, Some, None, codes}
use Rattle.std.specs.Prelude.{string_bytes, ⊤}
use Rattle.clap.specs.declared.error.kind.ErrorKind.{ErrorKind}
use Rattle.clap.specs.declared.error.kind.ErrorKind.TheVariants.{DisplayHelp, DisplayVersion, OutOfMemory}
use Rattle.fmp_files.specs.declared.failure.Failure.{Failure}
use Rattle.fmp_files.specs.declared.failure.Failure.TheVariants.{File, Memory}
use Rattle.fmp_files.specs.Deeds.{Deed, Does, Says, said}
use Rattle.fmp_files.specs.Messages.{failure_line}
use Rattle.fmp_files.specs.Outside.{Files}
use Rattle.fmp_files.specs.Prints.{Prints}

-- a failure that names this file, or says that memory ran out
abbrev pub IsFor : List ℕ → Failure → Type 0
IsFor name (File text) = string_bytes text ≡ name
IsFor name (Memory _) = ⊤

-- memory ran out
abbrev pub IsMemory : Failure → Type 0
IsMemory (File _) = ⊥
IsMemory (Memory _) = ⊤

-- a name is one of these
abbrev pub IsOneOf : (names : List (List ℕ)) → List ℕ → Type 0
IsOneOf [] name = ⊥
IsOneOf (first ∷ names) name = (name ≡ first) ⊎ IsOneOf names name

-- a failure that names a file on which a call can fail, and which is one of these; or that says that memory ran out
abbrev pub IsFailureOf : Files → (names : List (List ℕ)) → Failure → Type 0
IsFailureOf files names (File name) = IsOneOf names (string_bytes name) × IsTrue (files.can_fail (string_bytes name))
IsFailureOf files names (Memory _) = ⊤

-- the same of the file that is written, if there is one
abbrev pub IsFailureAt : Files → (output : Option (List ℕ)) → Failure → Type 0
IsFailureAt files None failure = ⊥
IsFailureAt files (Some name) failure = IsFailureOf files (name ∷ []) failure

-- it was said that a call on the file of this name failed, or that memory ran out
abbrev pub SaysFailure : (name : List ℕ) → (before after : Option (List Deed)) → Type 0
SaysFailure name before after =
    (failure : Failure) × IsFor name failure × Does before (said (failure_line failure) ∷ []) after

-- it was said that memory ran out
abbrev pub SaysMemory : (before after : Option (List Deed)) → Type 0
SaysMemory before after = Does before (said (codes "memory\n") ∷ []) after

-- how printing ends: all of it stands on standard output, or that can fail, has done so with this left, and that was
-- said
pub data EndsPrinting (bytes : List ℕ) (can_fail : Bool) (before after : Option (List Deed)) (status : ℕ) : Type 0 where
  all_printed : Prints before bytes after → status ≡ 0 → EndsPrinting bytes can_fail before after status
  some_printed : IsTrue can_fail → (front left : List ℕ) → bytes ≡ front ++ left → (between : Option (List Deed))
      → Prints before front between → SaysFailure (codes "-") between after → status ≡ 3
      → EndsPrinting bytes can_fail before after status

-- help or the version is asked for
abbrev pub IsShown : ErrorKind → Type 0
IsShown kind = (kind ≡ DisplayHelp) ⊎ (kind ≡ DisplayVersion)

-- how a run ends whose words are refused with an error of this kind
pub data EndsRefused (kind : ErrorKind) (can_fail : Bool) (before after : Option (List Deed)) (status : ℕ)
    : Type 0 where
  -- what was asked for is printed
  shown : (text : List ℕ) → IsShown kind → EndsPrinting text can_fail before after status
      → EndsRefused kind can_fail before after status
  -- the mistake is said
  told : ¬ IsShown kind → kind ≢ OutOfMemory → Says before after → status ≡ 2
      → EndsRefused kind can_fail before after status
  -- memory ran out
  no_memory : IsShown kind ⊎ (kind ≡ OutOfMemory) → SaysMemory before after → status ≡ 3
      → EndsRefused kind can_fail before after status
