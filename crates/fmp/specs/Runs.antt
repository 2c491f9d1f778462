-- What a run of the program reads, writes, prints and says, and the status that it ends with.
use Rattle.std.specs.Prelude.{ℕ, ◌≡◌, ◌≢◌, ◌⊎◌, ◌||◌, Bool, true, false, List, [], ◌∷◌, Option, None, Some}
use Rattle.std.specs.Prelude.{IfSome, IsSomeAnd, IsTrue, MatchBool, is_some, ⊤}
use Rattle.fmp.specs.Asked.{AsksFor, IsRefused}
use Rattle.fmp.specs.declared.asking.Cmd.{Cmd}
use Rattle.fmp.specs.declared.asking.Cmd.TheVariants as command
use Rattle.fmp_files.specs.Deeds.{Begins, Deed, Does, Says, said, wrote}
use Rattle.fmp_files.specs.declared.failure.Failure.{Failure}
use Rattle.fmp_files.specs.Endings.{EndsPrinting, EndsRefused, IsFailureAt, IsFailureOf, SaysMemory}
use Rattle.fmp_files.specs.Files.{front}
use Rattle.fmp_files.specs.Outside.{Files}
use Rattle.clap.specs.declared.error.kind.ErrorKind.{ErrorKind}
use Rattle.fmp.specs.Commands.{inputs_of, limit_of, output_of}
use Rattle.fmp.specs.Messages.{SaysExit, arrivals_line}
use Rattle.fmp.specs.Performed.{CarriesOut, IsWhyNot, status_of}
use Rattle.fmp.specs.declared.perform.Exit.{Exit}
use Rattle.fmp.specs.declared.perform.Exit.TheVariants.{Build, Sim, Host, Failed}
use Rattle.fmp_engine.specs.Counts.{CountsSteps}
use Rattle.fmp_engine.specs.declared.counts.EventCounts.{EventCounts}

-- each text is the front of the file of its name, as far as a reading under this limit goes
abbrev pub AreFronts : Files → (limit : Option ℕ) → (names texts : List (List ℕ)) → Type 0
AreFronts files limit [] [] = ⊤
AreFronts files limit [] (text ∷ texts) = ⊥
AreFronts files limit (name ∷ names) [] = ⊥
AreFronts files limit (name ∷ names) (text ∷ texts) =
    IfSome (files.bytes name) (λ all. text ≡ front limit all) × AreFronts files limit names texts

-- texts are what a command reads
abbrev pub AreInputs : Files → Cmd → (texts : List (List ℕ)) → Type 0
AreInputs files cmd texts = AreFronts files (limit_of cmd) (inputs_of cmd) texts

-- an end for a failure of which this holds
abbrev pub IsFailed : (Failure → Type 0) → Exit → Type 0
IsFailed Holds (Build _) = ⊥
IsFailed Holds (Sim _) = ⊥
IsFailed Holds (Host _) = ⊥
IsFailed Holds (Failed failure) = Holds failure

-- what is written for a command
abbrev pub writes_to : (output : Option (List ℕ)) → List ℕ → List Deed
writes_to None bytes = []
writes_to (Some name) bytes = wrote name bytes ∷ []

-- a file was begun and not ended
abbrev pub BeginsFile : (output : Option (List ℕ)) → List ℕ → (before after : Option (List Deed)) → Type 0
BeginsFile None bytes before after = ⊥
BeginsFile (Some name) bytes before after = Begins (wrote name) bytes before after

-- two names lead to one file: they are equal, or the system says so
abbrev pub AreOne : Files → (name other : List ℕ) → Type 0
AreOne files name other = (name ≡ other) ⊎ (files.says_one name other ≡ Some true)

-- they can lead to one file: they are equal, or the system does not say that they lead to two
abbrev pub CanBeOne : Files → (name other : List ℕ) → Type 0
CanBeOne files name other = (name ≡ other) ⊎ (files.says_one name other ≢ Some false)

-- a name leads to none of the files of these
abbrev pub IsNoneOf : Files → (names : List (List ℕ)) → List ℕ → Type 0
IsNoneOf files [] name = ⊤
IsNoneOf files (first ∷ names) name = (¬ AreOne files name first) × IsNoneOf files names name

-- a name can lead to the file of one of these
abbrev pub CanBeOneOf : Files → (names : List (List ℕ)) → List ℕ → Type 0
CanBeOneOf files [] name = ⊥
CanBeOneOf files (first ∷ names) name = CanBeOne files name first ⊎ CanBeOneOf files names name

-- the file that a command writes is none that it reads
abbrev pub KeepsInputs : Files → Cmd → Type 0
KeepsInputs files cmd = IfSome (output_of cmd) (IsNoneOf files (inputs_of cmd))

-- the file that a command writes can be one that it reads
abbrev pub CanBeOver : Files → Cmd → Type 0
CanBeOver files cmd = IsSomeAnd (output_of cmd) (CanBeOneOf files (inputs_of cmd))

-- what a command read, and what it made of that: the bytes of its file and those that are printed
pub record Performs (files : Files) (cmd : Cmd) (file out : List ℕ) : Type 0 where
  pub inputs : List (List ℕ)
  pub read : AreInputs files cmd inputs
  pub made : CarriesOut cmd inputs file out

-- whether it is said what came of a command: of a host that goes by the clock or takes lines
abbrev pub tells : Cmd → Bool
tells (command.Check _ _) = false
tells (command.Build _ _ _) = false
tells (command.Sim _ _ _) = false
tells (command.Host _ _ _ _ _ tick_us interrupt) = is_some tick_us || is_some interrupt
tells command.Stored = false

-- A command was carried out: its file has been written, and this is to be printed. If it tells what came of it, the
-- file has a journal with this many events of each kind.
pub record CarriedOut (files : Files) (cmd : Cmd) (before after : Option (List Deed)) (out : List ℕ)
    (counts : EventCounts) : Type 0 where
  pub file : List ℕ
  pub performed : Performs files cmd file out
  pub written : Does before (writes_to (output_of cmd) file) after
  pub counted : IsTrue (tells cmd) → CountsSteps file counts

-- why a command was not carried out, and what was done
pub data Fails (files : Files) (cmd : Cmd) (before after : Option (List Deed)) (exit : Exit) : Type 0 where
  -- a file could not be read
  unread : IsFailed (IsFailureOf files (inputs_of cmd)) exit → Does before [] after → Fails files cmd before after exit
  -- what was read has a fault
  faulty : (inputs : List (List ℕ)) → AreInputs files cmd inputs → IsWhyNot cmd inputs exit → Does before [] after
      → Fails files cmd before after exit
  -- the file could not be written
  unwritten : (file out : List ℕ) → Performs files cmd file out → IsFailed (IsFailureAt files (output_of cmd)) exit
      → BeginsFile (output_of cmd) file before after → Fails files cmd before after exit

-- What came of a command is said if it tells that, and else nothing is said: how many events of each kind its journal
-- has, and how many lines were read.
abbrev pub SaysWhatCame : Cmd → EventCounts → (before after : Option (List Deed)) → Type 0
SaysWhatCame cmd counts before after =
    MatchBool (tells cmd)
    ((lines : ℕ) × Does before (said (arrivals_line (record { events = counts; lines = lines })) ∷ []) after)
    (after ≡ before)

-- how a run of a command ends, given whether standard output can fail
pub data EndsCommand (files : Files) (can_fail : Bool) (cmd : Cmd) (before after : Option (List Deed)) (status : ℕ)
    : Type 0 where
  -- it was carried out: its file is written, then is printed what there is to print, and then is said what came
  done : (out : List ℕ) (counts : EventCounts) (between printed : Option (List Deed)) → KeepsInputs files cmd
      → CarriedOut files cmd before between out counts → EndsPrinting out can_fail between printed status
      → SaysWhatCame cmd counts printed after → EndsCommand files can_fail cmd before after status
  -- it was not carried out, and why is said
  failed : (exit : Exit) (between : Option (List Deed)) → KeepsInputs files cmd → Fails files cmd before between exit
      → SaysExit exit between after → status ≡ status_of exit → EndsCommand files can_fail cmd before after status
  -- its file would replace one that it reads
  over_input : CanBeOver files cmd
      → (Says before after × (status ≡ 2)) ⊎ (SaysMemory before after × (status ≡ 3))
      → EndsCommand files can_fail cmd before after status

-- how a run ends, by the words of its command line
pub data Ends (files : Files) (can_fail : Bool) (words : List (List ℕ)) (before after : Option (List Deed)) (status : ℕ)
    : Type 0 where
  -- the words are refused
  refused : (kind : ErrorKind) → IsRefused words kind → EndsRefused kind can_fail before after status
      → Ends files can_fail words before after status
  -- memory ran out before they were read
  no_room : SaysMemory before after → status ≡ 3 → Ends files can_fail words before after status
  -- they ask for a command
  ran : (cmd : Cmd) → AsksFor words cmd → EndsCommand files can_fail cmd before after status
      → Ends files can_fail words before after status
