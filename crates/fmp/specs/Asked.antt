-- What the words of a command line ask for.
use Rattle.std.specs.Prelude.{ℕ, ◌≡◌, ◌≤◌, ◌<◌, ◌⊎◌, List, [], IfSome, IsSome, IsSomeAnd, None, Option, Some, codes}
use Rattle.std.specs.Prelude.{length, string_bytes}
use Rattle.std.specs.Str.Parse.{digits_value, without_leading_plus}
use Rattle.clap.specs.Words.{IsAmong, IsUnsignedIn, Row, Text, fault_of, first_of, one_of, subcommand_of}
use Rattle.clap.specs.declared.error.kind.ErrorKind.{ErrorKind}
use Rattle.clap.specs.declared.error.kind.ErrorKind.TheVariants.{OutOfMemory}
use Rattle.fmp.specs.Form.{fmp}
use Rattle.fmp.specs.declared.asking.Cmd.{Cmd}
use Rattle.fmp.specs.declared.asking.Cmd.TheVariants.{Check, Build, Sim, Host, Stored}

-- the word for this argument
abbrev pub HasWord : List Row → Text → Text → Type 0
HasWord rows id word = first_of id rows ≡ Some word

-- the number that the word for this argument spells, in decimal digits
abbrev pub HasNumber : List Row → Text → ℕ → Type 0
HasNumber rows id number =
    (word : Text) × (one_of id rows ≡ Some word) × (number ≡ digits_value 10 (without_leading_plus word))

-- the same, if there is such a word
abbrev pub HasNumberIfGiven : List Row → Text → Option ℕ → Type 0
HasNumberIfGiven rows id None = one_of id rows ≡ None
HasNumberIfGiven rows id (Some number) = HasNumber rows id number

-- what a subcommand asks for, by its name and the words for its arguments
abbrev pub IsAsked : Text → List Row → Cmd → Type 0
IsAsked name rows (Check config tasks) =
    (name ≡ codes "check") × HasWord rows (codes "CFG") (string_bytes config)
    × HasWord rows (codes "SRC") (string_bytes tasks)
IsAsked name rows (Build config tasks image) =
    (name ≡ codes "build") × HasWord rows (codes "CFG") (string_bytes config)
    × HasWord rows (codes "SRC") (string_bytes tasks) × HasWord rows (codes "OUT") (string_bytes image)
IsAsked name rows (Sim image steps bound) =
    (name ≡ codes "sim") × HasWord rows (codes "IMAGE") (string_bytes image)
    × HasWord rows (codes "STEPS") (string_bytes steps) × HasNumber rows (codes "bound") bound
IsAsked name rows (Host image journal turns ticks bound tick_us interrupt) =
    (name ≡ codes "host") × HasWord rows (codes "IMAGE") (string_bytes image)
    × HasWord rows (codes "JOURNAL") (string_bytes journal) × HasNumber rows (codes "turns") turns
    × HasNumber rows (codes "ticks") ticks × HasNumber rows (codes "bound") bound
    × HasNumberIfGiven rows (codes "tick-us") tick_us × HasNumberIfGiven rows (codes "int") interrupt
IsAsked name rows Stored = ⊥

-- what words ask for, of which the first is the program's name: they fit the form, and their parse enters a subcommand
abbrev pub AsksFor : List Text → Cmd → Type 0
AsksFor words Stored = length words ≤ 1
AsksFor words cmd =
    (1 < length words) × (fault_of fmp words ≡ [])
    × ((name : Text) × (rows : List Row) × (subcommand_of fmp words ≡ Some (name, rows)) × IsAsked name rows cmd)

-- there is a word for this argument
abbrev pub IsGiven : List Row → Text → Type 0
IsGiven rows id = IsSome (first_of id rows)

-- the word for this argument spells a number of this range
abbrev pub IsGivenNumber : (least most : ℕ) → List Row → Text → Type 0
IsGivenNumber least most rows id = IsSomeAnd (one_of id rows) (IsUnsignedIn least most)

-- a number from 1 to 2^48, or from 0 to 2^20
abbrev pub IsGivenBound : List Row → Text → Type 0
IsGivenBound = IsGivenNumber 1 281474976710656

abbrev pub IsGivenCount : List Row → Text → Type 0
IsGivenCount = IsGivenNumber 0 1048576

-- a word for this argument spells a number from 1 to this one, if there is such a word
abbrev pub IsNumberIfGiven : (most : ℕ) → List Row → Text → Type 0
IsNumberIfGiven most rows id = IfSome (one_of id rows) (IsUnsignedIn 1 most)

-- what the words that fit the form say to the subcommand that they enter
pub record HasWords (name : Text) (rows : List Row) : Type 0 where
  pub known : (name ≡ codes "check") ⊎ (name ≡ codes "build") ⊎ (name ≡ codes "sim") ⊎ (name ≡ codes "host")
  pub check : name ≡ codes "check" → IsGiven rows (codes "CFG") × IsGiven rows (codes "SRC")
  pub build : name ≡ codes "build"
      → IsGiven rows (codes "CFG") × IsGiven rows (codes "SRC") × IsGiven rows (codes "OUT")
  pub sim : name ≡ codes "sim"
      → IsGiven rows (codes "IMAGE") × IsGiven rows (codes "STEPS") × IsGivenBound rows (codes "bound")
  pub host : name ≡ codes "host"
      → IsGiven rows (codes "IMAGE") × IsGiven rows (codes "JOURNAL") × IsGivenCount rows (codes "turns")
      × IsGivenCount rows (codes "ticks") × IsGivenBound rows (codes "bound")
      × IsNumberIfGiven 1000000 rows (codes "tick-us") × IsNumberIfGiven 32 rows (codes "int")

-- why words are refused: out of memory, or a fault of their form
abbrev pub IsRefused : List Text → ErrorKind → Type 0
IsRefused words kind = (kind ≡ OutOfMemory) ⊎ IsAmong kind (fault_of fmp words)
