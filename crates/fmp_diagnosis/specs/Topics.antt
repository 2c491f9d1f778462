-- The codes that the programs print, by their words.
use Rattle.std.specs.Prelude.{ℕ, ◌≡◌, List, Option, Some, None, Bool, false, ◌||◌, codes, decimal, find, map}
use Rattle.std.specs.Prelude.{unsigned_abs}
use Rattle.std.specs.Char.{to_ascii_lowercase, to_ascii_uppercase}
use Rattle.std.specs.Fmt.{signed_decimal}
use Rattle.std.specs.Str.{bytes_eq}
use Rattle.fmp_base.specs.declared.bodies.Fault.TheVariants as fault
use Rattle.fmp_base.specs.declared.codes.Er.{Er}
use Rattle.fmp_base.specs.Codes.{code_name, code_of}
use Rattle.fmp_base.specs.Texts.{fault_text}
use Rattle.fmp_diagnosis.specs.declared.topics.Topic.{Topic}
use Rattle.fmp_diagnosis.specs.declared.topics.Topic.TheVariants as topic
use Rattle.fmp_diagnosis.specs.declared.topics.TheConstants.{TOPICS}

-- a code as it is printed
abbrev pub topic_word : Topic → List ℕ
topic_word (topic.Reply code) = code_name code
topic_word topic.Overflow = fault_text fault.Overflow
topic_word topic.Division = fault_text fault.Division
topic_word topic.Index = fault_text fault.Index
topic_word topic.Syntax = codes "B1"
topic_word topic.TwiceNamed = codes "B2"
topic_word topic.UnknownName = codes "B3"
topic_word topic.Refused = codes "B4"
topic_word topic.Limit = codes "B5"
topic_word topic.StackTooSmall = codes "B6"
topic_word topic.WrongEntryKind = codes "B7"
topic_word topic.Shape = codes "B9"
topic_word topic.ImageShort = codes "L1"
topic_word topic.ImageMagic = codes "L2"
topic_word topic.ImageVersion = codes "L3"
topic_word topic.ImageTable = codes "L4"
topic_word topic.ImageCode = codes "L5"
topic_word topic.ImageTrailing = codes "L6"
topic_word topic.StepForm = codes "S1"
topic_word topic.StepRange = codes "S2"
topic_word topic.TooManySteps = codes "S3"
topic_word topic.HostWork = codes "H4"
topic_word topic.HostThread = codes "H5"
topic_word topic.RecordingForm = codes "R1"
topic_word topic.RecordingRange = codes "R2"
topic_word topic.RecordingTooLong = codes "R3"

-- the topic of a word: the first one that is printed so
unfoldable pub topic_named : List ℕ → Option Topic
topic_named word = find (λ t. bytes_eq (topic_word t) word) TOPICS

-- a word is the number of an error code, with its sign or without
abbrev pub is_number_of : Er → List ℕ → Bool
is_number_of code word =
    bytes_eq (signed_decimal (code_of code)) word || bytes_eq (decimal (unsigned_abs (code_of code))) word

abbrev pub is_numbered : Topic → List ℕ → Bool
is_numbered (topic.Reply code) word = is_number_of code word
is_numbered _ word = false

-- the one that was found, else another
abbrev pub or_else : Option Topic → Option Topic → Option Topic
or_else (Some t) other = Some t
or_else None other = other

-- the topic that a word asks for: by what is printed, in letters of either case, or by the number of an error code
unfoldable pub topic_asked : List ℕ → Option Topic
topic_asked word = or_else (topic_named (map to_ascii_uppercase word)) (find (λ t. is_numbered t word) TOPICS)

-- a topic is asked for by its word, in letters of either case
pub record IsFound (t : Topic) : Type 0 where
  pub named : topic_named (topic_word t) ≡ Some t
  pub asked : topic_asked (topic_word t) ≡ Some t
  pub lower : topic_asked (map to_ascii_lowercase (topic_word t)) ≡ Some t

-- and an error code by its number too, with its sign or without
pub record IsCounted (code : Er) : Type 0 where
  pub signed : topic_asked (signed_decimal (code_of code)) ≡ Some (topic.Reply code)
  pub unsigned : topic_asked (decimal (unsigned_abs (code_of code))) ≡ Some (topic.Reply code)

-- each topic is found by its word, and each error code by its number
abbrev pub EveryTopicIsFound : Type 0
EveryTopicIsFound = ((t : Topic) → IsFound t) × ((code : Er) → IsCounted code)
