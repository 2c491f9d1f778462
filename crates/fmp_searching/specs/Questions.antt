-- The question of a command: of its words, its system, the code of its bodies and their text.
use Rattle.std.specs.Prelude.{ℤ, Option, Some, None, slice_get}
use Rattle.std.specs.Prelude.{ℕ, ◌≡◌, List, [], ◌∷◌, ◌++◌, length, map, Bool, true, false, ◌&&◌, ◌||◌, Result, Ok, Err}
use Rattle.std.specs.Prelude.{is_some, bytes_eq, nat_le, nat_lt}
use Rattle.std.specs.List.{filter_map, flat_map, list_all, list_any}
use Rattle.fmp_base.specs.declared.bodies.Fault.TheVariants.{Overflow, Division, Index}
use Rattle.fmp_base.specs.declared.systems.TaskConfig.{TaskConfig}
use Rattle.fmp_base.specs.Names.{name_text}
use Rattle.fmp_base.specs.Systems.{SystemTables}
use Rattle.fmp_instructions.specs.Instructions.{BodyTables}
use Rattle.fmp_question.specs.declared.question.Never.{Never}
use Rattle.fmp_question.specs.declared.question.Never.TheVariants as never
use Rattle.fmp_question.specs.declared.question.NeverAt.{NeverAt}
use Rattle.fmp_question.specs.declared.question.Question.{Question}
use Rattle.fmp_question.specs.declared.site.CallSite.{CallSite}
use Rattle.fmp_expect.specs.declared.expectation.Expected.{Expected}
use Rattle.fmp_expect.specs.declared.fault.ExpectFault.TheVariants as fault
use Rattle.fmp_expect.specs.declared.call_sentences.CallSentence.{CallSentence}
use Rattle.fmp_expect.specs.CallSentences.{call_sentences_of, other_sentences_of}
use Rattle.fmp_monitors.specs.declared.happening.ExpectedDeed.TheVariants as deed
use Rattle.fmp_monitors.specs.declared.happening.Happening.{Happening}
use Rattle.fmp_monitors.specs.declared.sentence.Sentence.{Sentence}
use Rattle.fmp_monitors.specs.declared.sentence.Sentence.TheVariants as sentence
use Rattle.fmp_schedules.specs.declared.limit.InterruptLimit.{InterruptLimit}
use Rattle.fmp_schedules.specs.declared.monitor.Monitor.{Monitor}
use Rattle.fmp_schedules.specs.Monitors.{at_open}
use Rattle.fmp_searching.specs.declared.asking.ExploreWords.{ExploreWords}
use Rattle.fmp_searching.specs.declared.asking.CommandMistake.{CommandMistake}
use Rattle.fmp_searching.specs.declared.asking.CommandMistake.TheVariants as mistake
use Rattle.fmp_searching.specs.declared.asking.ExploreChoices.{ExploreChoices}
use Rattle.fmp_searching.specs.declared.words.CodeAt.{CodeAt}
use Rattle.fmp_searching.specs.declared.words.Section.{Section}
use Rattle.fmp_searching.specs.Limits.{Words, are_counts, are_gaps, limits_in}
use Rattle.fmp_searching.specs.Limits.{monitors_of as monitors_of_limits}
use Rattle.fmp_frames.specs.CallPositions.{TextBody}
use Rattle.fmp_searching.specs.Sites.{calls_in}
use Rattle.fmp_searching.specs.Words.{never_at_named, never_named, section_named}

-- what words say must never happen anywhere
abbrev pub nevers_in : Words → List Never
nevers_in words = filter_map (λ word. never_named word.now) words

-- the codes that words say must never be answered to the calls of a line
abbrev pub codes_in : Words → List CodeAt
codes_in words = filter_map (λ word. never_at_named word.now) words

-- the codes of sentences about calls, the lines of these, and whose answers are meant
abbrev pub sentence_code : CallSentence → CodeAt
sentence_code s = record { code = s.code; line = s.at; by = s.by }

abbrev pub sentence_codes : List CallSentence → List CodeAt
sentence_codes sentences = map (λ s. sentence_code s) sentences

-- the codes that a text of sentences says must never be answered to the calls of a line
abbrev pub codes_of : (configured : SystemTables) → (text : List ℕ) → List CodeAt
codes_of configured text = sentence_codes (call_sentences_of configured text)

-- whether a word says what must never happen
abbrev pub is_never : List ℕ → Bool
is_never word = is_some (never_named word) || is_some (never_at_named word)

abbrev pub are_nevers : Words → Bool
are_nevers words = list_all (λ word. is_never word.now) words

-- the sections that words name
abbrev pub sections_in : Words → List Section
sections_in words = filter_map (λ word. section_named word.now) words

abbrev pub is_section : List ℕ → Bool
is_section word = is_some (section_named word)

-- whether each word names a section, and there are at most four
abbrev pub are_sections : Words → Bool
are_sections words = list_all (λ word. is_section word.now) words && nat_le (length words) 4

-- the words of a command, and what they say before its files are read: what must never happen, the sections and the
-- limits; or which words are mistaken
abbrev pub IsWanted : ExploreWords → Result ExploreChoices CommandMistake → Type 0
IsWanted a (Ok w) =
    (w.asked ≡ a) × (are_sections a.alone.now ≡ true) × (are_nevers a.nevers.now ≡ true)
    × (w.nevers.items ≡ nevers_in a.nevers.now) × (w.nevers_at.items ≡ codes_in a.nevers.now)
    × (w.sections.items ≡ sections_in a.alone.now)
    × ((are_counts a.counts.now ≡ true) × (are_gaps a.gaps.now ≡ true)
    × (w.limits.items ≡ limits_in a.counts.now a.gaps.now))
IsWanted a (Err mistake.Alone) = are_sections a.alone.now ≡ false
IsWanted a (Err mistake.Never) = (are_sections a.alone.now ≡ true) × (are_nevers a.nevers.now ≡ false)
IsWanted a (Err mistake.Count) =
    (are_sections a.alone.now ≡ true) × (are_nevers a.nevers.now ≡ true) × (are_counts a.counts.now ≡ false)
IsWanted a (Err mistake.Gap) =
    (are_sections a.alone.now ≡ true) × (are_nevers a.nevers.now ≡ true)
    × ((are_counts a.counts.now ≡ true) × (are_gaps a.gaps.now ≡ false))
IsWanted a (Err mistake.Rest) = ⊥
IsWanted a (Err mistake.Call) = ⊥
IsWanted a (Err (mistake.Sentence line flaw)) = ⊥
IsWanted a (Err mistake.SentenceCall) = ⊥
IsWanted a (Err mistake.End) = ⊥

-- a word is the name of a task
abbrev pub is_task : List TaskConfig → List ℕ → Bool
is_task tasks word = list_any (λ task. bytes_eq (name_text task.name) word) tasks

abbrev pub are_tasks : List TaskConfig → Words → Bool
are_tasks tasks words = list_all (λ word. is_task tasks word.now) words

-- a task of this name is among those that the words name
abbrev pub is_named : Words → TaskConfig → Bool
is_named words task = list_any (λ word. bytes_eq (name_text task.name) word.now) words

abbrev pub has_name : (name : List ℕ) → Option TaskConfig → Bool
has_name name None = false
has_name name (Some task) = bytes_eq (name_text task.name) name

-- a sentence says that a task of this name may rest
abbrev pub rests : List TaskConfig → (name : List ℕ) → Sentence → Bool
rests tasks name (sentence.Rests t) = has_name name (slice_get tasks t)
rests tasks name _ = false

abbrev pub is_resting : List TaskConfig → List Expected → TaskConfig → Bool
is_resting tasks expected task = list_any (λ x. rests tasks (name_text task.name) x.sentence) expected

-- for each task, whether the words name it, or a sentence says that it may rest
abbrev pub marks : (all tasks : List TaskConfig) → Words → List Expected → List Bool
marks all tasks words expected = map (λ task. is_named words task || is_resting all expected task) tasks

-- whether a call stands in the line of each code
abbrev pub are_called : List BodyTables → List TextBody → List CodeAt → Bool
are_called code bodies codes = list_all (λ c. nat_lt 0 (length (calls_in c.line code bodies))) codes

abbrev pub never_at : CodeAt → CallSite → NeverAt
never_at c site = record { code = c.code; site = site; by = c.by }

-- a code at each call of its line
unfoldable pub nevers_at_of : List BodyTables → List TextBody → CodeAt → List NeverAt
nevers_at_of code bodies c = map (λ s. never_at c s) (calls_in c.line code bodies)

-- each of these codes, at each call of its line
abbrev pub nevers_at_in : List BodyTables → List TextBody → List CodeAt → List NeverAt
nevers_at_in code bodies codes = flat_map (λ c. nevers_at_of code bodies c) codes

-- somebody puts a value
abbrev pub putting : ℤ → Happening
putting value = record { deed = deed.Put value; by = None }

abbrev pub monitor_of_section : Section → Monitor
monitor_of_section s = at_open (sentence.OneAtATime (putting s.enters) (putting s.leaves))

abbrev pub monitor_of : Expected → Monitor
monitor_of x = at_open x.sentence

-- the sentences of sections, and those of a text, and limits
abbrev pub monitors_of : List Section → List Expected → List InterruptLimit → List Monitor
monitors_of sections expected limits =
    (map (λ s. monitor_of_section s) sections ++ map (λ x. monitor_of x) expected) ++ monitors_of_limits limits

-- a sentence about the end of a run, of which a search knows nothing
abbrev pub is_end : Sentence → Bool
is_end (sentence.End word t) = true
is_end _ = false

abbrev pub has_end : List Expected → Bool
has_end expected = list_any (λ x. is_end x.sentence) expected

-- no body may stop with a fault
abbrev pub faults : List Never
faults = never.Fault Overflow ∷ never.Fault Division ∷ never.Fault Index ∷ []

-- the question of the words of a command, of these sentences, and of these codes at calls, on this system, whose bodies
-- have this code and stand so in their text
pub record IsQuestionWith (a : ExploreWords) (expected : List Expected) (codes : List CodeAt) (system : SystemTables)
    (code : List BodyTables) (bodies : List TextBody) (q : Question) : Type 0 where
  pub nevers : q.nevers.items ≡ faults ++ nevers_in a.nevers.now
  pub nevers_at : q.nevers_at.items ≡ nevers_at_in code bodies (codes_in a.nevers.now ++ codes)
  pub monitors :
      q.monitors.items ≡ monitors_of (sections_in a.alone.now) expected (limits_in a.counts.now a.gaps.now)
  pub rest : q.rest.items ≡ marks system.tasks system.tasks a.rest.now expected
  pub ticks : q.ticks ≡ a.ticks
  pub interrupts : q.interrupts ≡ a.interrupts
  pub queued : q.queued ≡ a.queued
  pub all : q.all ≡ a.all
  pub states : q.states ≡ a.states
  pub seconds : q.seconds ≡ a.seconds
  pub after : q.after.items ≡ []

-- the question of the words of a command and of the sentences of a text
pub record IsQuestionOf (a : ExploreWords) (text : List ℕ) (configured system : SystemTables) (code : List BodyTables)
    (bodies : List TextBody) (q : Question) : Type 0 where
  pub expected : List Expected
  pub says : other_sentences_of configured text ≡ Ok expected
  pub lasting : has_end expected ≡ false
  pub called : are_called code bodies (codes_of configured text) ≡ true
  pub asks : IsQuestionWith a expected (codes_of configured text) system code bodies q

-- the words of a command name tasks, and lines with calls
abbrev pub AreKnown : ExploreWords → SystemTables → List BodyTables → List TextBody → Type 0
AreKnown a system code bodies =
    (are_tasks system.tasks a.rest.now ≡ true) × (are_called code bodies (codes_in a.nevers.now) ≡ true)

abbrev pub EndIsAsked : (configured : SystemTables) → (text : List ℕ) → List Expected → Type 0
EndIsAsked configured text expected = (other_sentences_of configured text ≡ Ok expected) × (has_end expected ≡ true)

-- what the words of a command and a text of sentences ask, or what is mistaken: a word names no task, or a line without
-- a call; a line of the text is no sentence; a sentence is about the end of a run, or about the calls of a line without
-- any. The text is read for the system as its configuration describes it, in which bodies have names
abbrev pub IsAsked : ExploreWords → (text : List ℕ) → (configured system : SystemTables) → List BodyTables
    → List TextBody → Result Question CommandMistake → Type 0
IsAsked a text configured system code bodies (Ok q) =
    AreKnown a system code bodies × IsQuestionOf a text configured system code bodies q
IsAsked a text configured system code bodies (Err mistake.Rest) = are_tasks system.tasks a.rest.now ≡ false
IsAsked a text configured system code bodies (Err mistake.Call) =
    (are_tasks system.tasks a.rest.now ≡ true) × (are_called code bodies (codes_in a.nevers.now) ≡ false)
IsAsked a text configured system code bodies (Err (mistake.Sentence line flaw)) =
    AreKnown a system code bodies × (other_sentences_of configured text ≡ Err (fault.Line line flaw))
IsAsked a text configured system code bodies (Err mistake.End) =
    AreKnown a system code bodies × ((expected : List Expected) × EndIsAsked configured text expected)
IsAsked a text configured system code bodies (Err mistake.SentenceCall) =
    AreKnown a system code bodies × (are_called code bodies (codes_of configured text) ≡ false)
IsAsked a text configured system code bodies (Err mistake.Never) = ⊥
IsAsked a text configured system code bodies (Err mistake.Alone) = ⊥
IsAsked a text configured system code bodies (Err mistake.Count) = ⊥
IsAsked a text configured system code bodies (Err mistake.Gap) = ⊥
