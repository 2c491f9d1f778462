-- The commands of a session, one a line.
use Rattle.std.specs.Prelude.{ℕ, ◌+◌, List, [], ◌∷◌, Option, Some, None, Result, Ok, Err, ◌&&◌, if◌then◌else◌, nat_eq}
use Rattle.std.specs.Prelude.{nat_le, min, codes, bytes_eq, position, take, drop, slice_get}
use Rattle.std.specs.Option.{option_and_then, option_map, option_or}
use Rattle.fmp_base.specs.declared.events.Event.{Event}
use Rattle.fmp_base.specs.declared.events.Event.TheVariants as event
use Rattle.fmp_base.specs.Names.{name_text}
use Rattle.fmp_trace.specs.declared.faults.StepsFault.{StepsFault}
use Rattle.fmp_trace.specs.Steps.{behind, numeral_value, steps_of}
use Rattle.fmp_session.specs.declared.command.Command.{Command}
use Rattle.fmp_session.specs.declared.command.Command.TheVariants as command
use Rattle.fmp_session.specs.declared.command.LineMistake.{LineMistake}
use Rattle.fmp_session.specs.declared.command.LineMistake.TheVariants as mistake
use Rattle.fmp_session.specs.declared.interrupts.NamedInterrupt.{NamedInterrupt}

-- the event, if there is one and no other
abbrev pub only : Result (List Event) StepsFault → Option Event
only (Ok (e ∷ [])) = Some e
only (Ok []) = None
only (Ok (e ∷ f ∷ es)) = None
only (Err f) = None

-- the event of a line of a steps text
abbrev pub event_of : (processors : ℕ) → List ℕ → Option Event
event_of processors line = only (steps_of processors line)

-- the position of the first blank
abbrev pub blank_of : List ℕ → Option ℕ
blank_of line = position (λ b. nat_eq b 32) line

abbrev pub word_before : Option ℕ → List ℕ → List ℕ
word_before None line = line
word_before (Some k) line = take k line

-- what stands before the first blank of a text
abbrev pub word_of : List ℕ → List ℕ
word_of line = word_before (blank_of line) line

abbrev pub rest_after : Option ℕ → List ℕ → Option (List ℕ)
rest_after None line = None
rest_after (Some k) line = Some (drop (k + 1) line)

-- what stands after the first blank of a text, if there is one
abbrev pub rest_of : List ℕ → Option (List ℕ)
rest_of line = rest_after (blank_of line) line

abbrev pub or_nothing : Option (List ℕ) → List ℕ
or_nothing None = []
or_nothing (Some text) = text

-- what stands after the first blank of a line, or nothing
abbrev pub argument_of : List ℕ → List ℕ
argument_of line = or_nothing (rest_of line)

-- a number, or 2^20 + 1 for a greater one
abbrev pub capped : Option ℕ → Option ℕ
capped None = None
capped (Some n) = Some (min n 1048577)

abbrev pub counted : Option ℕ → Option ℕ
counted None = None
counted (Some n) = if nat_le 1 n && nat_le n 1048576 then Some n else None

-- the number from 1 to 2^20 that a text spells
abbrev pub count_of : List ℕ → Option ℕ
count_of text = counted (numeral_value text)

abbrev pub at_most : (most : ℕ) → Option ℕ → Option ℕ
at_most most None = None
at_most most (Some n) = if nat_le n most then Some n else None

-- the number from 1 to most that a text spells
abbrev pub number_of : (most : ℕ) → List ℕ → Option ℕ
number_of most text = at_most most (count_of text)

-- the place of the first interrupt whose handler has the body of this name
abbrev pub place_of : (name : List ℕ) → List NamedInterrupt → Option ℕ
place_of name is = position (λ i. bytes_eq (name_text i.body) name) is

abbrev pub unless : {A B : Type 0} → Option A → Option B → Option B
unless (Some other) x = None
unless None x = x

abbrev pub only_at : (name : List ℕ) → List NamedInterrupt → Option ℕ → Option ℕ
only_at name is None = None
only_at name is (Some k) = unless (place_of name (drop (k + 1) is)) (option_map (λ i. i.number) (slice_get is k))

-- the number of the only interrupt whose handler has the body of this name
abbrev pub number_named : (name : List ℕ) → List NamedInterrupt → Option ℕ
number_named name is = only_at name is (place_of name is)

-- the interrupt of a word: its number from 1 to 32, or the name of a body that only its handler has
abbrev pub interrupt_of : List NamedInterrupt → (word : List ℕ) → Option ℕ
interrupt_of is word = option_or (number_of 32 word) (number_named word is)

-- how many, by what stands after a word: one, or the number that it spells
abbrev pub count_after : Option (List ℕ) → Option ℕ
count_after None = Some 1
count_after (Some text) = count_of text

-- how often, by what stands after an event: once, or K times where it is `xK`
abbrev pub times_after : Option (List ℕ) → Option ℕ
times_after None = Some 1
times_after (Some text) = option_and_then count_of (behind (codes "x") text)

-- `back` with how many
abbrev pub back_by : Option ℕ → Result Command LineMistake
back_by None = Err mistake.Count
back_by (Some n) = Ok (command.Back n)

-- `tick` with how many
abbrev pub tick_by : Option ℕ → Result Command LineMistake
tick_by None = Err mistake.Count
tick_by (Some n) = Ok (command.Take event.Tick n)

-- an event, and how often it is taken
abbrev pub taken : Event → Option ℕ → Result Command LineMistake
taken e None = Err mistake.Times
taken e (Some n) = Ok (command.Take e n)

abbrev pub run_by : Option ℕ → Option ℕ → Result Command LineMistake
run_by None times = Err mistake.Processor
run_by (Some p) times = taken (event.Run p) times

-- `run` with what stands after it: a processor, and how often it runs
abbrev pub run_of : (processors : ℕ) → (text : List ℕ) → Result Command LineMistake
run_of processors text = run_by (number_of processors (word_of text)) (times_after (rest_of text))

abbrev pub int_by : Option ℕ → Option ℕ → Result Command LineMistake
int_by None times = Err mistake.Interrupt
int_by (Some i) times = taken (event.Int i) times

-- `int` with what stands after it: an interrupt, and how often it is raised
abbrev pub int_of : List NamedInterrupt → (text : List ℕ) → Result Command LineMistake
int_of is text = int_by (interrupt_of is (word_of text)) (times_after (rest_of text))

-- a command of one word, with what stands after it
abbrev pub alone : Command → Option (List ℕ) → Result Command LineMistake
alone c None = Ok c
alone c (Some rest) = Err mistake.Alone

-- a command with the name of a file, which is not empty
abbrev pub named : Command → (argument : List ℕ) → Result Command LineMistake
named c [] = Err mistake.Name
named c (b ∷ bs) = Ok c

-- `until` with a deed
abbrev pub until_of : (argument : List ℕ) → Result Command LineMistake
until_of [] = Err mistake.Deed
until_of (b ∷ bs) = Ok command.Until

-- `state` alone, or with the name of a task or an object
abbrev pub state_of : Option (List ℕ) → Result Command LineMistake
state_of None = Ok command.State
state_of (Some name) = Ok command.StateOf

-- the command by a first word and by what stands after it, where the line is no event of a steps text
abbrev pub by_word : (processors : ℕ) → List NamedInterrupt → (word : List ℕ) → (rest : Option (List ℕ))
    → Result Command LineMistake
by_word processors is word rest =
    if bytes_eq word [] then alone command.Skip rest
    else if bytes_eq word (codes "run") then run_of processors (or_nothing rest)
    else if bytes_eq word (codes "tick") then tick_by (count_after rest)
    else if bytes_eq word (codes "int") then int_of is (or_nothing rest)
    else if bytes_eq word (codes "back") then back_by (count_after rest)
    else if bytes_eq word (codes "why") then alone command.Why rest
    else if bytes_eq word (codes "state") then state_of rest
    else if bytes_eq word (codes "load") then named command.Load (or_nothing rest)
    else if bytes_eq word (codes "save") then named command.Save (or_nothing rest)
    else if bytes_eq word (codes "until") then until_of (or_nothing rest)
    else if bytes_eq word (codes "help") then alone command.Help rest
    else if bytes_eq word (codes "quit") then alone command.Quit rest
    else if bytes_eq word (codes "exit") then alone command.Quit rest
    else Err mistake.Unknown

abbrev pub once_or : Option Event → Result Command LineMistake → Result Command LineMistake
once_or (Some e) other = Ok (command.Take e 1)
once_or None other = other

-- the command of a line
abbrev pub command_of : (processors : ℕ) → List NamedInterrupt → List ℕ → Result Command LineMistake
command_of processors is line =
    once_or (event_of processors line) (by_word processors is (word_of line) (rest_of line))
