-- The parts of sentences: what the first words of a line say.
use Rattle.std.specs.Prelude.{ℕ, ◌-◌, List, [], ◌∷◌, length, Option, Some, None, Result, Ok, Err, Bool, true, false}
use Rattle.std.specs.Prelude.{if◌then◌else◌, codes, count_by, find, nat_eq, position, bytes_eq, option_map, slice_get}
use Rattle.std.specs.List.{list_any}
use Rattle.fmp_base.specs.declared.codes.Er.{Er}
use Rattle.fmp_base.specs.declared.events.StateWord.{StateWord}
use Rattle.fmp_base.specs.declared.systems.Entry.{Entry}
use Rattle.fmp_base.specs.declared.systems.Entry.TheVariants as entry
use Rattle.fmp_base.specs.declared.systems.InterruptConfig.{InterruptConfig}
use Rattle.fmp_base.specs.Codes.{code_name}
use Rattle.fmp_base.specs.Names.{name_text}
use Rattle.fmp_base.specs.Systems.{SystemTables}
use Rattle.fmp_base.specs.Texts.{fault_named, word_text}
use Rattle.fmp_monitors.specs.declared.happening.ExpectedActor.{ExpectedActor}
use Rattle.fmp_monitors.specs.declared.happening.ExpectedActor.TheVariants as actor
use Rattle.fmp_monitors.specs.declared.happening.ExpectedDeed.{ExpectedDeed}
use Rattle.fmp_monitors.specs.declared.happening.ExpectedDeed.TheVariants as deed
use Rattle.fmp_monitors.specs.declared.happening.Happening.{Happening}
use Rattle.fmp_monitors.specs.declared.sentence.Sentence.{Sentence}
use Rattle.fmp_expect.specs.declared.fault.Expects.{Expects}
use Rattle.fmp_expect.specs.declared.fault.Expects.TheVariants as expects
use Rattle.fmp_expect.specs.declared.fault.ExpectationFlaw.{ExpectationFlaw}
use Rattle.fmp_expect.specs.declared.named.TheConstants.{CODES, STATES}
use Rattle.fmp_expect.specs.Words.{before_comment, number_of, put_value, words_of}

-- what is read of the first words, and the words after them
pub record Read (A : Type 0) : Type 0 where
  pub value : A
  pub rest : List (List ℕ)

abbrev pub read : {A : Type 0} → A → List (List ℕ) → Result (Read A) ExpectationFlaw
read x ws = Ok (record { value = x; rest = ws })

-- what is read after something else, or the first flaw
abbrev pub and_then : {A B : Type 0} → Result A ExpectationFlaw → (A → Result B ExpectationFlaw)
    → Result B ExpectationFlaw
and_then (Ok x) f = f x
and_then (Err e) f = Err e

-- this is expected in place of the first of these words, or of the end of the line
abbrev pub flaw_at : Expects → List (List ℕ) → ExpectationFlaw
flaw_at e ws = record { expects = e; left = length ws }

-- the word of a line at which a flaw stands, if it is not at the end of the line
abbrev pub faulty_word : (line : List ℕ) → ExpectationFlaw → Option (List ℕ)
faulty_word line f =
    let ws = words_of (before_comment line) in slice_get ws (length ws - f.left)

-- a value that was found in the first of words, with those after it; or a flaw
abbrev pub found_or : {A : Type 0} → Expects → (words rest : List (List ℕ)) → Option A
    → Result (Read A) ExpectationFlaw
found_or e ws rest None = Err (flaw_at e ws)
found_or e ws rest (Some x) = read x rest

-- the words after the first, if the first is this word
abbrev pub after_word : Expects → List ℕ → List (List ℕ) → Result (List (List ℕ)) ExpectationFlaw
after_word e word [] = Err (flaw_at e [])
after_word e word (w ∷ ws) = if bytes_eq w word then Ok ws else Err (flaw_at e (w ∷ ws))

-- a sentence with no words after it
abbrev pub whole : Expects → Sentence → List (List ℕ) → Result Sentence ExpectationFlaw
whole e x [] = Ok x
whole e x (w ∷ ws) = Err (flaw_at e (w ∷ ws))

-- the one, or else the other
abbrev pub or_else : {A : Type 0} → Option A → Option A → Option A
or_else (Some x) other = Some x
or_else None other = other

abbrev pub code_named : List ℕ → Option Er
code_named w = find (λ c. bytes_eq (code_name c) w) CODES

abbrev pub state_named : List ℕ → Option StateWord
state_named w = find (λ s. bytes_eq (word_text s) w) STATES

-- the places of the task and of the cyclic handler of a name
abbrev pub task_named : SystemTables → List ℕ → Option ℕ
task_named sys w = position (λ t. bytes_eq (name_text t.name) w) sys.tasks

abbrev pub cyclic_named : SystemTables → List ℕ → Option ℕ
cyclic_named sys w = position (λ c. bytes_eq (name_text c.name) w) sys.cyclics

-- the deed that a word tells
abbrev pub deed_named : List ℕ → Option ExpectedDeed
deed_named w =
    or_else (option_map (λ c. deed.Answer c) (code_named w))
    (or_else (option_map (λ f. deed.Stop f) (fault_named w)) (option_map (λ v. deed.Put v) (put_value w)))

-- whether an entry is a name, and whether it is this one: a configuration names bodies, and an image numbers them
abbrev pub is_name : Entry → Bool
is_name (entry.Named name) = true
is_name (entry.Body k) = false

abbrev pub is_named : (name : List ℕ) → Entry → Bool
is_named w (entry.Named name) = bytes_eq (name_text name) w
is_named w (entry.Body k) = false

-- the number of the interrupt whose handler has the body of this name, if only one has it
abbrev pub number_of_handler : (name : List ℕ) → List InterruptConfig → Option ℕ
number_of_handler w is =
    if nat_eq (count_by (λ i. is_named w i.entry) is) 1
    then option_map (λ i. i.number) (find (λ i. is_named w i.entry) is) else None

-- the number of the interrupt whose handler is the only one with the body of this name: a cyclic handler is one too
abbrev pub only_handler : SystemTables → (name : List ℕ) → Option ℕ
only_handler sys w =
    if list_any (λ c. is_named w c.entry) sys.cyclics then None else number_of_handler w sys.interrupts

-- the task of a name, or else the cyclic handler, or else the interrupt whose handler alone has the body of the name
abbrev pub actor_named : SystemTables → List ℕ → Option ExpectedActor
actor_named sys w =
    or_else (option_map (λ t. actor.Task t) (task_named sys w))
    (or_else (option_map (λ c. actor.Cyclic c) (cyclic_named sys w))
    (option_map (λ n. actor.Interrupt (n - 1)) (only_handler sys w)))

-- the interrupt of a word: its number from 1 to 32, or the name of a body that only its handler has
abbrev pub interrupt_named : SystemTables → List ℕ → Option ℕ
interrupt_named sys w = or_else (number_of 1 32 w) (number_of_handler w sys.interrupts)

-- what may stand where an interrupt is told: by `named`, where bodies of handlers have names, by `numbered`, where they
-- have numbers alone, and by `absent`, where there is no handler
abbrev pub expected_by : List InterruptConfig → (named numbered absent : Expects) → Expects
expected_by [] named numbered absent = absent
expected_by (i ∷ is) named numbered absent = if list_any (λ i. is_name i.entry) (i ∷ is) then named else numbered

-- what may stand after `int`
abbrev pub interrupt_expected : SystemTables → Expects
interrupt_expected sys =
    expected_by sys.interrupts expects.InterruptOrHandler expects.InterruptOfImage expects.Interrupt

-- what may stand where an actor is told
abbrev pub actor_expected : SystemTables → Expects
actor_expected sys = expected_by sys.interrupts expects.ActorOrHandler expects.ActorOfImage expects.Actor

abbrev pub deed_of : List (List ℕ) → Result (Read ExpectedDeed) ExpectationFlaw
deed_of [] = Err (flaw_at expects.Deed [])
deed_of (w ∷ ws) = found_or expects.Deed (w ∷ ws) ws (deed_named w)

abbrev pub actor_of : SystemTables → List (List ℕ) → Result (Read ExpectedActor) ExpectationFlaw
actor_of sys [] = Err (flaw_at (actor_expected sys) [])
actor_of sys (w ∷ ws) = found_or (actor_expected sys) (w ∷ ws) ws (actor_named sys w)

abbrev pub task_of : SystemTables → List (List ℕ) → Result (Read ℕ) ExpectationFlaw
task_of sys [] = Err (flaw_at expects.Task [])
task_of sys (w ∷ ws) = found_or expects.Task (w ∷ ws) ws (task_named sys w)

abbrev pub interrupt_number : SystemTables → List (List ℕ) → Result (Read ℕ) ExpectationFlaw
interrupt_number sys [] = Err (flaw_at (interrupt_expected sys) [])
interrupt_number sys (w ∷ ws) = found_or (interrupt_expected sys) (w ∷ ws) ws (interrupt_named sys w)

abbrev pub state_of : List (List ℕ) → Result (Read StateWord) ExpectationFlaw
state_of [] = Err (flaw_at expects.State [])
state_of (w ∷ ws) = found_or expects.State (w ∷ ws) ws (state_named w)

abbrev pub number_in : Expects → (low high : ℕ) → List (List ℕ) → Result (Read ℕ) ExpectationFlaw
number_in e low high [] = Err (flaw_at e [])
number_in e low high (w ∷ ws) = found_or e (w ∷ ws) ws (number_of low high w)

abbrev pub somebody : Read ExpectedActor → Result (Read (Option ExpectedActor)) ExpectationFlaw
somebody r = read (Some r.value) r.rest

-- whose deed it is: `by` and an actor, or nothing
abbrev pub by_of : SystemTables → List (List ℕ) → Result (Read (Option ExpectedActor)) ExpectationFlaw
by_of sys [] = read None []
by_of sys (w ∷ ws) = if bytes_eq w (codes "by") then and_then (actor_of sys ws) somebody else read None (w ∷ ws)

-- a deed, and whose it is
abbrev pub happening_of : SystemTables → List (List ℕ) → Result (Read Happening) ExpectationFlaw
happening_of sys ws =
    and_then (deed_of ws) (λ d. and_then (by_of sys d.rest) (λ a. read (record { deed = d.value; by = a.value })
    a.rest))

-- whether the first of these words is this one
abbrev pub begins : List ℕ → List (List ℕ) → Bool
begins word [] = false
begins word (w ∷ ws) = bytes_eq w word

abbrev pub after_first : List (List ℕ) → List (List ℕ)
after_first [] = []
after_first (w ∷ ws) = ws

abbrev pub is_found : {A : Type 0} → Option A → Bool
is_found None = false
is_found (Some x) = true

-- whether the first of these words is a deed, and whether it is an actor
abbrev pub begins_deed : List (List ℕ) → Bool
begins_deed [] = false
begins_deed (w ∷ ws) = is_found (deed_named w)

abbrev pub begins_actor : SystemTables → List (List ℕ) → Bool
begins_actor sys [] = false
begins_actor sys (w ∷ ws) = is_found (actor_named sys w)
