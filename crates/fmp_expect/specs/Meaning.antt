-- What expectations mean: where a run breaks one, and what must hold at its end.
use Rattle.std.specs.Prelude.{ℕ, List, [], ◌∷◌, Option, Some, None, Bool, true, false, not, ◌&&◌, filter, map, slice_get}
use Rattle.fmp_base.specs.declared.events.Line.{Line}
use Rattle.fmp_base.specs.declared.events.StateWord.{StateWord}
use Rattle.fmp_base.specs.declared.events.TaskState.{TaskState}
use Rattle.fmp_base.specs.States.{KernelState}
use Rattle.fmp_monitors.specs.declared.sentence.Sentence.{Sentence}
use Rattle.fmp_monitors.specs.declared.sentence.Sentence.TheVariants as sentence
use Rattle.fmp_monitors.specs.Happenings.{is_state}
use Rattle.fmp_monitors.specs.Meaning.{Seen, OfLine, OfState, breaks}
use Rattle.fmp_monitors.specs.Monitors.{is_empty_claim}
use Rattle.fmp_expect.specs.declared.checker.BrokenExpectation.{BrokenExpectation}
use Rattle.fmp_expect.specs.declared.expectation.Expected.{Expected}
use Rattle.fmp_expect.specs.Parts.{or_else}

-- what a run shows, with the number of its event
pub record Told : Type 0 where
  pub event : ℕ
  pub seen : Seen

-- the same without the numbers
abbrev pub seen_in : List Told → List Seen
seen_in told = map (λ t. t.seen) told

abbrev pub if_broken : Bool → ℕ → Option ℕ
if_broken true n = Some n
if_broken false n = None

-- the event of the first thing shown that breaks a sentence; the last comes first here
abbrev pub failure : Sentence → List Told → Option ℕ
failure e [] = None
failure e (t ∷ before) = or_else (failure e before) (if_broken (breaks e (seen_in before) t.seen) t.event)

abbrev pub has_state : StateWord → Option TaskState → Bool
has_state s None = false
has_state s (Some x) = is_state x.word s

-- the end of a run breaks a sentence, where the tasks are in these states
abbrev pub breaks_at_end : Sentence → List TaskState → Bool
breaks_at_end (sentence.End s t) states = not (has_state s (slice_get states t))
breaks_at_end _ states = false

-- the event in which a run breaks a sentence: of the first thing shown that does, or the last one, n, if its end does
abbrev pub outcome : Sentence → List Told → List TaskState → (n : ℕ) → Option ℕ
outcome e told states n = or_else (failure e told) (if_broken (breaks_at_end e states) n)

abbrev pub broken_at : Expected → Option ℕ → Option BrokenExpectation → Option BrokenExpectation
broken_at x None others = others
broken_at x (Some n) others = Some (record { line = x.line; event = n })

-- the first of these expectations that a run breaks, and the event in which it does; none if the run meets them all
abbrev pub first_broken : List Expected → List Told → List TaskState → (n : ℕ) → Option BrokenExpectation
first_broken [] told states n = None
first_broken (x ∷ xs) told states n =
    broken_at x (outcome x.sentence told states n) (first_broken xs told states n)

-- the lines of these expectations that say nothing of a run: what they speak of never comes
abbrev pub empty_lines : List Expected → List Told → List ℕ
empty_lines xs told = map (λ x. x.line) (filter (λ x. is_empty_claim x.sentence (seen_in told)) xs)

-- the lines of event n after others, the last line first
abbrev pub with_lines : ℕ → List Line → List Told → List Told
with_lines n [] told = told
with_lines n (l ∷ ls) told = with_lines n ls (record { event = n; seen = OfLine l } ∷ told)

-- the state after event n after others
abbrev pub with_state : ℕ → KernelState → List Told → List Told
with_state n s told = record { event = n; seen = OfState s } ∷ told
