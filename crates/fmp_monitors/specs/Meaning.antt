-- What sentences mean, by what a run has shown so far.
use Rattle.std.specs.Prelude.{ℕ, ◌-◌, List, [], ◌∷◌, Option, None, Bool, true, false, not, ◌&&◌, ◌||◌, if◌then◌else◌}
use Rattle.std.specs.Prelude.{nat_eq}
use Rattle.fmp_base.specs.declared.events.Line.{Line}
use Rattle.fmp_base.specs.States.{KernelState}
use Rattle.fmp_monitors.specs.declared.happening.Happening.{Happening}
use Rattle.fmp_monitors.specs.declared.sentence.Sentence.{Sentence}
use Rattle.fmp_monitors.specs.declared.sentence.Sentence.TheVariants as sentence
use Rattle.fmp_monitors.specs.Conditions.{holds}
use Rattle.fmp_monitors.specs.Happenings.{answers, asks, holder_on, is_met, is_tick, tells, tells_any}

-- what a run shows: its lines, and the state after setup and after each event that is done
pub data Seen : Type 0 where
  OfLine : (l : Line) → Seen
  OfState : (s : KernelState) → Seen

-- In a list of what was seen the last comes first.

abbrev pub by_line : (Line → Bool) → Seen → Bool
by_line is (OfLine l) = is l
by_line is (OfState s) = false

-- one of these lines is such a one
abbrev pub has_come : (Line → Bool) → List Seen → Bool
has_come is [] = false
has_come is (x ∷ before) = by_line is x || has_come is before

-- an opening came, and no closing since; a line that is both opens
abbrev pub is_open : (opens closes : Line → Bool) → List Seen → Bool
is_open opens closes [] = false
is_open opens closes (x ∷ before) = by_line opens x || (not (by_line closes x) && is_open opens closes before)

abbrev pub is_zero : ℕ → Bool
is_zero n = nat_eq n 0

-- what asks came n or more ticks ago, and no answer since; a line that is both answers
abbrev pub is_owed : (answers asks : Line → Bool) → (n : ℕ) → List Seen → Bool
is_owed answers asks n [] = false
is_owed answers asks n (x ∷ before) =
    if by_line answers x then false
    else if by_line asks x then is_zero n || is_owed answers asks n before
    else if by_line is_tick x then is_owed answers asks (n - 1) before
    else is_owed answers asks n before

-- the task that entered last, if it has not left since
abbrev pub holder : (enters leaves : Happening) → List Seen → Option ℕ
holder enters leaves [] = None
holder enters leaves (OfLine l ∷ before) = holder_on enters leaves (holder enters leaves before) l
holder enters leaves (OfState s ∷ before) = holder enters leaves before

abbrev pub is_state_without : (KernelState → Bool) → Seen → Bool
is_state_without is (OfLine l) = false
is_state_without is (OfState s) = not (is s)

-- what is seen breaks a sentence, where this was seen before it
abbrev pub breaks : Sentence → (before : List Seen) → Seen → Bool
breaks (sentence.Never h) before x = by_line (tells h) x
breaks (sentence.Before a b) before x = by_line (tells b) x && not (by_line (tells a) x || has_come (tells a) before)
breaks (sentence.NeverAfter h a b) before x = by_line (tells h) x && is_open (tells a) (tells_any b) before
breaks (sentence.Within r n t) before x = by_line is_tick x && is_owed (answers r) (asks t) n before
breaks (sentence.OneAtATime a b) before x = by_line (is_met a (holder a b before)) x
breaks (sentence.Always c) before x = is_state_without (holds c) x
breaks (sentence.Rests t) before x = false
breaks (sentence.End s t) before x = false
