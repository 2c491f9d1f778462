-- The finite monitors of sentences.
use Rattle.std.specs.Prelude.{ℕ, ◌+◌, ◌-◌, List, [], ◌∷◌, Option, Some, None, Bool, true, false, not, ◌&&◌, ◌||◌, nat_eq}
use Rattle.std.specs.Prelude.{if◌then◌else◌, is_some, option_map, unwrap_or}
use Rattle.fmp_base.specs.declared.events.Line.{Line}
use Rattle.fmp_base.specs.States.{KernelState}
use Rattle.fmp_monitors.specs.declared.sentence.Sentence.{Sentence}
use Rattle.fmp_monitors.specs.declared.sentence.Sentence.TheVariants as sentence
use Rattle.fmp_monitors.specs.declared.standing.Standing.{Standing}
use Rattle.fmp_monitors.specs.declared.standing.Standing.TheVariants as standing
use Rattle.fmp_monitors.specs.Conditions.{holds}
use Rattle.fmp_monitors.specs.Happenings.{answers, asks, entering, holder_on, is_met, is_tick, tells, tells_any}
use Rattle.fmp_monitors.specs.Meaning.{Seen, OfLine, OfState, by_line, has_come, holder, is_open}

abbrev pub held_if : Bool → Standing
held_if true = standing.Held
held_if false = standing.Open

abbrev pub is_held : Standing → Bool
is_held standing.Held = true
is_held _ = false

abbrev pub inside_of : Option ℕ → Standing
inside_of None = standing.Open
inside_of (Some t) = standing.Inside t

abbrev pub inside : Standing → Option ℕ
inside (standing.Inside t) = Some t
inside _ = None

-- how many ticks came since the first that asks and has no answer yet, if there is one
abbrev pub waited : (answers asks : Line → Bool) → List Seen → Option ℕ
waited answers asks [] = None
waited answers asks (x ∷ before) =
    if by_line answers x then None
    else if by_line asks x then Some (unwrap_or (waited answers asks before) 0)
    else if by_line is_tick x then option_map (λ m. m + 1) (waited answers asks before)
    else waited answers asks before

abbrev pub waiting_of : (ticks : ℕ) → Option ℕ → Standing
waiting_of n None = standing.Open
waiting_of n (Some m) = standing.Waiting (n - m)

-- what is kept of a sentence after this was seen
abbrev pub standing_of : Sentence → List Seen → Standing
standing_of (sentence.Before a b) seen = held_if (has_come (tells a) seen)
standing_of (sentence.NeverAfter h a b) seen = held_if (is_open (tells a) (tells_any b) seen)
standing_of (sentence.Within r n t) seen = waiting_of n (waited (answers r) (asks t) seen)
standing_of (sentence.OneAtATime a b) seen = inside_of (holder a b seen)
standing_of (sentence.Never h) seen = standing.Open
standing_of (sentence.Always c) seen = standing.Open
standing_of (sentence.Rests t) seen = standing.Open
standing_of (sentence.End s t) seen = standing.Open

abbrev pub asked : (ticks : ℕ) → Standing → Standing
asked ticks (standing.Waiting left) = standing.Waiting left
asked ticks _ = standing.Waiting ticks

abbrev pub ticked : Standing → Standing
ticked (standing.Waiting left) = standing.Waiting (left - 1)
ticked standing.Open = standing.Open
ticked standing.Held = standing.Held
ticked (standing.Inside t) = standing.Inside t

-- no tick may come any more
abbrev pub is_due : Standing → Bool
is_due (standing.Waiting left) = nat_eq left 0
is_due _ = false

-- after a line that is the response, the trigger, a tick, or none of these
abbrev pub next_wait : (answer ask tick : Bool) → (ticks : ℕ) → Standing → Standing
next_wait answer ask tick ticks m =
    if answer then standing.Open else if ask then asked ticks m else if tick then ticked m else m

-- what is kept after one more line
abbrev pub next_by_line : Sentence → Standing → Line → Standing
next_by_line (sentence.Before a b) m l = held_if (tells a l || is_held m)
next_by_line (sentence.NeverAfter h a b) m l = held_if (tells a l || (not (tells_any b l) && is_held m))
next_by_line (sentence.Within r n t) m l = next_wait (answers r l) (asks t l) (is_tick l) n m
next_by_line (sentence.OneAtATime a b) m l = inside_of (holder_on a b (inside m) l)
next_by_line (sentence.Never h) m l = standing.Open
next_by_line (sentence.Always c) m l = standing.Open
next_by_line (sentence.Rests t) m l = standing.Open
next_by_line (sentence.End s t) m l = standing.Open

-- a state changes nothing of it
abbrev pub next_standing : Sentence → Standing → Seen → Standing
next_standing e m (OfLine l) = next_by_line e m l
next_standing e m (OfState s) = m

-- a line breaks a sentence of which this is kept
abbrev pub breaks_by_line : Sentence → Standing → Line → Bool
breaks_by_line (sentence.Never h) m l = tells h l
breaks_by_line (sentence.Before a b) m l = tells b l && not (tells a l || is_held m)
breaks_by_line (sentence.NeverAfter h a b) m l = tells h l && is_held m
breaks_by_line (sentence.Within r n t) m l = is_tick l && is_due m
breaks_by_line (sentence.OneAtATime a b) m l = is_met a (inside m) l
breaks_by_line (sentence.Always c) m l = false
breaks_by_line (sentence.Rests t) m l = false
breaks_by_line (sentence.End s t) m l = false

abbrev pub breaks_in_state : Sentence → KernelState → Bool
breaks_in_state (sentence.Always c) s = not (holds c s)
breaks_in_state _ s = false

abbrev pub is_broken_by : Sentence → Standing → Seen → Bool
is_broken_by e m (OfLine l) = breaks_by_line e m l
is_broken_by e m (OfState s) = breaks_in_state e s

-- a sentence says something only where something comes
abbrev pub has_premise : Sentence → Bool
has_premise (sentence.Before a b) = true
has_premise (sentence.NeverAfter h a b) = true
has_premise (sentence.Within r n t) = true
has_premise (sentence.OneAtATime a b) = true
has_premise _ = false

-- by a line that comes
abbrev pub is_premise : Sentence → Line → Bool
is_premise (sentence.Before a b) l = tells b l
is_premise (sentence.NeverAfter h a b) l = tells a l
is_premise (sentence.Within r n t) l = asks t l
is_premise (sentence.OneAtATime a b) l = is_some (entering a l)
is_premise (sentence.Never h) l = false
is_premise (sentence.Always c) l = false
is_premise (sentence.Rests t) l = false
is_premise (sentence.End s t) l = false

-- a sentence says nothing of what was seen: what it speaks of never came
abbrev pub is_empty_claim : Sentence → List Seen → Bool
is_empty_claim e seen = has_premise e && not (has_come (is_premise e) seen)
