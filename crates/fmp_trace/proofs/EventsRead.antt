-- Events that are read one after the other.
use Rattle.std.proofs.Common.{ℕ, ◌+◌, ◌≡◌, ◌∙◌, List, [], ◌∷◌, ◌++◌, Bool, true, false, Result, Ok, Err, cond, nat_le}
use Rattle.std.proofs.Common.{refl, ap, append_assoc, arith, sym}
use Rattle.std.proofs.lemmas.Bool.Decides.{nat_tests}
use Rattle.fmp_base.specs.declared.events.Event.{Event}
use Rattle.fmp_trace.specs.declared.faults.Flaw.{Flaw}
use Rattle.fmp_trace.specs.declared.faults.Flaw.TheVariants as flaw
use Rattle.fmp_trace.specs.declared.faults.StepsFault.{StepsFault}
use Rattle.fmp_trace.specs.declared.faults.StepsFault.TheVariants as fault
use Rattle.fmp_trace.specs.Steps.{event_of_line, events_of, fault_at, in_front, line_meaning, lines_of, read_events}
use Rattle.fmp_trace.specs.Steps.{steps_of}

-- events behind others, or the fault
abbrev pub behind_all : List Event → Result (List Event) StepsFault → Result (List Event) StepsFault
behind_all es (Ok fs) = Ok (es ++ fs)
behind_all es (Err f) = Err f

-- one more event goes to the end of those in front
pub one_more : (es : List Event) (e : Event) (r : Result (List Event) StepsFault) → behind_all es (in_front (Ok e) r)
    ≡ behind_all (es ++ e ∷ []) r
one_more es e (Ok fs) = ap (λ xs. Ok xs) (sym (append_assoc es (e ∷ []) fs))
one_more es e (Err f) = refl

-- a line that means an event means it under each number
event_at : (n k : ℕ) (m : Result Event Flaw) (e : Event) → fault_at n m ≡ Ok e → fault_at k m ≡ Ok e
event_at n k (Ok x) e h = h
event_at n k (Err flaw.Form) e h = cc
event_at n k (Err flaw.Range) e h = cc

earlier_by : (t : Bool) (p n : ℕ) (line : List ℕ) (e : Event) → nat_le (n + 1) 1048576 ≡ t
    → cond t (fault_at (n + 1) (line_meaning p line)) (Err (fault.TooMany (n + 1))) ≡ Ok e → event_of_line p n line
    ≡ Ok e
earlier_by true p n line e is h =
    let here : nat_le n 1048576 ≡ true = grind (arith, nat_tests) in
    ap (λ t. cond t (fault_at n (line_meaning p line)) (Err (fault.TooMany n))) here
    ∙ event_at (n + 1) n (line_meaning p line) e h
earlier_by false p n line e is h = cc

-- both an event and those behind it are there under earlier numbers
front_earlier : (a b : Result Event StepsFault) (r q : Result (List Event) StepsFault) (es : List Event)
    → ((e : Event) → a ≡ Ok e → b ≡ Ok e) → ((fs : List Event) → r ≡ Ok fs → q ≡ Ok fs) → in_front a r ≡ Ok es
    → in_front b q ≡ Ok es
front_earlier (Err f) b r q es one more h = cc
front_earlier (Ok e) b (Err f) q es one more h = cc
front_earlier (Ok e) b (Ok fs) q es one more h = (λ i. in_front (one e refl i) (more fs refl i)) ∙ h

-- lines without a fault are without one under earlier numbers too
pub events_earlier : (p n : ℕ) (lines : List (List ℕ)) (es : List Event) → events_of p (n + 1) lines ≡ Ok es
    → events_of p n lines ≡ Ok es
events_earlier p n [] es h = h
events_earlier p n (line ∷ lines) es h =
    front_earlier (event_of_line p (n + 1) line) (event_of_line p n line) (events_of p (n + 1 + 1) lines)
    (events_of p (n + 1) lines) es
    (λ e. earlier_by (nat_le (n + 1) 1048576) p n line e refl) (events_earlier p (n + 1) lines) h

-- Where a text has no fault and its first line is an event, what is left has no fault, and its events follow that
-- event.
record Taken (p : ℕ) (text rest : List ℕ) (e : Event) : Type 0 where
  left : steps_of p rest ≡ Ok (read_events (steps_of p rest))
  first : read_events (steps_of p text) ≡ e ∷ read_events (steps_of p rest)

taken_by : (p : ℕ) (text rest : List ℕ) (e : Event) (r : Result (List Event) StepsFault)
    → events_of p 2 (lines_of rest) ≡ r
    → steps_of p text ≡ in_front (Ok e) r → steps_of p text ≡ Ok (read_events (steps_of p text)) → Taken p text rest e
taken_by p text rest e (Err f) is h whole = absurd (cc)
taken_by p text rest e (Ok fs) is h whole =
    let left : steps_of p rest ≡ Ok fs = events_earlier p 1 (lines_of rest) fs is in
    record {
      left = left ∙ ap (λ r. Ok (read_events r)) (sym left);
      first = ap read_events h ∙ ap (λ r. e ∷ read_events r) (sym left);
    }

taken : (p : ℕ) (text rest : List ℕ) (e : Event) → steps_of p text ≡ in_front (Ok e) (events_of p 2 (lines_of rest))
    → steps_of p text ≡ Ok (read_events (steps_of p text)) → Taken p text rest e
taken p text rest e h whole = taken_by p text rest e (events_of p 2 (lines_of rest)) refl h whole

pub left_whole : (p : ℕ) (text rest : List ℕ) (e : Event) → steps_of p text
    ≡ in_front (Ok e) (events_of p 2 (lines_of rest))
    → steps_of p text ≡ Ok (read_events (steps_of p text)) → steps_of p rest ≡ Ok (read_events (steps_of p rest))
left_whole p text rest e h whole = (taken p text rest e h whole).left

pub first_and_left : (p : ℕ) (text rest : List ℕ) (e : Event) → steps_of p text
    ≡ in_front (Ok e) (events_of p 2 (lines_of rest))
    → steps_of p text ≡ Ok (read_events (steps_of p text)) → read_events (steps_of p text) ≡ e
    ∷ read_events (steps_of p rest)
first_and_left p text rest e h whole = (taken p text rest e h whole).first
