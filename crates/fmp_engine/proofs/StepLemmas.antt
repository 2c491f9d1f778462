-- A steps text has at most 2^20 events.
use Rattle.std.proofs.Common.{◌≡◌, refl, ℕ, ◌+◌, ◌≤◌, List, [], ◌∷◌, Ok, Err, Result, length, arith, Bool, true, false}
use Rattle.std.proofs.Common.{nat_le, ap}
use Rattle.std.specs.Prelude.{if◌then◌else◌}
use Rattle.std.proofs.lemmas.Bool.Decides.{nat_tests}
use Rattle.fmp_base.specs.declared.events.Event.{Event}
use Rattle.fmp_trace.specs.declared.faults.StepsFault.{StepsFault}
use Rattle.fmp_trace.specs.declared.faults.StepsFault.TheVariants as fault
use Rattle.fmp_trace.specs.Steps.{in_front, fault_at, line_meaning, events_of, lines_of, steps_of}

-- how many events there are, 0 at a fault
abbrev count_of : Result (List Event) StepsFault → ℕ
count_of (Ok es) = length es
count_of (Err f) = 0

at_most : (n : ℕ) → nat_le n 1048576 ≡ true → n ≤ 1048576
at_most n h = grind (arith, nat_tests)

count_of-in_front : (r : Result Event StepsFault) (rest : Result (List Event) StepsFault) (n : ℕ)
    → n ≤ 1048577 → count_of rest + (n + 1) ≤ 1048577 → count_of (in_front r rest) + n ≤ 1048577
count_of-in_front (Err f) rest n h k = omega (arith, h)
count_of-in_front (Ok e) (Err f) n h k = omega (arith, h)
count_of-in_front (Ok e) (Ok es) n h k = omega (arith, k)

by_test : (b : Bool) (x : Result Event StepsFault) (f : StepsFault) (rest : Result (List Event) StepsFault) (n : ℕ)
    → nat_le n 1048576 ≡ b → n ≤ 1048577 → (n ≤ 1048576 → count_of rest + (n + 1) ≤ 1048577)
    → count_of (in_front (if b then x else Err f) rest) + n ≤ 1048577
by_test true x f rest n e h k = count_of-in_front x rest n h (k (at_most n e))
by_test false x f rest n e h k = omega (arith, h)

count_of-events_of : (processors n : ℕ) (lines : List (List ℕ)) → n ≤ 1048577
    → count_of (events_of processors n lines) + n ≤ 1048577
count_of-events_of processors n [] h = omega (arith, h)
count_of-events_of processors n (line ∷ lines) h =
    by_test (nat_le n 1048576) (fault_at n (line_meaning processors line)) (fault.TooMany n)
    (events_of processors (n + 1) lines) n refl h
    (λ le. count_of-events_of processors (n + 1) lines (omega (arith, le)))

pub few_events : (processors : ℕ) (text : List ℕ) (es : List Event) → steps_of processors text ≡ Ok es
    → length es ≤ 1048576
few_events processors text es e =
    let all : count_of (events_of processors 1 (lines_of text)) + 1 ≤ 1048577 =
    count_of-events_of processors 1 (lines_of text) (omega arith) in
    let same : count_of (events_of processors 1 (lines_of text)) ≡ length es = ap count_of e in
    omega (arith, all, same)
