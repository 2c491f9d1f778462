-- What is written of events is read as these events.
use Rattle.std.proofs.Common.{ℕ, ◌≡◌, ◌+◌, ◌<◌, ◌≤◌, List, [], ◌∷◌, Bool, true, false, cond, ◌&&◌, Ok, Err, length}
use Rattle.std.proofs.Common.{nat_eq, nat_le, decimal, refl, ap, ◌∙◌, arith}
use Rattle.std.proofs.lemmas.Bool.{le-leb}
use Rattle.std.proofs.lemmas.Bool.Decides.{nat_tests}
use Rattle.std.specs.Char.{is_ascii_digit}
use Rattle.std.specs.List.{AllByRecursion}
use Rattle.std.specs.Str.{all_ascii_digits}
use Rattle.fmp_base.specs.declared.events.Event.{Event}
use Rattle.fmp_base.specs.declared.events.Event.TheVariants as event
use Rattle.fmp_trace.specs.declared.faults.Flaw.TheVariants as flaw
use Rattle.fmp_trace.specs.declared.faults.StepsFault.TheVariants as fault
use Rattle.fmp_trace.specs.Steps.{lines_of, numeral_value, ranged_number, numbered_event, line_meaning, event_of_line}
use Rattle.fmp_trace.specs.Steps.{fault_at, in_front, events_of, event_text, steps_text}
use Rattle.fmp_trace.specs.StepsLaws.{IsStep, PrintedStepsReadBack}
use Rattle.fmp_trace.proofs.LinesOf.{IsLine, lines_of-ended}
use Rattle.fmp_trace.proofs.Numbers.{numeral_value-decimal, decimal_digits}

-- no digit is a line feed
digit_in_line : (d : ℕ) (rest : Bool) → (is_ascii_digit d && rest) ≡ true → (nat_eq d 10 ≡ false) × (rest ≡ true)
digit_in_line d rest h = (grind (arith, nat_tests), grind (arith, nat_tests))

digits_in_line : (ds : List ℕ) → all_ascii_digits ds ≡ true → IsLine ds
digits_in_line [] h = tt
digits_in_line (d ∷ ds) h =
    let p = digit_in_line d (all_ascii_digits ds) h in (p.0, digits_in_line ds p.1)

-- a number from 1 to most is in range
ranged_number-decimal : (most n : ℕ) → 1 ≤ n → n ≤ most → most < 256 → ranged_number most (numeral_value (decimal n))
    ≡ Ok n
ranged_number-decimal most n low high small =
    ap (ranged_number most) (numeral_value-decimal n low (omega arith))
    ∙ (ap (λ t. cond (t && nat_le n most) (Ok n) (Err flaw.Range)) (le-leb 1 n low)
    ∙ ap (λ t. cond t (Ok n) (Err flaw.Range)) (le-leb n most high))

line_meaning-event_text : (processors : ℕ) (e : Event) → processors < 256 → IsStep processors e
    → line_meaning processors (event_text e) ≡ Ok e
line_meaning-event_text processors (event.Run p) small h =
    ap (numbered_event (λ n. event.Run n)) (ranged_number-decimal processors p h.0 h.1 small)
line_meaning-event_text processors event.Tick small h = refl
line_meaning-event_text processors (event.Int i) small h =
    ap (numbered_event (λ n. event.Int n)) (ranged_number-decimal 32 i h.0 h.1 (omega arith))

-- an event is written on one line
pub event_in_line : (processors : ℕ) (e : Event) → processors < 256 → IsStep processors e → IsLine (event_text e)
event_in_line processors (event.Run p) small h =
    (refl, (refl, (refl, (refl, digits_in_line (decimal p) (decimal_digits p (omega (arith, h.1)))))))
event_in_line processors event.Tick small h = (refl, (refl, (refl, (refl, tt))))
event_in_line processors (event.Int i) small h =
    (refl, (refl, (refl, (refl, digits_in_line (decimal i) (decimal_digits i (omega (arith, h.1)))))))

pub event_of_line-event_text : (processors n : ℕ) (e : Event) → processors < 256 → IsStep processors e → n ≤ 1048576
    → event_of_line processors n (event_text e) ≡ Ok e
event_of_line-event_text processors n e small h few =
    ap (λ t. cond t (fault_at n (line_meaning processors (event_text e))) (Err (fault.TooMany n)))
    (le-leb n 1048576 few)
    ∙ ap (fault_at n) (line_meaning-event_text processors e small h)

events_of-steps_text : (processors n : ℕ) (es : List Event) → processors < 256 → AllByRecursion (IsStep processors) es
    → n + length es ≤ 1048577 → events_of processors n (lines_of (steps_text es)) ≡ Ok es
events_of-steps_text processors n [] small h few = refl
events_of-steps_text processors n (e ∷ es) small h few =
    ap (events_of processors n) (lines_of-ended (event_text e) (steps_text es) (event_in_line processors e small h.0))
    ∙ (ap (λ r. in_front r (events_of processors (n + 1) (lines_of (steps_text es))))
    (event_of_line-event_text processors n e small h.0 (omega arith))
    ∙ ap (in_front (Ok e)) (events_of-steps_text processors (n + 1) es small h.1 (omega arith)))

pub printed_steps_read_back : PrintedStepsReadBack
printed_steps_read_back processors events small h few = events_of-steps_text processors 1 events small h (omega arith)
