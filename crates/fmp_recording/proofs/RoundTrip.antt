-- What is written of a run is read as this run.
use Rattle.std.proofs.Common.{ℕ, zero, suc, ℤ, pos, negsuc, ◌≡◌, ◌+◌, ◌-◌, ◌<◌, ◌≤◌, ◌^◌, List, [], ◌∷◌, ◌++◌, Bool}
use Rattle.std.proofs.Common.{true, false, cond, ◌&&◌, not, Option, Some, None, Result, Ok, Err, length, nat_eq, nat_le}
use Rattle.std.proofs.Common.{nat_lt, codes, decimal, drop, get_or, append_assoc, length-append, refl, ap, sym, ◌∙◌}
use Rattle.std.proofs.Common.{arith}
use Rattle.std.proofs.Math.Seq.{take-append_seam, drop-append_seam, drop-append-add, get_or-append_seam}
use Rattle.std.proofs.lemmas.Bool.{le-leb, lt-ltb}
use Rattle.std.proofs.lemmas.Bool.Decides.{nat_tests}
use Rattle.std.proofs.lemmas.Fmt.{decimal_digit}
use Rattle.std.specs.Char.{is_ascii_digit}
use Rattle.std.specs.Fmt.{signed_decimal}
use Rattle.std.specs.List.{AllByRecursion, position_or_len, prefix_len}
use Rattle.std.specs.Str.{all_ascii_digits}
use Rattle.fmp_base.specs.declared.bodies.Fault.TheVariants as fault
use Rattle.fmp_base.specs.declared.calls.Call.{Call}
use Rattle.fmp_base.specs.Services.{arguments_of, service_name, service_of}
use Rattle.fmp_outside.specs.declared.given.Act.{Act}
use Rattle.fmp_outside.specs.declared.given.Act.TheVariants as act
use Rattle.fmp_outside.specs.declared.given.Given.{Given}
use Rattle.fmp_outside.specs.declared.given.Given.TheVariants as given
use Rattle.fmp_recording.specs.declared.faults.RecordingFlaw.{RecordingFlaw}
use Rattle.fmp_recording.specs.declared.faults.RecordingFlaw.TheVariants as flaw
use Rattle.fmp_recording.specs.declared.faults.RecordingFault.{RecordingFault}
use Rattle.fmp_recording.specs.declared.faults.RecordingFault.TheVariants as recording_fault
use Rattle.fmp_recording.specs.declared.recorded.RecordedLine.{RecordedLine}
use Rattle.fmp_recording.specs.declared.recorded.RecordedLine.TheVariants as recorded
use Rattle.fmp_recording.specs.Recordings.{Cut, act_by, act_in, act_text, all_came, arguments_in, arguments_text}
use Rattle.fmp_recording.specs.Recordings.{call_in, call_with, came, came_by, came_lines, cut, cut_at, after_blank}
use Rattle.fmp_recording.specs.Recordings.{fault_at, given_act, given_by, given_in, given_int, given_text, in_front}
use Rattle.fmp_recording.specs.Recordings.{in_front_of, is_restart, line_meaning, line_time, line_times, number_of}
use Rattle.fmp_recording.specs.Recordings.{number_up_to, positive, negative, recorded_at, recorded_from, recorded_in}
use Rattle.fmp_recording.specs.Recordings.{recorded_lines_text, recorded_of, recorded_text, recording_of}
use Rattle.fmp_recording.specs.Recordings.{recording_text, restart_text, said_before, signed_number, some_time}
use Rattle.fmp_recording.specs.Recordings.{time_after, time_number, time_or_none, time_position, time_text, timed_text}
use Rattle.fmp_recording.specs.Recordings.{times_of, with_time}
use Rattle.fmp_recording.specs.RecordingLaws.{IsRecorded, IsRecordedLine, IsTime, IsWord, IsWritable}
use Rattle.fmp_recording.specs.RecordingLaws.{PrintedLinesReadBack, PrintedRecordingsReadBack, TimedRecordingsReadBack}
use Rattle.fmp_recording.proofs.CallTables.{all_arguments, all_plain, call_again, is_plain, plain_name, read_name}
use Rattle.fmp_trace.specs.Steps.{lines_of, numeral_value}
use Rattle.fmp_trace.proofs.LinesOf.{IsLine, lines_of-ended}
use Rattle.fmp_trace.proofs.Numbers.{numeral_value-decimal, decimal_digits}

-- neither a line feed nor an `@`
abbrev is_clear : ℕ → Bool
is_clear b = not (nat_eq b 10) && not (nat_eq b 64)

abbrev all_clear : List ℕ → Bool
all_clear [] = true
all_clear (b ∷ bs) = is_clear b && all_clear bs

abbrev Clear : List ℕ → Type 0
Clear w = all_clear w ≡ true

clear_parts : (b : ℕ) (rest : Bool) → (is_clear b && rest) ≡ true
    → (is_clear b ≡ true) × (nat_eq b 10 ≡ false) × (nat_eq b 64 ≡ false) × (rest ≡ true)
clear_parts b rest h =
    (grind (arith, nat_tests), grind (arith, nat_tests), grind (arith, nat_tests), grind (arith, nat_tests))

clear_line : (w : List ℕ) → Clear w → IsLine w
clear_line [] h = tt
clear_line (b ∷ bs) h = let p = clear_parts b (all_clear bs) h in (p.1, clear_line bs p.3)

clear_append : (xs ys : List ℕ) → Clear xs → Clear ys → Clear (xs ++ ys)
clear_append [] ys h k = k
clear_append (x ∷ xs) ys h k =
    let p = clear_parts x (all_clear xs) h in ap (λ (t : Bool). t && all_clear (xs ++ ys)) p.0
    ∙ clear_append xs ys p.3 k

line_append : (xs ys : List ℕ) → IsLine xs → IsLine ys → IsLine (xs ++ ys)
line_append [] ys h k = k
line_append (x ∷ xs) ys h k = (h.0, line_append xs ys h.1 k)

-- the position of the first `@`
sign_after : (w rest : List ℕ) → Clear w
    → position_or_len (λ b. nat_eq b 64) (w ++ rest) ≡ length w + position_or_len (λ b. nat_eq b 64) rest
sign_after [] rest h = omega arith
sign_after (b ∷ bs) rest h =
    let p = clear_parts b (all_clear bs) h in
    ap (λ (t : Bool). cond (not t) (1 + prefix_len (λ c. not (nat_eq c 64)) (bs ++ rest)) 0) p.2
    ∙ ap (λ (n : ℕ). 1 + n) (sign_after bs rest p.3)
    ∙ omega arith

and_none : (xs : List ℕ) → xs ++ [] ≡ xs
and_none [] = refl
and_none (x ∷ xs) = ap (λ (ys : List ℕ). x ∷ ys) (and_none xs)

-- a line without an `@` has no time
untimed : (w : List ℕ) → Clear w → time_position w ≡ None
untimed w h =
    let n : position_or_len (λ b. nat_eq b 64) w ≡ length w =
    ap (λ (x : List ℕ). position_or_len (λ b. nat_eq b 64) x) (sym (and_none w)) ∙ sign_after w [] h ∙ omega arith in
    let out : nat_lt (length w) (length w) ≡ false = grind (arith, nat_tests) in
    ap (λ (k : ℕ). after_blank w (cond (nat_lt k (length w)) (Some k) None)) n
    ∙ ap (λ (t : Bool). after_blank w (cond t (Some (length w)) None)) out

-- a time stands after such a line
timed : (w rest : List ℕ) → Clear w → time_position (w ++ 32 ∷ 64 ∷ rest) ≡ Some (length w)
timed w rest h =
    let text = w ++ 32 ∷ 64 ∷ rest in
    let n : position_or_len (λ b. nat_eq b 64) text ≡ suc (length w) = sign_after w (32 ∷ 64 ∷ rest) h ∙ omega arith in
    let all : length text ≡ length w + length (32 ∷ 64 ∷ rest) = length-append w (32 ∷ 64 ∷ rest) in
    let before : suc (length w) - 1 ≡ length w = omega arith in
    let inside : nat_lt (suc (length w)) (length text) ≡ true = lt-ltb (suc (length w)) (length text)
    (omega (arith, all)) in
    ap (λ (k : ℕ). after_blank text (cond (nat_lt k (length text)) (Some k) None)) n
    ∙ ap (λ (t : Bool). after_blank text (cond t (Some (suc (length w))) None)) inside
    ∙ ap (λ (t : Bool). cond (t && nat_eq (get_or text (suc (length w) - 1) 0) 32) (Some (suc (length w) - 1)) None)
    (le-leb 1 (suc (length w)) (omega arith))
    ∙ ap (λ (m : ℕ). cond (nat_eq (get_or text m 0) 32) (Some m) None) before
    ∙ ap (λ (b : ℕ). cond (nat_eq b 32) (Some (length w)) None) (get_or-append_seam w 32 (64 ∷ rest) 0)

-- a text without a blank, a line feed and an `@`
abbrev Plain : List ℕ → Type 0
Plain w = all_plain w ≡ true

plain_parts : (b : ℕ) (rest : Bool) → (is_plain b && rest) ≡ true → (nat_eq b 32 ≡ false) × (is_clear b ≡ true)
    × (rest ≡ true)
plain_parts b rest h = (grind (arith, nat_tests), grind (arith, nat_tests), grind (arith, nat_tests))

plain_clear : (w : List ℕ) → Plain w → Clear w
plain_clear [] h = refl
plain_clear (b ∷ bs) h =
    let p = plain_parts b (all_plain bs) h in ap (λ (t : Bool). t && all_clear bs) p.1 ∙ plain_clear bs p.2

digit_plain : (d : ℕ) (rest : Bool) → (is_ascii_digit d && rest) ≡ true → (is_plain d ≡ true) × (nat_eq d 45 ≡ false)
    × (rest ≡ true)
digit_plain d rest h = (grind (arith, nat_tests), grind (arith, nat_tests), grind (arith, nat_tests))

digits_plain : (ds : List ℕ) → all_ascii_digits ds ≡ true → Plain ds
digits_plain [] h = refl
digits_plain (d ∷ ds) h =
    let p = digit_plain d (all_ascii_digits ds) h in
    ap (λ (t : Bool). t && all_plain ds) p.0 ∙ digits_plain ds p.2

-- the position of the first blank
blank_after : (w rest : List ℕ) → Plain w
    → position_or_len (λ b. nat_eq b 32) (w ++ rest) ≡ length w + position_or_len (λ b. nat_eq b 32) rest
blank_after [] rest h = omega arith
blank_after (b ∷ bs) rest h =
    let p = plain_parts b (all_plain bs) h in
    ap (λ (t : Bool). cond (not t) (1 + prefix_len (λ c. not (nat_eq c 32)) (bs ++ rest)) 0) p.0
    ∙ ap (λ (n : ℕ). 1 + n) (blank_after bs rest p.2)
    ∙ omega arith

longer : (w rest : List ℕ) → length w < length (w ++ 32 ∷ rest)
longer [] rest = omega arith
longer (b ∷ bs) rest = let h = longer bs rest in omega (arith, h)

pub cut_word : (w rest : List ℕ) → Plain w → cut (w ++ 32 ∷ rest) ≡ record { word = w; rest = 32 ∷ rest }
cut_word w rest h =
    let text = w ++ 32 ∷ rest in
    let n : position_or_len (λ b. nat_eq b 32) text ≡ length w = blank_after w (32 ∷ rest) h ∙ omega arith in
    let inside : nat_lt (length w) (length text) ≡ true = lt-ltb (length w) (length text) (longer w rest) in
    ap (λ (k : ℕ). cut_at (cond (nat_lt k (length text)) (Some k) None) text) n
    ∙ ap (λ (t : Bool). cut_at (cond t (Some (length w)) None) text) inside
    ∙ ap (λ (x : List ℕ). record { word = x; rest = drop (length w) text }) (take-append_seam w (32 ∷ rest))
    ∙ ap (λ (x : List ℕ). record { word = w; rest = x }) (drop-append_seam w (32 ∷ rest))

cut_end : (w : List ℕ) → Plain w → cut w ≡ record { word = w; rest = [] }
cut_end w h =
    let n : position_or_len (λ b. nat_eq b 32) w ≡ length w =
    ap (λ (x : List ℕ). position_or_len (λ b. nat_eq b 32) x) (sym (and_none w)) ∙ blank_after w [] h ∙ omega arith in
    let out : nat_lt (length w) (length w) ≡ false = grind (arith, nat_tests) in
    ap (λ (k : ℕ). cut_at (cond (nat_lt k (length w)) (Some k) None) w) n
    ∙ ap (λ (t : Bool). cut_at (cond t (Some (length w)) None) w) out

cut_before : (w : List ℕ) (xs : List ℤ) → Plain w → cut (w ++ arguments_text xs)
    ≡ record { word = w; rest = arguments_text xs }
cut_before w [] h = ap (λ (x : List ℕ). cut x) (and_none w) ∙ cut_end w h
cut_before w (x ∷ xs) h = cut_word w (signed_decimal x ++ arguments_text xs) h

-- a number is read as it is written
number_digits : (ds : List ℕ) (n : ℕ) → all_ascii_digits ds ≡ true → numeral_value ds ≡ Some n → number_of ds
    ≡ positive (Some n)
number_digits [] n h e = cc
number_digits (d ∷ ds) n h e =
    let p = digit_plain d (all_ascii_digits ds) h in
    ap (λ (t : Bool). signed_number t ds (d ∷ ds)) p.1 ∙ ap (λ (o : Option ℕ). positive o) e

numeral_again : (n : ℕ) → n < 2 ^ 32 → numeral_value (decimal n) ≡ Some n
numeral_again zero h = ap (λ (ds : List ℕ). numeral_value ds) (decimal_digit 0 (omega arith))
numeral_again (suc n) h = numeral_value-decimal (suc n) (omega arith) (omega (arith, h))

number_again : (x : ℤ) → IsWord x → number_of (signed_decimal x) ≡ Some x
number_again (pos n) h =
    number_digits (decimal n) n (decimal_digits n (omega (arith, h))) (numeral_again n (omega (arith, h)))
    ∙ ap (λ (t : Bool). cond t (Some (pos n)) None) (lt-ltb n (2 ^ 31) h)
number_again (negsuc n) h =
    ap (λ (o : Option ℕ). negative o) (numeral_again (suc n) (omega (arith, h)))
    ∙ ap (λ (t : Bool). cond (nat_le 1 (suc n) && t) (Some (negsuc (suc n - 1))) None)
    (le-leb (suc n) (2 ^ 31) (omega (arith, h)))
    ∙ ap (λ (t : Bool). cond (t && true) (Some (negsuc (suc n - 1))) None) (le-leb 1 (suc n) (omega arith))
    ∙ ap (λ (m : ℕ). Some (negsuc m)) (omega arith)

plain_number : (x : ℤ) → IsWord x → Plain (signed_decimal x)
plain_number (pos n) h = digits_plain (decimal n) (decimal_digits n (omega (arith, h)))
plain_number (negsuc n) h = digits_plain (decimal (suc n)) (decimal_digits (suc n) (omega (arith, h)))

arguments_again : (xs : List ℤ) → AllByRecursion IsWord xs → arguments_in (length xs) (arguments_text xs) ≡ Some xs
arguments_again [] h = refl
arguments_again (x ∷ xs) h =
    let t = signed_decimal x ++ arguments_text xs in
    ap (λ (c : Cut). in_front_of (number_of c.word) (arguments_in (length xs) c.rest))
    (cut_before (signed_decimal x) xs (plain_number x h.0))
    ∙ ap (λ (o : Option ℤ). in_front_of o (arguments_in (length xs) (arguments_text xs))) (number_again x h.0)
    ∙ ap (λ (o : Option (List ℤ)). in_front_of (Some x) o) (arguments_again xs h.1)

arguments_clear : (xs : List ℤ) → AllByRecursion IsWord xs → Clear (arguments_text xs)
arguments_clear [] h = refl
arguments_clear (x ∷ xs) h =
    clear_append (signed_decimal x) (arguments_text xs) (plain_clear (signed_decimal x) (plain_number x h.0))
    (arguments_clear xs h.1)

call_read : (c : Call) → AllByRecursion IsWord (arguments_of c)
    → call_in (Some (service_of c)) (arguments_text (arguments_of c)) ≡ Some (act.Call c)
call_read c h =
    ap (λ (n : ℕ). call_with (service_of c) (arguments_in n (arguments_text (arguments_of c)))) (sym (all_arguments c))
    ∙ ap (λ (o : Option (List ℤ)). call_with (service_of c) o) (arguments_again (arguments_of c) h)
    ∙ ap (λ (k : Call). Some (act.Call k)) (call_again c)

act_again : (a : Act) → IsWritable a → act_by (cut (act_text a)) ≡ Some a
act_again (act.Call c) h =
    ap (λ (x : Cut). act_by x) (cut_before (service_name (service_of c)) (arguments_of c) (plain_name (service_of c)))
    ∙ read_name (service_of c) (arguments_text (arguments_of c)) ∙ call_read c h
act_again act.End h = refl
act_again (act.Fault fault.Overflow) h = refl
act_again (act.Fault fault.Division) h = refl
act_again (act.Fault fault.Index) h = refl

act_clear : (a : Act) → IsWritable a → Clear (act_text a)
act_clear (act.Call c) h =
    clear_append (service_name (service_of c)) (arguments_text (arguments_of c))
    (plain_clear (service_name (service_of c)) (plain_name (service_of c)))
    (arguments_clear (arguments_of c) h)
act_clear act.End h = refl
act_clear (act.Fault fault.Overflow) h = refl
act_clear (act.Fault fault.Division) h = refl
act_clear (act.Fault fault.Index) h = refl

ranged_again : (most n : ℕ) → 1 ≤ n → n ≤ most → most < 256 → number_up_to most (number_of (decimal n)) ≡ Ok n
ranged_again most n low high small =
    ap (λ (o : Option ℤ). number_up_to most o) (number_again (pos n) (omega (arith, high)))
    ∙ ap (λ (t : Bool). cond (t && nat_le n most) (Ok n) (Err flaw.Range)) (le-leb 1 n low)
    ∙ ap (λ (t : Bool). cond t (Ok n) (Err flaw.Range)) (le-leb n most high)

given_again : (processors : ℕ) (g : Given) → processors < 256 → IsRecorded processors g
    → given_in processors (given_text g) ≡ Ok g
given_again processors (given.Act p a) small h =
    let plain = digits_plain (decimal p) (decimal_digits p (omega (arith, h.1))) in
    ap (λ (c : Cut). given_by processors c) (cut_word (codes "run") (decimal p ++ 32 ∷ act_text a) refl)
    ∙ ap (λ (c : Cut). given_act (number_up_to processors (number_of c.word)) (act_in c.rest))
    (cut_word (decimal p) (act_text a) plain)
    ∙ ap (λ (r : Result ℕ RecordingFlaw). given_act r (act_by (cut (act_text a))))
    (ranged_again processors p h.0 h.1 small)
    ∙ ap (λ (o : Option Act). given_act (Ok p) o) (act_again a h.2)
given_again processors given.Tick small h = refl
given_again processors (given.Int i) small h =
    ap (λ (c : Cut). given_by processors c) (cut_word (codes "int") (decimal i) refl)
    ∙ ap (λ (r : Result ℕ RecordingFlaw). given_int r) (ranged_again 32 i h.0 h.1 (omega arith))

given_clear : (processors : ℕ) (g : Given) → processors < 256 → IsRecorded processors g → Clear (given_text g)
given_clear processors (given.Act p a) small h =
    let digits = plain_clear (decimal p) (digits_plain (decimal p) (decimal_digits p (omega (arith, h.1)))) in
    clear_append (decimal p) (32 ∷ act_text a) digits (act_clear a h.2)
given_clear processors given.Tick small h = refl
given_clear processors (given.Int i) small h =
    plain_clear (decimal i) (digits_plain (decimal i) (decimal_digits i (omega (arith, h.1))))

given_line : (processors : ℕ) (g : Given) → processors < 256 → IsRecorded processors g → IsLine (given_text g)
given_line processors g small h = clear_line (given_text g) (given_clear processors g small h)

-- what comes is never written as `restart` is
abbrev came_line : List ℕ → Result Given RecordingFlaw → Bool → Result RecordedLine RecordingFlaw
came_line line r t = cond t (Ok recorded.Restart) (came_by r)

not_restart : (g : Given) → is_restart (given_text g) ≡ false
not_restart (given.Act p a) = refl
not_restart given.Tick = refl
not_restart (given.Int i) = refl

no_restart : (g : Given) (rest : List ℕ) → is_restart (given_text g ++ rest) ≡ false
no_restart (given.Act p a) rest = refl
no_restart given.Tick [] = refl
no_restart given.Tick (b ∷ bs) = refl
no_restart (given.Int i) rest = refl

numbered : (processors n : ℕ) (line : List ℕ) (r : RecordedLine) → recorded_in processors line ≡ Ok r → n ≤ 2 ^ 31
    → recorded_at processors n line ≡ Ok r
numbered processors n line r e few =
    ap (λ (t : Bool). cond t (fault_at n (recorded_in processors line)) (Err (recording_fault.TooMany n)))
    (le-leb n (2 ^ 31) few)
    ∙ ap (λ x. fault_at n x) e

came_numbered : (processors n : ℕ) (line : List ℕ) (g : Given) → is_restart line ≡ false
    → line_meaning processors line ≡ Ok g
    → n ≤ 2 ^ 31 → recorded_at processors n line ≡ Ok (recorded.Came g)
came_numbered processors n line g other e few =
    numbered processors n line (recorded.Came g)
    (ap (λ (t : Bool). came_line line (line_meaning processors line) t) other
    ∙ ap (λ (r : Result Given RecordingFlaw). came_by r) e) few

line_again : (processors n : ℕ) (g : Given) → processors < 256 → IsRecorded processors g → n ≤ 2 ^ 31
    → recorded_at processors n (given_text g) ≡ Ok (recorded.Came g)
line_again processors n g small h few =
    let w = given_text g in
    came_numbered processors n w g (not_restart g)
    (ap (λ (o : Option ℕ). with_time (given_in processors (said_before o w)) (time_after o w))
    (untimed w (given_clear processors g small h))
    ∙ ap (λ (r : Result Given RecordingFlaw). with_time r (Ok None)) (given_again processors g small h)) few

pub lines_again : (processors n : ℕ) (gs : List Given) → processors < 256 → AllByRecursion (IsRecorded processors) gs
    → n + length gs ≤ 2 ^ 31 + 1 → recorded_from processors n (lines_of (recording_text gs)) ≡ Ok (came_lines gs)
lines_again processors n [] small h few = refl
lines_again processors n (g ∷ gs) small h few =
    ap (λ ls. recorded_from processors n ls) (lines_of-ended (given_text g) (recording_text gs)
    (given_line processors g small h.0))
    ∙ ap (λ r. in_front r (recorded_from processors (n + 1) (lines_of (recording_text gs))))
    (line_again processors n g small h.0 (omega (arith, few)))
    ∙ ap (λ r. in_front (Ok (recorded.Came g)) r) (lines_again processors (n + 1) gs small h.1 (omega (arith, few)))

came_all : (gs : List Given) → came (came_lines gs) ≡ gs
came_all [] = refl
came_all (g ∷ gs) = ap (λ (xs : List Given). g ∷ xs) (came_all gs)

-- where each line of a text says what came, this came
of_lines : (processors : ℕ) (text : List ℕ) (gs : List Given) → recorded_of processors text ≡ Ok (came_lines gs)
    → recording_of processors text ≡ Ok gs
of_lines processors text gs e =
    ap (λ (r : Result (List RecordedLine) RecordingFault). all_came r) e ∙ ap (λ (xs : List Given). Ok xs) (came_all gs)

pub printed_recordings_read_back : PrintedRecordingsReadBack
printed_recordings_read_back processors gs small h few =
    of_lines processors (recording_text gs) gs (lines_again processors 1 gs small h (omega (arith, few)))

-- so are lines
recorded_again : (processors n : ℕ) (r : RecordedLine) → processors < 256 → IsRecordedLine processors r → n ≤ 2 ^ 31
    → recorded_at processors n (recorded_text r) ≡ Ok r
recorded_again processors n (recorded.Came g) small h few = line_again processors n g small h few
recorded_again processors n recorded.Restart small h few = numbered processors n restart_text recorded.Restart refl few

recorded_line : (processors : ℕ) (r : RecordedLine) → processors < 256 → IsRecordedLine processors r
    → IsLine (recorded_text r)
recorded_line processors (recorded.Came g) small h = given_line processors g small h
recorded_line processors recorded.Restart small h = clear_line restart_text refl

all_again : (processors n : ℕ) (rs : List RecordedLine) → processors < 256
    → AllByRecursion (IsRecordedLine processors) rs
    → n + length rs ≤ 2 ^ 31 + 1 → recorded_from processors n (lines_of (recorded_lines_text rs)) ≡ Ok rs
all_again processors n [] small h few = refl
all_again processors n (r ∷ rs) small h few =
    ap (λ ls. recorded_from processors n ls) (lines_of-ended (recorded_text r) (recorded_lines_text rs)
    (recorded_line processors r small h.0))
    ∙ ap (λ x. in_front x (recorded_from processors (n + 1) (lines_of (recorded_lines_text rs))))
    (recorded_again processors n r small h.0 (omega (arith, few)))
    ∙ ap (λ x. in_front (Ok r) x) (all_again processors (n + 1) rs small h.1 (omega (arith, few)))

pub printed_lines_read_back : PrintedLinesReadBack
printed_lines_read_back processors rs small h few = all_again processors 1 rs small h (omega (arith, few))

-- a line and its time are read as they are written
said_again : (w : List ℕ) (t : Option ℕ) → Clear w
    → said_before (time_position (w ++ time_text t)) (w ++ time_text t) ≡ w
said_again w None h =
    ap (λ (x : List ℕ). said_before (time_position x) x) (and_none w)
    ∙ ap (λ (o : Option ℕ). said_before o w) (untimed w h)
said_again w (Some n) h =
    let text = w ++ 32 ∷ 64 ∷ decimal n in
    ap (λ (o : Option ℕ). said_before o text) (timed w (decimal n) h) ∙ take-append_seam w (32 ∷ 64 ∷ decimal n)

digits_again : (n : ℕ) → n ≤ 2 ^ 53 → numeral_value (decimal n) ≡ Some n
digits_again zero h = ap (λ (ds : List ℕ). numeral_value ds) (decimal_digit 0 (omega arith))
digits_again (suc n) h = numeral_value-decimal (suc n) (omega arith) (omega (arith, h))

time_again : (w : List ℕ) (t : Option ℕ) → Clear w → IsTime t
    → time_after (time_position (w ++ time_text t)) (w ++ time_text t) ≡ Ok t
time_again w None h k =
    ap (λ (x : List ℕ). time_after (time_position x) x) (and_none w)
    ∙ ap (λ (o : Option ℕ). time_after o w) (untimed w h)
time_again w (Some n) h k =
    let text = w ++ 32 ∷ 64 ∷ decimal n in
    ap (λ (o : Option ℕ). time_after o text) (timed w (decimal n) h)
    ∙ ap (λ (x : List ℕ). some_time (time_number (numeral_value x))) (drop-append-add w (32 ∷ 64 ∷ decimal n) 2)
    ∙ ap (λ (o : Option ℕ). some_time (time_number o)) (digits_again n k)
    ∙ ap (λ (b : Bool). some_time (cond b (Ok n) (Err flaw.Range))) (le-leb n (2 ^ 53) k)

timed_line : (processors n : ℕ) (g : Given) (t : Option ℕ) → processors < 256 → IsRecorded processors g → IsTime t
    → n ≤ 2 ^ 31
    → recorded_at processors n (given_text g ++ time_text t) ≡ Ok (recorded.Came g)
timed_line processors n g t small h k few =
    let w = given_text g in
    let line = w ++ time_text t in
    let clear = given_clear processors g small h in
    came_numbered processors n line g (no_restart g (time_text t))
    (ap (λ (x : List ℕ). with_time (given_in processors x) (time_after (time_position line) line))
    (said_again w t clear)
    ∙ ap (λ (r : Result (Option ℕ) RecordingFlaw). with_time (given_in processors w) r) (time_again w t clear k)
    ∙ ap (λ (r : Result Given RecordingFlaw). with_time r (Ok t)) (given_again processors g small h)) few

time_line : (t : Option ℕ) → IsTime t → IsLine (time_text t)
time_line None k = tt
time_line (Some n) k = (
  refl,
  (
    refl,
    clear_line (decimal n) (plain_clear (decimal n)
        (digits_plain (decimal n) (decimal_digits n (omega (arith, k))))),
  ),
)

first_timed : (processors : ℕ) (g : Given) (t : Option ℕ) (rest : List ℕ) → processors < 256 → IsRecorded processors g
    → IsTime t
    → lines_of (given_text g ++ (time_text t ++ 10 ∷ rest)) ≡ (given_text g ++ time_text t) ∷ lines_of rest
first_timed processors g t rest small h k =
    ap (λ (x : List ℕ). lines_of x) (sym (append_assoc (given_text g) (time_text t) (10 ∷ rest)))
    ∙ lines_of-ended (given_text g ++ time_text t) rest
    (line_append (given_text g) (time_text t) (given_line processors g small h) (time_line t k))

timed_givens : (processors n : ℕ) (gs : List Given) (ts : List (Option ℕ)) → processors < 256
    → AllByRecursion (IsRecorded processors) gs → AllByRecursion IsTime ts → length ts ≡ length gs
    → n + length gs ≤ 2 ^ 31 + 1 → recorded_from processors n (lines_of (timed_text gs ts)) ≡ Ok (came_lines gs)
timed_givens processors n [] ts small h k e few = refl
timed_givens processors n (g ∷ gs) [] small h k e few = absurd (omega (arith, e))
timed_givens processors n (g ∷ gs) (t ∷ ts) small h k e few =
    let rest = lines_of (timed_text gs ts) in
    ap (λ ls. recorded_from processors n ls) (first_timed processors g t (timed_text gs ts) small h.0 k.0)
    ∙ ap (λ r. in_front r (recorded_from processors (n + 1) rest)) (timed_line processors n g t small h.0 k.0
    (omega (arith, few)))
    ∙ ap (λ r. in_front (Ok (recorded.Came g)) r)
    (timed_givens processors (n + 1) gs ts small h.1 k.1 (omega (arith, e)) (omega (arith, few)))

read_times_again : (processors : ℕ) (gs : List Given) (ts : List (Option ℕ)) → processors < 256
    → AllByRecursion (IsRecorded processors) gs → AllByRecursion IsTime ts → length ts ≡ length gs
    → times_of (timed_text gs ts) ≡ ts
read_times_again processors [] [] small h k e = refl
read_times_again processors [] (t ∷ ts) small h k e = absurd (omega (arith, e))
read_times_again processors (g ∷ gs) [] small h k e = absurd (omega (arith, e))
read_times_again processors (g ∷ gs) (t ∷ ts) small h k e =
    let line = given_text g ++ time_text t in
    let rest = times_of (timed_text gs ts) in
    ap (λ ls. line_times ls) (first_timed processors g t (timed_text gs ts) small h.0 k.0)
    ∙ ap (λ (b : Bool). cond b rest (line_time line ∷ rest)) (no_restart g (time_text t))
    ∙ ap (λ (r : Result (Option ℕ) RecordingFlaw). time_or_none r ∷ rest)
    (time_again (given_text g) t (given_clear processors g small h.0) k.0)
    ∙ ap (λ (us : List (Option ℕ)). t ∷ us) (read_times_again processors gs ts small h.1 k.1 (omega (arith, e)))

pub timed_recordings_read_back : TimedRecordingsReadBack
timed_recordings_read_back processors gs ts small h k e few = (
  of_lines processors (timed_text gs ts) gs (timed_givens processors 1 gs ts small h k e (omega (arith, few))),
  read_times_again processors gs ts small h k e,
)
