-- What is read line by line, and argument by argument.
use Rattle.std.proofs.Common.{ℕ, suc, ◌+◌, ◌-◌, ◌<◌, ◌≤◌, ◌≡◌, ◌≢◌, length, take, drop, set, arith, ◌∙◌, ℤ, List, []}
use Rattle.std.proofs.Common.{◌∷◌, ◌++◌, Bool, true, false, cond, codes, Option, Some, None, Result, Ok, Err, refl, ap}
use Rattle.std.proofs.Common.{append-nil, append_assoc, sym}
use Rattle.std.specs.Str.{bytes_eq}
use Rattle.fmp_base.specs.Words.{service_named}
use Rattle.fmp_outside.specs.declared.given.Act.{Act}
use Rattle.fmp_outside.specs.declared.given.Given.{Given}
use Rattle.fmp_recording.specs.declared.faults.RecordingFault.{RecordingFault}
use Rattle.fmp_recording.specs.declared.recorded.RecordedLine.{RecordedLine}
use Rattle.fmp_recording.specs.declared.recorded.RecordedLine.TheVariants as recorded
use Rattle.std.proofs.Math.Seq.{take-suc-set}
use Rattle.fmp_recording.specs.Recordings.{act_by, act_in, all_came, arguments_in, call_in, came, cut, end_in, fault_in}
use Rattle.fmp_recording.specs.Recordings.{in_front, in_front_of, is_restart, line_time, line_times, number_of}
use Rattle.fmp_trace.proofs.LinesOf.{rest_whole}

-- what is after others, or the fault
abbrev pub after_all : {A : Type 0} → List A → Result (List A) RecordingFault → Result (List A) RecordingFault
after_all xs (Ok ys) = Ok (xs ++ ys)
after_all xs (Err f) = Err f

-- one more goes to the end of those in front
pub one_more : (rs : List RecordedLine) (r : RecordedLine) (s : Result (List RecordedLine) RecordingFault)
    → after_all rs (in_front (Ok r) s) ≡ after_all (rs ++ r ∷ []) s
one_more rs r (Ok ss) = ap (λ xs. Ok xs) (sym (append_assoc rs (r ∷ []) ss))
one_more rs r (Err f) = refl

-- the same of what came
pub one_more_came : (gs : List Given) (r : RecordedLine) (s : Result (List RecordedLine) RecordingFault)
    → after_all gs (all_came (in_front (Ok r) s)) ≡ after_all (gs ++ came (r ∷ [])) (all_came s)
one_more_came gs (recorded.Came g) (Ok ss) = ap (λ (xs : List Given). Ok xs) (sym (append_assoc gs (g ∷ []) (came ss)))
one_more_came gs recorded.Restart (Ok ss) = ap (λ (xs : List Given). Ok (xs ++ came ss)) (sym (append-nil gs))
one_more_came gs r (Err f) = refl

-- and of the times
pub one_more_time : (ts : List (Option ℕ)) (line : List ℕ) (lines : List (List ℕ))
    → (ts ++ line_times (line ∷ [])) ++ line_times lines ≡ ts ++ line_times (line ∷ lines)
one_more_time ts line lines = by_test (is_restart line) where
  by_test : (t : Bool)
      → (ts ++ cond t [] (line_time line ∷ [])) ++ line_times lines
      ≡ ts ++ cond t (line_times lines) (line_time line ∷ line_times lines)
  by_test true = ap (λ (xs : List (Option ℕ)). xs ++ line_times lines) (append-nil ts)
  by_test false = append_assoc ts (line_time line ∷ []) (line_times lines)

-- numbers after others
abbrev pub after_numbers : List ℤ → Option (List ℤ) → Option (List ℤ)
after_numbers xs None = None
after_numbers xs (Some ys) = Some (xs ++ ys)

pub one_more_number : (xs : List ℤ) (x : ℤ) (r : Option (List ℤ))
    → after_numbers xs (in_front_of (Some x) r) ≡ after_numbers (xs ++ x ∷ []) r
one_more_number xs x (Some ys) = ap (λ (zs : List ℤ). Some zs) (sym (append_assoc xs (x ∷ []) ys))
one_more_number xs x None = refl

pub no_argument : (rest : List ℕ) → rest ≡ [] → (n : ℕ) → arguments_in (suc n) rest ≡ None
no_argument rest e n = ap (λ (bs : List ℕ). arguments_in (suc n) bs) e

pub bad_argument : (rest : List ℕ) (b : ℕ) (bs word : List ℕ) → rest ≡ b ∷ bs → (cut bs).word ≡ word → number_of word
    ≡ None
    → (n : ℕ) → arguments_in (suc n) rest ≡ None
bad_argument rest b bs word e w h n =
    ap (λ (xs : List ℕ). arguments_in (suc n) xs) e
    ∙ ap (λ (x : Option ℤ). in_front_of x (arguments_in n (cut bs).rest)) (ap (λ (t : List ℕ). number_of t) w ∙ h)

pub an_argument : (rest word after : List ℕ) (x : ℤ) (n : ℕ) → 1 ≤ length rest
    → (cut (take (length rest - 1) (drop 1 rest))).word ≡ word → (cut (take (length rest - 1) (drop 1 rest))).rest
    ≡ after
    → number_of word ≡ Some x → arguments_in (suc n) rest ≡ in_front_of (Some x) (arguments_in n after)
an_argument [] word after x n low w r h = absurd (omega (arith, low))
an_argument (b ∷ bs) word after x n low w r h =
    let whole : take (length (b ∷ bs) - 1) (drop 1 (b ∷ bs)) ≡ bs = rest_whole (b ∷ bs) 1 in
    let word_is : (cut bs).word ≡ word = ap (λ (t : List ℕ). (cut t).word) (sym whole) ∙ w in
    let rest_is : (cut bs).rest ≡ after = ap (λ (t : List ℕ). (cut t).rest) (sym whole) ∙ r in
    ap (λ (y : Option ℤ). in_front_of y (arguments_in n (cut bs).rest)) (ap (λ (t : List ℕ). number_of t) word_is ∙ h)
    ∙ ap (λ (t : List ℕ). in_front_of (Some x) (arguments_in n t)) rest_is

pub a_call : (rest word after : List ℕ) (o : Option Act) → 1 ≤ length rest
    → (cut (take (length rest - 1) (drop 1 rest))).word ≡ word → (cut (take (length rest - 1) (drop 1 rest))).rest
    ≡ after
    → bytes_eq word (codes "end") ≡ false → bytes_eq word (codes "fault") ≡ false
    → o ≡ call_in (service_named word) after → o ≡ act_in rest
a_call [] word after o low w r e f h = absurd (omega (arith, low))
a_call (b ∷ bs) word after o low w r e f h =
    let whole : take (length (b ∷ bs) - 1) (drop 1 (b ∷ bs)) ≡ bs = rest_whole (b ∷ bs) 1 in
    let word_is : (cut bs).word ≡ word = ap (λ (t : List ℕ). (cut t).word) (sym whole) ∙ w in
    let rest_is : (cut bs).rest ≡ after = ap (λ (t : List ℕ). (cut t).rest) (sym whole) ∙ r in
    h
    ∙ ap (λ (t : Bool). cond t (fault_in after) (call_in (service_named word) after)) (sym f)
    ∙ ap (λ (t : Bool). cond t (end_in after) (cond (bytes_eq word (codes "fault")) (fault_in after)
    (call_in (service_named word) after))) (sym e)
    ∙ ap (λ (t : List ℕ). act_by (record { word = word; rest = t })) (sym rest_is)
    ∙ ap (λ (t : List ℕ). act_by (record { word = t; rest = (cut bs).rest })) (sym word_is)

pub no_number : (count i : ℕ) (xs : List ℤ) (rest : List ℕ) (whole : Option (List ℤ)) → i < count
    → after_numbers xs (arguments_in (count - i) rest) ≡ whole → ((n : ℕ) → arguments_in (suc n) rest ≡ None) → whole
    ≡ None
no_number count i xs rest whole lt e h =
    let k : count - i ≡ suc (count - (i + 1)) = omega (arith, lt) in
    sym e ∙ ap (λ (m : ℕ). after_numbers xs (arguments_in m rest)) k
    ∙ ap (λ (r : Option (List ℤ)). after_numbers xs r) (h (count - (i + 1)))

pub next_number : (count i : ℕ) (numbers : List ℤ) (x : ℤ) (rest after : List ℕ) (whole : Option (List ℤ)) → i < count
    → i < length numbers → after_numbers (take i numbers) (arguments_in (count - i) rest) ≡ whole
    → ((n : ℕ) → arguments_in (suc n) rest ≡ in_front_of (Some x) (arguments_in n after))
    → after_numbers (take (i + 1) (set numbers i x)) (arguments_in (count - (i + 1)) after) ≡ whole
next_number count i numbers x rest after whole lt there e h =
    let k : count - i ≡ suc (count - (i + 1)) = omega (arith, lt) in
    let one : i + 1 ≡ suc i = omega arith in
    let front : take (i + 1) (set numbers i x) ≡ take i numbers ++ x ∷ [] =
    ap (λ (m : ℕ). take m (set numbers i x)) one ∙ take-suc-set numbers i x there in
    ap (λ (xs : List ℤ). after_numbers xs (arguments_in (count - (i + 1)) after)) front
    ∙ sym (one_more_number (take i numbers) x (arguments_in (count - (i + 1)) after))
    ∙ ap (λ (r : Option (List ℤ)). after_numbers (take i numbers) r) (sym (h (count - (i + 1))))
    ∙ ap (λ (m : ℕ). after_numbers (take i numbers) (arguments_in m rest)) (sym k)
    ∙ e

and_none : (xs : List ℤ) → xs ++ [] ≡ xs
and_none [] = refl
and_none (x ∷ xs) = ap (λ (ys : List ℤ). x ∷ ys) (and_none xs)

pub all_numbers : (count : ℕ) (numbers : List ℤ) (rest : List ℕ) (whole : Option (List ℤ)) → rest ≡ []
    → after_numbers (take count numbers) (arguments_in (count - count) rest) ≡ whole → whole
    ≡ Some (take count numbers)
all_numbers count numbers rest whole r e =
    let k : count - count ≡ 0 = omega arith in
    sym e ∙ ap (λ (m : ℕ). after_numbers (take count numbers) (arguments_in m rest)) k
    ∙ ap (λ (t : List ℕ). after_numbers (take count numbers) (arguments_in 0 t)) r
    ∙ ap (λ (ys : List ℤ). Some ys) (and_none (take count numbers))

left_over : (rest : List ℕ) → rest ≢ [] → arguments_in 0 rest ≡ None
left_over [] n = absurd (n refl)
left_over (b ∷ bs) n = refl

pub more_numbers : (count : ℕ) (numbers : List ℤ) (rest : List ℕ) (whole : Option (List ℤ)) → rest ≢ []
    → after_numbers (take count numbers) (arguments_in (count - count) rest) ≡ whole → whole ≡ None
more_numbers count numbers rest whole r e =
    let k : count - count ≡ 0 = omega arith in
    sym e ∙ ap (λ (m : ℕ). after_numbers (take count numbers) (arguments_in m rest)) k
    ∙ ap (λ (o : Option (List ℤ)). after_numbers (take count numbers) o) (left_over rest r)
