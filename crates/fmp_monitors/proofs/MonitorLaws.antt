-- What a monitor keeps is what was seen comes to, and it is broken where the sentence is.
use Rattle.std.proofs.Common.{◌≡◌, ◌∙◌, ℕ, ◌+◌, ◌-◌, List, [], ◌∷◌, Option, Some, None, Bool, true, false, not, ◌&&◌}
use Rattle.std.proofs.Common.{◌||◌, nat_eq, refl, ap, sym, arith}
use Rattle.std.specs.Prelude.{if◌then◌else◌, nat_le, option_map, unwrap_or}
use Rattle.std.proofs.lemmas.Bool.Decides.{nat_tests}
use Rattle.fmp_base.specs.declared.events.Line.{Line}
use Rattle.fmp_monitors.specs.declared.sentence.Sentence.{Sentence}
use Rattle.fmp_monitors.specs.declared.sentence.Sentence.TheVariants as sentence
use Rattle.fmp_monitors.specs.declared.standing.Standing.{Standing}
use Rattle.fmp_monitors.specs.declared.standing.Standing.TheVariants as standing
use Rattle.fmp_monitors.specs.Happenings.{answers, asks, holder_on, is_met, is_tick, tells, tells_any}
use Rattle.fmp_monitors.specs.Meaning.{Seen, OfLine, OfState, breaks, by_line, has_come, holder, is_open, is_owed}
use Rattle.fmp_monitors.specs.Meaning.{is_zero}
use Rattle.fmp_monitors.specs.Monitors.{held_if, inside, inside_of, is_broken_by, is_due, is_held, next_standing}
use Rattle.fmp_monitors.specs.Monitors.{next_wait, standing_of, waited, waiting_of}
use Rattle.fmp_monitors.specs.Standings.{code}

held_is : (b : Bool) → is_held (held_if b) ≡ b
held_is true = refl
held_is false = refl

inside_is : (o : Option ℕ) → inside (inside_of o) ≡ o
inside_is None = refl
inside_is (Some t) = refl

abbrev next_waited : (answer ask tick : Bool) → Option ℕ → Option ℕ
next_waited answer ask tick w =
    if answer then None else if ask then Some (unwrap_or w 0) else if tick then option_map (λ m. m + 1) w else w

no_less : (n : ℕ) → n ≡ n - 0
no_less n = omega arith

one_less : (n m : ℕ) → n - m - 1 ≡ n - (m + 1)
one_less n m = omega arith

wait_step : (n : ℕ) (answer ask tick : Bool) (w : Option ℕ)
    → next_wait answer ask tick n (waiting_of n w) ≡ waiting_of n (next_waited answer ask tick w)
wait_step n true ask tick w = refl
wait_step n false true tick None = ap (λ k. standing.Waiting k) (no_less n)
wait_step n false true tick (Some m) = refl
wait_step n false false true None = refl
wait_step n false false true (Some m) = ap (λ k. standing.Waiting k) (one_less n m)
wait_step n false false false w = refl

-- this many ticks have been waited, or more
abbrev reached : ℕ → Option ℕ → Bool
reached n None = false
reached n (Some m) = nat_le n m

zero_or : (n m : ℕ) → (is_zero n || nat_le n m) ≡ nat_le n m
zero_or n m = grind (arith, nat_tests)

zero_none : (n : ℕ) → (is_zero n || false) ≡ nat_le n 0
zero_none n = grind (arith, nat_tests)

less_one : (n m : ℕ) → nat_le (n - 1) m ≡ nat_le n (m + 1)
less_one n m = grind (arith, nat_tests)

none_left : (n m : ℕ) → nat_eq (n - m) 0 ≡ nat_le n m
none_left n m = grind (arith, nat_tests)

owed_step : (r i k : Bool) (n : ℕ) (w : Option ℕ) (o less : Bool) → o ≡ reached n w → less ≡ reached (n - 1) w →
    (if r then false else if i then is_zero n || o else if k then less else o) ≡ reached n (next_waited r i k w)
owed_step true i k n w o less e f = refl
owed_step false true k n None o less e f = ap (λ b. is_zero n || b) e ∙ zero_none n
owed_step false true k n (Some m) o less e f = ap (λ b. is_zero n || b) e ∙ zero_or n m
owed_step false false true n None o less e f = f
owed_step false false true n (Some m) o less e f = f ∙ less_one n m
owed_step false false false n w o less e f = e

-- what is owed is told by the ticks that were waited
owed_is : (answers asks : Line → Bool) (n : ℕ) (seen : List Seen)
    → is_owed answers asks n seen ≡ reached n (waited answers asks seen)
owed_is answers asks n [] = refl
owed_is answers asks n (x ∷ before) =
    owed_step (by_line answers x) (by_line asks x) (by_line is_tick x) n (waited answers asks before)
    (is_owed answers asks n before) (is_owed answers asks (n - 1) before) (owed_is answers asks n before)
    (owed_is answers asks (n - 1) before)

due_reached : (n : ℕ) (w : Option ℕ) → is_due (waiting_of n w) ≡ reached n w
due_reached n None = refl
due_reached n (Some m) = none_left n m

due_is : (answers asks : Line → Bool) (n : ℕ) (seen : List Seen)
    → is_due (waiting_of n (waited answers asks seen)) ≡ is_owed answers asks n seen
due_is answers asks n seen = due_reached n (waited answers asks seen) ∙ sym (owed_is answers asks n seen)

-- what is kept after one more
pub next_is : (e : Sentence) (before : List Seen) (x : Seen)
    → next_standing e (standing_of e before) x ≡ standing_of e (x ∷ before)
next_is (sentence.Before a b) before (OfLine l) =
    ap (λ h. held_if (tells a l || h)) (held_is (has_come (tells a) before))
next_is (sentence.NeverAfter h a b) before (OfLine l) =
    ap (λ h. held_if (tells a l || (not (tells_any b l) && h))) (held_is (is_open (tells a) (tells_any b) before))
next_is (sentence.Within r n t) before (OfLine l) =
    wait_step n (answers r l) (asks t l) (is_tick l) (waited (answers r) (asks t) before)
next_is (sentence.OneAtATime a b) before (OfLine l) =
    ap (λ o. inside_of (holder_on a b o l)) (inside_is (holder a b before))
next_is (sentence.Never h) before (OfLine l) = refl
next_is (sentence.Always c) before (OfLine l) = refl
next_is (sentence.Rests t) before (OfLine l) = refl
next_is (sentence.End w t) before (OfLine l) = refl
next_is (sentence.Before a b) before (OfState s) = refl
next_is (sentence.NeverAfter h a b) before (OfState s) = refl
next_is (sentence.Within r n t) before (OfState s) = refl
next_is (sentence.OneAtATime a b) before (OfState s) = refl
next_is (sentence.Never h) before (OfState s) = refl
next_is (sentence.Always c) before (OfState s) = refl
next_is (sentence.Rests t) before (OfState s) = refl
next_is (sentence.End w t) before (OfState s) = refl

-- what breaks a sentence is told by what is kept
pub breaks_is : (e : Sentence) (before : List Seen) (x : Seen)
    → is_broken_by e (standing_of e before) x ≡ breaks e before x
breaks_is (sentence.Never h) before (OfLine l) = refl
breaks_is (sentence.Before a b) before (OfLine l) =
    ap (λ h. tells b l && not (tells a l || h)) (held_is (has_come (tells a) before))
breaks_is (sentence.NeverAfter h a b) before (OfLine l) =
    ap (λ o. tells h l && o) (held_is (is_open (tells a) (tells_any b) before))
breaks_is (sentence.Within r n t) before (OfLine l) = ap (λ d. is_tick l && d) (due_is (answers r) (asks t) n before)
breaks_is (sentence.OneAtATime a b) before (OfLine l) = ap (λ o. is_met a o l) (inside_is (holder a b before))
breaks_is (sentence.Always c) before (OfLine l) = refl
breaks_is (sentence.Rests t) before (OfLine l) = refl
breaks_is (sentence.End w t) before (OfLine l) = refl
breaks_is (sentence.Never h) before (OfState s) = refl
breaks_is (sentence.Before a b) before (OfState s) = refl
breaks_is (sentence.NeverAfter h a b) before (OfState s) = refl
breaks_is (sentence.Within r n t) before (OfState s) = refl
breaks_is (sentence.OneAtATime a b) before (OfState s) = refl
breaks_is (sentence.Always c) before (OfState s) = refl
breaks_is (sentence.Rests t) before (OfState s) = refl
breaks_is (sentence.End w t) before (OfState s) = refl

held_told : (a b : Bool) → code (held_if a) ≡ code (held_if b) → held_if a ≡ held_if b
held_told true true e = refl
held_told true false e = absurd (omega (arith, e))
held_told false true e = absurd (omega (arith, e))
held_told false false e = refl

inside_told : (a b : Option ℕ) → code (inside_of a) ≡ code (inside_of b) → inside_of a ≡ inside_of b
inside_told None None e = refl
inside_told None (Some t) e = absurd (omega (arith, e))
inside_told (Some t) None e = absurd (omega (arith, e))
inside_told (Some t) (Some u) e = ap (λ k. standing.Inside k) (let same : t ≡ u = omega (arith, e) in same)

waiting_told : (n : ℕ) (a b : Option ℕ) → code (waiting_of n a) ≡ code (waiting_of n b)
    → waiting_of n a ≡ waiting_of n b
waiting_told n None None e = refl
waiting_told n None (Some m) e = absurd (omega (arith, e))
waiting_told n (Some m) None e = absurd (omega (arith, e))
waiting_told n (Some m) (Some j) e =
    ap (λ k. standing.Waiting k) (let same : n - m ≡ n - j = omega (arith, e) in same)

-- the number of what is kept of a sentence tells it
pub codes_tell : (e : Sentence) (xs ys : List Seen) → code (standing_of e xs) ≡ code (standing_of e ys)
    → standing_of e xs ≡ standing_of e ys
codes_tell (sentence.Never h) xs ys e = refl
codes_tell (sentence.Before a b) xs ys e = held_told (has_come (tells a) xs) (has_come (tells a) ys) e
codes_tell (sentence.NeverAfter h a b) xs ys e =
    held_told (is_open (tells a) (tells_any b) xs) (is_open (tells a) (tells_any b) ys) e
codes_tell (sentence.Within r n t) xs ys e =
    waiting_told n (waited (answers r) (asks t) xs) (waited (answers r) (asks t) ys) e
codes_tell (sentence.OneAtATime a b) xs ys e = inside_told (holder a b xs) (holder a b ys) e
codes_tell (sentence.Always c) xs ys e = refl
codes_tell (sentence.Rests t) xs ys e = refl
codes_tell (sentence.End w t) xs ys e = refl
