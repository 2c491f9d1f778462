-- What comes before a sentence says anything does not break it.
use Rattle.std.proofs.Common.{◌≡◌, ◌∙◌, ℕ, ◌-◌, List, [], ◌∷◌, Option, Some, None, Bool, true, false, not, ◌&&◌}
use Rattle.std.proofs.Common.{◌||◌, ap, refl, sym}
use Rattle.std.specs.Prelude.{if◌then◌else◌, is_some}
use Rattle.fmp_base.specs.declared.events.Line.{Line}
use Rattle.fmp_monitors.specs.declared.happening.Happening.{Happening}
use Rattle.fmp_monitors.specs.declared.sentence.Sentence.{Sentence}
use Rattle.fmp_monitors.specs.declared.sentence.Sentence.TheVariants as sentence
use Rattle.fmp_monitors.specs.Conditions.{holds}
use Rattle.fmp_monitors.specs.Happenings.{answers, are_two, asks, entering, is_tick, tells, tells_any}
use Rattle.fmp_monitors.specs.Meaning.{Seen, OfLine, OfState, breaks, by_line, has_come, holder, is_open, is_owed}
use Rattle.fmp_monitors.specs.Meaning.{is_state_without, is_zero}
use Rattle.fmp_monitors.specs.Monitors.{is_empty_claim, is_premise}

not_told : (h : Bool) → not h ≡ true → h ≡ false
not_told false e = refl
not_told true e = sym e

left_of : (b h : Bool) → (b || h) ≡ false → b ≡ false
left_of false h e = refl
left_of true h e = e

right_of : (b h : Bool) → (b || h) ≡ false → h ≡ false
right_of false h e = e
right_of true h e = ap (λ b. if b then h else false) e

and_none : (c o : Bool) → o ≡ false → (c && o) ≡ false
and_none false o e = refl
and_none true o e = e

open_step : (b c h o : Bool) → (h ≡ false → o ≡ false) → (b || h) ≡ false → (b || (not c && o)) ≡ false
open_step true c h o next e = e
open_step false true h o next e = refl
open_step false false h o next e = next e

-- what was never opened is not open
never_open : (opens closes : Line → Bool) (seen : List Seen) → has_come opens seen ≡ false
    → is_open opens closes seen ≡ false
never_open opens closes [] e = refl
never_open opens closes (x ∷ before) e =
    open_step (by_line opens x) (by_line closes x) (has_come opens before) (is_open opens closes before)
    (never_open opens closes before) e

owed_step : (r i k h z o less : Bool) → (h ≡ false → o ≡ false) → (h ≡ false → less ≡ false) → (i || h) ≡ false →
    (if r then false else if i then z || o else if k then less else o) ≡ false
owed_step true i k h z o less first second e = refl
owed_step false true k h z o less first second e = ap (λ b. if b then z || o else false) e
owed_step false false true h z o less first second e = second e
owed_step false false false h z o less first second e = first e

-- where nothing asks, nothing is owed
never_owed : (answers asks : Line → Bool) (n : ℕ) (seen : List Seen) → has_come asks seen ≡ false
    → is_owed answers asks n seen ≡ false
never_owed answers asks n [] e = refl
never_owed answers asks n (x ∷ before) e =
    owed_step (by_line answers x) (by_line asks x) (by_line is_tick x) (has_come asks before) (is_zero n)
    (is_owed answers asks n before) (is_owed answers asks (n - 1) before) (never_owed answers asks n before)
    (never_owed answers asks (n - 1) before) e

two_none : (inside enters : Option ℕ) → is_some enters ≡ false → are_two inside enters ≡ false
two_none None None e = refl
two_none (Some t) None e = refl
two_none inside (Some u) e = ap (λ b. if b then are_two inside (Some u) else false) e

never_met : (a b : Happening) (before : List Seen) (x : Seen)
    → has_come (is_premise (sentence.OneAtATime a b)) (x ∷ before) ≡ false
    → breaks (sentence.OneAtATime a b) before x ≡ false
never_met a b before (OfState s) e = refl
never_met a b before (OfLine l) e =
    two_none (holder a b before) (entering a l)
    (left_of (is_some (entering a l)) (has_come (is_premise (sentence.OneAtATime a b)) before) e)

none_came : (e : Sentence) (seen : List Seen) → not (has_come (is_premise e) seen) ≡ true
    → has_come (is_premise e) seen ≡ false
none_came e seen = not_told (has_come (is_premise e) seen)

came_before : (e : Sentence) (before : List Seen) (x : Seen) → not (has_come (is_premise e) (x ∷ before)) ≡ true
    → has_come (is_premise e) before ≡ false
came_before e before x p =
    right_of (by_line (is_premise e) x) (has_come (is_premise e) before) (none_came e (x ∷ before) p)

-- a sentence that says nothing of what was seen is not broken by the last of it
pub empty_is_kept : (e : Sentence) (before : List Seen) (x : Seen) → is_empty_claim e (x ∷ before) ≡ true
    → breaks e before x ≡ false
empty_is_kept (sentence.Before a b) before x p =
    ap (λ c. c && not (by_line (tells a) x || has_come (tells a) before))
    (left_of (by_line (tells b) x) (has_come (tells b) before) (none_came (sentence.Before a b) (x ∷ before) p))
empty_is_kept (sentence.NeverAfter h a b) before x p =
    and_none (by_line (tells h) x) (is_open (tells a) (tells_any b) before)
    (never_open (tells a) (tells_any b) before (came_before (sentence.NeverAfter h a b) before x p))
empty_is_kept (sentence.Within r n t) before x p =
    and_none (by_line is_tick x) (is_owed (answers r) (asks t) n before)
    (never_owed (answers r) (asks t) n before (came_before (sentence.Within r n t) before x p))
empty_is_kept (sentence.OneAtATime a b) before x p =
    never_met a b before x (none_came (sentence.OneAtATime a b) (x ∷ before) p)
empty_is_kept (sentence.Never h) before x p = ap (λ b. if b then false else by_line (tells h) x) p
empty_is_kept (sentence.Always c) before x p = ap (λ b. if b then false else is_state_without (holds c) x) p
empty_is_kept (sentence.Rests t) before x p = refl
empty_is_kept (sentence.End s t) before x p = refl
