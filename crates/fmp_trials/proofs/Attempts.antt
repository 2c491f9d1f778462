-- What an attempt to make a run shorter leaves.
use Rattle.std.proofs.Common.{◌≡◌, ◌∙◌, ℕ, ◌+◌, ◌<◌, ◌≤◌, ◌^◌, List, Option, Some, Bool, true, false}
use Rattle.std.proofs.Common.{ap, arith, drop}
use Rattle.std.proofs.Common.{⊎_elim, length, refl, subst, sym, take, length-append, length-drop}
use Rattle.std.proofs.lemmas.List.{length-take-le}
use Rattle.std.proofs.Math.Nat.{eq-or-lt_of_le}
use Rattle.fmp_base.specs.declared.events.Event.{Event}
use Rattle.fmp_base.specs.Meanings.{Meaning}
use Rattle.fmp_expect.specs.declared.checker.BrokenExpectation.{BrokenExpectation}
use Rattle.fmp_trials.specs.declared.shortening.FailingRun.{FailingRun}
use Rattle.fmp_trials.specs.Shortening.{GoesOn, HasTaken, IsFailing, IsTried, NoneCanGo}
use Rattle.fmp_trials.specs.Trials.{Breaks, IsShortest, Subject, broken_by, is_at, without}

front_left : (es : List Event) (first end : ℕ) → first ≤ end → end ≤ length es → first ≤ length (without es first end)
front_left es first end low high =
    rw (length-append (take first es) (drop end es)) (omega (arith, length-take-le first es (omega (arith, low, high))))

-- leaving out makes no run longer
pub few_left : (es : List Event) (first end : ℕ) → first ≤ end → end ≤ length es
    → length (without es first end) ≤ length es
few_left es first end low high =
    rw (length-append (take first es) (drop end es))
    (omega (arith, length-take-le first es (omega (arith, low, high)), length-drop end es, low, high))

one_fewer : (es : List Event) (place : ℕ) → place < length es → length (without es place (place + 1)) < length es
one_fewer es place below =
    rw (length-append (take place es) (drop (place + 1) es))
    (omega (arith, length-take-le place es (omega (arith, below)), length-drop (place + 1) es, below))

-- one place more, where events were left out before or are now
pub fewer_more : (before after : Bool) (first was now : ℕ) → (before ≡ true → was < first) → was ≤ first
    → (after ≡ true → before ≡ false → now < was) → now ≤ was → after ≡ true → now < first
fewer_more true after first was now left low fewer no_longer some = omega (arith, left refl, no_longer)
fewer_more false after first was now left low fewer no_longer some = omega (arith, low, fewer some refl)

abbrev with_room : FailingRun → ℕ → FailingRun
with_room run r = record run { room = r }

module _ {B C J : Type 0} (meaning : B → Meaning C) (breaks : Breaks B C J) (s : Subject B C J) where
  pub failing_after : (old new : FailingRun) (r : ℕ) (es : List Event) (verdict : Option BrokenExpectation)
      (done : Bool)
      → IsFailing meaning breaks s old → length es ≤ 2 ^ 20 → verdict ≡ broken_by meaning breaks s es
      → HasTaken (with_room old r) new es verdict done → IsFailing meaning breaks s new
  failing_after old new r es verdict true failing few is h =
      record {
        fails = ap (broken_by meaning breaks s) h.0 ∙ sym is ∙ h.1;
        few = subst (λ (xs : List Event). length xs ≤ 2 ^ 20) (sym h.0) few;
      }
  failing_after old new r es verdict false failing few is h =
      record {
        fails = ap (broken_by meaning breaks s) h.0 ∙ failing.fails ∙ ap Some (sym h.1);
        few = subst (λ (xs : List Event). length xs ≤ 2 ^ 20) (sym h.0) failing.few;
      }

  pub tried_after : (old new : FailingRun) (r : ℕ) (es : List Event) (verdict : Option BrokenExpectation) (done : Bool)
      → verdict ≡ broken_by meaning breaks s es → HasTaken (with_room old r) new es verdict done
      → IsTried meaning breaks s old new es done
  tried_after old new r es verdict true is h = h.0
  tried_after old new r es verdict false is h = (h.0, λ _. ap (is_at old.broken.line) (sym is) ∙ h.2)

  pub failing_there : (s' : Subject B C J) (run : FailingRun) → s' ≡ s → IsFailing meaning breaks s run
      → IsFailing meaning breaks s' run
  failing_there s' run same h = subst (λ (x : Subject B C J). IsFailing meaning breaks x run) (sym same) h

  pub tried_there : (s' : Subject B C J) (old new : FailingRun) (es : List Event) (done : Bool) → s' ≡ s
      → IsTried meaning breaks s old new es done → IsTried meaning breaks s' old new es done
  tried_there s' old new es done same h =
      subst (λ (x : Subject B C J). IsTried meaning breaks x old new es done) (sym same) h

  pub none_there : (s' : Subject B C J) (run : FailingRun) (place : ℕ) (dropped : Bool) → s' ≡ s
      → NoneCanGo meaning breaks s run place dropped → NoneCanGo meaning breaks s' run place dropped
  none_there s' run place dropped same h =
      subst (λ (x : Subject B C J). NoneCanGo meaning breaks x run place dropped) (sym same) h

  pub few_after : (run : FailingRun) (left : List Event) (first end : ℕ) → IsFailing meaning breaks s run → first ≤ end
      → end ≤ length run.steps.items → left ≡ without run.steps.items first end → length left ≤ 2 ^ 20
  few_after run left first end failing low high is =
      subst (λ (xs : List Event). length xs ≤ 2 ^ 20) (sym is)
      (omega (arith, failing.few, few_left run.steps.items first end low high))

  -- what is left has the events in front of the piece
  pub left_after : (old new : FailingRun) (first end : ℕ) (done : Bool) → first ≤ end → end ≤ length old.steps.items
      → IsTried meaning breaks s old new (without old.steps.items first end) done → first ≤ length new.steps.items
  left_after old new first end true low high h =
      subst (λ (xs : List Event). first ≤ length xs) (sym h) (front_left old.steps.items first end low high)
  left_after old new first end false low high h =
      subst (λ (xs : List Event). first ≤ length xs) (sym h.0) (omega (arith, low, high))

  pub fewer_after : (old new : FailingRun) (place : ℕ) (gone : Bool) → place < length old.steps.items
      → IsTried meaning breaks s old new (without old.steps.items place (place + 1)) gone → gone ≡ true
      → length new.steps.items < length old.steps.items
  fewer_after old new place true below h went =
      subst (λ (xs : List Event). length xs < length old.steps.items) (sym h) (one_fewer old.steps.items place below)
  fewer_after old new place false below h went = absurd (cc (went))

  pub no_longer_after : (old new : FailingRun) (place : ℕ) (gone : Bool) → place < length old.steps.items
      → IsTried meaning breaks s old new (without old.steps.items place (place + 1)) gone
      → length new.steps.items ≤ length old.steps.items
  no_longer_after old new place true below h =
      let fewer = fewer_after old new place true below h refl in
      omega (arith, fewer)
  no_longer_after old new place false below h =
      subst (λ (xs : List Event). length xs ≤ length old.steps.items) (sym h.0) (omega arith)

  -- nothing can go after the last event
  pub none_after : (run : FailingRun) → NoneCanGo meaning breaks s run (length run.steps.items) false
  none_after run = λ _ room i from below. absurd (omega (arith, from, below))

  pub any_can_go : (run : FailingRun) (place : ℕ) → NoneCanGo meaning breaks s run place true
  any_can_go run place = λ so. absurd (cc)

  -- one place more
  pub none_more : (old new : FailingRun) (place : ℕ) (dropped : Bool) → new.broken.line ≡ old.broken.line
      → new.room ≤ old.room → IsTried meaning breaks s old new (without old.steps.items place (place + 1)) false
      → NoneCanGo meaning breaks s old (place + 1) dropped → NoneCanGo meaning breaks s new place dropped
  none_more old new place dropped line room h later = λ so left i from below.
      let es = old.steps.items in
      let inside : i < length es = subst (λ (xs : List Event). i < length xs) h.0 below in
      let held : is_at old.broken.line (broken_by meaning breaks s (without es i (i + 1))) ≡ false =
      ⊎_elim
      (λ (e : place ≡ i).
      subst (λ (j : ℕ). is_at old.broken.line (broken_by meaning breaks s (without es j (j + 1))) ≡ false) e
      (h.1 left))
      (λ (lt : place < i). later so (omega (arith, left, room)) i (omega (arith, lt)) inside)
      (eq-or-lt_of_le from) in
      subst (λ (xs : List Event). is_at new.broken.line (broken_by meaning breaks s (without xs i (i + 1))) ≡ false)
      (sym h.0) (subst (λ (l : ℕ). is_at l (broken_by meaning breaks s (without es i (i + 1))) ≡ false) (sym line) held)

  -- where all places were looked at, none can go
  pub shortest : (run : FailingRun) → 0 < run.room → NoneCanGo meaning breaks s run 0 false
      → IsShortest meaning breaks s run.steps.items run.broken.line
  shortest run room none = λ i below. none refl room i (omega arith) below

module _ {B C J : Type 0} (meaning : B → Meaning C) (breaks : Breaks B C J) where
  -- where an event was tried and stays
  pub none_can_go_after : (s s' : Subject B C J) (old new : FailingRun) (place : ℕ) (gone dropped : Bool) → s' ≡ s
      → gone ≡ false → GoesOn old new
      → IsTried meaning breaks s' old new (without old.steps.items place (place + 1)) gone
      → NoneCanGo meaning breaks s old (place + 1) dropped → NoneCanGo meaning breaks s' new place dropped
  none_can_go_after s s' old new place gone dropped same stays on tried later =
      none_more meaning breaks s' old new place dropped on.line on.room
      (subst (λ (b : Bool). IsTried meaning breaks s' old new (without old.steps.items place (place + 1)) b) stays
      tried)
      (none_there meaning breaks s s' old (place + 1) dropped same later)

  -- where nothing was dropped and there is room left
  pub shortest_at : (s : Subject B C J) (run : FailingRun) (dropped : Bool) → dropped ≡ false → 0 < run.room
      → NoneCanGo meaning breaks s run 0 dropped → IsShortest meaning breaks s run.steps.items run.broken.line
  shortest_at s run dropped stays room none =
      shortest meaning breaks s run room (subst (λ (b : Bool). NoneCanGo meaning breaks s run 0 b) stays none)
