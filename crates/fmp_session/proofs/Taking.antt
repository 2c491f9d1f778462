-- Sessions that take events one after the other.
use Rattle.std.proofs.Common.{ℕ, ◌≡◌, ◌∙◌, ◌+◌, ◌-◌, ◌<◌, ◌≤◌, ◌^◌, ◌++◌, zero, Bool, true, false, List, [], ◌∷◌, ap}
use Rattle.std.proofs.Common.{ap₂, arith, cond, fold}
use Rattle.std.proofs.Common.{length, length-append, ne_eqb, nat_eq, refl, replicate, slice_index_or, suc, sym, take}
use Rattle.std.proofs.Math.Seq.{take-length, take-suc}
use Rattle.std.proofs.lemmas.List.{replicate-append-replicate}
use Rattle.std.proofs.lemmas.List.Sums.{fold-append}
use borrow.Author.Tests.{eq-eqb}
use Rattle.fmp_base.specs.declared.events.Event.{Event}
use Rattle.fmp_image_bytes.specs.Images.{ImageTables}
use Rattle.fmp_replay.specs.Replays.{reaction}
use Rattle.fmp_session.specs.declared.session.Session.{Session}
use Rattle.fmp_session.specs.declared.session.TakenEvent.{TakenEvent}
use Rattle.fmp_session.specs.declared.session.TakenEvent.TheVariants as taken
use Rattle.fmp_session.specs.Sessions.{IsTakenAs, taken_by, with_event}
use Rattle.fmp_session.specs.Taking.{HasTaken, taking, taking_all}

-- where there is room
with_room : (i : ImageTables) (n : ℕ) (es after : List Event) (e : Event) (t : TakenEvent)
    → t ≡ taken_by (reaction i n es e) → (length es ≡ 2 ^ 20 → ⊥) → after ≡ with_event t e es
    → after ≡ taking i n es e
with_room i n es after e t does room is =
    is ∙ ap (λ (x : TakenEvent). with_event x e es) does
    ∙ sym (ap (λ (full : Bool). cond full es (with_event (taken_by (reaction i n es e)) e es)) (ne_eqb _ _ room))

-- one that does nothing
pub nothing_taken : (i : ImageTables) (n : ℕ) (es after : List Event) (e : Event)
    → taken.Nothing ≡ taken_by (reaction i n es e) → after ≡ es → after ≡ taking i n es e
nothing_taken i n es after e does is = is ∙ go (nat_eq (length es) (2 ^ 20))
  where
    go : (full : Bool) → es ≡ cond full es (with_event (taken_by (reaction i n es e)) e es)
    go true = refl
    go false = ap (λ (x : TakenEvent). with_event x e es) does

-- an event that was taken, and what it came to
pub event_taken : (s : Session) (e : Event) (after : List Event) (t : TakenEvent) → IsTakenAs s e t
    → after ≡ with_event t e s.events.items → length after ≤ 2 ^ 20 → after
    ≡ taking s.image.now s.bound s.events.items e
event_taken s e after taken.Done does is few =
    let more = length-append s.events.items (e ∷ []) in
    let long = ap (λ (xs : List Event). length xs) is in
    with_room s.image.now s.bound s.events.items after e taken.Done does
    (λ full. omega (arith, more, long, few, full)) is
event_taken s e after taken.Kept does is few =
    let more = length-append s.events.items (e ∷ []) in
    let long = ap (λ (xs : List Event). length xs) is in
    with_room s.image.now s.bound s.events.items after e taken.Kept does
    (λ full. omega (arith, more, long, few, full)) is
event_taken s e after taken.Nothing does is few = nothing_taken s.image.now s.bound s.events.items after e does is
event_taken s e after taken.Full full is few =
    is ∙ sym (ap (λ (b : Bool). cond b s.events.items
    (with_event (taken_by (reaction s.image.now s.bound s.events.items e)) e
    s.events.items)) (eq-eqb _ _ full))

-- no event yet
pub has_none : (s : Session) → HasTaken s [] s
has_none s = record { image = refl; bound = refl; events = refl }

-- and then more
pub has_more : (s mid after : Session) (es fs : List Event) → HasTaken s es mid → HasTaken mid fs after
    → HasTaken s (es ++ fs) after
has_more s mid after es fs h k =
    record {
      image = k.image ∙ h.image;
      bound = k.bound ∙ h.bound;
      events =
          k.events ∙ ap₂ (λ (i : ImageTables) (n : ℕ). fold (taking i n) mid.events.items fs) h.image h.bound
          ∙ ap (λ (xs : List Event). fold (taking s.image.now s.bound) xs fs) h.events
          ∙ sym (fold-append (taking s.image.now s.bound) s.events.items es fs);
    }

-- the event at a place of a list, after those before it
pub has_next : (s mid after : Session) (es : List Event) (i : ℕ) (d : Event) → i < length es
    → HasTaken s (take i es) mid → HasTaken mid (slice_index_or es i d ∷ []) after → HasTaken s (take (i + 1) es) after
has_next s mid after es i d within h k =
    let next : i + 1 ≡ suc i = omega arith in
    let taken = ap (λ (n : ℕ). take n es) next ∙ take-suc es i d within in
    let more = has_more s mid after (take i es) (slice_index_or es i d ∷ []) h k in
    record {
      image = more.image;
      bound = more.bound;
      events = more.events ∙ sym (ap (taking_all s) taken);
    }

-- all of them
pub has_all : (s after : Session) (es : List Event) (i : ℕ) → i ≡ length es → HasTaken s (take i es) after
    → HasTaken s es after
has_all s after es i all h =
    record {
      image = h.image;
      bound = h.bound;
      events = h.events ∙ ap (taking_all s) (ap (λ (n : ℕ). take n es) all ∙ take-length es);
    }

-- the same event once more
pub has_again : (s mid after : Session) (e : Event) (i : ℕ) → HasTaken s (replicate i e) mid
    → HasTaken mid (e ∷ []) after → HasTaken s (replicate (i + 1) e) after
has_again s mid after e i h k =
    let more = has_more s mid after (replicate i e) (e ∷ []) h k in
    record {
      image = more.image;
      bound = more.bound;
      events = more.events ∙ ap (taking_all s) (replicate-append-replicate i 1 e);
    }

module _ (i : ImageTables) (n : ℕ) (es : List Event) (e : Event) where
  -- an event that does nothing does nothing again
  stays : (k : ℕ) → taking i n es e ≡ es → fold (taking i n) es (replicate k e) ≡ es
  stays zero same = refl
  stays (suc k) same = ap (λ (xs : List Event). fold (taking i n) xs (replicate k e)) same ∙ stays k same

-- however often it is taken then
pub has_no_more : (s after : Session) (e : Event) (k times : ℕ) → k ≤ times → HasTaken s (replicate k e) after
    → taking after.image.now after.bound after.events.items e ≡ after.events.items
    → HasTaken s (replicate times e) after
has_no_more s after e k times few h same =
    let rest = times - k in
    let all : k + rest ≡ times = omega (arith, few) in
    let more = has_more s after after (replicate k e) (replicate rest e) h (record {
      image = refl;
      bound = refl;
      events = sym (stays after.image.now after.bound after.events.items e rest same);
    }) in
    record {
      image = more.image;
      bound = more.bound;
      events =
          more.events ∙ ap (taking_all s) (replicate-append-replicate k rest e ∙ ap (λ (m : ℕ). replicate m e) all);
    }

-- an event that leaves the events as they were does so again
pub stays_there : (s after : Session) (e : Event) → HasTaken s (e ∷ []) after
    → after.events.items ≡ s.events.items
    → taking after.image.now after.bound after.events.items e ≡ after.events.items
stays_there s after e h same =
    ap₂ (λ (i : ImageTables) (n : ℕ). taking i n after.events.items e) h.image h.bound
    ∙ ap (λ (xs : List Event). taking s.image.now s.bound xs e) same ∙ sym h.events
