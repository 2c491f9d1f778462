-- What a session leaves that is not changed.
use Rattle.std.proofs.Common.{◌≡◌, ◌++◌, ℕ, List, [], ◌∷◌, Option, Result, Ok, Err, IfOk, false, refl}
use Rattle.fmp_base.specs.declared.events.Event.{Event}
use Rattle.fmp_files.specs.Deeds.{Begins, Deed, Does, wrote}
use Rattle.fmp_files.specs.Outside.{Files}
use Rattle.fmp_files.specs.PrintsLaws.{does_nothing}
use Rattle.fmp_session.specs.declared.session.Session.{Session}
use Rattle.fmp_session.specs.declared.session.TakenEvent.{TakenEvent}
use Rattle.fmp_session.specs.declared.session.TakenEvent.TheVariants as taken
use Rattle.fmp_session.specs.Sessions.{with_event}
use Rattle.fmp_session.specs.Taking.{HasTaken}
use Rattle.fmp_session.proofs.Taking.{has_more, has_none}
use Rattle.fmp_view.specs.declared.answering.Answer.{Answer}
use Rattle.fmp_view.specs.declared.answering.Answer.TheVariants as answer
use Rattle.fmp_view.specs.Apart.{IsApartFromTexts}
use Rattle.fmp_view.specs.Stepped.{GoesOn, IfTold, IsNoFile, IsRefused, IsTold, Leaves, Saves, is_deed}
use Rattle.fmp_trace.specs.Steps.{steps_text}
use Rattle.fmp_warnings.specs.declared.verdicts.FileNames.{FileNames}

pub leaves_same : (s : Session) (a : Answer) → Leaves s s a
leaves_same s (answer.Told text) = tt
leaves_same s (answer.Refused reason) = refl
leaves_same s (answer.NoFile failure) = refl

pub leaves_all : {E : Type 0} (s : Session) (r : Result Answer E) → IfOk r (Leaves s s)
leaves_all s (Ok a) = leaves_same s a
leaves_all s (Err e) = tt

module _ (files : Files) (texts : FileNames) (name : List ℕ) (es : List Event) where
  -- a line that is refused writes nothing
  pub refused_saves :
      {E : Type 0} (done : Option (List Deed)) (r : Result Answer E) → IfOk r IsRefused
      → IfOk r (Saves files texts name es done done)
  refused_saves now (Ok (answer.Told text)) is = absurd is
  refused_saves now (Ok (answer.Refused reason)) is = does_nothing now
  refused_saves now (Ok (answer.NoFile failure)) is = absurd is
  refused_saves now (Err e) is = tt

  pub told_saves :
      {E : Type 0} (before after : Option (List Deed)) (r : Result Answer E) → IfOk r IsTold
      → IsApartFromTexts files texts name → Does before (wrote name (steps_text es) ∷ []) after
      → IfOk r (Saves files texts name es before after)
  told_saves before after (Ok (answer.Told text)) is apart done = (apart, done)
  told_saves before after (Ok (answer.Refused reason)) is apart done = absurd is
  told_saves before after (Ok (answer.NoFile failure)) is apart done = absurd is
  told_saves before after (Err e) is apart done = tt

  pub no_file_saves :
      {E : Type 0} (before after : Option (List Deed)) (r : Result Answer E) → IfOk r IsNoFile
      → IsApartFromTexts files texts name → Begins (wrote name) (steps_text es) before after
      → IfOk r (Saves files texts name es before after)
  no_file_saves before after (Ok (answer.Told text)) is apart begins = absurd is
  no_file_saves before after (Ok (answer.Refused reason)) is apart begins = absurd is
  no_file_saves before after (Ok (answer.NoFile failure)) is apart begins = (apart, begins)
  no_file_saves before after (Err e) is apart begins = tt

-- what is so where something is told
pub refused_told : {E : Type 0} (P : Type 0) (r : Result Answer E) → IfOk r IsRefused → IfOk r (IfTold P)
refused_told P (Ok (answer.Told text)) is = absurd is
refused_told P (Ok (answer.Refused reason)) is = tt
refused_told P (Ok (answer.NoFile failure)) is = absurd is
refused_told P (Err e) is = tt

pub no_file_told : {E : Type 0} (P : Type 0) (r : Result Answer E) → IfOk r IsNoFile → IfOk r (IfTold P)
no_file_told P (Ok (answer.Told text)) is = absurd is
no_file_told P (Ok (answer.Refused reason)) is = absurd is
no_file_told P (Ok (answer.NoFile failure)) is = tt
no_file_told P (Err e) is = tt

pub told_so : {E : Type 0} (P Q : Type 0) (r : Result Answer E) → (P → Q) → IfOk r (IfTold P) → IfOk r (IfTold Q)
told_so P Q (Ok (answer.Told text)) then is = then is
told_so P Q (Ok (answer.Refused reason)) then is = tt
told_so P Q (Ok (answer.NoFile failure)) then is = tt
told_so P Q (Err e) then is = tt

-- an event that did nothing is none of the events
pub no_deed : (t : TakenEvent) (e : Event) (es : List Event) → is_deed t ≡ false → with_event t e es ≡ es
no_deed taken.Done e es isnt = cc
no_deed taken.Kept e es isnt = cc
no_deed taken.Nothing e es isnt = refl
no_deed taken.Full e es isnt = refl

-- events that are taken as they come
pub goes_none : (s : Session) → GoesOn s s
goes_none s = record { events = []; taken = has_none s }

pub goes_more : (s mid after : Session) (e : Event) → GoesOn s mid → HasTaken mid (e ∷ []) after → GoesOn s after
goes_more s mid after e h k =
    record { events = h.events ++ e ∷ []; taken = has_more s mid after h.events (e ∷ []) h.taken k }

pub goes_then : (s mid after : Session) → GoesOn s mid → GoesOn mid after → GoesOn s after
goes_then s mid after h k =
    record { events = h.events ++ k.events; taken = has_more s mid after h.events k.events h.taken k.taken }
