-- A closed set in whose worlds each event was tried shows what no event of a schedule tells.
use Rattle.std.proofs.Common.{◌≡◌, ℕ, List, [], ◌∷◌, ◌++◌, Bool, true, false, ◌||◌, refl, sym, ◌∙◌, ap₂, subst}
use Rattle.std.specs.List.{list_any}
use Rattle.fmp_base.specs.declared.events.Event.{Event}
use Rattle.fmp_base.specs.declared.events.Line.{Line}
use Rattle.fmp_base.specs.Meanings.{Meaning, World}
use Rattle.fmp_base.specs.Runs.{Trace, run, run_on}
use Rattle.fmp_base.specs.Setups.{setup}
use Rattle.fmp_base.specs.Steps.{Reaction, Nothing, Did, Kept, step}
use Rattle.fmp_base.specs.Systems.{SystemTables}
use Rattle.fmp_bisimulation.specs.Closed.{AreAllowed, BothAlike, Watch, all_timeless, allowed_after, timeless, watched}
use Rattle.fmp_schedules.specs.Likeness.{StatesAlike}
use Rattle.fmp_schedules.specs.Schedules.{HoldsThere, IsSilent, Rules, Watched, at_first, lines_after, may_come}
use Rattle.fmp_schedules.specs.Schedules.{reached, watch, watched_at_setup}
use Rattle.fmp_schedules.specs.Tried.{AreSilent, IsEven, IsSearched, IsTimeless, IsTriedSilent, is_event_of}
use Rattle.fmp_schedules.proofs.HoldLaws.{searched-covered}
use Rattle.fmp_schedules.proofs.RuleLaws.{may_come-same}
use Rattle.fmp_schedules.proofs.TriedLaws.{nothing-back, other-nothing}

-- the last event of a list that is allowed may come to the world that the others leave, and they are allowed
module _ {C S : Type 0} (W : Watch S) (may : World C → S → Event → Bool) (sys : SystemTables) (M : Meaning C) (n : ℕ)
  where
    abbrev Allowed : World C → S → List Event → Type 0
    Allowed v a es = AreAllowed W may (step sys M n) v a es

    abbrev MayAfter : S → Trace C → Event → Type 0
    MayAfter a t e = may t.world (watched W a t.events) e ≡ true

    abbrev MayLast : World C → S → List Event → Event → Type 0
    MayLast v a es e = Allowed v a es × MayAfter a (run sys M n v es) e

    last-after : (v : World C) (a : S) (es : List Event) (e : Event) (r : Reaction C)
        → ((u : World C) (b : S) → Allowed u b (es ++ e ∷ []) → MayLast u b es e)
        → allowed_after W v a r (λ u b. Allowed u b (es ++ e ∷ []))
        → allowed_after W v a r (λ u b. Allowed u b es) × MayAfter a (run_on v r (λ u. run sys M n u es)) e
    last-after v a es e Nothing more h = more v a h
    last-after v a es e (Did d) more h = more d.world (W.next a d.lines) h
    last-after v a es e (Kept p u) more h = more u a h

    pub last-allowed : (v : World C) (a : S) (es : List Event) (e : Event) → Allowed v a (es ++ e ∷ [])
        → MayLast v a es e
    last-allowed v a [] e (now, later) = (tt, now)
    last-allowed v a (f ∷ es) e (now, later) =
        let rest = last-after v a es e (step sys M n v f) (λ u b h. last-allowed u b es e h) later in
        ((now, rest.0), rest.1)

module _ {C : Type 0} (R : World C → World C → Type 0) (forbidden : World C → Line → Bool) (even : IsEven R forbidden)
  where
    none-too : (v w : World C) → R v w → (ls ms : List Line) → all_timeless ls ≡ all_timeless ms
        → list_any (forbidden v) ls ≡ list_any (forbidden w) ms
    none-too v w alike [] [] same = refl
    none-too v w alike [] (m ∷ ms) same = absurd (cc)
    none-too v w alike (l ∷ ls) [] same = absurd (cc)
    none-too v w alike (l ∷ ls) (m ∷ ms) same =
        let first : timeless l ≡ timeless m = cc in
        let more : all_timeless ls ≡ all_timeless ms = cc in
        ap₂ (λ (a b : Bool). a || b) (even v w l m alike first) (none-too v w alike ls ms more)

    -- what is silent in a world like this one is silent in this one
    silent-too : (x y : Reaction C) → BothAlike R x y → IsSilent forbidden y → IsSilent forbidden x
    silent-too Nothing Nothing both h = tt
    silent-too (Did c) (Did d) (lines, alike) h = none-too c.world d.world alike c.lines d.lines lines ∙ h
    silent-too (Kept p t) (Kept q u) both h = tt
    silent-too Nothing (Did d) both h = absurd both
    silent-too Nothing (Kept q u) both h = absurd both
    silent-too (Did c) Nothing both h = absurd both
    silent-too (Did c) (Kept q u) both h = absurd both
    silent-too (Kept p t) Nothing both h = absurd both
    silent-too (Kept p t) (Did d) both h = absurd both

module _ {C : Type 0} (rules : Rules) (sys : SystemTables) (M : Meaning C) (n : ℕ) (forbidden : Line → Bool)
    (rest : List Bool) (K : World C → Watched → Type 0) (even : IsTimeless forbidden) (R : World C → World C → Type 0)
    (F : World C → Event → Type 0) (h : IsSearched R F rules sys M n forbidden rest K)
    (there : World C → Line → Bool) (level : IsEven R there) (silent : AreSilent R F rules sys M n there K) where
  abbrev Silent : World C → Event → Type 0
  Silent w e = IsSilent there (step sys M n w e)

  -- an event that may come to a world of the set is silent in each world that is like it
  kept-silent : (v w : World C) (a : Watched) (e : Event) → R v w → K w a → may_come rules sys M n w a e ≡ true
      → Silent v e
  kept-silent v w a e r k now = by_event (is_event_of sys e) refl where
    by_event : (b : Bool) → is_event_of sys e ≡ b → Silent v e
    by_event true is =
        let t : IsTriedSilent R F sys M n there w e = silent w a e k is now in
        silent-too R there level (step sys M n v e) (step sys M n t.world e)
        (h.like.keeps v t.world e (h.like.chained v w t.world r t.alike) t.fit) t.silent
    by_event false is =
        subst (λ (x : Reaction C). IsSilent there x)
        (sym (nothing-back (StatesAlike sys) (step sys M n v e) (step sys M n w e) (h.like.always v w e r)
        (other-nothing sys M n w e (h.whole w a k) is))) tt

  -- a search in which each event that was tried was silent shows that every event of a schedule is
  pub searched-silent : HoldsThere rules sys M n forbidden there
  searched-silent =
      record {
        silent = λ es e schedule.
            let last = last-allowed (watch rules forbidden) (may_come rules sys M n) sys M n (setup sys M).world
            (watched_at_setup rules sys M forbidden) es e schedule in
            let k = searched-covered rules sys M n forbidden rest K even R F h es last.0 in
            let v = reached sys M n es in
            let a = watched (watch rules forbidden) (at_first rules.monitors) (lines_after sys M n es) in
            kept-silent v k.world a e k.alike k.kept
            (sym (may_come-same sys M n R F h.like rules v k.world a e k.alike) ∙ last.1);
      }
