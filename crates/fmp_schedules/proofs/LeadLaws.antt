-- Lists of events that may come, whatever comes behind them, and what they lead to.
use Rattle.std.proofs.Common.{◌≡◌, ◌∙◌, ℕ, suc, List, [], ◌∷◌, ◌++◌, Some, Bool, true, refl, sym, ap, subst}
use Rattle.std.proofs.Common.{append_assoc, append-nil}
use Rattle.fmp_base.specs.declared.events.Event.{Event}
use Rattle.fmp_base.specs.declared.events.Event.TheVariants as event
use Rattle.fmp_base.specs.declared.events.Line.{Line}
use Rattle.fmp_base.specs.Meanings.{Meaning, World}
use Rattle.fmp_base.specs.Runs.{run, run_on, done_events, done_on}
use Rattle.fmp_base.specs.Steps.{Done, Reaction, Did, Kept, step, with_place}
use Rattle.fmp_base.specs.Stretches as ends
use Rattle.fmp_base.specs.Systems.{SystemTables}
use Rattle.fmp_bisimulation.specs.Closed.{AreAllowed, allowed_after}
use Rattle.fmp_schedules.specs.Schedules.{Rules, Watched, may_come, stays_within, watch, watched_on}
use Rattle.fmp_schedules.proofs.KeptPlaces.{Keeps, ends_, keeps, run-is}

-- From v, where a is watched, these events may come one after the other, and lead to x, where b is watched, by these
-- lines; of them these are done. All three are said of whatever events come behind them.
pub record Leads {C : Type 0} (rules : Rules) (sys : SystemTables) (N : Meaning C) (n : ℕ) (forbidden : Line → Bool)
    (v : World C) (a : Watched) (es : List Event) (x : World C) (b : Watched) (told : List (List Line))
    (ds : List Event) : Type 0 where
  pub allowed :
      (fs : List Event) → AreAllowed (watch rules forbidden) (may_come rules sys N n) (step sys N n) x b fs →
      AreAllowed (watch rules forbidden) (may_come rules sys N n) (step sys N n) v a (es ++ fs)
  pub world : (fs : List Event) → (run sys N n v (es ++ fs)).world ≡ (run sys N n x fs).world
  pub lines : (fs : List Event) → (run sys N n v (es ++ fs)).events ≡ told ++ (run sys N n x fs).events
  pub finishes : (fs : List Event) → done_events sys N n v (es ++ fs) ≡ ds ++ done_events sys N n x fs

module _ {C : Type 0} (rules : Rules) (sys : SystemTables) (N : Meaning C) (n : ℕ) (forbidden : Line → Bool) where
  abbrev pub Way : World C → Watched → List Event → World C → Watched → List (List Line) → List Event → Type 0
  Way v a es x b told done = Leads rules sys N n forbidden v a es x b told done

  abbrev Allowed : World C → Watched → List Event → Type 0
  Allowed v a es = AreAllowed (watch rules forbidden) (may_come rules sys N n) (step sys N n) v a es

  pub no-way : (v : World C) (a : Watched) → Way v a [] v a [] []
  no-way v a =
      record { allowed = λ fs h. h; world = λ fs. refl; lines = λ fs. refl; finishes = λ fs. refl }

  pub way-on : (v x y : World C) (a b c : Watched) (es fs : List Event) (told more : List (List Line))
      (done others : List Event) → Way v a es x b told done → Way x b fs y c more others
      → Way v a (es ++ fs) y c (told ++ more) (done ++ others)
  way-on v x y a b c es fs told more done others h k =
      record {
        allowed = λ gs l.
            subst (λ (all : List Event). Allowed v a all) (sym (append_assoc es fs gs))
            (h.allowed (fs ++ gs) (k.allowed gs l));
        world = λ gs.
            ap (λ (all : List Event). (run sys N n v all).world) (append_assoc es fs gs)
            ∙ h.world (fs ++ gs) ∙ k.world gs;
        lines = λ gs.
            ap (λ (all : List Event). (run sys N n v all).events) (append_assoc es fs gs)
            ∙ h.lines (fs ++ gs) ∙ ap (λ (rest : List (List Line)). told ++ rest) (k.lines gs)
            ∙ sym (append_assoc told more (run sys N n y gs).events);
        finishes = λ gs.
            ap (λ (all : List Event). done_events sys N n v all) (append_assoc es fs gs)
            ∙ h.finishes (fs ++ gs) ∙ ap (λ (rest : List Event). done ++ rest) (k.finishes gs)
            ∙ sym (append_assoc done others (done_events sys N n y gs));
      }

  one-kept : (v u : World C) (a : Watched) (p q : ℕ) → step sys N n v (event.Run p) ≡ Kept q u
      → Way v a (event.Run p ∷ []) u a [] []
  one-kept v u a p q e =
      record {
        allowed = λ fs h. (
          ap (λ (r : Reaction C). stays_within rules.queued r) e,
          subst (λ (r : Reaction C). allowed_after (watch rules forbidden) v a r (λ t b. Allowed t b fs)) (sym e) h,
        );
        world = λ fs. ap (λ (r : Reaction C). (run_on v r (λ t. run sys N n t fs)).world) e;
        lines = λ fs. ap (λ (r : Reaction C). (run_on v r (λ t. run sys N n t fs)).events) e;
        finishes = λ fs. ap (λ (r : Reaction C). done_on v (event.Run p) r (λ t. done_events sys N n t fs)) e;
      }

  pub one-done : (v : World C) (a : Watched) (e : Event) (d : Done C) → step sys N n v e ≡ Did d
      → may_come rules sys N n v a e ≡ true
      → Way v a (e ∷ []) d.world (watched_on rules forbidden a d.lines) (d.lines ∷ []) (e ∷ [])
  one-done v a e d is may =
      record {
        allowed = λ fs h. (
          may,
          subst (λ (r : Reaction C). allowed_after (watch rules forbidden) v a r (λ t b. Allowed t b fs)) (sym is) h,
        );
        world = λ fs. ap (λ (r : Reaction C). (run_on v r (λ t. run sys N n t fs)).world) is;
        lines = λ fs. ap (λ (r : Reaction C). (run_on v r (λ t. run sys N n t fs)).events) is;
        finishes = λ fs. ap (λ (r : Reaction C). done_on v e r (λ t. done_events sys N n t fs)) is;
      }

  pub kept-way : (v x : World C) (a : Watched) (es : List Event) → Keeps sys N n v es x → Way v a es x a [] []
  kept-way _ _ a _ (ends_ v) = no-way v a
  kept-way _ _ a _ (keeps v x p who c next es is there cut more) =
      way-on v (with_place v p who next) x a a a (event.Run (suc p) ∷ []) es [] [] [] []
      (one-kept v (with_place v p who next) a (suc p) p
      (run-is sys N n v p who c (ends.Over (Some next)) is there cut))
      (kept-way (with_place v p who next) x a es more)

  -- with nothing behind them
  pub way-allowed : (v x : World C) (a b : Watched) (es : List Event) (told : List (List Line)) (done : List Event)
      → Way v a es x b told done → Allowed v a es
  way-allowed v x a b es told done h =
      subst (λ (all : List Event). Allowed v a all) (append-nil es) (h.allowed [] tt)

  pub way-world : (v x : World C) (a b : Watched) (es : List Event) (told : List (List Line)) (done : List Event)
      → Way v a es x b told done → (run sys N n v es).world ≡ x
  way-world v x a b es told done h =
      ap (λ (all : List Event). (run sys N n v all).world) (sym (append-nil es)) ∙ h.world []

  pub way-lines : (v x : World C) (a b : Watched) (es : List Event) (told : List (List Line)) (done : List Event)
      → Way v a es x b told done → (run sys N n v es).events ≡ told
  way-lines v x a b es told done h =
      ap (λ (all : List Event). (run sys N n v all).events) (sym (append-nil es)) ∙ h.lines [] ∙ append-nil told

  pub way-done : (v x : World C) (a b : Watched) (es : List Event) (told : List (List Line)) (done : List Event)
      → Way v a es x b told done → done_events sys N n v es ≡ done
  way-done v x a b es told done h =
      ap (λ (all : List Event). done_events sys N n v all) (sym (append-nil es)) ∙ h.finishes [] ∙ append-nil done
