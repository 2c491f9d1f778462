-- A set of worlds is closed if the events were tried on worlds that are like those of the set.
use Rattle.std.proofs.Common.{◌≡◌, ◌≤◌, ℕ, zero, suc, List, [], ◌∷◌, Option, Some, None, Bool, true, false, refl, sym}
use Rattle.std.proofs.Common.{◌∙◌, ap, subst, length, is_some, arith, ltb-false}
use Rattle.std.proofs.lemmas.Option.{slice_get_past}
use Rattle.fmp_base.specs.declared.events.Event.{Event}
use Rattle.fmp_base.specs.declared.events.Event.TheVariants as event
use Rattle.fmp_base.specs.declared.states.Caller.{Caller}
use Rattle.fmp_base.specs.declared.states.Processor.{Processor}
use Rattle.fmp_base.specs.declared.systems.InterruptConfig.{InterruptConfig}
use Rattle.fmp_base.specs.Meanings.{Meaning, World}
use Rattle.fmp_base.specs.Runs.{Trace, run, run_on}
use Rattle.fmp_base.specs.States.{KernelState, idle, processor_at}
use Rattle.fmp_base.specs.Steps.{Reaction, Nothing, Did, Kept, actor_of, interrupted, run_by, step}
use Rattle.fmp_base.specs.Systems.{SystemTables, found, interrupt_config}
use Rattle.fmp_bisimulation.specs.Closed.{AreAllowed, BothAlike, IsBlind, IsChained, IsClosed, IsCovered, IsRule}
use Rattle.fmp_bisimulation.specs.Closed.{KeepsAlike, LeadsIn, Watch, allowed_after, watched}
use Rattle.fmp_schedules.specs.Likeness.{IsClosedUnder, IsLikeness, StatesAlike}
use Rattle.fmp_schedules.specs.Tried.{IsTried, is_event_of}

-- where an event does nothing in one of two worlds, it does nothing in the other
pub nothing-back : {C : Type 0} (Q : World C → World C → Type 0) (x y : Reaction C) → BothAlike Q x y → y ≡ Nothing
    → x ≡ Nothing
nothing-back Q Nothing y h e = refl
nothing-back Q (Did a) Nothing h e = absurd h
nothing-back Q (Kept p v) Nothing h e = absurd h
nothing-back Q (Did a) (Did b) h e = cc
nothing-back Q (Did a) (Kept q w) h e = absurd h
nothing-back Q (Kept p v) (Did b) h e = absurd h
nothing-back Q (Kept p v) (Kept q w) h e = cc

actor-past : (s : KernelState) (p : ℕ) → length s.processors ≤ p → actor_of (processor_at s p) ≡ None
actor-past s p past = ap (λ (cpu : Option Processor). actor_of (found idle cpu)) (slice_get_past s.processors p past)

module _ {C : Type 0} (sys : SystemTables) (M : Meaning C) (n : ℕ) (w : World C) where
  interrupted-none : (config : Option InterruptConfig) (i : ℕ) → is_some config ≡ false
      → interrupted config sys M w i ≡ Nothing
  interrupted-none None i h = refl
  interrupted-none (Some config) i h = cc

  pub other-nothing : (e : Event) → length w.state.processors ≡ sys.processors → is_event_of sys e ≡ false
      → step sys M n w e ≡ Nothing
  other-nothing (event.Run zero) size none = refl
  other-nothing (event.Run (suc p)) size none =
      let above : sys.processors ≤ p = ltb-false p sys.processors none in
      let past : length w.state.processors ≤ p = omega arith in
      ap (λ (who : Option Caller). run_by sys M n w p who) (actor-past w.state p past)
  other-nothing event.Tick size none = cc
  other-nothing (event.Int zero) size none = refl
  other-nothing (event.Int (suc i)) size none = interrupted-none (interrupt_config sys i) i none

module _ {C S : Type 0} (R : World C → World C → Type 0) (W : Watch S) (chained : IsChained R) (blind : IsBlind W)
    (K : World C → S → Type 0) where
  also-covered : (v w : World C) (a : S) → R v w → IsCovered R K w a → IsCovered R K v a
  also-covered v w a r k = record { world = k.world; alike = chained v w k.world r k.alike; kept = k.kept }

  -- what leads into the set in a world that is like this one does so in this one
  leads-too : (a : S) (x y : Reaction C) → BothAlike R x y → LeadsIn R W K a y → LeadsIn R W K a x
  leads-too a Nothing Nothing both leads = tt
  leads-too a (Did c) (Did d) (lines, alike) leads =
      subst (λ (b : S). IsCovered R K c.world b) (sym (blind a c.lines d.lines lines))
      (also-covered c.world d.world (W.next a d.lines) alike leads)
  leads-too a (Kept p t) (Kept q u) (same, alike) leads = also-covered t u a alike leads
  leads-too a Nothing (Did d) both leads = absurd both
  leads-too a Nothing (Kept q u) both leads = absurd both
  leads-too a (Did c) Nothing both leads = absurd both
  leads-too a (Did c) (Kept q u) both leads = absurd both
  leads-too a (Kept p t) Nothing both leads = absurd both
  leads-too a (Kept p t) (Did d) both leads = absurd both

module _ {C S : Type 0} (sys : SystemTables) (M : Meaning C) (n : ℕ) (R : World C → World C → Type 0)
    (F : World C → Event → Type 0) (like : IsLikeness sys M n R F) (W : Watch S) (may : World C → S → Event → Bool)
    (K : World C → S → Type 0) (blind : IsBlind W)
    (sizes : (w : World C) (a : S) → K w a → length w.state.processors ≡ sys.processors)
    (tried : (w : World C) (a : S) (e : Event) → K w a → is_event_of sys e ≡ true → may w a e ≡ true
    → IsTried R F W (step sys M n) K w a e) where
  pub tried-closed : IsClosed R W may (step sys M n) K
  tried-closed w a e k now = by_event (is_event_of sys e) refl where
    by_event : (b : Bool) → is_event_of sys e ≡ b → LeadsIn R W K a (step sys M n w e)
    by_event true is =
        let t : IsTried R F W (step sys M n) K w a e = tried w a e k is now in
        leads-too R W like.chained blind K a (step sys M n w e) (step sys M n t.world e)
        (like.keeps w t.world e t.alike t.fit) t.leads
    by_event false is =
        subst (λ (x : Reaction C). LeadsIn R W K a x) (sym (other-nothing sys M n w e (sizes w a k) is)) tt

  -- nor does any event lead out of the set from a world that is like one of it
  pub tried-under : IsClosedUnder R W may (step sys M n) K
  tried-under v w a e r k now = by_event (is_event_of sys e) refl where
    by_event : (b : Bool) → is_event_of sys e ≡ b → LeadsIn R W K a (step sys M n v e)
    by_event true is =
        let t : IsTried R F W (step sys M n) K w a e = tried w a e k is now in
        leads-too R W like.chained blind K a (step sys M n v e) (step sys M n t.world e)
        (like.keeps v t.world e (like.chained v w t.world r t.alike) t.fit) t.leads
    by_event false is =
        subst (λ (x : Reaction C). LeadsIn R W K a x)
        (sym (nothing-back (StatesAlike sys) (step sys M n v e) (step sys M n w e) (like.always v w e r)
        (other-nothing sys M n w e (sizes w a k) is))) tt

-- a closed set is closed from worlds that are like those of it, where each event fits
pub closed-under : {C S : Type 0} (R : World C → World C → Type 0) (W : Watch S) → IsChained R → IsBlind W
    → (may : World C → S → Event → Bool) (go : World C → Event → Reaction C) → KeepsAlike R go
    → (K : World C → S → Type 0) → IsClosed R W may go K → IsClosedUnder R W may go K
closed-under R W chained blind may go keeps K closed v w a e r k now =
    leads-too R W chained blind K a (go v e) (go w e) (keeps v w e r) (closed w a e k now)

module _ {C S : Type 0} (R : World C → World C → Type 0) (W : Watch S) (K : World C → S → Type 0) where
  go-on : (next : World C → S → Type 0) (v : World C) (a : S) → IsCovered R K v a → (x : Reaction C)
      (rest : World C → Trace C) → LeadsIn R W K a x → allowed_after W v a x next
      → ((t : World C) (b : S) → next t b → IsCovered R K t b
      → IsCovered R K (rest t).world (watched W b (rest t).events))
      → IsCovered R K (run_on v x rest).world (watched W a (run_on v x rest).events)
  go-on next v a k Nothing rest leads on go = go v a on k
  go-on next v a k (Did c) rest leads on go = go c.world (W.next a c.lines) on leads
  go-on next v a k (Kept p t) rest leads on go = go t a on leads

  -- no list of events that may come leads out of a set that is closed so
  pub under-covers : (may : World C → S → Event → Bool) → IsRule R may → (sys : SystemTables) (M : Meaning C) (n : ℕ)
      → IsClosedUnder R W may (step sys M n) K → (v : World C) (a : S) (es : List Event)
      → AreAllowed W may (step sys M n) v a es → IsCovered R K v a
      → IsCovered R K (run sys M n v es).world (watched W a (run sys M n v es).events)
  under-covers may rule sys M n closed v a [] allowed k = k
  under-covers may rule sys M n closed v a (e ∷ es) (now, later) k =
      go-on (λ t b. AreAllowed W may (step sys M n) t b es) v a k (step sys M n v e) (λ u. run sys M n u es)
      (closed v k.world a e k.alike k.kept (sym (rule v k.world a e k.alike) ∙ now)) later
      (λ t b on l. under-covers may rule sys M n closed t b es on l)
