-- What a run of one meaning finishes, said of another to which it is tied both ways.
use Rattle.std.specs.Prelude.{ℕ, zero, suc, ◌+◌, ◌<◌, ◌≤◌, ◌≡◌, refl, List, [], ◌∷◌, length, take, Option, Some, None}
use Rattle.std.proofs.Common.{sym, ap, ◌∙◌, arith}
use Rattle.fmp_base.specs.declared.events.Effect.{Effect}
use Rattle.fmp_base.specs.declared.events.Event.{Event}
use Rattle.fmp_base.specs.declared.events.Event.TheVariants.{Run, Tick, Int}
use Rattle.fmp_base.specs.declared.events.Line.{Line}
use Rattle.fmp_base.specs.Meanings.{Meaning, World}
use Rattle.fmp_base.specs.Runs.{Trace, after_first, run, run_on, done_events, done_on, effects, effects_on}
use Rattle.fmp_base.specs.Runs.{completed_by, completed_on, complete_run}
use Rattle.fmp_base.specs.Steps.{Reaction, Nothing, Did, Kept, with_place, step}
use Rattle.fmp_base.specs.Systems.{SystemTables}
use Rattle.fmp_base.specs.Ties.{KeepsTie, HeldTied, WorldTied, KeptOn, DoneTied, TraceAgrees}
use Rattle.fmp_base.specs.TieLaws.{grown, held_grown, step-tied}
use Rattle.fmp_base.specs.Finishes.{ended_in, Finishes, over, did, did_nothing, kept, IsComplete}

-- what the tied run of the other meaning leaves: the same lines and the same state at the end
pub record FinishedLike {C D : Type 0} (sys : SystemTables) (M : Meaning C) (again : ℕ → C → C → Type 0) (t : ℕ)
    (v : World C) (es : List Event) (xs : List Effect) (ds : List Event) (s : Trace D) : Type 0 where
  pub trace : Trace C
  pub finishes : Finishes sys M again t v es xs ds trace
  pub events : trace.events ≡ s.events
  pub state : trace.world.state ≡ s.world.state

-- R i ties contexts after i events
module _ {C D : Type 0} (sys : SystemTables) (A : ℕ → D → C → Type 0) (R : ℕ → ℕ → D → C → Type 0) (M : Meaning C)
    (t : ℕ) (N : Meaning D) (n q : ℕ)
    (again : ℕ → C → C → Type 0) (from : (i : ℕ) → i < q → KeepsTie A (R i) (R (suc i)) again N n M t)
    (nothing : (i : ℕ) (w : World D) (v : World C) (e : Event) → i < q → WorldTied sys A (R i) w v
    → step sys N n w e ≡ Nothing →
    (s : ℕ) → step sys M s v e ≡ Nothing) where
  step_like : (i : ℕ) (w : World D) (v : World C) (e : Event) (es : List Event) (x : Reaction D) (y : Reaction C)
      → i < q
      → step sys N n w e ≡ x → step sys M t v e ≡ y → WorldTied sys A (R i) w v
      → DoneTied sys A (R (suc i)) (KeptOn sys A (R (suc i)) again v e) x y
      → WorldTied sys A (R (suc i)) w v
      → (xs : World D → List Effect) (ds : World D → List Event) (s : World D → Trace D)
      → ((w' : World D) (v' : World C) → WorldTied sys A (R (suc i)) w' v'
      → FinishedLike sys M again t v' es (xs w') (ds w') (s w'))
      → FinishedLike sys M again t v (e ∷ es) (effects_on w x xs) (done_on w e x ds) (run_on w x s)
  step_like i w v e es Nothing y lt p r h k g xs ds s rest =
      let l = rest w v g in
      record {
        trace = l.trace;
        finishes = did_nothing v e es (xs w) (ds w) l.trace (nothing i w v e lt h p) l.finishes;
        events = l.events;
        state = l.state;
      }
  step_like i w v (Run zero) es (Kept c w') y lt p r h k g xs ds s rest = absurd k
  step_like i w v Tick es (Kept c w') y lt p r h k g xs ds s rest = absurd k
  step_like i w v (Int a) es (Kept c w') y lt p r h k g xs ds s rest = absurd k
  step_like i w v (Run (suc a)) es (Kept c w') y lt p r h k g xs ds s rest =
      let l = rest w' (with_place v a k.who k.next) k.tied in
      record {
        trace = l.trace;
        finishes = kept v a k.who k.context k.next es (xs w') (ds w') l.trace k.actor k.there k.leads l.finishes;
        events = l.events;
        state = l.state;
      }
  step_like i w v e es (Did d) Nothing lt p r h k g xs ds s rest = absurd k
  step_like i w v e es (Did d) (Kept c d') lt p r h k g xs ds s rest = absurd k
  step_like i w v e es (Did d) (Did d') lt p r h k g xs ds s rest =
      let l = rest d.world d'.world k.1 in
      record {
        trace = after_first d'.lines l.trace;
        finishes = did v e es (xs d.world) (ds d.world) d' l.trace r l.finishes;
        events = ap (λ (ls : List Line). ls ∷ l.trace.events) (sym k.0) ∙ ap
            (λ (lss : List (List Line)). d.lines ∷ lss) l.events;
        state = l.state;
      }

  -- the events that N does are finished in the words of M
  pub finished-like : (i : ℕ) (w : World D) (v : World C) (es : List Event) → i + length es ≤ q
      → WorldTied sys A (R i) w v
      → FinishedLike sys M again t v es (effects sys N n w es) (done_events sys N n w es) (run sys N n w es)
  finished-like i w v [] le h = record { trace = ended_in v; finishes = over v; events = refl; state = sym h.states }
  finished-like i w v (e ∷ es) le h =
      let lt : i < q = omega (arith, le) in
      let k = from i lt in
      step_like i w v e es (step sys N n w e) (step sys M t v e) lt refl refl h
      (step-tied sys (R (suc i)) N n M t k w v e h)
      (record {
        states = h.states;
        contexts = grown sys (HeldTied A (R i)) (HeldTied A (R (suc i))) w.contexts
            v.contexts (held_grown A (R i) (R (suc i)) k.grows) h.contexts;
      }) _ _ _
      (λ w' v' h'. finished-like (suc i) w' v' es (omega (arith, le)) h')

IsComplete-rest : {C : Type 0} (ls : List Line) (r : Option (Trace C)) → IsComplete (completed_by ls r) → IsComplete r
IsComplete-rest ls None h = absurd h
IsComplete-rest ls (Some r) h = tt

done_on-first : {C : Type 0} (k : ℕ) (w : World C) (e : Event) (es : List Event) (x : Reaction C)
    (ds : World C → List Event) (r : World C → Option (Trace C))
    → ((v : World C) → IsComplete (r v) → take k (ds v) ≡ take k es) → IsComplete (completed_on x r)
    → take (suc k) (done_on w e x ds) ≡ take (suc k) (e ∷ es)
done_on-first k w e es Nothing ds r rest h = absurd h
done_on-first k w e es (Kept p v) ds r rest h = absurd h
done_on-first k w e es (Did d) ds r rest h =
    ap (λ (es' : List Event). e ∷ es') (rest d.world (IsComplete-rest d.lines (r d.world) h))

-- where the first k events alone are a complete run, they are the first that a run does
pub done_events-first : {C : Type 0} (sys : SystemTables) (M : Meaning C) (n : ℕ) (w : World C) (es : List Event)
    (k : ℕ)
    → IsComplete (complete_run sys M n w (take k es)) → take k (done_events sys M n w es) ≡ take k es
done_events-first sys M n w [] zero h = refl
done_events-first sys M n w (e ∷ es) zero h = refl
done_events-first sys M n w [] (suc k) h = refl
done_events-first sys M n w (e ∷ es) (suc k) h =
    done_on-first k w e es (step sys M n w e) _ _ (λ v h'. done_events-first sys M n v es k h') h

pub IsComplete-agrees : {C D : Type 0} (r : Option (Trace C)) (s : Option (Trace D)) → TraceAgrees r s → IsComplete r
    → IsComplete s
IsComplete-agrees None s h k = absurd k
IsComplete-agrees (Some r) None h k = absurd h
IsComplete-agrees (Some r) (Some s) h k = tt
