-- Where an actor keeps its place, what does nothing goes on doing nothing.
use Rattle.std.proofs.Common.{◌≡◌, ◌∙◌, ℕ, zero, suc, List, [], ◌∷◌, ◌++◌, Option, Some, None, true, false, refl, sym}
use Rattle.std.proofs.Common.{ap, subst}
use Rattle.std.specs.Prelude.{slice_set}
use Rattle.fmp_base.specs.declared.bodies.HandlerContext.{HandlerContext}
use Rattle.fmp_base.specs.declared.bodies.Held.{Held}
use Rattle.fmp_base.specs.declared.bodies.Held.TheVariants.{Goes, Awaits}
use Rattle.fmp_base.specs.declared.events.Event.{Event}
use Rattle.fmp_base.specs.declared.events.Event.TheVariants.{Run}
use Rattle.fmp_base.specs.declared.states.Caller.{Caller}
use Rattle.fmp_base.specs.declared.states.Caller.TheVariants as caller
use Rattle.fmp_base.specs.Meanings.{Meaning, Contexts, World, task_body, context_at, body_in, context_in, context_of}
use Rattle.fmp_base.specs.Meanings.{caller_body, with_context}
use Rattle.fmp_base.specs.NothingLaws.{Never, hands_over, step-nothing}
use Rattle.fmp_base.specs.States.{processor_at}
use Rattle.fmp_base.specs.Steps.{Nothing, actor_of, run_by, run_in, step, stretched, with_place}
use Rattle.fmp_base.specs.Stretches.{Ending}
use Rattle.fmp_base.specs.Stretches as ends
use Rattle.fmp_base.specs.Systems.{SystemTables}
use Rattle.fmp_base.specs.TieLaws.{AllTied-context_at, body_in-tied}
use Rattle.fmp_base.specs.Ties.{OptionTied, AllTied, StretchTied, over, call, end_, fault, Any, HandlerTied, HeldTied}
use Rattle.fmp_base.specs.Ties.{ContextsTied}

AllTied-set_right : {C D : Type 0} (R : ℕ → C → D → Type 0) (cs : List (Option C)) (ds : List (Option D)) (i : ℕ)
    (d : Option D)
    → AllTied R cs ds → OptionTied (R i) (context_at cs i) d → AllTied R cs (slice_set ds i d)
AllTied-set_right R [] [] i d h k = tt
AllTied-set_right R [] (y ∷ ds) i d h k = absurd h
AllTied-set_right R (x ∷ cs) [] i d h k = absurd h
AllTied-set_right R (x ∷ cs) (y ∷ ds) zero d h k = (k, h.1)
AllTied-set_right R (x ∷ cs) (y ∷ ds) (suc i) d h k = (h.0, AllTied-set_right (λ j. R (suc j)) cs ds i d h.1 k)

handler_right : {C D : Type 0} (R : ℕ → C → D → Type 0) (body : ℕ) (c : Option (HandlerContext C)) (d : D)
    → body_in c ≡ body → OptionTied (R (body_in c)) (context_in c) (Some d)
    → OptionTied (HandlerTied R) c (Some (record { body = body; context = d }))
handler_right R body None d e k = absurd k
handler_right R body (Some c) d e k = record { bodies = e; contexts = k }

-- the second side alone gets a context that is tied to what the first has
pub with_context_right : {C D : Type 0} (sys : SystemTables) (R : ℕ → C → D → Type 0) (a : Contexts C) (b : Contexts D)
    (p : ℕ) (who : Caller) (d : D)
    → ContextsTied sys R a b → OptionTied (R (caller_body sys a p who)) (context_of a p who) (Some d)
    → ContextsTied sys R a (with_context b p who (Some d))
with_context_right sys R a b p (caller.Task t) d h k =
    record {
      tasks = AllTied-set_right (λ u. R (task_body sys u)) a.tasks b.tasks t (Some d) h.tasks k;
      handlers = h.handlers;
    }
with_context_right sys R a b p (caller.Handler i) d h k =
    let body = body_in (context_at b.handlers p) in
    record {
      tasks = h.tasks;
      handlers = AllTied-set_right (λ q. HandlerTied R) a.handlers b.handlers p
          (Some (record { body = body; context = d })) h.handlers
          (handler_right R body (context_at a.handlers p) d
          (body_in-tied R _ _ (AllTied-context_at (λ q. HandlerTied R) a.handlers b.handlers p h.handlers)) k);
    }

set-there : {A : Type 0} (cs : List (Option A)) (i : ℕ) (x y : A) → context_at cs i ≡ Some y
    → context_at (slice_set cs i (Some x)) i ≡ Some x
set-there [] i x y h = absurd (cc h)
set-there (c ∷ cs) zero x y h = refl
set-there (c ∷ cs) (suc i) x y h = set-there cs i x y h

handler-there : {C : Type 0} (hs : List (Option (HandlerContext C))) (p body : ℕ) (x y : C)
    (h : Option (HandlerContext C)) → context_at hs p ≡ h → context_in h ≡ Some y
    → context_in (context_at (slice_set hs p (Some (record { body = body; context = x }))) p) ≡ Some x
handler-there hs p body x y None e k = absurd (cc k)
handler-there {C} hs p body x y (Some h) e k =
    ap (λ (o : Option (HandlerContext C)). context_in o)
    (set-there hs p (record { body = body; context = x }) h e)

-- an actor that has a context has the one that it is given
pub context-there : {C : Type 0} (cs : Contexts C) (p : ℕ) (who : Caller) (x y : C) → context_of cs p who ≡ Some y
    → context_of (with_context cs p who (Some x)) p who ≡ Some x
context-there cs p (caller.Task t) x y h = set-there cs.tasks t x y h
context-there cs p (caller.Handler i) x y h =
    handler-there cs.handlers p (body_in (context_at cs.handlers p)) x y (context_at cs.handlers p) refl h

all-same : {C : Type 0} (R : ℕ → C → C → Type 0) → ((i : ℕ) (c : C) → R i c c) → (cs : List (Option C))
    → AllTied R cs cs
all-same R same [] = tt
all-same R same (None ∷ cs) = (tt, all-same (λ i. R (suc i)) (λ i. same (suc i)) cs)
all-same R same (Some c ∷ cs) = (same zero c, all-same (λ i. R (suc i)) (λ i. same (suc i)) cs)

-- From a world on, the places of stretches are kept by these events, and the last world is left.
pub data Keeps {C : Type 0} (sys : SystemTables) (N : Meaning C) (n : ℕ) : World C → List Event → World C → Type 0 where
  ends_ : (v : World C) → Keeps sys N n v [] v
  keeps : (v x : World C) (p : ℕ) (who : Caller) (c next : C) (es : List Event) →
      actor_of (processor_at v.state p) ≡ Some who → context_of v.contexts p who ≡ Some (Goes c) →
      N.stretch (caller_body sys v.contexts p who) n c ≡ ends.Over (Some next) →
      Keeps sys N n (with_place v p who next) es x → Keeps sys N n v (Run (suc p) ∷ es) x

module _ {C : Type 0} (sys : SystemTables) (N : Meaning C) (n : ℕ) where
  -- the same context, but for one whose stretch is over its bound
  abbrev Vague : ℕ → C → C → Type 0
  Vague body k d = hands_over (N.stretch body n k) ≡ false → k ≡ d

  abbrev Same : ℕ → C → C → Type 0
  Same body k d = k ≡ d

  held-same : (body : ℕ) (c : Held C) → HeldTied Same Vague body c c
  held-same body (Goes c) = λ h. refl
  held-same body (Awaits c) = refl

  contexts-same : (cs : Contexts (Held C)) → ContextsTied sys (HeldTied Same Vague) cs cs
  contexts-same cs =
      record {
        tasks = all-same (λ t. HeldTied Same Vague (task_body sys t)) (λ t c. held-same (task_body sys t) c) cs.tasks;
        handlers = all-same (λ p. HandlerTied (HeldTied Same Vague))
            (λ p h. record { bodies = refl; contexts = held-same h.body h.context }) cs.handlers;
      }

  self : (x : Ending C) → hands_over x ≡ false → StretchTied Any Any Never x x
  self (ends.Call c made) h = call c c made tt
  self (ends.End c) h = end_ c c tt
  self (ends.Fault c f) h = fault c c f tt
  self (ends.Over None) h = over (ends.Over None)
  self (ends.Over (Some c)) h = absurd (cc h)

  vague-text : (body : ℕ) (k d : C) → Vague body k d → hands_over (N.stretch body n k) ≡ false
      → StretchTied Any Any Never (N.stretch body n d) (N.stretch body n k)
  vague-text body k d vague free =
      subst (λ (x : C). StretchTied Any Any Never (N.stretch body n x) (N.stretch body n k)) (vague free)
      (self (N.stretch body n k) free)

  vague-next : (body : ℕ) (c next : C) (x : Ending C) → N.stretch body n c ≡ x → hands_over x ≡ true
      → Vague body c next
  vague-next body c next x e h =
      λ free. let also : hands_over x ≡ false = ap hands_over (sym e) ∙ free in absurd (cc (h, also))

  vague-option : (body : ℕ) (o : Option (Held C)) (c next : C) → o ≡ Some (Goes c) → Vague body c next
      → OptionTied (HeldTied Same Vague body) o (Some (Goes next))
  vague-option body o c next e h =
      subst (λ (q : Option (Held C)). OptionTied (HeldTied Same Vague body) q (Some (Goes next))) (sym e) h

  -- where the actor of a processor has this context, this is what its event does
  pub run-is : (v : World C) (p : ℕ) (who : Caller) (c : C) (x : Ending C)
      → actor_of (processor_at v.state p) ≡ Some who
      → context_of v.contexts p who ≡ Some (Goes c) → N.stretch (caller_body sys v.contexts p who) n c ≡ x
      → step sys N n v (Run (suc p)) ≡ stretched sys N v p who x
  run-is v p who c x is there e =
      ap (λ (o : Option Caller). run_by sys N n v p o) is
      ∙ ap (λ (o : Option (Held C)). run_in sys N n v p who o) there
      ∙ ap (λ (y : Ending C). stretched sys N v p who y) e

  nothing-on : (v : World C) (p : ℕ) (who : Caller) (c next : C) (e : Event)
      → context_of v.contexts p who ≡ Some (Goes c)
      → N.stretch (caller_body sys v.contexts p who) n c ≡ ends.Over (Some next) → step sys N n v e ≡ Nothing
      → step sys N n (with_place v p who next) e ≡ Nothing
  nothing-on v p who c next e there cut none =
      let body = caller_body sys v.contexts p who in
      step-nothing sys Same Vague N n N n vague-text v (with_place v p who next) e
      (record {
        states = refl;
        contexts = with_context_right sys (HeldTied Same Vague) v.contexts v.contexts p who (Goes next)
            (contexts-same v.contexts)
            (vague-option body (context_of v.contexts p who) c next there
            (vague-next body c next (ends.Over (Some next)) cut refl));
      })
      none

  -- what does nothing goes on doing nothing
  pub keeps-nothing : (v x : World C) (es : List Event) (e : Event) → Keeps sys N n v es x → step sys N n v e ≡ Nothing
      → step sys N n x e ≡ Nothing
  keeps-nothing _ _ _ e (ends_ v) none = none
  keeps-nothing _ _ _ e (keeps v x p who c next es is there cut more) none =
      keeps-nothing (with_place v p who next) x es e more (nothing-on v p who c next e there cut none)

  pub keeps-append : (v x y : World C) (es fs : List Event) → Keeps sys N n v es x
      → Keeps sys N n x fs y → Keeps sys N n v (es ++ fs) y
  keeps-append _ _ y _ fs (ends_ v) last = last
  keeps-append _ _ y _ fs (keeps v x p who c next es is there cut more) last =
      keeps v y p who c next (es ++ fs) is there cut (keeps-append (with_place v p who next) x y es fs more last)
