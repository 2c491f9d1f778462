-- Contexts that fit, after one of them is written or read.
use Rattle.std.proofs.Common.{◌≡◌, ◌+◌, ◌<◌, ℕ, zero, suc, List, [], ◌∷◌, ◌++◌, Option, Some, None, true, slice_get}
use Rattle.std.proofs.Common.{slice_set, drop, map, replicate, length, refl, append_assoc, ap, subst, sym, ◌∙◌, arith}
use Rattle.std.proofs.Math.ListN.{length-set}
use Rattle.std.proofs.lemmas.List.{length-map, length-replicate}
use Rattle.fmp_base.specs.declared.bodies.HandlerContext.{HandlerContext}
use Rattle.fmp_base.specs.declared.bodies.Held.{Held}
use Rattle.fmp_base.specs.declared.bodies.Held.TheVariants.{Goes, Awaits}
use Rattle.fmp_base.specs.declared.states.Caller.{Caller}
use Rattle.fmp_base.specs.declared.states.Caller.TheVariants as caller
use Rattle.fmp_base.specs.declared.systems.TaskConfig.{TaskConfig}
use Rattle.fmp_base.specs.Meanings.{Meaning, Contexts, task_body, context_at, context_in, body_in, context_of}
use Rattle.fmp_base.specs.Meanings.{caller_body, context_for, with_context}
use Rattle.fmp_base.specs.Setups.{first_contexts}
use Rattle.fmp_base.specs.Steps.{contexts_ended}
use Rattle.fmp_base.specs.Systems.{SystemTables, body_of, found, task_config}
use Rattle.fmp_base.specs.Stretches.{Ending}
use Rattle.fmp_base.specs.Contexts.{OfCall}
use Rattle.fmp_contexts.specs.Contexts.{AllContexts, OfOption, OfHeld, HandlerFits, Fitting, Entered, HasContext}
use Rattle.fmp_contexts.specs.Contexts.{HasPlaces, IsFor, is_going}
use Rattle.fmp_contexts.proofs.HeldLemmas.{going_there, inside}
use Rattle.fmp_tasks.specs.Callers.{IsTaskOf}
use Rattle.fmp_worlds.specs.Settled.{IsThere}
use Rattle.fmp_worlds.specs.Stamps.{going_from, going_by}

AllContexts-set : {A : Type 0} (P : ℕ → A → Type 0) (cs : List (Option A)) (i : ℕ) (c : Option A)
    → AllContexts P cs → OfOption (P i) c → AllContexts P (slice_set cs i c)
AllContexts-set P [] i c h k = tt
AllContexts-set P (None ∷ cs) zero None h k = h
AllContexts-set P (None ∷ cs) zero (Some c) h k = (k, h)
AllContexts-set P (Some d ∷ cs) zero None h k = h.1
AllContexts-set P (Some d ∷ cs) zero (Some c) h k = (k, h.1)
AllContexts-set P (None ∷ cs) (suc i) c h k = AllContexts-set (λ j. P (suc j)) cs i c h k
AllContexts-set P (Some d ∷ cs) (suc i) c h k = (h.0, AllContexts-set (λ j. P (suc j)) cs i c h.1 k)

AllContexts-get : {A : Type 0} (P : ℕ → A → Type 0) (cs : List (Option A)) (i : ℕ) → AllContexts P cs
    → OfOption (P i) (context_at cs i)
AllContexts-get P [] i h = tt
AllContexts-get P (None ∷ cs) zero h = tt
AllContexts-get P (Some d ∷ cs) zero h = h.0
AllContexts-get P (None ∷ cs) (suc i) h = AllContexts-get (λ j. P (suc j)) cs i h
AllContexts-get P (Some d ∷ cs) (suc i) h = AllContexts-get (λ j. P (suc j)) cs i h.1

AllContexts-nothing : {A : Type 0} (P : ℕ → A → Type 0) (n : ℕ) → AllContexts P (replicate n None)
AllContexts-nothing P zero = tt
AllContexts-nothing P (suc n) = AllContexts-nothing (λ i. P (suc i)) n

-- one more after the others
pub more_fits : {A : Type 0} (P : ℕ → A → Type 0) (cs : List (Option A)) (c : A) → AllContexts P cs → P (length cs) c
    → AllContexts P (cs ++ Some c ∷ [])
more_fits P [] c h k = (k, tt)
more_fits P (None ∷ cs) c h k = more_fits (λ i. P (suc i)) cs c h k
more_fits P (Some d ∷ cs) c h k = (h.0, more_fits (λ i. P (suc i)) cs c h.1 k)

-- the first contexts of the tasks from place t on: that of task t, and the rest
first_from : {C : Type 0} (M : Meaning C) (cs : List TaskConfig) (t : ℕ) (c : TaskConfig) → t < length cs
    → drop t (map (λ d. Some (Goes (M.start (body_of d.entry) d.exinf))) cs)
    ≡ Some (Goes (M.start (body_of (found c (slice_get cs t)).entry) (found c (slice_get cs t)).exinf))
    ∷ drop (suc t) (map (λ d. Some (Goes (M.start (body_of d.entry) d.exinf))) cs)
first_from M [] t c l = absurd (omega (arith, l))
first_from M (d ∷ cs) zero c l = refl
first_from M (d ∷ cs) (suc t) c l = first_from M cs t c (omega (arith, l))

first_next : {C : Type 0} (sys : SystemTables) (M : Meaning C) (t : ℕ) → t < length sys.tasks
    → drop t (first_contexts sys M).tasks
    ≡ Some (Goes (M.start (task_body sys t) (task_config sys t).exinf)) ∷ drop (t + 1) (first_contexts sys M).tasks
first_next sys M t l = let next : t + 1 ≡ suc t = omega arith in rw next (first_from M sys.tasks t _ l)

-- one more of the first contexts of tasks
pub one_more : {C : Type 0} (sys : SystemTables) (M : Meaning C) (t : ℕ) (cs : List (Option (Held C)))
    → t < length sys.tasks
    → cs ++ drop t (first_contexts sys M).tasks ≡ (first_contexts sys M).tasks
    → (cs ++ Some (Goes (M.start (task_body sys t) (task_config sys t).exinf)) ∷ [])
    ++ drop (t + 1) (first_contexts sys M).tasks
    ≡ (first_contexts sys M).tasks
one_more {C} sys M t cs l h =
    append_assoc cs _ (drop (t + 1) (first_contexts sys M).tasks)
    ∙ ap (λ (ds : List (Option (Held C))). cs ++ ds) (sym (first_next sys M t l)) ∙ h

none_after : {A B : Type 0} (f : A → B) (xs : List A) → drop (length xs) (map f xs) ≡ []
none_after f [] = refl
none_after f (x ∷ xs) = none_after f xs

pub first_none : {C : Type 0} (sys : SystemTables) (M : Meaning C)
    → drop (length sys.tasks) (first_contexts sys M).tasks ≡ []
first_none sys M = none_after _ sys.tasks

-- what is kept of a caller fits its body
fits_in : {B C : Type 0} (has_entry : B → ℕ → Type 0) (is_context : B → ℕ → C → Type 0) (body : B)
    (o : Option (HandlerContext (Held C))) → OfOption (HandlerFits has_entry is_context body) o
    → OfOption (OfHeld (is_context body (body_in o))) (context_in o)
fits_in has_entry is_context body None h = tt
fits_in has_entry is_context body (Some c) h = h.context

entry_in : {B C : Type 0} (has_entry : B → ℕ → Type 0) (is_context : B → ℕ → C → Type 0) (body : B)
    (o : Option (HandlerContext (Held C))) → IsThere (context_in o) → OfOption (HandlerFits has_entry is_context body) o
    → has_entry body (body_in o)
entry_in has_entry is_context body None k h = absurd k
entry_in has_entry is_context body (Some c) k h = h.entry

for_fits : {B C : Type 0} (has_entry : B → ℕ → Type 0) (is_context : B → ℕ → C → Type 0) (body : B)
    (o : Option (HandlerContext (Held C)))
    (c : Option (Held C)) → (IsThere c → IsThere (context_in o)) → OfOption (HandlerFits has_entry is_context body) o
    → OfOption (OfHeld (is_context body (body_in o))) c → OfOption (HandlerFits has_entry is_context body)
    (context_for (body_in o) c)
for_fits has_entry is_context body o None t h k = tt
for_fits has_entry is_context body o (Some c) t h k =
    record { entry = entry_in has_entry is_context body o (t tt) h; context = k }

-- where no handler runs
pub first_fits : {B C : Type 0} {has_entry : B → ℕ → Type 0} {is_context : B → ℕ → C → Type 0} {body : B}
    {sys : SystemTables}
    (tasks : List (Option (Held C))) (n : ℕ) → AllContexts (λ t. OfHeld (is_context body (task_body sys t))) tasks
    → Fitting has_entry is_context body sys (record { tasks = tasks; handlers = replicate n None })
first_fits {has_entry} {is_context} {body} tasks n h =
    record { tasks = h; handlers = AllContexts-nothing (λ p. HandlerFits has_entry is_context body) n }

pub first_places : {C : Type 0} (sys : SystemTables) (M : Meaning C) → HasPlaces sys (first_contexts sys M)
first_places sys M = record { tasks = length-map sys.tasks _; handlers = length-replicate sys.processors None }

pub fitting_task : {B C : Type 0} {has_entry : B → ℕ → Type 0} {is_context : B → ℕ → C → Type 0} {body : B}
    {sys : SystemTables}
    (cs : Contexts (Held C)) (t : ℕ) (c : Option (Held C)) → Fitting has_entry is_context body sys cs
    → OfOption (OfHeld (is_context body (task_body sys t))) c
    → Fitting has_entry is_context body sys (record cs { tasks = slice_set cs.tasks t c })
fitting_task {is_context} {body} {sys} cs t c h k =
    record {
      tasks = AllContexts-set (λ u. OfHeld (is_context body (task_body sys u))) cs.tasks t c h.tasks k;
      handlers = h.handlers;
    }

pub fitting_handler : {B C : Type 0} {has_entry : B → ℕ → Type 0} {is_context : B → ℕ → C → Type 0} {body : B}
    {sys : SystemTables}
    (cs : Contexts (Held C)) (p : ℕ) (c : Option (HandlerContext (Held C))) → Fitting has_entry is_context body sys cs
    → OfOption (HandlerFits has_entry is_context body) c
    → Fitting has_entry is_context body sys (record cs { handlers = slice_set cs.handlers p c })
fitting_handler {has_entry} {is_context} {body} cs p c h k =
    record {
      tasks = h.tasks;
      handlers = AllContexts-set (λ q. HandlerFits has_entry is_context
          body) cs.handlers p c h.handlers k;
    }

-- what is kept of a caller fits its body
pub fits_of : {B C : Type 0} {has_entry : B → ℕ → Type 0} {is_context : B → ℕ → C → Type 0} {body : B}
    {sys : SystemTables}
    (cs : Contexts (Held C)) (p : ℕ) (who : Caller) → Fitting has_entry is_context body sys cs
    → OfOption (OfHeld (is_context body (caller_body sys cs p who))) (context_of cs p who)
fits_of {is_context} {body} {sys} cs p (caller.Task t) h =
    AllContexts-get (λ u. OfHeld (is_context body (task_body sys u))) cs.tasks t h.tasks
fits_of {has_entry} {is_context} {body} cs p (caller.Handler i) h =
    fits_in has_entry is_context body (context_at cs.handlers p)
    (AllContexts-get (λ q. HandlerFits has_entry is_context body) cs.handlers p h.handlers)

-- a task of which something is kept is one of the system
pub task_of_context : {C : Type 0} {sys : SystemTables} (cs : Contexts (Held C)) (p : ℕ) (who : Caller)
    → HasPlaces sys cs
    → HasContext cs p who → IsTaskOf sys who
task_of_context {sys} cs p (caller.Task t) h k =
    let below = inside cs.tasks t k in
    omega (arith, below, h.tasks)
task_of_context cs p (caller.Handler i) h k = tt

-- the body of a caller of which something is kept is there
pub entry_of_context : {B C : Type 0} {has_entry : B → ℕ → Type 0} {is_context : B → ℕ → C → Type 0} {body : B}
    {sys : SystemTables}
    (cs : Contexts (Held C)) (p : ℕ) (who : Caller) → Fitting has_entry is_context body sys cs
    → Entered has_entry body sys → HasPlaces sys cs
    → HasContext cs p who → has_entry body (caller_body sys cs p who)
entry_of_context cs p (caller.Task t) h e n k = e.tasks t (task_of_context cs p (caller.Task t) n k)
entry_of_context {has_entry} {is_context} {body} cs p (caller.Handler i) h e n k =
    entry_in has_entry is_context body (context_at cs.handlers p) k
    (AllContexts-get (λ q. HandlerFits has_entry is_context body) cs.handlers p h.handlers)

-- what is kept of a caller may change where something was kept, or go
pub fitting_set : {B C : Type 0} {has_entry : B → ℕ → Type 0} {is_context : B → ℕ → C → Type 0} {body : B}
    {sys : SystemTables}
    (cs : Contexts (Held C)) (p : ℕ) (who : Caller) (c : Option (Held C)) → Fitting has_entry is_context body sys cs
    → (IsThere c → HasContext cs p who) → OfOption (OfHeld (is_context body (caller_body sys cs p who))) c
    → Fitting has_entry is_context body sys (with_context cs p who c)
fitting_set cs p (caller.Task t) c h k f = fitting_task cs t c h f
fitting_set {has_entry} {is_context} {body} cs p (caller.Handler i) c h k f =
    fitting_handler cs p (context_for (body_in (context_at cs.handlers p)) c) h
    (for_fits has_entry is_context body (context_at cs.handlers p) c k
    (AllContexts-get (λ q. HandlerFits has_entry is_context body) cs.handlers p h.handlers) f)

-- the same, where the context is known
pub has_context : {C : Type 0} (cs : Contexts (Held C)) (p : ℕ) (who : Caller) (c : Held C) → context_of cs p who
    ≡ Some c
    → HasContext cs p who
has_context {C} cs p who c e = subst (λ (o : Option (Held C)). IsThere o) (sym e) tt

pub task_of : {C : Type 0} {sys : SystemTables} (cs : Contexts (Held C)) (p : ℕ) (who : Caller) (c : Held C)
    → HasPlaces sys cs
    → context_of cs p who ≡ Some c → IsTaskOf sys who
task_of {sys} cs p who c h e = task_of_context {sys = sys} cs p who h (has_context cs p who c e)

pub entry_of : {B C : Type 0} {has_entry : B → ℕ → Type 0} {is_context : B → ℕ → C → Type 0} {body : B}
    {sys : SystemTables}
    (cs : Contexts (Held C)) (p : ℕ) (who : Caller) (c : Held C) → Fitting has_entry is_context body sys cs
    → Entered has_entry body sys
    → HasPlaces sys cs → context_of cs p who ≡ Some c → has_entry body (caller_body sys cs p who)
entry_of cs p who c h k n e = entry_of_context cs p who h k n (has_context cs p who c e)

-- a caller goes on from a context of its body
pub goes_in : {B C : Type 0} {has_entry : B → ℕ → Type 0} {is_context : B → ℕ → C → Type 0} {body : B}
    {sys : SystemTables}
    (cs : Contexts (Held C)) (p : ℕ) (who : Caller) (c : C) → Fitting has_entry is_context body sys cs
    → context_of cs p who ≡ Some (Goes c) → is_context body (caller_body sys cs p who) c
goes_in {C = C} {is_context = is_context} {body} {sys} cs p who c h e =
    subst (λ (o : Option (Held C)). OfOption (OfHeld (is_context body (caller_body sys cs p who))) o) e
    (fits_of cs p who h)

-- the places stay, whatever is kept
pub places_set : {C : Type 0} {sys : SystemTables} (cs : Contexts (Held C)) (p : ℕ) (who : Caller) (c : Option (Held C))
    → HasPlaces sys cs → HasPlaces sys (with_context cs p who c)
places_set cs p (caller.Task t) c h = record { tasks = length-set _ _ _ ∙ h.tasks; handlers = h.handlers }
places_set cs p (caller.Handler i) c h = record { tasks = h.tasks; handlers = length-set _ _ _ ∙ h.handlers }

-- also where an actor has ended
pub places_ended : {C : Type 0} {sys : SystemTables} (cs : Contexts (Held C)) (M : Meaning C) (p : ℕ) (who : Caller)
    → HasPlaces sys cs → HasPlaces sys (contexts_ended sys M cs p who)
places_ended cs M p (caller.Task t) h = record { tasks = length-set _ _ _ ∙ h.tasks; handlers = h.handlers }
places_ended cs M p (caller.Handler i) h = record { tasks = h.tasks; handlers = length-set _ _ _ ∙ h.handlers }

-- of a caller that goes on something is kept
pub going_has : {C : Type 0} (cs : Contexts (Held C)) (p : ℕ) (who : Caller) → is_going (context_of cs p who) ≡ true
    → HasContext cs p who
going_has cs p who h = going_there (context_of cs p who) h

pub task_going : {C : Type 0} {sys : SystemTables} (cs : Contexts (Held C)) (p : ℕ) (who : Caller) → HasPlaces sys cs
    → is_going (context_of cs p who) ≡ true → IsTaskOf sys who
task_going {sys} cs p who h e = task_of_context {sys = sys} cs p who h (going_has cs p who e)

pub entry_going : {B C : Type 0} {has_entry : B → ℕ → Type 0} {is_context : B → ℕ → C → Type 0} {body : B}
    {sys : SystemTables}
    (cs : Contexts (Held C)) (p : ℕ) (who : Caller) → Fitting has_entry is_context body sys cs
    → Entered has_entry body sys
    → HasPlaces sys cs → is_going (context_of cs p who) ≡ true → has_entry body (caller_body sys cs p who)
entry_going cs p who h k n e = entry_of_context cs p who h k n (going_has cs p who e)

-- a stretch for the actor of p leaves a context of its body
pub going_fits : {B C : Type 0} (is_context : B → ℕ → C → Type 0) (body : B) (sys : SystemTables)
    (cs : Contexts (Held C)) (p : ℕ)
    (o : Option Caller) (who : Caller) (x : Ending C) → o ≡ Some who → is_going (context_of cs p who) ≡ true
    → IsFor is_context body x (going_by sys cs p o) → OfCall (is_context body (caller_body sys cs p who)) x
going_fits {C = C} is_context body sys cs p o who x e h k =
    by_held (context_of cs p who) h (subst (λ (o : Option Caller). IsFor is_context body x (going_by sys cs p o)) e k)
  where
    by_held : (y : Option (Held C)) → is_going y ≡ true → IsFor is_context body x
        (going_from (caller_body sys cs p who) y)
        → OfCall (is_context body (caller_body sys cs p who)) x
    by_held None h k = absurd (cc h)
    by_held (Some (Awaits c)) h k = absurd (cc h)
    by_held (Some (Goes c)) h k = k
