-- What holds of the contexts of bodies.
use Rattle.std.specs.Prelude.{◌≡◌, ◌<◌, ℕ, zero, suc, List, [], ◌∷◌, Option, Some, None, Bool, true, false, not, length}
use Rattle.std.proofs.Common.{refl}
use Rattle.fmp_base.specs.declared.bodies.HandlerContext.{HandlerContext}
use Rattle.fmp_base.specs.declared.bodies.HandlerStart.{HandlerStart}
use Rattle.fmp_base.specs.declared.bodies.Held.{Held}
use Rattle.fmp_base.specs.declared.bodies.Held.TheVariants.{Goes, Awaits}
use Rattle.fmp_base.specs.declared.states.Caller.{Caller}
use Rattle.fmp_base.specs.declared.states.Handler.{Handler}
use Rattle.fmp_base.specs.Meanings.{Contexts, Meaning, context_of, handler_start, task_body}
use Rattle.fmp_base.specs.Stretches.{Ending}
use Rattle.fmp_base.specs.Stretches as ends
use Rattle.fmp_base.specs.Systems.{SystemTables}
use Rattle.fmp_base.specs.Contexts.{OfCall}
use Rattle.fmp_base.specs.declared.stop.StretchStop.{StretchStop}
use Rattle.fmp_base.specs.declared.stop.StretchStop.TheVariants as stop
use Rattle.fmp_worlds.specs.Settled.{IsThere}
use Rattle.fmp_worlds.specs.Stamps.{Going}

-- P i holds of what is at each place i, where something is
abbrev pub AllContexts : {A : Type 0} → (ℕ → A → Type 0) → List (Option A) → Type 0
AllContexts P [] = Unit {0}
AllContexts P (None ∷ cs) = AllContexts (λ i. P (suc i)) cs
AllContexts P (Some c ∷ cs) = P zero c × AllContexts (λ i. P (suc i)) cs

abbrev pub OfOption : {A : Type 0} → (A → Type 0) → Option A → Type 0
OfOption P None = Unit {0}
OfOption P (Some c) = P c

-- P holds of the context that goes on, or awaits a reply
abbrev pub OfHeld : {C : Type 0} → (C → Type 0) → Held C → Type 0
OfHeld P (Goes c) = P c
OfHeld P (Awaits c) = P c

-- a body that is there, with a context that it gave
pub record HandlerFits {B C : Type 0} (has_entry : B → ℕ → Type 0) (is_context : B → ℕ → C → Type 0) (body : B)
    (h : HandlerContext (Held C)) : Type 0 where
  pub entry : has_entry body h.body
  pub context : OfHeld (is_context body h.body) h.context

-- each context is one that the body of its task, or of its handler, gave
pub record Fitting {B C : Type 0} (has_entry : B → ℕ → Type 0) (is_context : B → ℕ → C → Type 0) (body : B)
    (sys : SystemTables) (cs : Contexts (Held C)) : Type 0 where
  pub tasks : AllContexts (λ t. OfHeld (is_context body (task_body sys t))) cs.tasks
  pub handlers : AllContexts (λ p. HandlerFits has_entry is_context body) cs.handlers

-- the body with which a handler begins exists
abbrev pub BeginsIn : (ℕ → Type 0) → Option HandlerStart → Type 0
BeginsIn P None = Unit {0}
BeginsIn P (Some h) = P h.body

-- the body of each task and of each handler exists
pub record Entered {B : Type 0} (has_entry : B → ℕ → Type 0) (body : B) (sys : SystemTables) : Type 0 where
  pub tasks : (t : ℕ) → t < length sys.tasks → has_entry body (task_body sys t)
  pub handlers : (h : Handler) → BeginsIn (has_entry body) (handler_start sys h)

-- a place for the context of each task, and of the handler of each processor
pub record HasPlaces {C : Type 0} (sys : SystemTables) (cs : Contexts C) : Type 0 where
  pub tasks : length cs.tasks ≡ length sys.tasks
  pub handlers : length cs.handlers ≡ sys.processors

-- something is kept of the caller on processor p
abbrev pub HasContext : {C : Type 0} → Contexts C → ℕ → Caller → Type 0
HasContext cs p who = IsThere (context_of cs p who)

-- a context that goes on, or awaits a reply
abbrev pub held_by : {C : Type 0} → Bool → C → Held C
held_by true c = Awaits c
held_by false c = Goes c

abbrev pub context_held : {C : Type 0} → Held C → C
context_held (Goes c) = c
context_held (Awaits c) = c

-- the context that goes on, if one does
abbrev pub going_context : {C : Type 0} → Option (Held C) → Option C
going_context None = None
going_context (Some (Awaits c)) = None
going_context (Some (Goes c)) = Some c

-- whether a context goes on
abbrev pub is_going : {C : Type 0} → Option (Held C) → Bool
is_going None = false
is_going (Some (Awaits c)) = false
is_going (Some (Goes c)) = true

-- what is kept tells whether it awaits a reply, and its context
pub awaits_told : {C : Type 0} (awaits : Bool) (c : C) → not (is_going (Some (held_by awaits c))) ≡ awaits
awaits_told true c = refl
awaits_told false c = refl

pub context_told : {C : Type 0} (awaits : Bool) (c : C) → context_held (held_by awaits c) ≡ c
context_told true c = refl
context_told false c = refl

-- how a stretch from what is kept of a body ends; it is over with nothing where no context goes on
abbrev pub stretched_from : {C : Type 0} → Meaning C → (body bound : ℕ) → Option (Held C) → Ending C
stretched_from M body bound None = ends.Over None
stretched_from M body bound (Some (Awaits c)) = ends.Over None
stretched_from M body bound (Some (Goes c)) = M.stretch body bound c

-- a stretch with its context, wherever it stops
abbrev pub HandsOver : {C : Type 0} → Ending C → Type 0
HandsOver (ends.Call c made) = Unit {0}
HandsOver (ends.End c) = Unit {0}
HandsOver (ends.Fault c fault) = Unit {0}
HandsOver (ends.Over None) = ⊥
HandsOver (ends.Over (Some c)) = Unit {0}

-- how a stretch stops
abbrev pub stop_of : {C : Type 0} → Ending C → StretchStop
stop_of (ends.Call c made) = stop.Call made
stop_of (ends.End c) = stop.End
stop_of (ends.Fault c fault) = stop.Fault fault
stop_of (ends.Over kept) = stop.Over

-- whether a stretch stops at a call
abbrev pub is_call : StretchStop → Bool
is_call (stop.Call made) = true
is_call stop.End = false
is_call (stop.Fault fault) = false
is_call stop.Over = false

-- what is kept of a body after a stretch: with a call the context that awaits the reply, at the bound the one that goes
-- on from there, and of a body that has ended nothing
abbrev pub kept_after : {C : Type 0} → Ending C → Option (Held C)
kept_after (ends.Call c made) = Some (Awaits c)
kept_after (ends.End c) = None
kept_after (ends.Fault c fault) = None
kept_after (ends.Over None) = None
kept_after (ends.Over (Some c)) = Some (Goes c)

-- a stretch with this ending can be one of this actor: the context of a call, or that at the bound, is one of the
-- actor's body
abbrev pub IsFor : {B C : Type 0} → (B → ℕ → C → Type 0) → B → Ending C → Option (Going C) → Type 0
IsFor is_context body x None = Unit {0}
IsFor is_context body x (Some a) = OfCall (is_context body a.entry) x
