-- Two meanings of bodies whose contexts are tied give the same lines along every list of events that the first
-- finishes.
use Rattle.std.specs.Prelude.{ℕ, zero, suc, ℤ, ◌≡◌, List, [], ◌∷◌, Option, Some, None}
use Rattle.fmp_base.specs.declared.bodies.HandlerContext.{HandlerContext}
use Rattle.fmp_base.specs.declared.bodies.Held.{Held}
use Rattle.fmp_base.specs.declared.bodies.Held.TheVariants.{Goes, Awaits}
use Rattle.fmp_base.specs.declared.bodies.Fault.{Fault}
use Rattle.fmp_base.specs.declared.calls.Call.{Call}
use Rattle.fmp_base.specs.declared.calls.Reply.{Reply}
use Rattle.fmp_base.specs.declared.events.Event.{Event}
use Rattle.fmp_base.specs.declared.events.Event.TheVariants.{Run, Tick, Int}
use Rattle.fmp_base.specs.declared.states.Caller.{Caller}
use Rattle.fmp_base.specs.Meanings.{Meaning, Contexts, World, task_body, context_of, caller_body}
use Rattle.fmp_base.specs.Runs.{Trace}
use Rattle.fmp_base.specs.States.{processor_at}
use Rattle.fmp_base.specs.Steps.{Done, Reaction, Nothing, Did, Kept, actor_of, with_place}
use Rattle.fmp_base.specs.Stretches.{Ending}
use Rattle.fmp_base.specs.Stretches as ends
use Rattle.fmp_base.specs.Systems.{SystemTables}

-- both have no context, or tied ones
abbrev pub OptionTied : {C D : Type 0} → (C → D → Type 0) → Option C → Option D → Type 0
OptionTied R None None = Unit {0}
OptionTied R (Some c) (Some d) = R c d
OptionTied R None (Some d) = ⊥
OptionTied R (Some c) None = ⊥

-- the contexts at each place are tied, by the tie of that place
abbrev pub AllTied : {C D : Type 0} → (ℕ → C → D → Type 0) → List (Option C) → List (Option D) → Type 0
AllTied R [] [] = Unit {0}
AllTied R (c ∷ cs) (d ∷ ds) = OptionTied (R zero) c d × AllTied (λ i. R (suc i)) cs ds
AllTied R [] (d ∷ ds) = ⊥
AllTied R (c ∷ cs) [] = ⊥

-- where the first is not over, the second ends in the same way; the contexts of a call are tied by R, those of an end
-- or a fault by S; of a context that is handed over K holds
pub data StretchTied {C D : Type 0} (R S : C → D → Type 0) (K : C → Type 0) : Ending C → Ending D → Type 0 where
  over : (other : Ending D) → StretchTied R S K (ends.Over None) other
  kept : (k : C) (other : Ending D) → K k → StretchTied R S K (ends.Over (Some k)) other
  call : (c : C) (d : D) (made : Call) → R c d → StretchTied R S K (ends.Call c made) (ends.Call d made)
  end_ : (c : C) (d : D) → S c d → StretchTied R S K (ends.End c) (ends.End d)
  fault : (c : C) (d : D) (f : Fault) → S c d → StretchTied R S K (ends.Fault c f) (ends.Fault d f)

-- any contexts: no step looks at those of an end or a fault
abbrev pub Any : {C D : Type 0} → C → D → Type 0
Any c d = Unit {0}

-- contexts that go on are tied by R, those that await a reply by A
abbrev pub HeldTied : {C D : Type 0} → (ℕ → C → D → Type 0) → (ℕ → C → D → Type 0) → ℕ → Held C → Held D → Type 0
HeldTied A R body (Goes c) (Goes d) = R body c d
HeldTied A R body (Awaits c) (Awaits d) = A body c d
HeldTied A R body (Goes c) (Awaits d) = ⊥
HeldTied A R body (Awaits c) (Goes d) = ⊥

-- start, stretch (at m and at n) and deliver lead from the tie Q to the tie R, which are given for each body; where
-- the first keeps its place, it is tied to a context to which `again` leads from the other's
pub record KeepsTie {C D : Type 0} (A Q R : ℕ → C → D → Type 0) (again : ℕ → D → D → Type 0) (M : Meaning C) (m : ℕ)
    (N : Meaning D) (n : ℕ) : Type 0 where
  pub grows : (body : ℕ) (c : C) (d : D) → Q body c d → R body c d
  pub starts : (body : ℕ) (exinf : ℤ) → R body (M.start body exinf) (N.start body exinf)
  pub delivers : (body : ℕ) (c : C) (d : D) (reply : Reply) → A body c d
      → R body (M.deliver body c reply) (N.deliver body d reply)
  pub stretches : (body : ℕ) (c : C) (d : D) → Q body c d
      → StretchTied (A body) Any (λ k. (e : D) × again body d e × R body k e) (M.stretch body m c) (N.stretch body n d)

-- contexts of one body, tied
pub record HandlerTied {C D : Type 0} (R : ℕ → C → D → Type 0) (c : HandlerContext C) (d : HandlerContext D) : Type 0
  where
    pub bodies : c.body ≡ d.body
    pub contexts : R c.body c.context d.context

pub record ContextsTied {C D : Type 0} (sys : SystemTables) (R : ℕ → C → D → Type 0) (a : Contexts C)
    (b : Contexts D) : Type 0 where
  pub tasks : AllTied (λ t. R (task_body sys t)) a.tasks b.tasks
  pub handlers : AllTied (λ p. HandlerTied R) a.handlers b.handlers

-- one state, and tied contexts
pub record WorldTied {C D : Type 0} (sys : SystemTables) (A R : ℕ → C → D → Type 0) (v : World C) (w : World D) : Type
    0 where
  pub states : v.state ≡ w.state
  pub contexts : ContextsTied sys (HeldTied A R) v.contexts w.contexts

-- v is tied to w with a context for the actor of p to which `again` leads from its own
pub record KeptAt {C D : Type 0} (sys : SystemTables) (A R : ℕ → C → D → Type 0) (again : ℕ → D → D → Type 0)
    (w : World D) (p : ℕ) (v : World C) : Type 0 where
  pub who : Caller
  pub actor : actor_of (processor_at w.state p) ≡ Some who
  pub context : D
  pub there : context_of w.contexts p who ≡ Some (Goes context)
  pub next : D
  pub leads : again (caller_body sys w.contexts p who) context next
  pub tied : WorldTied sys A R v (with_place w p who next)

abbrev pub KeptOn : {C D : Type 0} → SystemTables → (ℕ → C → D → Type 0) → (ℕ → C → D → Type 0) → (ℕ → D → D → Type 0)
    → World D → Event → World C → Type 0
KeptOn sys A R again w (Run (suc p)) v = KeptAt sys A R again w p v
KeptOn sys A R again w (Run zero) v = ⊥
KeptOn sys A R again w Tick v = ⊥
KeptOn sys A R again w (Int i) v = ⊥

-- two events were done, with the same lines, and leave tied worlds
abbrev pub BothDone : {C D : Type 0} → SystemTables → (ℕ → C → D → Type 0) → (ℕ → C → D → Type 0) → Done C → Done D
    → Type 0
BothDone sys A R a b = (a.lines ≡ b.lines) × WorldTied sys A R a.world b.world

-- where the first did something, the second did it too, with the same lines; of a world with a kept place K holds
abbrev pub DoneTied : {C D : Type 0} → SystemTables → (ℕ → C → D → Type 0) → (ℕ → C → D → Type 0) → (World C → Type 0)
    → Reaction C → Reaction D → Type 0
DoneTied sys A R K Nothing other = Unit {0}
DoneTied sys A R K (Kept p v) other = K v
DoneTied sys A R K (Did a) (Kept p v) = ⊥
DoneTied sys A R K (Did a) Nothing = ⊥
DoneTied sys A R K (Did a) (Did b) = BothDone sys A R a b

-- the second is the same run as the first, if there is a first: the same lines and the same state at the end
abbrev pub TraceAgrees : {C D : Type 0} → Option (Trace C) → Option (Trace D) → Type 0
TraceAgrees None other = Unit {0}
TraceAgrees (Some r) None = ⊥
TraceAgrees (Some r) (Some s) = (r.events ≡ s.events) × (r.world.state ≡ s.world.state)
