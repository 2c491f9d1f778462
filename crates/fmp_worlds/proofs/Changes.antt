-- What a processor runs stays assigned to it when a task starts, is released, ends or is changed otherwise.
use Rattle.std.proofs.Common.{◌≡◌, ℕ, zero, suc, Option, Some, Bool, true, false, slice_set, refl, sym, ap, ◌∙◌}
use Rattle.std.specs.List.{AllByRecursion}
use Rattle.fmp_base.specs.declared.calls.Reply.{Reply}
use Rattle.fmp_base.specs.declared.events.Line.{Line}
use Rattle.fmp_base.specs.declared.events.Line.TheVariants as line
use Rattle.fmp_base.specs.declared.states.Handler.{Handler}
use Rattle.fmp_base.specs.declared.states.Phase.{Phase}
use Rattle.fmp_base.specs.declared.states.Phase.TheVariants.{Dormant, Ready, Waiting}
use Rattle.fmp_base.specs.declared.states.Processor.{Processor}
use Rattle.fmp_base.specs.declared.states.TaskBlock.{TaskBlock}
use Rattle.fmp_base.specs.Changes.{started, started_block, released, released_state, ended, ended_by, ended_block}
use Rattle.fmp_base.specs.Changes.{ended_itself, with_nothing_run, suspended, suspended_by}
use Rattle.fmp_base.specs.States.{KernelState, Progress, unchanged, task_at, processor_at, with_processor, idle}
use Rattle.fmp_base.specs.Systems.{SystemTables}
use Rattle.fmp_base.specs.TaskCalls.{moved_by}
use Rattle.fmp_worlds.proofs.Assigned.{set_at, set_over, set_other, run-once, Runs, Assigned, Holds, IsRunNowhere}
use Rattle.fmp_worlds.proofs.Assigned.{assigned-processor, assigned-alike, assigned-unrun}
use Rattle.fmp_worlds.proofs.Lines.{IsOwn}

-- a processor changes, and not what it runs
pub holds-processor : (s : KernelState) (p : ℕ) (cpu : Processor) → cpu.run ≡ (processor_at s p).run → Holds s
    → Holds (with_processor s p cpu)
holds-processor s p cpu e a = assigned-processor s.tasks s.processors p cpu a (λ t r. a.each p t (sym e ∙ r))

pub holds-started : (sys : SystemTables) (g : Progress) (t : ℕ) (x : TaskBlock) → IsRunNowhere g.state.processors t
    → Holds g.state → Holds (started sys g t x).state
holds-started sys g t x u a = assigned-unrun g.state.tasks g.state.processors t (started_block sys t x) a u

released_by : (b : Bool) (s : KernelState) (t : ℕ) (y : TaskBlock) → Assigned (slice_set s.tasks t y) s.processors
    → Holds (released_state b s t y)
released_by true s t y a = a
released_by false s t y a = a

pub holds-released : (g : Progress) (t : ℕ) (reply : Reply) → Holds g.state
    → Holds (released g t (task_at g.state.tasks t) reply).state
holds-released g t reply a =
    let x = task_at g.state.tasks t in
    released_by x.suspended g.state t _ (assigned-alike g.state.tasks g.state.processors t _ a refl (λ h. refl))

ended_from : (n : ℕ) (sys : SystemTables) (g : Progress) (t : ℕ) (y : TaskBlock) → IsRunNowhere g.state.processors t
    → Holds g.state → Holds (ended_by n sys g t y).state
ended_from zero sys g t y u a = assigned-unrun g.state.tasks g.state.processors t y a u
ended_from (suc n) sys g t y u a = holds-started sys g t (record y { activations = n }) u a

pub holds-ended : (sys : SystemTables) (g : Progress) (t : ℕ) (x : TaskBlock) → IsRunNowhere g.state.processors t
    → Holds g.state → Holds (ended sys g t x).state
holds-ended sys g t x u a = ended_from x.activations sys g t (ended_block sys t x) u a

-- where p runs nothing more, no processor runs its task
nowhere : (s : KernelState) (p t : ℕ) → Runs s.processors p t → Holds s
    → IsRunNowhere (with_nothing_run s p).processors t
nowhere s p t r a q =
    set_over idle (λ c. c.run ≡ Some t → ⊥) s.processors p _ q (λ e. cc) (λ e h. cc)
    (λ apart h. apart (let f = a.each p t r in let g = a.each q t h in sym f.place ∙ g.place))

pub holds-ended_itself : (sys : SystemTables) (s : KernelState) (p t : ℕ) (x : TaskBlock) → Runs s.processors p t
    → Holds s → Holds (ended_itself sys s p t x).state
holds-ended_itself sys s p t x r a =
    holds-ended sys (unchanged (with_nothing_run s p)) t x (nowhere s p t r a)
    (assigned-processor s.tasks s.processors p _ a (λ u h. cc))

suspended_from : (phase : Phase) (s : KernelState) (t : ℕ) (y : TaskBlock)
    → Assigned (slice_set s.tasks t y) s.processors
    → Holds (suspended_by phase s t y)
suspended_from Dormant s t y a = a
suspended_from Ready s t y a = a
suspended_from (Waiting c) s t y a = a

pub holds-suspended : (s : KernelState) (t : ℕ) → Holds s → Holds (suspended s t (task_at s.tasks t))
holds-suspended s t a =
    let x = task_at s.tasks t in
    suspended_from x.phase s t _ (assigned-alike s.tasks s.processors t _ a refl (λ h. h))

-- a task changes, and neither its phase nor its processor
pub holds-changed : (s : KernelState) (t : ℕ) (y : TaskBlock) → y.processor ≡ (task_at s.tasks t).processor
    → y.phase ≡ (task_at s.tasks t).phase → Holds s → Assigned (slice_set s.tasks t y) s.processors
holds-changed s t y e f a =
    assigned-alike s.tasks s.processors t y a e (λ h. f ∙ h)

-- who may act on a processor: the handler that runs there, and the task that it runs
abbrev pub acting : Processor → Option Handler × Option ℕ
acting cpu = (cpu.handler, cpu.run)

-- who acts on the processors stays
abbrev pub SameActors : KernelState → KernelState → Type 0
SameActors s u = (q : ℕ) → acting (processor_at u q) ≡ acting (processor_at s q)

-- who acts on the processors other than p stays
abbrev pub SameActorsBeside : ℕ → KernelState → KernelState → Type 0
SameActorsBeside p s u = (q : ℕ) → (p ≡ q → ⊥) → acting (processor_at u q) ≡ acting (processor_at s q)

-- the handlers that run on the processors stay
abbrev pub SameHandlers : KernelState → KernelState → Type 0
SameHandlers s u = (q : ℕ) → (processor_at u q).handler ≡ (processor_at s q).handler

pub handlers-same : (s u : KernelState) → SameActors s u → SameHandlers s u
handlers-same s u h q = ap (λ (x : Option Handler × Option ℕ). x.0) (h q)

pub actors-processor : (s : KernelState) (p : ℕ) (cpu : Processor) → acting cpu ≡ acting (processor_at s p)
    → SameActors s (with_processor s p cpu)
actors-processor s p cpu e q =
    set_at idle (λ (c : Processor). acting c ≡ acting (processor_at s q)) s.processors p cpu q
    (λ same. e ∙ ap (λ (v : ℕ). acting (processor_at s v)) same) refl

pub actors-moved : (b : Bool) (s : KernelState) (t : ℕ) (y : TaskBlock) → SameActors s (moved_by b s t y)
actors-moved true s t y q = refl
actors-moved false s t y q = refl

actors-released_state : (b : Bool) (s : KernelState) (t : ℕ) (y : TaskBlock) → SameActors s (released_state b s t y)
actors-released_state true s t y q = refl
actors-released_state false s t y q = refl

pub actors-released : (g : Progress) (t : ℕ) (reply : Reply)
    → SameActors g.state (released g t (task_at g.state.tasks t) reply).state
actors-released g t reply = actors-released_state (task_at g.state.tasks t).suspended g.state t _

pub actors-ended_by : (n : ℕ) (sys : SystemTables) (g : Progress) (t : ℕ) (y : TaskBlock)
    → SameActors g.state (ended_by n sys g t y).state
actors-ended_by zero sys g t y q = refl
actors-ended_by (suc n) sys g t y q = refl

pub actors-ended_itself : (sys : SystemTables) (s : KernelState) (p t : ℕ) (x : TaskBlock)
    → SameActorsBeside p s (ended_itself sys s p t x).state
actors-ended_itself sys s p t x q apart =
    actors-ended_by x.activations sys (unchanged (with_nothing_run s p)) t _ q
    ∙ ap acting (set_other idle s.processors p _ q apart)

pub handlers-ended_itself : (sys : SystemTables) (s : KernelState) (p t : ℕ) (x : TaskBlock)
    → SameHandlers s (ended_itself sys s p t x).state
handlers-ended_itself sys s p t x q =
    ap (λ (y : Option Handler × Option ℕ). y.0) (actors-ended_by x.activations sys
    (unchanged (with_nothing_run s p)) t _ q)
    ∙ set_at idle (λ (c : Processor). c.handler ≡ (processor_at s q).handler) s.processors p _ q
    (λ same. ap (λ (v : ℕ). (processor_at s v).handler) same) refl

pub actors-suspended : (phase : Phase) (s : KernelState) (t : ℕ) (y : TaskBlock)
    → SameActors s (suspended_by phase s t y)
actors-suspended Dormant s t y q = refl
actors-suspended Ready s t y q = refl
actors-suspended (Waiting c) s t y q = refl

-- an end has at most the line that its task starts
pub lines-ended_by : (n : ℕ) (sys : SystemTables) (s : KernelState) (t : ℕ) (y : TaskBlock) (P : Line → Type 0)
    → ((q : ℕ) → P (line.Starts q t)) → AllByRecursion P (ended_by n sys (unchanged s) t y).lines
lines-ended_by zero sys s t y P h = tt
lines-ended_by (suc n) sys s t y P h = (h _, tt)

pub lines-ended_itself : (sys : SystemTables) (s : KernelState) (p t : ℕ) (x : TaskBlock) → Runs s.processors p t
    → Holds s
    → AllByRecursion (IsOwn s p) (ended_itself sys s p t x).lines
lines-ended_itself sys s p t x r a =
    lines-ended_by x.activations sys (with_nothing_run s p) t _ (IsOwn s p)
    (λ q v h. run-once s.tasks s.processors t p v a r h)
