-- Which tasks become ready, and the lines that tell them so.
use Rattle.std.proofs.Common.{◌≡◌, ℕ, zero, suc, List, [], ◌∷◌, ◌++◌, None, Bool, true, false, ◌⊎◌, inl, inr, refl, sym}
use Rattle.std.proofs.Common.{subst, ap, ◌∙◌, slice_set}
use Rattle.fmp_base.specs.declared.calls.Reply.{Reply}
use Rattle.fmp_base.specs.declared.events.Line.{Line}
use Rattle.fmp_base.specs.declared.events.Line.TheVariants as line
use Rattle.fmp_base.specs.declared.states.Phase.{Phase}
use Rattle.fmp_base.specs.declared.states.Phase.TheVariants.{Dormant, Ready, Waiting}
use Rattle.fmp_base.specs.declared.states.TaskBlock.{TaskBlock}
use Rattle.fmp_base.specs.Changes.{started, released, released_state, ended_by, ended_block, ended_itself, suspended_by}
use Rattle.fmp_base.specs.Changes.{with_nothing_run}
use Rattle.fmp_base.specs.States.{KernelState, Progress, unchanged, task_at}
use Rattle.fmp_base.specs.Systems.{SystemTables}
use Rattle.fmp_worlds.proofs.Assigned.{set_at, set_over}

-- a line that starts task t, or brings it a reply
abbrev pub Tells : ℕ → Line → Type 0
Tells t (line.Starts q u) = u ≡ t
Tells t (line.Gets q u reply) = u ≡ t
Tells t _ = ⊥

-- one of the lines does
abbrev pub IsTold : ℕ → List Line → Type 0
IsTold t [] = ⊥
IsTold t (l ∷ ls) = Tells t l ⊎ IsTold t ls

abbrev pub IsReady : KernelState → ℕ → Type 0
IsReady s t = (task_at s.tasks t).phase ≡ Ready

-- a task that is ready was ready in s, or was told
pub record Woken (s : KernelState) (g : Progress) : Type 0 where
  pub each : (t : ℕ) → IsReady g.state t → IsReady s t ⊎ IsTold t g.lines

pub told-behind : (t : ℕ) (ls ms : List Line) → IsTold t ms → IsTold t (ls ++ ms)
told-behind t [] ms h = h
told-behind t (l ∷ ls) ms h = inr (told-behind t ls ms h)

pub told-before : (t : ℕ) (ls ms : List Line) → IsTold t ls → IsTold t (ls ++ ms)
told-before t [] ms h = absurd h
told-before t (l ∷ ls) ms (inl h) = inl h
told-before t (l ∷ ls) ms (inr h) = inr (told-before t ls ms h)

-- no task became ready
pub still : {s u : KernelState} → ((t : ℕ) → IsReady u t → IsReady s t) → Woken s (unchanged u)
still h = record { each = λ t r. inl (h t r) }

-- a task changes, and not its phase
pub changed : (s : KernelState) (t : ℕ) (y : TaskBlock) → y.phase ≡ (task_at s.tasks t).phase → (u : ℕ)
    → (task_at (slice_set s.tasks t y) u).phase ≡ Ready → IsReady s u
changed s t y e u =
    set_at (task_at [] 0) (λ x. x.phase ≡ Ready → IsReady s u) s.tasks t y u
    (λ same r. subst (λ (v : ℕ). IsReady s v) same (sym e ∙ r)) (λ r. r)

-- a task becomes one that is not ready
pub left : (s : KernelState) (g : Progress) (t : ℕ) (y : TaskBlock) → (y.phase ≡ Ready → ⊥) → Woken s g → (u : ℕ)
    → (task_at (slice_set g.state.tasks t y) u).phase ≡ Ready → IsReady s u ⊎ IsTold u g.lines
left s g t y n w u =
    set_at (task_at [] 0) (λ x. x.phase ≡ Ready → IsReady s u ⊎ IsTold u g.lines) g.state.tasks t y u
    (λ same r. absurd (n r))
    (λ r. w.each u r)

-- a task changes, and a line tells it
told : (s : KernelState) (g : Progress) (t : ℕ) (y : TaskBlock) (l : Line) → Tells t l → Woken s g → (u : ℕ)
    → (task_at (slice_set g.state.tasks t y) u).phase ≡ Ready → IsReady s u ⊎ IsTold u (g.lines ++ l ∷ [])
told s g t y l h w u =
    set_at (task_at [] 0) (λ x. x.phase ≡ Ready → IsReady s u ⊎ IsTold u (g.lines ++ l ∷ [])) g.state.tasks t y u
    (λ same r. inr (subst (λ (v : ℕ). IsTold v (g.lines ++ l ∷ [])) same (told-behind t g.lines (l ∷ []) (inl h))))
    (λ r. by_kind (w.each u r)) where
      by_kind : IsReady s u ⊎ IsTold u g.lines → IsReady s u ⊎ IsTold u (g.lines ++ l ∷ [])
      by_kind (inl k) = inl k
      by_kind (inr k) = inr (told-before u g.lines (l ∷ []) k)

pub woken-started : (sys : SystemTables) (s : KernelState) (g : Progress) (t : ℕ) (x : TaskBlock) → Woken s g
    → Woken s (started sys g t x)
woken-started sys s g t x w = record { each = told s g t _ (line.Starts _ t) refl w }

pub woken-released : (s : KernelState) (g : Progress) (t : ℕ) (x : TaskBlock) (reply : Reply) → Woken s g
    → Woken s (released g t x reply)
woken-released s g t x reply w = by_order x.suspended where
  y : TaskBlock
  y = record x { phase = Ready; deadline = None }

  by_order : (b : Bool) → Woken s (record {
    state = released_state b g.state t y;
    lines = g.lines ++ line.Gets x.processor t reply ∷ [];
  })
  by_order true = record { each = told s g t y (line.Gets x.processor t reply) refl w }
  by_order false = record { each = told s g t y (line.Gets x.processor t reply) refl w }

pub woken-ended : (n : ℕ) (sys : SystemTables) (s : KernelState) (g : Progress) (t : ℕ) (y : TaskBlock) → y.phase
    ≡ Dormant → Woken s g
    → Woken s (ended_by n sys g t y)
woken-ended zero sys s g t y e w = record { each = left s g t y (λ r. cc) w }
woken-ended (suc n) sys s g t y e w = woken-started sys s g t (record y { activations = n }) w

-- a task that has ended is ready only where it was told
pub ended-told : (n : ℕ) (sys : SystemTables) (g : Progress) (t : ℕ) (y : TaskBlock) → y.phase ≡ Dormant
    → IsReady (ended_by n sys g t y).state t → IsTold t (ended_by n sys g t y).lines
ended-told zero sys g t y e =
    set_over (task_at [] 0) (λ x. x.phase ≡ Ready → IsTold t g.lines) g.state.tasks t y t (λ r. cc) (λ same r. cc)
    (λ n. absurd (n refl))
ended-told (suc n) sys g t y e = λ r. told-behind t g.lines _ (inl refl)

pub suspended-still : (phase : Phase) (s : KernelState) (t : ℕ) (y : TaskBlock) → y.phase ≡ (task_at s.tasks t).phase
    → (u : ℕ)
    → IsReady (suspended_by phase s t y) u → IsReady s u
suspended-still Dormant s t y e u = changed s t y e u
suspended-still Ready s t y e u = changed s t y e u
suspended-still (Waiting c) s t y e u = changed s t y e u

pub woken-ended_itself : (sys : SystemTables) (s : KernelState) (p t : ℕ) (x : TaskBlock)
    → Woken s (ended_itself sys s p t x)
woken-ended_itself sys s p t x =
    woken-ended x.activations sys s (unchanged (with_nothing_run s p)) t (ended_block sys t x) refl (still (λ u r. r))

-- the lines go on, and the tasks stay
pub woken-line : (s : KernelState) {g : Progress} {u : KernelState} (l : Line) → u.tasks ≡ g.state.tasks → Woken s g
    → Woken s (record { state = u; lines = g.lines ++ l ∷ [] })
woken-line s {g} {u} l e w =
    record { each = λ t r. by_kind t (w.each t (ap (λ (ts : List TaskBlock). (task_at ts t).phase) (sym e) ∙ r)) } where
      by_kind : (t : ℕ) → IsReady s t ⊎ IsTold t g.lines → IsReady s t ⊎ IsTold t (g.lines ++ l ∷ [])
      by_kind t (inl r) = inl r
      by_kind t (inr h) = inr (told-before t g.lines (l ∷ []) h)
