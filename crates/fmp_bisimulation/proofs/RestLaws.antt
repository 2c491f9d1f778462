-- A task that is off stays so unless a line starts it: the changes of which calls are made, the clock, settling.
use Rattle.std.proofs.Common.{◌≡◌, ℕ, zero, suc, List, [], ◌∷◌, ◌++◌, Option, Some, None, Bool, true, false, ◌||◌, refl}
use Rattle.std.proofs.Common.{sym, ◌∙◌, ap, subst, nat_eq, length, slice_get, slice_set, cond}
use Rattle.std.proofs.lemmas.Bool.{eq-eqb}
use Rattle.fmp_base.specs.declared.calls.Reply.{Reply}
use Rattle.fmp_base.specs.declared.events.Line.{Line}
use Rattle.fmp_base.specs.declared.events.Line.TheVariants as line
use Rattle.fmp_base.specs.declared.states.Handler.{Handler}
use Rattle.fmp_base.specs.declared.states.Handler.TheVariants as handler
use Rattle.fmp_base.specs.declared.states.Phase.{Phase}
use Rattle.fmp_base.specs.declared.states.Phase.TheVariants.{Dormant, Ready, Waiting}
use Rattle.fmp_base.specs.declared.states.Processor.{Processor}
use Rattle.fmp_base.specs.declared.states.TaskBlock.{TaskBlock}
use Rattle.fmp_base.specs.Changes.{started_block, started, released_state, released, ended_block, ended_by, ended}
use Rattle.fmp_base.specs.Changes.{ended_itself, with_nothing_run, suspended_by}
use Rattle.fmp_base.specs.Outcomes.{code}
use Rattle.fmp_base.specs.Settles.{all_settled, begun, dispatch_lines, dispatched, handler_to_begin, is_dispatch_held}
use Rattle.fmp_base.specs.Settles.{is_same_task, settled, settled_on, settled_with}
use Rattle.fmp_base.specs.Queues.{top}
use Rattle.fmp_base.specs.States.{KernelState, Progress, unchanged, task_at, places_from, processor_at}
use Rattle.fmp_base.specs.Systems.{SystemTables, cyclic_config, found}
use Rattle.fmp_base.specs.Ticks.{all_cycled, all_timed_out, cycled, cycled_by, is_due, is_pending, pended_by, ticked}
use Rattle.fmp_base.specs.Ticks.{timed_out, timed_out_by, timeout_code, with_clock_advanced}
use Rattle.fmp_bisimulation.specs.Alike.{is_off}

-- a line starts this task
abbrev pub starts_by : ℕ → Line → Bool
starts_by t (line.Starts p u) = nat_eq t u
starts_by t _ = false

abbrev pub starts : ℕ → List Line → Bool
starts t [] = false
starts t (l ∷ ls) = starts_by t l || starts t ls

or-assoc : (a b c : Bool) → ((a || b) || c) ≡ (a || (b || c))
or-assoc true b c = refl
or-assoc false b c = refl

pub starts-append : (t : ℕ) (xs ys : List Line) → starts t (xs ++ ys) ≡ (starts t xs || starts t ys)
starts-append t [] ys = refl
starts-append t (l ∷ ls) ys =
    ap (λ (b : Bool). starts_by t l || b) (starts-append t ls ys)
    ∙ sym (or-assoc (starts_by t l) (starts t ls) (starts t ys))

-- who was off is off, or was started
abbrev pub Rested : (before after started : Bool) → Type 0
Rested true false false = ⊥
Rested _ _ _ = Unit {0}

pub rested-same : (a c : Bool) → Rested a a c
rested-same true c = tt
rested-same false c = tt

pub rested-off : (a c : Bool) → Rested a true c
rested-off true c = tt
rested-off false c = tt

rested-started : (a b : Bool) → Rested a b true
rested-started true true = tt
rested-started true false = tt
rested-started false b = tt

-- who is not off rests as anybody
rested-on : (a b c : Bool) → Rested a false c → Rested a b c
rested-on true true c h = tt
rested-on true false c h = h
rested-on false b c h = tt

rested-more : (a b c d : Bool) → Rested a b c → Rested a b (c || d)
rested-more true true c d h = tt
rested-more true false true d h = tt
rested-more true false false d h = absurd h
rested-more false b c d h = tt

-- each task does, on the way from s
abbrev pub Rests : KernelState → Progress → Type 0
Rests s g = (t : ℕ) → Rested (is_off (task_at s.tasks t)) (is_off (task_at g.state.tasks t)) (starts t g.lines)

set_at : (P : TaskBlock → Type 0) (xs : List TaskBlock) (t : ℕ) (y : TaskBlock) (v : ℕ) → (v ≡ t → P y)
    → P (task_at xs v)
    → P (task_at (slice_set xs t y) v)
set_at P [] t y v h k = k
set_at P (x ∷ xs) zero y zero h k = h refl
set_at P (x ∷ xs) zero y (suc v) h k = k
set_at P (x ∷ xs) (suc t) y zero h k = k
set_at P (x ∷ xs) (suc t) y (suc v) h k = set_at P xs t y v (λ e. h (ap (λ (n : ℕ). suc n) e)) k

pub rests-still : (s : KernelState) → Rests s (unchanged s)
rests-still s t = rested-same (is_off (task_at s.tasks t)) false

-- more lines come, and no task changes
pub rests-lines : (s : KernelState) (g : Progress) (ls : List Line) → Rests s g
    → (t : ℕ) → Rested (is_off (task_at s.tasks t)) (is_off (task_at g.state.tasks t)) (starts t (g.lines ++ ls))
rests-lines s g ls h t =
    subst (λ (b : Bool). Rested (is_off (task_at s.tasks t)) (is_off (task_at g.state.tasks t)) b)
    (sym (starts-append t g.lines ls))
    (rested-more (is_off (task_at s.tasks t)) (is_off (task_at g.state.tasks t)) (starts t g.lines) (starts t ls) (h t))

-- a task changes, and is off as before
pub rests-kept : (s : KernelState) (t : ℕ) (y : TaskBlock) → is_off y ≡ is_off (task_at s.tasks t)
    → (v : ℕ) → Rested (is_off (task_at s.tasks v)) (is_off (task_at (slice_set s.tasks t y) v)) false
rests-kept s t y e v =
    set_at (λ z. Rested (is_off (task_at s.tasks v)) (is_off z) false) s.tasks t y v
    (λ same. subst (λ (b : Bool). Rested (is_off (task_at s.tasks v)) b false)
    (ap (λ (u : ℕ). is_off (task_at s.tasks u)) same ∙ sym e) (rested-same (is_off (task_at s.tasks v)) false))
    (rested-same (is_off (task_at s.tasks v)) false)

-- a task that is not off changes
rests-set : (s : KernelState) (g : Progress) (t : ℕ) (y : TaskBlock) → Rests s g → is_off (task_at g.state.tasks t)
    ≡ false
    → (v : ℕ) → Rested (is_off (task_at s.tasks v)) (is_off (task_at (slice_set g.state.tasks t y) v))
    (starts v g.lines)
rests-set s g t y h on v =
    set_at (λ z. Rested (is_off (task_at s.tasks v)) (is_off z) (starts v g.lines)) g.state.tasks t y v
    (λ same. rested-on (is_off (task_at s.tasks v)) (is_off y) (starts v g.lines)
    (subst (λ (b : Bool). Rested (is_off (task_at s.tasks v)) b (starts v g.lines))
    (ap (λ (u : ℕ). is_off (task_at g.state.tasks u)) same ∙ on) (h v)))
    (h v)

-- a task is off now
rests-ends : (s : KernelState) (g : Progress) (t : ℕ) (y : TaskBlock) → Rests s g → is_off y ≡ true
    → (v : ℕ) → Rested (is_off (task_at s.tasks v)) (is_off (task_at (slice_set g.state.tasks t y) v))
    (starts v g.lines)
rests-ends s g t y h off v =
    set_at (λ z. Rested (is_off (task_at s.tasks v)) (is_off z) (starts v g.lines)) g.state.tasks t y v
    (λ same. subst (λ (b : Bool). Rested (is_off (task_at s.tasks v)) b (starts v g.lines)) (sym off)
    (rested-off (is_off (task_at s.tasks v)) (starts v g.lines)))
    (h v)

pub rests-waits : (s : KernelState) (t : ℕ) (y : TaskBlock) → is_off (task_at s.tasks t) ≡ false
    → (v : ℕ) → Rested (is_off (task_at s.tasks v)) (is_off (task_at (slice_set s.tasks t y) v)) false
rests-waits s t y on = rests-set s (unchanged s) t y (rests-still s) on

pub rests-started : (sys : SystemTables) (s : KernelState) (g : Progress) (t : ℕ) (x : TaskBlock) → Rests s g
    → Rests s (started sys g t x)
rests-started sys s g t x h v =
    let y = started_block sys t x in
    let l : Line = line.Starts y.processor t in
    set_at (λ z. Rested (is_off (task_at s.tasks v)) (is_off z) (starts v (g.lines ++ l ∷ []))) g.state.tasks t y v
    (λ same. subst (λ (b : Bool). Rested (is_off (task_at s.tasks v)) (is_off y) b) (sym (told same))
    (rested-started (is_off (task_at s.tasks v)) (is_off y)))
    (rests-lines s g (l ∷ []) h v) where
      or-true : (a b : Bool) → b ≡ true → (a || (b || false)) ≡ true
      or-true true true e = refl
      or-true false true e = refl
      or-true a false e = cc

      told : v ≡ t → starts v (g.lines ++ line.Starts (started_block sys t x).processor t ∷ []) ≡ true
      told same =
          starts-append v g.lines (line.Starts (started_block sys t x).processor t ∷ [])
          ∙ or-true (starts v g.lines) (nat_eq v t) (eq-eqb v t same)

released_by : (b : Bool) (s u : KernelState) (t : ℕ) (y : TaskBlock) (ls : List Line)
    → ((v : ℕ) → Rested (is_off (task_at s.tasks v)) (is_off (task_at (slice_set u.tasks t y) v)) (starts v ls))
    → (v : ℕ) → Rested (is_off (task_at s.tasks v)) (is_off (task_at (released_state b u t y).tasks v)) (starts v ls)
released_by true s u t y ls h = h
released_by false s u t y ls h = h

pub rests-released : (s : KernelState) (g : Progress) (t : ℕ) (x : TaskBlock) (reply : Reply) → Rests s g
    → is_off (task_at g.state.tasks t) ≡ false → Rests s (released g t x reply)
rests-released s g t x reply h on =
    let y = record x { phase = Ready; deadline = None } in
    let told : Progress = record { state = g.state; lines = g.lines ++ line.Gets x.processor t reply ∷ [] } in
    released_by x.suspended s g.state t y (g.lines ++ line.Gets x.processor t reply ∷ [])
    (rests-set s told t y (rests-lines s g (line.Gets x.processor t reply ∷ []) h) on)

ended_by-rests : (n : ℕ) (sys : SystemTables) (s : KernelState) (g : Progress) (t : ℕ) (y : TaskBlock) → is_off y
    ≡ true → Rests s g
    → Rests s (ended_by n sys g t y)
ended_by-rests zero sys s g t y off h = rests-ends s g t y h off
ended_by-rests (suc n) sys s g t y off h = rests-started sys s g t (record y { activations = n }) h

pub rests-ended : (sys : SystemTables) (s : KernelState) (g : Progress) (t : ℕ) (x : TaskBlock) → Rests s g
    → Rests s (ended sys g t x)
rests-ended sys s g t x h = ended_by-rests x.activations sys s g t (ended_block sys t x) refl h

pub rests-ended_itself : (sys : SystemTables) (s : KernelState) (p t : ℕ) (x : TaskBlock)
    → Rests s (ended_itself sys s p t x)
rests-ended_itself sys s p t x = rests-ended sys s (unchanged (with_nothing_run s p)) t x (rests-still s)

pub rests-suspended : (p : Phase) (s : KernelState) (t : ℕ) (y : TaskBlock) → is_off y ≡ is_off (task_at s.tasks t)
    → Rests s (unchanged (suspended_by p s t y))
rests-suspended Dormant s t y e = rests-kept s t y e
rests-suspended Ready s t y e = rests-kept s t y e
rests-suspended (Waiting c) s t y e = rests-kept s t y e

-- the clock
off-due : (x : TaskBlock) (now : ℕ) → is_due now x.deadline ≡ true → is_off x ≡ false
off-due x now e = by_block x.phase x.deadline e where
  by_block : (p : Phase) (d : Option ℕ) → is_due now d ≡ true → is_off (record x { phase = p; deadline = d }) ≡ false
  by_block Dormant None e = cc
  by_block Dormant (Some n) e = refl
  by_block Ready d e = refl
  by_block (Waiting c) d e = refl

timed_out_by-rests : (b : Bool) (s : KernelState) (g : Progress) (t : ℕ) → Rests s g
    → (b ≡ true → is_off (task_at g.state.tasks t) ≡ false) → Rests s (timed_out_by b g t (task_at g.state.tasks t))
timed_out_by-rests true s g t h on =
    rests-released s g t (task_at g.state.tasks t) (code (timeout_code (task_at g.state.tasks t).phase)) h (on refl)
timed_out_by-rests false s g t h on = h

all_timed_out-rests : (s : KernelState) (g : Progress) (ts : List ℕ) → Rests s g → Rests s (all_timed_out g ts)
all_timed_out-rests s g [] h = h
all_timed_out-rests s g (t ∷ ts) h =
    all_timed_out-rests s (timed_out g t (task_at g.state.tasks t)) ts
    (timed_out_by-rests (is_due g.state.clock (task_at g.state.tasks t).deadline) s g t h
    (λ e. off-due (task_at g.state.tasks t) g.state.clock e))

pended_by-rests : (b : Bool) (sys : SystemTables) (s : KernelState) (g : Progress) (c : ℕ) → Rests s g
    → Rests s (pended_by b sys g c)
pended_by-rests true sys s g c h = h
pended_by-rests false sys s g c h = rests-lines s g (line.Pends (cyclic_config sys c).processor c ∷ []) h

cycled_by-rests : (b : Bool) (sys : SystemTables) (s : KernelState) (g : Progress) (c : ℕ) → Rests s g
    → Rests s (cycled_by b sys g c)
cycled_by-rests true sys s g c h = pended_by-rests (is_pending g.state.pending_cyclics c) sys s g c h
cycled_by-rests false sys s g c h = h

all_cycled-rests : (sys : SystemTables) (s : KernelState) (g : Progress) (cs : List ℕ) → Rests s g
    → Rests s (all_cycled sys g cs)
all_cycled-rests sys s g [] h = h
all_cycled-rests sys s g (c ∷ cs) h =
    all_cycled-rests sys s (cycled sys g c) cs
    (cycled_by-rests (is_due g.state.clock (found None (slice_get g.state.due_times c))) sys s g c h)

pub ticked-rests : (sys : SystemTables) (s : KernelState) → Rests s (ticked sys s)
ticked-rests sys s =
    all_cycled-rests sys s _ (places_from 0 (length s.due_times))
    (all_timed_out-rests s (unchanged (with_clock_advanced s)) (places_from 0 (length s.tasks)) (rests-still s))

-- settling
begun-rests : (i : Handler) (s : KernelState) (g : Progress) (p : ℕ) (cpu : Processor) → Rests s g
    → Rests s (begun g p cpu i)
begun-rests (handler.Interrupt i) s g p cpu h = rests-lines s g (line.Begins p (handler.Interrupt i) ∷ []) h
begun-rests (handler.Cyclic i) s g p cpu h = rests-lines s g (line.Begins p (handler.Cyclic i) ∷ []) h

settled_with-rests : (b : Option Handler) (s : KernelState) (g : Progress) (p : ℕ) (cpu : Processor) → Rests s g
    → Rests s (settled_with b g p cpu)
settled_with-rests (Some i) s g p cpu h = begun-rests i s g p cpu h
settled_with-rests None s g p cpu h =
    elim (is_dispatch_held cpu) as (λ b. Rests s (cond b g (dispatched g p cpu (top g.state p)))) [
      | true ↦ h
      | false ↦ rests-lines s g (dispatch_lines (is_same_task cpu.run (top g.state p)) p (top g.state p)) h
    ]

all_settled-rests : (sys : SystemTables) (s : KernelState) (g : Progress) (ps : List ℕ) → Rests s g
    → Rests s (all_settled sys g ps)
all_settled-rests sys s g [] h = h
all_settled-rests sys s g (p ∷ ps) h =
    all_settled-rests sys s (settled_on sys g p (processor_at g.state p)) ps
    (settled_with-rests (handler_to_begin sys g.state p (processor_at g.state p)) s g p (processor_at g.state p) h)

pub settled-rests : (sys : SystemTables) (s : KernelState) (g : Progress) → Rests s g → Rests s (settled sys g)
settled-rests sys s g h = all_settled-rests sys s g (places_from 0 (length g.state.processors)) h
