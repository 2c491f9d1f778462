-- A processor that already runs its most urgent ready task is not changed by dispatching.
use Rattle.std.proofs.Common.{◌≡◌, ℕ, zero, suc, List, [], ◌∷◌, ◌++◌, Option, Some, None, Bool, true, false, ◌||◌, refl}
use Rattle.std.proofs.Common.{sym, ap, ◌∙◌, append-nil, length}
use Rattle.std.specs.Prelude.{slice_get, slice_set, if◌then◌else◌}
use Rattle.std.proofs.lemmas.Bool.{eqb-true}
use Rattle.fmp_base.specs.declared.events.Line.{Line}
use Rattle.fmp_base.specs.declared.states.Processor.{Processor}
use Rattle.fmp_base.specs.declared.states.Handler.{Handler}
use Rattle.fmp_base.specs.ProcessorCalls.{is_cpu_locked}
use Rattle.fmp_base.specs.Queues.{top}
use Rattle.fmp_base.specs.Settles.{dispatched, dispatch_lines, is_dispatch_held, is_same_task, pending_handler}
use Rattle.fmp_base.specs.Settles.{runs_handler, all_settled, settled, settled_on, settled_with}
use Rattle.fmp_base.specs.States.{KernelState, Progress, idle, places_from, processor_at, with_processor}
use Rattle.fmp_base.specs.Systems.{SystemTables, found}

pub same_task : (a b : Option ℕ) → is_same_task a b ≡ true → a ≡ b
same_task None None e = refl
same_task None (Some b) e = cc
same_task (Some a) None e = cc
same_task (Some a) (Some b) e = ap (λ (k : ℕ). Some k) (eqb-true a b e)

set-found : {A : Type 0} (d : A) (xs : List A) (i : ℕ) → slice_set xs i (found d (slice_get xs i)) ≡ xs
set-found d [] i = refl
set-found d (x ∷ xs) zero = refl
set-found d (x ∷ xs) (suc i) = ap (λ ys. x ∷ ys) (set-found d xs i)

pub dispatched-same : (g : Progress) (p : ℕ) (cpu : Processor) (t : Option ℕ) → cpu ≡ processor_at g.state p
    → is_same_task cpu.run t ≡ true → g ≡ dispatched g p cpu t
dispatched-same g p cpu t h e =
    let now : record cpu { run = t } ≡ processor_at g.state p = ap (λ (o : Option ℕ). record cpu { run = o })
    (sym (same_task cpu.run t e)) ∙ h in
    let state : with_processor g.state p (record cpu { run = t }) ≡ g.state =
    ap (λ (c : Processor). with_processor g.state p c) now
    ∙ ap (λ (cs : List Processor). record g.state { processors = cs }) (set-found idle g.state.processors p) in
    let lines : g.lines ++ dispatch_lines (is_same_task cpu.run t) p t ≡ g.lines = rw e (append-nil g.lines) in
    sym (ap (λ (s : KernelState). after s (g.lines ++ dispatch_lines (is_same_task cpu.run t) p t)) state
    ∙ ap (λ (ls : List Line). after g.state ls) lines) where
      after : KernelState → List Line → Progress
      after s ls = record { state = s; lines = ls }

held_by : (held : Bool) (g : Progress) (p : ℕ) (cpu : Processor) (t : Option ℕ) → cpu ≡ processor_at g.state p
    → is_same_task cpu.run t ≡ true → g ≡ (if held then g else dispatched g p cpu t)
held_by true g p cpu t h e = refl
held_by false g p cpu t h e = dispatched-same g p cpu t h e

-- where no handler begins, whether dispatch is held or not
pub held_same : (g : Progress) (p : ℕ) → is_same_task (processor_at g.state p).run (top g.state p) ≡ true
    → g ≡ settled_with None g p (processor_at g.state p)
held_same g p e = held_by (is_dispatch_held (processor_at g.state p)) g p (processor_at g.state p)
    (top g.state p) refl e

no_handler : (b : Bool) (g : Progress) (p : ℕ) (cpu : Processor) → settled_with (if b then None else None) g p cpu
    ≡ settled_with None g p cpu
no_handler true g p cpu = refl
no_handler false g p cpu = refl

-- a processor with no pending handler
pub settled_none : (sys : SystemTables) (g : Progress) (p : ℕ) (cpu : Processor) → None ≡ pending_handler sys g.state p
    → settled_on sys g p cpu ≡ settled_with None g p cpu
settled_none sys g p cpu e =
    ap (λ (o : Option Handler). settled_with (if runs_handler cpu.handler || is_cpu_locked cpu then None else o) g p
    cpu) (sym e)
    ∙ no_handler (runs_handler cpu.handler || is_cpu_locked cpu) g p cpu

-- a processor with a pending handler
pub settled_some : (sys : SystemTables) (g : Progress) (p : ℕ) (cpu : Processor) (h : Handler) → Some h
    ≡ pending_handler sys g.state p
    → settled_on sys g p cpu ≡ settled_with (if runs_handler cpu.handler || is_cpu_locked cpu then None else Some h) g
    p cpu
settled_some sys g p cpu h e =
    ap (λ (o : Option Handler). settled_with (if runs_handler cpu.handler || is_cpu_locked cpu then None else o) g p
    cpu) (sym e)

-- a processor that runs its most urgent ready task, and on which no handler is pending, is settled
pub settled_rest : (sys : SystemTables) (g : Progress) (p : ℕ) → pending_handler sys g.state p ≡ None
    → is_same_task (processor_at g.state p).run (top g.state p) ≡ true → g ≡ settled_on sys g p (processor_at g.state p)
settled_rest sys g p none same = held_same g p same ∙ sym (settled_none sys g p (processor_at g.state p) (sym none))

-- one processor
pub settled_one : (sys : SystemTables) (g : Progress) → length g.state.processors ≡ 1
    → settled sys g ≡ settled_on sys g 0 (processor_at g.state 0)
settled_one sys g one = ap (λ (n : ℕ). all_settled sys g (places_from 0 n)) one
