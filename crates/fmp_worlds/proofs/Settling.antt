-- Settling leaves every processor settled.
use Rattle.std.proofs.Common.{◌≡◌, ℕ, zero, suc, ◌+◌, ◌<◌, ◌≤◌, List, Option, Some, None, Bool, true, false, ◌||◌, ◌⊎◌}
use Rattle.std.proofs.Common.{inl, inr, nat_eq, length, slice_get, slice_set, refl, sym, subst, ap, ◌∙◌, arith}
use Rattle.std.proofs.Common.{if◌then◌else◌}
use Rattle.std.proofs.lemmas.List.{length-set}
use Rattle.std.proofs.lemmas.Bool.{eqb-true}
use Rattle.std.proofs.lemmas.Bool.Decides.{nat_tests}
use Rattle.fmp_base.specs.declared.states.Handler.{Handler}
use Rattle.fmp_base.specs.declared.states.Handler.TheVariants as handler
use Rattle.fmp_base.specs.declared.states.Processor.{Processor}
use Rattle.fmp_base.specs.declared.states.TaskBlock.{TaskBlock}
use Rattle.fmp_base.specs.ProcessorCalls.{is_cpu_locked}
use Rattle.fmp_base.specs.Queues.{top}
use Rattle.fmp_base.specs.Settles.{pending_handler, without_pending, begun, dispatched, runs_handler, is_dispatch_held}
use Rattle.fmp_base.specs.Settles.{handler_to_begin, settled_with, settled_on, all_settled, settled}
use Rattle.fmp_base.specs.States.{KernelState, Progress, task_at, processor_at, with_processor, idle, places_from}
use Rattle.fmp_base.specs.Systems.{SystemTables, found}
use Rattle.fmp_worlds.specs.Settled.{IsSettled}
use Rattle.fmp_worlds.proofs.Assigned.{set_other, set_same, runs-within, Runs, Fits, Holds}
use Rattle.fmp_worlds.proofs.Pending.{pending-less}
use Rattle.fmp_worlds.proofs.Tops.{fits-top}

-- a processor that dispatches when it settles
pub record Dispatches (cpu : Processor) (pending : Option Handler) : Type 0 where
  pub unhandled : cpu.handler ≡ None
  pub unlocked : is_cpu_locked cpu ≡ false
  pub enabled : cpu.dispatch_disabled ≡ false
  pub nothing : pending ≡ None

-- a state that settling makes a settled one: what a processor runs is assigned to it, or it dispatches
pub record CanSettle (sys : SystemTables) (s : KernelState) : Type 0 where
  pub each :
      (q t : ℕ) → Runs s.processors q t →
      Fits q (task_at s.tasks t) ⊎ Dispatches (processor_at s q) (pending_handler sys s q)

pub can_settle : (sys : SystemTables) (s : KernelState) → Holds s → CanSettle sys s
can_settle sys s a = record { each = λ q t r. inl (a.each q t r) }

-- processor q, which is cpu, has settled
record Rests (tasks : List TaskBlock) (q : ℕ) (cpu : Processor) (pending : Option Handler) : Type 0 where
  fits : (t : ℕ) → cpu.run ≡ Some t → Fits q (task_at tasks t)
  begun : cpu.handler ≡ None → is_cpu_locked cpu ≡ false → pending ≡ None

abbrev RestsIn : SystemTables → KernelState → ℕ → Type 0
RestsIn sys s q = Rests s.tasks q (processor_at s q) (pending_handler sys s q)

-- u is s after processor p has settled
record After (sys : SystemTables) (p : ℕ) (s u : KernelState) : Type 0 where
  tasks : u.tasks ≡ s.tasks
  count : length u.processors ≡ length s.processors
  others : (q : ℕ) → (p ≡ q → ⊥) → processor_at u q ≡ processor_at s q
  pending : (q : ℕ) → pending_handler sys s q ≡ None → pending_handler sys u q ≡ None
  own : RestsIn sys u p

-- the handler that begins was pending
begins : (b : Bool) (pending : Option Handler) (h : Handler) → (if b then None else pending) ≡ Some h → pending ≡ Some h
begins true pending h e = cc
begins false pending h e = e

-- where none begins that could, none was pending
none_begins : (handler : Option Handler) (locked : Bool) (pending : Option Handler)
    → (if runs_handler handler || locked then None else pending) ≡ None → handler ≡ None → locked ≡ false → pending
    ≡ None
none_begins None false pending e h k = e
none_begins None true pending e h k = cc
none_begins (Some i) locked pending e h k = cc

is_held : (cpu : Processor) (pending : Option Handler) → Dispatches cpu pending → is_dispatch_held cpu ≡ true → ⊥
is_held cpu pending d h = by_parts cpu.handler (is_cpu_locked cpu) cpu.dispatch_disabled d.unhandled d.unlocked
    d.enabled h where
      by_parts : (handler : Option Handler) (locked disabled : Bool) → handler ≡ None → locked ≡ false → disabled ≡ false
          → (runs_handler handler || locked || disabled) ≡ true → ⊥
      by_parts (Some i) locked disabled a b c h = cc
      by_parts None true disabled a b c h = cc
      by_parts None false true a b c h = cc
      by_parts None false false a b c h = cc

-- what p runs is assigned to it, or it dispatches
abbrev Ready : SystemTables → KernelState → ℕ → Type 0
Ready sys s p =
    (t : ℕ) → Runs s.processors p t → Fits p (task_at s.tasks t)
    ⊎ Dispatches (processor_at s p) (pending_handler sys s p)

after-held : (sys : SystemTables) (s : KernelState) (p : ℕ) → Ready sys s p
    → handler_to_begin sys s p (processor_at s p) ≡ None → is_dispatch_held (processor_at s p) ≡ true → After sys p s s
after-held sys s p ready e held =
    let cpu = processor_at s p in
    record {
      tasks = refl;
      count = refl;
      others = λ q apart. refl;
      pending = λ q h. h;
      own =
          record {
            fits = λ t r. elim (ready t r) [
              | inl f ↦ f
              | inr d ↦ absurd
                  (is_held cpu (pending_handler sys s p) d held)
            ];
            begun = λ h k. none_begins cpu.handler (is_cpu_locked cpu) (pending_handler sys s p) e h k;
          };
    }

after-dispatched : (sys : SystemTables) (s : KernelState) (p : ℕ) → p < length s.processors
    → handler_to_begin sys s p (processor_at s p) ≡ None
    → After sys p s (with_processor s p (record (processor_at s p) { run = top s p }))
after-dispatched sys s p within e =
    let cpu = processor_at s p in
    let now : Processor = record cpu { run = top s p } in
    record {
      tasks = refl;
      count = length-set s.processors p now;
      others = λ q apart. set_other idle s.processors p now q apart;
      pending = λ q h. h;
      own = subst (λ (c : Processor). Rests s.tasks p c (pending_handler sys s p))
          (sym (set_same idle s.processors p now within)) (record {
            fits = λ t r. fits-top s p t r;
            begun = λ h k. none_begins cpu.handler (is_cpu_locked cpu) (pending_handler sys s p) e h k;
          });
    }

after-begun : (sys : SystemTables) (s u : KernelState) (p : ℕ) (h : Handler) → p < length s.processors → Ready sys s p
    → pending_handler sys s p ≡ Some h → u.tasks ≡ s.tasks → u.processors ≡ s.processors
    → ((q : ℕ) → pending_handler sys s q ≡ None → pending_handler sys u q ≡ None)
    → After sys p s (with_processor u p (record (processor_at s p) { handler = Some h }))
after-begun sys s u p h within ready e tasks cpus less =
    let cpu = processor_at s p in
    let now : Processor = record cpu { handler = Some h } in
    let same : found idle (slice_get (slice_set u.processors p now) p)
    ≡ now = set_same idle u.processors p now (subst (λ (cs : List Processor). p < length cs) (sym cpus) within) in
    record {
      tasks = tasks;
      count = length-set u.processors p now ∙ ap (λ (cs : List Processor). length cs) cpus;
      others = λ q apart. set_other idle u.processors p now q apart
          ∙ ap (λ (cs : List Processor). found idle (slice_get cs q)) cpus;
      pending = less;
      own = subst (λ (c : Processor). Rests u.tasks p c (pending_handler sys u p)) (sym same) (record {
        fits = λ t r. subst (λ (ts : List TaskBlock). Fits p (task_at ts t)) (sym tasks) (fits t (ready t r));
        begun = λ a b. cc;
      });
    } where
      fits : (t : ℕ) → Fits p (task_at s.tasks t) ⊎ Dispatches (processor_at s p) (pending_handler sys s p)
          → Fits p (task_at s.tasks t)
      fits t (inl f) = f
      fits t (inr d) = let n = d.nothing in cc

after-none : (held : Bool) (sys : SystemTables) (g : Progress) (p : ℕ) → p < length g.state.processors
    → Ready sys g.state p
    → handler_to_begin sys g.state p (processor_at g.state p) ≡ None → is_dispatch_held (processor_at g.state p) ≡ held
    → After sys p g.state (if held then g else dispatched g p (processor_at g.state p) (top g.state p)).state
after-none true sys g p within ready e k = after-held sys g.state p ready e k
after-none false sys g p within ready e k = after-dispatched sys g.state p within e

after-settled_with : (o : Option Handler) (sys : SystemTables) (g : Progress) (p : ℕ) → p < length g.state.processors
    → Ready sys g.state p → handler_to_begin sys g.state p (processor_at g.state p) ≡ o
    → After sys p g.state (settled_with o g p (processor_at g.state p)).state
after-settled_with None sys g p within ready e =
    after-none (is_dispatch_held (processor_at g.state p)) sys g p within ready e refl
after-settled_with (Some h) sys g p within ready e =
    let was = begins _ (pending_handler sys g.state p) h e in
    by_kind h was where
      by_kind : (h : Handler) → pending_handler sys g.state p ≡ Some h
          → After sys p g.state (begun g p (processor_at g.state p) h).state
      by_kind (handler.Interrupt i) was =
          after-begun sys g.state (without_pending g.state (handler.Interrupt i)) p
          (handler.Interrupt i) within ready was refl refl (λ q n. pending-less sys g.state
          (handler.Interrupt i) q n)
      by_kind (handler.Cyclic c) was =
          after-begun sys g.state (without_pending g.state (handler.Cyclic c)) p
          (handler.Cyclic c) within ready was refl refl (λ q n. pending-less sys g.state (handler.Cyclic c) q n)

-- what has settled rests on while another settles
rests-after : (sys : SystemTables) (p : ℕ) (s u : KernelState) → After sys p s u → (q : ℕ) → (p ≡ q → ⊥)
    → RestsIn sys s q → RestsIn sys u q
rests-after sys p s u a q apart h =
    let e = a.others q apart in
    record {
      fits = λ t r. subst (λ (ts : List TaskBlock). Fits q (task_at ts t)) (sym a.tasks)
          (h.fits t (sym (ap (λ (c : Processor). c.run) e) ∙ r));
      begun = λ b c. a.pending q (h.begun (sym (ap (λ (c : Processor). c.handler) e) ∙ b)
          (sym (ap is_cpu_locked e) ∙ c));
    }

ready-after : (sys : SystemTables) (p : ℕ) (s u : KernelState) → After sys p s u → (q : ℕ) → (p ≡ q → ⊥)
    → Ready sys s q → Ready sys u q
ready-after sys p s u a q apart h t r = by_kind (h t (sym (ap (λ (c : Processor). c.run) e) ∙ r)) where
  e : processor_at u q ≡ processor_at s q
  e = a.others q apart

  by_kind : Fits q (task_at s.tasks t) ⊎ Dispatches (processor_at s q) (pending_handler sys s q)
      → Fits q (task_at u.tasks t) ⊎ Dispatches (processor_at u q) (pending_handler sys u q)
  by_kind (inl f) = inl (subst (λ (ts : List TaskBlock). Fits q (task_at ts t)) (sym a.tasks) f)
  by_kind (inr d) =
      inr (record {
        unhandled = ap (λ (c : Processor). c.handler) e ∙ d.unhandled;
        unlocked = ap is_cpu_locked e ∙ d.unlocked;
        enabled = ap (λ (c : Processor). c.dispatch_disabled) e ∙ d.enabled;
        nothing = a.pending q d.nothing;
      })

can_settle-after : (sys : SystemTables) (p : ℕ) (s u : KernelState) → After sys p s u → CanSettle sys s
    → CanSettle sys u
can_settle-after sys p s u a h = record { each = λ q. by_test q (nat_eq p q) refl } where
  by_test : (q : ℕ) (b : Bool) → nat_eq p q ≡ b → Ready sys u q
  by_test q true e t r =
      let same : p ≡ q = eqb-true p q e in
      let own : RestsIn sys u q = subst (λ (v : ℕ). RestsIn sys u v) same a.own in
      inl (own.fits t r)
  by_test q false e t r = ready-after sys p s u a q (λ same. grind (arith, nat_tests, same, e)) (h.each q) t r

record Walked (sys : SystemTables) (k : ℕ) (s u : KernelState) : Type 0 where
  count : length u.processors ≡ length s.processors
  rest : (q : ℕ) → q < k → RestsIn sys u q

-- the processors from place k on settle, where those before have
walk : (sys : SystemTables) (n k : ℕ) (g : Progress) → k + n ≤ length g.state.processors → CanSettle sys g.state
    → ((q : ℕ) → q < k → RestsIn sys g.state q) → Walked sys (k + n) g.state (all_settled sys g (places_from k n)).state
walk sys zero k g within h rest = record { count = refl; rest = λ q l. rest q (omega (arith, l)) }
walk sys (suc n) k g within h rest =
    let next = settled_on sys g k (processor_at g.state k) in
    let a : After sys k g.state next.state = after-settled_with (handler_to_begin sys g.state k
    (processor_at g.state k)) sys g k (omega (arith, within)) (h.each k) refl in
    let w = walk sys n (k + 1) next (omega (arith, within, a.count)) (can_settle-after sys k g.state next.state a h)
    (λ q l. now next a q l (nat_eq k q) refl) in
    record { count = w.count ∙ a.count; rest = λ q l. w.rest q (omega (arith, l)) } where
      now : (next : Progress) → After sys k g.state next.state → (q : ℕ) → q < k + 1 → (b : Bool) → nat_eq k q ≡ b
          → RestsIn sys next.state q
      now next a q l true e = subst (λ (v : ℕ). RestsIn sys next.state v) (eqb-true k q e) a.own
      now next a q l false e =
          rests-after sys k g.state next.state a q (λ same. grind (arith, nat_tests, same, e))
          (rest q (grind (arith, nat_tests, l, e)))

pub settled-settles : (sys : SystemTables) (g : Progress) → CanSettle sys g.state → IsSettled sys (settled sys g).state
settled-settles sys g h =
    let w = walk sys (length g.state.processors) 0 g (omega arith) h (λ q l. absurd (omega (arith, l))) in
    record {
      assigned = λ p t r. let f = fits w p t r in f.place;
      ready = λ p t r. let f = fits w p t r in f.ready;
      begun = λ p l a b. let o = w.rest p (omega (arith, l, w.count)) in o.begun a b;
    } where
      fits : Walked sys (0 + length g.state.processors) g.state (settled sys g).state → (p t : ℕ)
          → Runs (settled sys g).state.processors p t → Fits p (task_at (settled sys g).state.tasks t)
      fits w p t r =
          let l = runs-within (settled sys g).state.processors p t r in
          let o = w.rest p (omega (arith, l, w.count)) in
          o.fits t r
