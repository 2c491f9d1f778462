-- What a processor spins for, by the kernel's own answer to its next call; and where nothing is spun for.
use Rattle.std.proofs.Common.{◌≡◌, refl, sym, ap, ◌∙◌, ℕ, ℤ, ◌+◌, List, [], ◌∷◌, Option, Some, None, Bool, true, false}
use Rattle.std.proofs.Common.{◌&&◌, ◌||◌, not, if◌then◌else◌, length}
use Rattle.std.specs.Prelude.{cond}
use Rattle.std.specs.List.{position_from}
use Rattle.std.proofs.lemmas.Iterator.Adapters.{position_from-zero}
use Rattle.fmp_base.specs.declared.calls.Call.{Call}
use Rattle.fmp_base.specs.declared.calls.Call.TheVariants as call
use Rattle.fmp_base.specs.declared.codes.Er.TheVariants as er
use Rattle.fmp_base.specs.declared.states.Caller.{Caller}
use Rattle.fmp_base.specs.declared.states.Caller.TheVariants as caller
use Rattle.fmp_base.specs.declared.states.Handler.{Handler}
use Rattle.fmp_base.specs.declared.states.Lock.{Lock}
use Rattle.fmp_base.specs.declared.states.Lock.TheVariants as lock
use Rattle.fmp_base.specs.declared.states.Processor.{Processor}
use Rattle.fmp_base.specs.Calls.{called}
use Rattle.fmp_base.specs.Outcomes.{numbered, refused_if, tested}
use Rattle.fmp_base.specs.ProcessorCalls.{is_free, is_held, is_spin as is_spin_lock, spin_lock_taken}
use Rattle.fmp_base.specs.States.{KernelState, processor_at}
use Rattle.fmp_base.specs.Steps.{actor_by, actor_of}
use Rattle.fmp_base.specs.Systems.{SystemTables}
use Rattle.fmp_why.specs.declared.obstacles.SpinWait.{SpinWait}
use Rattle.fmp_why.specs.Obstacles.{asked_lock, held_by, held_lock, holder_of, holds_spin_lock, is_any_held}
use Rattle.fmp_why.specs.Obstacles.{is_held_lock, is_open, is_some, may_spin, runs_task, spin_on, spins_by}
use Rattle.fmp_why.specs.Verdicts.{is_spin}

some-of : (b : Bool) (i : ℕ) (rest : Option ℕ) → is_some (cond b (Some i) rest) ≡ (b || is_some rest)
some-of true i rest = refl
some-of false i rest = refl

-- some processor holds a spin lock, if the first of those that do has a place
held-from : (l i : ℕ) (cpus : List Processor)
    → is_some (position_from (λ cpu. is_spin_lock l cpu.lock) i cpus) ≡ is_held l cpus
held-from l i [] = refl
held-from l i (x ∷ xs) =
    some-of (is_spin_lock l x.lock) i (position_from (λ cpu. is_spin_lock l cpu.lock) (i + 1) xs)
    ∙ ap (λ (b : Bool). is_spin_lock l x.lock || b) (held-from l (i + 1) xs)

held : (l : ℕ) (cpus : List Processor) → is_some (holder_of cpus l) ≡ is_held l cpus
held l cpus = ap is_some (position_from-zero (λ (cpu : Processor). is_spin_lock l cpu.lock) cpus) ∙ held-from l 0 cpus

held-spin : (l : ℕ) (place : Option ℕ) → is_spin (held_by l place) ≡ is_some place
held-spin l None = refl
held-spin l (Some p) = refl

answered : (b : Bool) (s : KernelState) (p l : ℕ) → spins_by (spin_lock_taken b s p l).answer ≡ b
answered true s p l = refl
answered false s p l = refl

module _ (s : KernelState) (p : ℕ) where
  of-lock : (free : Bool) (l : Option ℕ)
      → is_spin (if free then held_lock s.processors l else None)
      ≡ spins_by (refused_if (not free) s er.Ctx (tested s er.Id l (λ i. spin_lock_taken
      (is_held i s.processors) s p i))).answer
  of-lock false l = refl
  of-lock true None = refl
  of-lock true (Some l) =
      held-spin l (holder_of s.processors l) ∙ held l s.processors ∙ sym (answered (is_held l s.processors) s p l)

  of-task : (h : Option Handler) (r : Option ℕ) (me : ℕ) (free : Bool) (l : Option ℕ) → actor_by h r
      ≡ Some (caller.Task me)
      → is_spin (if runs_task h r && free then held_lock s.processors l else None)
      ≡ spins_by (refused_if (not free) s er.Ctx (tested s er.Id l (λ i. spin_lock_taken
      (is_held i s.processors) s p i))).answer
  of-task (Some h) r me free l e = absurd (cc e)
  of-task None (Some t) me free l e = of-lock free l
  of-task None None me free l e = absurd (cc e)

  of-handler : (h : Option Handler) (r : Option ℕ) (x : Handler) (free : Bool) (l : Option ℕ)
      → actor_by h r ≡ Some (caller.Handler x)
      → is_spin (if runs_task h r && free then held_lock s.processors l else None) ≡ false
  of-handler (Some h) r x free l e = refl
  of-handler None (Some t) x free l e = absurd (cc e)
  of-handler None None x free l e = absurd (cc e)

-- the actor of a processor whose next call asks for a spin lock spins exactly if the kernel answers that call so
pub spins-as-answered : (sys : SystemTables) (s : KernelState) (p : ℕ) (who : Caller) (l : ℤ)
    → actor_of (processor_at s p) ≡ Some who
    → is_spin (spin_on s.processors (length sys.spin_locks) (processor_at s p) (Some (call.LocSpn l)))
    ≡ spins_by (called sys s p who (call.LocSpn l)).answer
spins-as-answered sys s p (caller.Task me) l e =
    of-task s p (processor_at s p).handler (processor_at s p).run me (is_free (processor_at s p).lock)
    (numbered (length sys.spin_locks) l) e
spins-as-answered sys s p (caller.Handler x) l e =
    of-handler s p (processor_at s p).handler (processor_at s p).run x (is_free (processor_at s p).lock)
    (numbered (length sys.spin_locks) l) e

-- nothing is spun for where no spin lock is held, or by an actor that may not ask for one

lock-held : (l : ℕ) (x : Lock) → is_held_lock x ≡ false → is_spin_lock l x ≡ false
lock-held l lock.Free e = refl
lock-held l lock.Cpu e = refl
lock-held l (lock.Spin k) e = absurd (cc e)

or-left : (a b : Bool) → (a || b) ≡ false → a ≡ false
or-left false b e = refl
or-left true b e = e

or-right : (a b : Bool) → (a || b) ≡ false → b ≡ false
or-right false b e = e
or-right true b e = absurd (cc e)

none-of : (b : Bool) (i : ℕ) (rest : Option ℕ) → b ≡ false → rest ≡ None → cond b (Some i) rest ≡ None
none-of false i rest e h = h
none-of true i rest e h = absurd (cc e)

none-from : (l i : ℕ) (cpus : List Processor) → is_some (position_from holds_spin_lock i cpus) ≡ false
    → position_from (λ cpu. is_spin_lock l cpu.lock) i cpus ≡ None
none-from l i [] e = refl
none-from l i (x ∷ xs) e =
    let here = sym (some-of (holds_spin_lock x) i (position_from holds_spin_lock (i + 1) xs)) ∙ e in
    none-of (is_spin_lock l x.lock) i (position_from (λ cpu. is_spin_lock l cpu.lock) (i + 1) xs)
    (lock-held l x.lock (or-left (holds_spin_lock x) _ here))
    (none-from l (i + 1) xs (or-right (holds_spin_lock x) _ here))

none-held : (cpus : List Processor) (l : Option ℕ) → is_any_held cpus ≡ false → held_lock cpus l ≡ None
none-held cpus None e = refl
none-held cpus (Some l) e =
    ap (held_by l) (position_from-zero (λ (cpu : Processor). is_spin_lock l cpu.lock) cpus
    ∙ none-from l 0 cpus (sym (ap is_some (position_from-zero holds_spin_lock cpus)) ∙ e))

none-if : (may any : Bool) (found : Option SpinWait) → (may && any) ≡ false → (any ≡ false → found ≡ None)
    → (if may then found else None) ≡ None
none-if false any found e h = refl
none-if true any found e h = h e

pub spins-not : (cpus : List Processor) (locks : ℕ) (cpu : Processor) (c : Option Call) → may_spin cpus cpu ≡ false
    → spin_on cpus locks cpu c ≡ None
spins-not cpus locks cpu c e =
    none-if (is_open cpu) (is_any_held cpus) (held_lock cpus (asked_lock locks c)) e
    (λ h. none-held cpus (asked_lock locks c) h)
