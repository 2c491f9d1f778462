-- The calls of a task that may stop what its processor runs: ter_tsk on another task of it, mig_tsk and ext_tsk.
use Rattle.std.proofs.Common.{◌≡◌, ℕ, zero, suc, ℤ, pos, negsuc, Some, None, Bool, true, false, ◌||◌, not, ◌⊎◌, inl}
use Rattle.std.proofs.Common.{inr, length, nat_eq, nat_lt, slice_set, refl, sym, subst, ◌∙◌, arith, if◌then◌else◌}
use Rattle.std.proofs.lemmas.Bool.{eqb-true}
use Rattle.std.proofs.lemmas.Bool.Decides.{nat_tests}
use Rattle.fmp_base.specs.declared.calls.Answer.TheVariants.{Ends}
use Rattle.fmp_base.specs.declared.codes.Er.TheVariants as er
use Rattle.fmp_base.specs.declared.states.TaskBlock.{TaskBlock}
use Rattle.fmp_base.specs.Changes.{ended_itself, with_nothing_run}
use Rattle.fmp_base.specs.Outcomes.{named}
use Rattle.fmp_base.specs.Permissions.{is_caller}
use Rattle.fmp_base.specs.ProcessorCalls.{is_cpu_locked}
use Rattle.fmp_base.specs.Queues.{is_ready}
use Rattle.fmp_base.specs.Settles.{pending_handler}
use Rattle.fmp_base.specs.States.{KernelState, unchanged, task_at, processor_at}
use Rattle.fmp_base.specs.Systems.{SystemTables}
use Rattle.fmp_base.specs.TaskCalls.{self_or, by_number, is_dormant, moved_by, assigned_by, allowed_processor, ter_tsk}
use Rattle.fmp_base.specs.TaskCalls.{mig_tsk, migrated, terminated}
use Rattle.fmp_worlds.proofs.Assigned.{Runs, Fits, Holds, IsRunNowhere, fits-task}
use Rattle.fmp_worlds.proofs.Bools.{or-false, not-false}
use Rattle.fmp_worlds.proofs.Changes.{SameActors, actors-moved, holds-ended, holds-ended_itself, actors-ended_by}
use Rattle.fmp_worlds.proofs.Changes.{actors-ended_itself, handlers-ended_itself, handlers-same, lines-ended_by}
use Rattle.fmp_worlds.proofs.Changes.{lines-ended_itself}
use Rattle.fmp_worlds.proofs.Lines.{IsOwn}
use Rattle.fmp_worlds.proofs.Told.{IsReady, changed, ended-told, still, woken-ended, woken-ended_itself}
use Rattle.fmp_worlds.proofs.Outcomes.{Keeps, MayWait, keeps-succeeds, keeps-tested, keeps-refused_if, keeps-on_task}
use Rattle.fmp_worlds.proofs.Settling.{CanSettle, can_settle, Dispatches}

-- task me is the actor of processor p, which has settled
pub record Acts (sys : SystemTables) (s : KernelState) (p me : ℕ) : Type 0 where
  pub runs : Runs s.processors p me
  pub unhandled : (processor_at s p).handler ≡ None
  pub nothing : is_cpu_locked (processor_at s p) ≡ false → pending_handler sys s p ≡ None

-- a task of the caller's processor that is run is the caller
record OnlyCaller (p me q u : ℕ) : Type 0 where
  place : p ≡ q
  caller : u ≡ me

only_caller : (sys : SystemTables) (s : KernelState) (p me u q : ℕ) → Acts sys s p me → Holds s
    → (task_at s.tasks u).processor ≡ p → Runs s.processors q u → OnlyCaller p me q u
only_caller sys s p me u q k a e r =
    let f = a.each q u r in
    let place : p ≡ q = sym e ∙ f.place in
    let there : Runs s.processors p u = subst (λ (v : ℕ). Runs s.processors v u) (sym place) r in
    let both : Some u ≡ Some me = sym there ∙ k.runs in
    record { place = place; caller = cc }

-- the test of a task that it is another one of the processor
on_processor : (x : TaskBlock) (p : ℕ) → (is_dormant x.phase || not (nat_eq x.processor p)) ≡ false → x.processor ≡ p
on_processor x p e =
    let parts = or-false (is_dormant x.phase) (not (nat_eq x.processor p)) e in
    eqb-true x.processor p (not-false (nat_eq x.processor p) parts.1)

pub keeps-ter_tsk : (sys : SystemTables) (s : KernelState) (p me : ℕ) (t : ℤ)
    → Keeps (Acts sys s p me) p (Some me) sys s (ter_tsk sys s p me t)
keeps-ter_tsk sys s p me t = keeps-on_task sys s (by_number s t) _ (λ u o. by_block u) where
  unrun : (u : ℕ) → nat_eq u me ≡ false → (task_at s.tasks u).processor ≡ p → Acts sys s p me → Holds s
      → IsRunNowhere s.processors u
  unrun u e f k a q r =
      let c = only_caller sys s p me u q k a f r in
      let same : u ≡ me = c.caller in
      grind (arith, nat_tests, same, e)

  by_block : (u : ℕ) → Keeps (Acts sys s p me) p (Some me) sys s (terminated sys s p me u (task_at s.tasks u))
  by_block u =
      let x = task_at s.tasks u in
      keeps-refused_if sys s (nat_eq u me) er.Iluse _
      (λ e. keeps-refused_if sys s (is_dormant x.phase || not (nat_eq x.processor p)) er.Obj _
      (λ f. keeps-succeeds sys s _ (λ k a. holds-ended sys (unchanged s) u x (unrun u e (on_processor x p f) k a) a)
      (actors-ended_by x.activations sys (unchanged s) u _)
      (λ k a. lines-ended_by x.activations sys s u _ (IsOwn s p) (λ q r h. absurd
      (unrun u e (on_processor x p f) k a r h)))
      (woken-ended x.activations sys s (unchanged s) u _ refl (still (λ t r. r)))))

pub keeps-ext_tsk : (sys : SystemTables) (s : KernelState) (p me : ℕ)
    → Keeps (Acts sys s p me) p (Some me) sys s (record {
      answer = Ends;
      progress = ended_itself sys s p me (task_at
          s.tasks me);
    })
keeps-ext_tsk sys s p me =
    record {
      settles = λ k a. can_settle sys _ (holds-ended_itself sys s p me (task_at s.tasks me) k.runs a);
      spins = λ h. cc;
      waits = λ h. cc;
      ends = λ h. ended-told (task_at s.tasks me).activations sys (unchanged (with_nothing_run s p)) me _ refl;
      actors = actors-ended_itself sys s p me (task_at s.tasks me);
      handlers = handlers-ended_itself sys s p me (task_at s.tasks me);
      lines = λ k a. lines-ended_itself sys s p me (task_at s.tasks me) k.runs a;
      woken = woken-ended_itself sys s p me (task_at s.tasks me);
    }

-- a number that names the caller
if_some : (b : Bool) (n u : ℕ) → (if b then Some n else None) ≡ Some u → n ≡ u
if_some true n u h = cc
if_some false n u h = cc

names_caller : (me count u : ℕ) (t : ℤ) → named me count t ≡ Some u → u ≡ me → is_caller me t ≡ true
names_caller me count u (pos zero) h e = refl
names_caller me count u (pos (suc n)) h e =
    let same : n ≡ me = if_some (nat_lt n count) n u h ∙ e in
    grind (arith, nat_tests, same)
names_caller me count u (negsuc n) h e = cc

-- what the context test says of a caller that moves itself
abbrev pub MayLeave : KernelState → ℕ → ℕ → ℤ → Type 0
MayLeave s p me t =
    is_caller me t ≡ true → (is_cpu_locked (processor_at s p) ≡ false) × ((processor_at s p).dispatch_disabled ≡ false)

-- where another processor is assigned to a task of p
moved-settles : (sys : SystemTables) (s : KernelState) (p me u c : ℕ) (t : ℤ) → MayLeave s p me t
    → self_or s me t ≡ Some u → (task_at s.tasks u).processor ≡ p → Acts sys s p me → Holds s → (b : Bool)
    → CanSettle sys (moved_by b s u (record (task_at s.tasks u) { processor = c }))
moved-settles sys s p me u c t may o e k a b = by_order b where
  y : TaskBlock
  y = record (task_at s.tasks u) { processor = c }

  dispatches : (q : ℕ) → Runs s.processors q u → Dispatches (processor_at s q) (pending_handler sys s q)
  dispatches q r =
      let only = only_caller sys s p me u q k a e r in
      let free = may (names_caller me (length s.tasks) u t o only.caller) in
      let there : Dispatches (processor_at s p) (pending_handler sys s p) = record {
        unhandled = k.unhandled;
        unlocked = free.0;
        enabled = free.1;
        nothing = k.nothing free.0;
      } in
      subst (λ (v : ℕ). Dispatches (processor_at s v) (pending_handler sys s v)) only.place there

  by_task : (q v : ℕ) → Runs s.processors q v → (b : Bool) → nat_eq u v ≡ b
      → Fits q (task_at (slice_set s.tasks u y) v) ⊎ Dispatches (processor_at s q) (pending_handler sys s q)
  by_task q v r true same =
      inr (dispatches q (subst (λ (w : ℕ). Runs s.processors q w) (sym (eqb-true u v same)) r))
  by_task q v r false apart =
      inl (fits-task s.tasks u y q v (λ (same : u ≡ v). absurd (grind (arith, nat_tests, same, apart))) (a.each q v r))

  by_order : (b : Bool) → CanSettle sys (moved_by b s u y)
  by_order true = record { each = λ q v r. by_task q v r (nat_eq u v) refl }
  by_order false = record { each = λ q v r. by_task q v r (nat_eq u v) refl }

assigned-settles : (b : Bool) (sys : SystemTables) (s : KernelState) (u c : ℕ) → Holds s
    → CanSettle sys (moved_by (is_ready (task_at s.tasks u)) s u (record (task_at s.tasks u) { processor = c }))
    → CanSettle sys (assigned_by b s u (task_at s.tasks u) c)
assigned-settles true sys s u c a h = can_settle sys s a
assigned-settles false sys s u c a h = h

actors-assigned : (b : Bool) (s : KernelState) (u : ℕ) (x : TaskBlock) (c : ℕ)
    → SameActors s (assigned_by b s u x c)
actors-assigned true s u x c q = refl
actors-assigned false s u x c q = actors-moved (is_ready x) s u (record x { processor = c }) q

assigned-still : (b : Bool) (s : KernelState) (u c t : ℕ) → IsReady (assigned_by b s u (task_at s.tasks u) c) t
    → IsReady s t
assigned-still true s u c t = λ r. r
assigned-still false s u c t = by_order (is_ready (task_at s.tasks u)) where
  by_order : (b : Bool) → IsReady (moved_by b s u (record (task_at s.tasks u) { processor = c })) t → IsReady s t
  by_order true = changed s u _ refl t
  by_order false = changed s u _ refl t

pub keeps-mig_tsk : (sys : SystemTables) (s : KernelState) (p me : ℕ) (t c : ℤ) → MayLeave s p me t
    → Keeps (Acts sys s p me) p (Some me) sys s (mig_tsk sys s p me t c)
keeps-mig_tsk sys s p me t c may =
    keeps-on_task sys s (self_or s me t) _ (λ u o. keeps-tested sys s er.Par (allowed_processor sys u c) _
    (λ q. by_block u o q)) where
      by_block : (u : ℕ) → self_or s me t ≡ Some u → (q : ℕ) → Keeps (Acts sys s p me) p (Some me) sys s
          (migrated s p u (task_at s.tasks u) q)
      by_block u o q =
          let x = task_at s.tasks u in
          keeps-refused_if sys s (is_dormant x.phase || not (nat_eq x.processor p)) er.Obj _ (λ e. record {
            settles = λ k a. assigned-settles (nat_eq x.processor q) sys s u q a
                (moved-settles sys s p me u q t may o (on_processor x p e) k a (is_ready x));
            spins = λ h. cc;
            waits = λ h. cc;
            ends = λ h. cc;
            actors = λ v n. actors-assigned (nat_eq x.processor q) s u x q v;
            handlers = handlers-same s (assigned_by (nat_eq x.processor q) s u x q)
                (actors-assigned (nat_eq x.processor q) s u x q);
            lines = λ k a. tt;
            woken = still (assigned-still (nat_eq x.processor q) s u q);
          })

-- where the context test lets a task wait, its processor dispatches
pub may_wait : (sys : SystemTables) (s : KernelState) (p me : ℕ)
    → (is_cpu_locked (processor_at s p) || (processor_at s p).dispatch_disabled) ≡ false
    → MayWait (Acts sys s p me) p (Some me) sys s me
may_wait sys s p me h =
    let parts = or-false (is_cpu_locked (processor_at s p)) (processor_at s p).dispatch_disabled h in
    record {
      is = refl;
      runs = λ k. k.runs;
      dispatches = λ k. record {
        unhandled = k.unhandled;
        unlocked = parts.0;
        enabled = parts.1;
        nothing = k.nothing parts.0;
      };
    }
