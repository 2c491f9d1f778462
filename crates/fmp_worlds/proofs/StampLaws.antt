-- The laws of stamps: along one run an equal stamp of a processor means the same actor in the same context.
use Rattle.std.proofs.Common.{◌≡◌, ℕ, suc, ◌+◌, List, [], ◌∷◌, ◌++◌, Option, Some, None, Bool, true, false, refl, sym}
use Rattle.std.proofs.Common.{subst, ap, ◌∙◌, arith}
use Rattle.std.proofs.lemmas.Bool.{eqb-true}
use Rattle.std.proofs.lemmas.Bool.Decides.{nat_tests}
use Rattle.fmp_base.specs.declared.bodies.HandlerContext.{HandlerContext}
use Rattle.fmp_base.specs.declared.bodies.Held.{Held}
use Rattle.fmp_base.specs.declared.bodies.Held.TheVariants.{Goes, Awaits}
use Rattle.fmp_base.specs.declared.events.Event.{Event}
use Rattle.fmp_base.specs.declared.events.Event.TheVariants.{Run}
use Rattle.fmp_base.specs.declared.states.Caller.{Caller}
use Rattle.fmp_base.specs.declared.states.Caller.TheVariants as caller
use Rattle.fmp_base.specs.declared.states.Handler.{Handler}
use Rattle.fmp_base.specs.declared.states.Handler.TheVariants as handler
use Rattle.fmp_base.specs.Meanings.{Meaning, Contexts, World, caller_body, task_body, context_at, context_in, body_in}
use Rattle.fmp_base.specs.Meanings.{context_of}
use Rattle.fmp_base.specs.Runs.{run, run_on}
use Rattle.fmp_base.specs.Settles.{is_same_task}
use Rattle.fmp_base.specs.States.{KernelState, processor_at}
use Rattle.fmp_base.specs.Steps.{Reaction, Nothing, Did, Kept, actor_by, actor_of, step, stretched, run_in, run_by}
use Rattle.fmp_base.specs.Stretches.{Ending}
use Rattle.fmp_base.specs.Systems.{SystemTables}
use Rattle.fmp_worlds.specs.Settled.{IsSettled}
use Rattle.fmp_worlds.specs.Stamps.{Going, going_from, going, going_by, actor_at, is_same_handler, is_same_caller}
use Rattle.fmp_worlds.specs.Stamps.{is_same_actor, run_place, counts, one_if, world_after, counted, stamp, applied_in}
use Rattle.fmp_worlds.specs.Stamps.{applied_by, applied, EndsSo}
use Rattle.fmp_worlds.proofs.Bools.{or-false, not-false}
use Rattle.fmp_worlds.proofs.Going.{GoesIn, IsGoing, ActsOn, LeavesGoing, step-going}
use Rattle.fmp_worlds.proofs.SettledLaws.{step-settled, kept-settled}
use Rattle.fmp_worlds.proofs.StepLemmas.{IsActor, LeavesSettled, holds, stretched-settled, acts as acts_in}

-- tests of actors

same-handler : (h i : Handler) → is_same_handler h i ≡ true → h ≡ i
same-handler (handler.Interrupt i) (handler.Interrupt j) e = ap (λ (k : ℕ). handler.Interrupt k) (eqb-true i j e)
same-handler (handler.Interrupt i) (handler.Cyclic d) e = cc
same-handler (handler.Cyclic c) (handler.Interrupt j) e = cc
same-handler (handler.Cyclic c) (handler.Cyclic d) e = ap (λ (k : ℕ). handler.Cyclic k) (eqb-true c d e)

same-caller : (a b : Caller) → is_same_caller a b ≡ true → a ≡ b
same-caller (caller.Task t) (caller.Task u) e = ap (λ (k : ℕ). caller.Task k) (eqb-true t u e)
same-caller (caller.Task t) (caller.Handler i) e = cc
same-caller (caller.Handler h) (caller.Task u) e = cc
same-caller (caller.Handler h) (caller.Handler i) e = ap (λ (k : Handler). caller.Handler k) (same-handler h i e)

same-actor : (a b : Option Caller) → is_same_actor a b ≡ true → a ≡ b
same-actor None None e = refl
same-actor None (Some b) e = cc
same-actor (Some a) None e = cc
same-actor (Some a) (Some b) e = ap (λ (k : Caller). Some k) (same-caller a b e)

not-run : (o : Option ℕ) (p : ℕ) → is_same_task o (Some p) ≡ false → o ≡ Some p → ⊥
not-run None p e h = cc
not-run (Some q) p e h = let same : q ≡ p = cc in grind (arith, nat_tests, e, same)

-- who acts on a processor

acts-by : (s : KernelState) (p : ℕ) (i : Option Handler) (t : Option ℕ) (who : Caller) → (processor_at s p).handler ≡ i
    → (processor_at s p).run ≡ t → actor_by i t ≡ Some who → ActsOn p who s
acts-by s p (Some h) t (caller.Task u) e r k = cc
acts-by s p (Some h) t (caller.Handler i) e r k = let same : h ≡ i = cc in e ∙ ap (λ (j : Handler). Some j) same
acts-by s p None (Some t) (caller.Task u) e r k = let same : t ≡ u = cc in r ∙ ap (λ (v : ℕ). Some v) same
acts-by s p None (Some t) (caller.Handler i) e r k = cc
acts-by s p None None who e r k = cc

acts : (s : KernelState) (p : ℕ) (who : Caller) → actor_of (processor_at s p) ≡ Some who → ActsOn p who s
acts s p who k = acts-by s p (processor_at s p).handler (processor_at s p).run who refl refl k

-- from what context it goes on

record IsFrom {C : Type 0} (entry : ℕ) (o : Option (Held C)) (a : Going C) : Type 0 where
  body : entry ≡ a.entry
  context : o ≡ Some (Goes a.context)

is-from : {C : Type 0} (entry : ℕ) (o : Option (Held C)) (a : Going C) → going_from entry o ≡ Some a → IsFrom entry o a
is-from entry None a e = cc
is-from entry (Some (Awaits c)) a e = cc
is-from {C} entry (Some (Goes c)) a e =
    let same : record { entry = entry; context = c } ≡ a = cc in
    record {
      body = ap (λ (x : Going C). x.entry) same;
      context = ap (λ (x : Going C). Some (Goes x.context)) same;
    }

is-in : {C : Type 0} (o : Option (HandlerContext (Held C))) (a : Going C)
    → going_from (body_in o) (context_in o) ≡ Some a → GoesIn o a.entry a.context
is-in None a e = cc
is-in {C} (Some x) a e =
    let f = is-from x.body (Some x.context) a e in
    let k = f.context in
    record { is = x; there = refl; body = f.body; context = cc }

going-is : {C : Type 0} (sys : SystemTables) (cs : Contexts (Held C)) (p : ℕ) (who : Caller) (a : Going C)
    → going sys cs p who ≡ Some a
    → IsGoing sys cs p who a.entry a.context
going-is sys cs p (caller.Task t) a e =
    let f = is-from (task_body sys t) (context_at cs.tasks t) a e in (f.body, f.context)
going-is sys cs p (caller.Handler h) a e = is-in (context_at cs.handlers p) a e

out-of : {C : Type 0} (o : Option (HandlerContext (Held C))) (a : Going C) → GoesIn o a.entry a.context
    → going_from (body_in o) (context_in o) ≡ Some a
out-of {C} o a h =
    ap (λ (x : Option (HandlerContext (Held C))). going_from (body_in x) (context_in x)) h.there
    ∙ ap (λ (x : Held C). going_from h.is.body (Some x)) h.context
    ∙ ap (λ (b : ℕ). Some (record { entry = b; context = a.context })) h.body

is-going : {C : Type 0} (sys : SystemTables) (cs : Contexts (Held C)) (p : ℕ) (who : Caller) (a : Going C)
    → IsGoing sys cs p who a.entry a.context → going sys cs p who ≡ Some a
is-going {C} sys cs p (caller.Task t) a h =
    ap (λ (o : Option (Held C)). going_from (task_body sys t) o) h.1
    ∙ ap (λ (b : ℕ). Some (record { entry = b; context = a.context })) h.0
is-going sys cs p (caller.Handler i) a h = out-of (context_at cs.handlers p) a h

-- the actor of p is who, which goes on
record IsActing {C : Type 0} (sys : SystemTables) (cs : Contexts (Held C)) (p : ℕ) (o : Option Caller)
    (a : Going C) : Type 0 where
  who : Caller
  is : o ≡ Some who
  goes : going sys cs p who ≡ Some a

is-acting : {C : Type 0} (sys : SystemTables) (cs : Contexts (Held C)) (p : ℕ) (o : Option Caller) (a : Going C)
    → going_by sys cs p o ≡ Some a
    → IsActing sys cs p o a
is-acting sys cs p None a e = cc
is-acting sys cs p (Some who) a e = record { who = who; is = refl; goes = e }

-- an event that does not count for a processor leaves its actor in its context
pub step-keeps_actor : {C : Type 0} (sys : SystemTables) (M : Meaning C) (n : ℕ) (w : World C) (e : Event)
    (x : Reaction C) (v : World C) (p : ℕ) (a : Going C)
    → ((who : Caller) → LeavesGoing sys p who a.entry a.context x → IsGoing sys v.contexts p who a.entry a.context)
    → IsSettled sys w.state → step sys M n w e ≡ x → counts (run_place e) w.state v.state p ≡ false
    → actor_at sys w p ≡ Some a → actor_at sys v p ≡ Some a
step-keeps_actor {C} sys M n w e r v p a left s k q h =
    let parts = or-false (is_same_task (run_place e) (Some p)) _ q in
    let same : actor_of (processor_at w.state p) ≡ actor_of (processor_at v.state p) = same-actor _ _
    (not-false _ parts.1) in
    let x = is-acting sys w.contexts p (actor_of (processor_at w.state p)) a h in
    let stays = step-going sys M p x.who a.entry a.context n w e s (not-run (run_place e) p parts.0)
    (acts w.state p x.who x.is) (going-is sys w.contexts p x.who a x.goes) in
    let goes : IsGoing sys v.contexts p x.who a.entry a.context = left x.who
    (subst (λ (y : Reaction C). LeavesGoing sys p x.who a.entry a.context y) k stays) in
    ap (λ (o : Option Caller). going_by sys v.contexts p o) (sym same ∙ x.is)
    ∙ is-going sys v.contexts p x.who a goes

-- runs

module _ {C : Type 0} (sys : SystemTables) (M : Meaning C) (n : ℕ) where
  -- a run over more events goes on where the first ended
  pub run-append : (w : World C) (es fs : List Event)
      → (run sys M n w (es ++ fs)).world ≡ (run sys M n (run sys M n w es).world fs).world
  run-append w [] fs = refl
  run-append w (e ∷ es) fs = by_reaction (step sys M n w e) (λ v. run-append v es fs) where
    by_reaction : (x : Reaction C)
        → ((v : World C) → (run sys M n v (es ++ fs)).world ≡ (run sys M n (run sys M n v es).world fs).world)
        → (run_on w x (λ v. run sys M n v (es ++ fs))).world ≡ (run sys M n
        (run_on w x (λ v. run sys M n v es)).world fs).world
    by_reaction Nothing rest = rest w
    by_reaction (Did d) rest = rest d.world
    by_reaction (Kept q v) rest = rest v

  -- and its stamps count on from those of the first
  pub stamp-append : (w : World C) (es fs : List Event) (p : ℕ)
      → stamp sys M n w (es ++ fs) p ≡ stamp sys M n w es p + stamp sys M n (run sys M n w es).world fs p
  stamp-append w [] fs p = omega arith
  stamp-append w (e ∷ es) fs p = by_reaction (step sys M n w e) (λ v. stamp-append v es fs p) where
    by_reaction : (x : Reaction C)
        → ((v : World C) → stamp sys M n v (es ++ fs) p ≡ stamp sys M n v es p
        + stamp sys M n (run sys M n v es).world fs p)
        → counted e w x p + stamp sys M n (world_after w x) (es ++ fs) p
        ≡ counted e w x p + stamp sys M n (world_after w x) es p
        + stamp sys M n (run_on w x (λ v. run sys M n v es)).world fs p
    by_reaction Nothing rest = let h = rest w in omega (arith, h)
    by_reaction (Did d) rest = let h = rest d.world in omega (arith, h)
    by_reaction (Kept q v) rest = let h = rest v in omega (arith, h)

  none_of : (b : Bool) (m : ℕ) → one_if b + m ≡ 0 → (b ≡ false) × (m ≡ 0)
  none_of true m h = absurd (omega (arith, h))
  none_of false m h = (refl, omega (arith, h))

  -- where the stamp does not rise, the actor goes on from the same context
  pub run-keeps_actor : (w : World C) (es : List Event) (p : ℕ) (a : Going C) → IsSettled sys w.state
      → stamp sys M n w es p ≡ 0
      → actor_at sys w p ≡ Some a → actor_at sys (run sys M n w es).world p ≡ Some a
  run-keeps_actor w [] p a s z h = h
  run-keeps_actor w (e ∷ es) p a s z h =
      by_reaction (step sys M n w e) refl z (λ v t y k. run-keeps_actor v es p a t y k) where
        by_reaction : (x : Reaction C) → step sys M n w e ≡ x → counted e w x p + stamp sys M n (world_after w x) es p
            ≡ 0
            → ((v : World C) → IsSettled sys v.state → stamp sys M n v es p ≡ 0 → actor_at sys v p ≡ Some a
            → actor_at sys (run sys M n v es).world p ≡ Some a)
            → actor_at sys (run_on w x (λ v. run sys M n v es)).world p ≡ Some a
        by_reaction Nothing k y rest = rest w s (omega (arith, y)) h
        by_reaction (Did d) k y rest =
            let parts = none_of (counts (run_place e) w.state d.world.state p) (stamp sys M n d.world es p) y in
            rest d.world (step-settled sys M n w e d s k) parts.1 (step-keeps_actor sys M n w e (Did d) d.world p a
            (λ who go. go) s k parts.0 h)
        by_reaction (Kept q v) k y rest =
            let parts = none_of (counts (run_place e) w.state v.state p) (stamp sys M n v es p) y in
            rest v (kept-settled sys M n w e q v s k) parts.1 (step-keeps_actor sys M n w e (Kept q v) v p a
            (λ who go. go) s k parts.0 h)

  -- along one run equal stamps of a processor mean the same actor in the same context
  pub equal_stamps : (w : World C) (es fs : List Event) (p : ℕ) (a : Going C)
      → IsSettled sys (run sys M n w es).world.state
      → stamp sys M n w (es ++ fs) p ≡ stamp sys M n w es p → actor_at sys (run sys M n w es).world p ≡ Some a
      → actor_at sys (run sys M n w (es ++ fs)).world p ≡ Some a
  equal_stamps w es fs p a s e h =
      let more = stamp-append w es fs p in
      let z : stamp sys M n (run sys M n w es).world fs p ≡ 0 = omega (arith, more, e) in
      ap (λ (v : World C). actor_at sys v p) (run-append w es fs)
      ∙ run-keeps_actor (run sys M n w es).world fs p a s z h

-- handing in the stretch that the actor of a processor makes is running the processor

applied_in-runs : {C : Type 0} (sys : SystemTables) (M : Meaning C) (n : ℕ) (w : World C) (p : ℕ) (who : Caller)
    (o : Option (Held C)) (x : Ending C)
    → EndsSo M n x (going_from (caller_body sys w.contexts p who) o) → applied_in sys M w p who o x
    ≡ run_in sys M n w p who o
applied_in-runs sys M n w p who None x h = refl
applied_in-runs sys M n w p who (Some (Awaits c)) x h = refl
applied_in-runs {C} sys M n w p who (Some (Goes c)) x h = ap (λ (y : Ending C). stretched sys M w p who y) h

applied_by-runs : {C : Type 0} (sys : SystemTables) (M : Meaning C) (n : ℕ) (w : World C) (p : ℕ) (o : Option Caller)
    (x : Ending C)
    → EndsSo M n x (going_by sys w.contexts p o) → applied_by sys M w p o x ≡ run_by sys M n w p o
applied_by-runs sys M n w p None x h = refl
applied_by-runs sys M n w p (Some who) x h =
    applied_in-runs sys M n w p who (context_of w.contexts p who) x h

pub applied-runs : {C : Type 0} (sys : SystemTables) (M : Meaning C) (n : ℕ) (w : World C) (p : ℕ) (x : Ending C)
    → EndsSo M n x (actor_at sys w p) → applied sys M w (suc p) x ≡ step sys M n w (Run (suc p))
applied-runs sys M n w p x h = applied_by-runs sys M n w p (actor_of (processor_at w.state p)) x h

-- what is applied leaves a settled state
pub applied-leaves_settled : {C : Type 0} (sys : SystemTables) (M : Meaning C) (w : World C) (p : ℕ) (x : Ending C)
    → IsSettled sys w.state → LeavesSettled sys (applied_by sys M w p (actor_of (processor_at w.state p)) x)
applied-leaves_settled {C} sys M w p x s = by_actor (processor_at w.state p).handler
    (processor_at w.state p).run refl refl where
      by_held : (who : Caller) (o : Option (Held C)) → IsActor sys w.state p who
          → LeavesSettled sys (applied_in sys M w p who o x)
      by_held who None i = tt
      by_held who (Some (Awaits c)) i = tt
      by_held who (Some (Goes c)) i = stretched-settled sys M w p who x i s

      by_actor : (i : Option Handler) (t : Option ℕ) → (processor_at w.state p).handler ≡ i → (processor_at w.state p).run
          ≡ t
          → LeavesSettled sys (applied_by sys M w p (actor_by i t) x)
      by_actor (Some h) t e r = by_held (caller.Handler h) (context_of w.contexts p (caller.Handler h)) tt
      by_actor None (Some t) e r = by_held (caller.Task t) (context_of w.contexts p (caller.Task t))
          (acts_in sys w.state p t s e r)
      by_actor None None e r = tt
