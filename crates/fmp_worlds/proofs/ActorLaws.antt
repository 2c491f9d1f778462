-- In a settled world an actor goes on from its context.
use Rattle.std.proofs.Common.{◌≡◌, ℕ, zero, suc, ◌<◌, List, [], ◌∷◌, Option, Some, None, length, slice_get, sym, subst}
use Rattle.std.proofs.Common.{ap, ◌∙◌, refl, arith}
use Rattle.fmp_base.specs.declared.bodies.Held.{Held}
use Rattle.fmp_base.specs.declared.bodies.Held.TheVariants.{Goes, Awaits}
use Rattle.fmp_base.specs.declared.states.Caller.{Caller}
use Rattle.fmp_base.specs.declared.states.Caller.TheVariants as caller
use Rattle.fmp_base.specs.declared.states.Handler.{Handler}
use Rattle.fmp_base.specs.declared.states.Phase.TheVariants.{Ready}
use Rattle.fmp_base.specs.declared.states.Processor.{Processor}
use Rattle.fmp_base.specs.declared.states.TaskBlock.{TaskBlock}
use Rattle.fmp_base.specs.Meanings.{World, caller_body, context_at, context_of}
use Rattle.fmp_base.specs.States.{idle, processor_at, task_at}
use Rattle.fmp_base.specs.Steps.{actor_by, actor_of}
use Rattle.fmp_base.specs.Systems.{SystemTables, found}
use Rattle.fmp_worlds.specs.Settled.{IsSettledWorld, IsThere}
use Rattle.fmp_worlds.specs.Stamps.{actor_at, going_by, going_from}
use Rattle.fmp_worlds.proofs.Awaiting.{settled-free}
use Rattle.fmp_worlds.proofs.Kept.{in-there}

-- a ready task is there, and a processor on which a handler runs
ready-within : (tasks : List TaskBlock) (t : ℕ) → (task_at tasks t).phase ≡ Ready → t < length tasks
ready-within [] t h = cc
ready-within (x ∷ tasks) zero h = omega arith
ready-within (x ∷ tasks) (suc t) h = let l = ready-within tasks t h in omega (arith, l)

handled-within : (cpus : List Processor) (p : ℕ) (i : Handler) → (found idle (slice_get cpus p)).handler ≡ Some i
    → p < length cpus
handled-within [] p i h = cc
handled-within (c ∷ cpus) zero i h = omega arith
handled-within (c ∷ cpus) (suc p) i h = let l = handled-within cpus p i h in omega (arith, l)

module _ {C : Type 0} (sys : SystemTables) where
  -- a context is kept of an actor
  actor-kept : (w : World C) (p : ℕ) (i : Option Handler) (t : Option ℕ) (who : Caller) → IsSettledWorld sys w
      → (processor_at w.state p).handler ≡ i → (processor_at w.state p).run ≡ t → actor_by i t ≡ Some who
      → IsThere (context_of w.contexts p who)
  actor-kept w p None None who h e r a = cc
  actor-kept w p None (Some t) (caller.Handler j) h e r a = cc
  actor-kept w p None (Some t) (caller.Task u) h e r a =
      let same : t ≡ u = cc in
      let l = ready-within w.state.tasks u (h.state.ready p u (r ∙ ap (λ (v : ℕ). Some v) same)) in
      let count = h.whole.tasks in
      h.kept.tasks u (omega (arith, l, count))
  actor-kept w p (Some i) t (caller.Task u) h e r a = cc
  actor-kept w p (Some i) t (caller.Handler j) h e r a =
      let l = handled-within w.state.processors p i e in
      let count = h.whole.handlers in
      in-there (context_at w.contexts.handlers p)
      (h.kept.handlers p (omega (arith, l, count)) (subst (λ (o : Option Handler). IsThere o) (sym e) tt))

  -- what is kept and awaits no reply goes on
  goes-on : (b : ℕ) (o : Option (Held C)) → IsThere o → ((c : C) → o ≡ Some (Awaits c) → ⊥) → going_from b o ≡ None → ⊥
  goes-on b None there free e = there
  goes-on b (Some (Goes c)) there free e = cc
  goes-on b (Some (Awaits c)) there free e = free c refl

  none-by : (w : World C) (p : ℕ) (o : Option Caller) → IsSettledWorld sys w → actor_of (processor_at w.state p) ≡ o
      → going_by sys w.contexts p o ≡ None → o ≡ None
  none-by w p None h a e = refl
  none-by w p (Some who) h a e =
      absurd (goes-on (caller_body sys w.contexts p who) (context_of w.contexts p who)
      (actor-kept w p (processor_at w.state p).handler (processor_at w.state p).run who h refl refl a)
      (λ c k. settled-free sys w p who c h a k) e)

  -- so a processor of which no actor goes on has none
  pub none-acts : (w : World C) (p : ℕ) → IsSettledWorld sys w → actor_at sys w p ≡ None
      → actor_of (processor_at w.state p) ≡ None
  none-acts w p h e = none-by w p (actor_of (processor_at w.state p)) h refl e
