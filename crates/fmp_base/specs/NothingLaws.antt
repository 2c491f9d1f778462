-- An event that does nothing to a machine does nothing to the text to which it is tied.
use Rattle.std.specs.Prelude.{ℕ, zero, suc, ◌≡◌, refl, Option, Some, None, Bool, true, false}
use Rattle.std.proofs.Common.{subst}
use Rattle.fmp_base.specs.declared.calls.Answer.{Answer}
use Rattle.fmp_base.specs.declared.calls.Answer.TheVariants.{Replies, Waits, Ends, Spins}
use Rattle.fmp_base.specs.declared.calls.Call.{Call}
use Rattle.fmp_base.specs.declared.events.Event.{Event}
use Rattle.fmp_base.specs.declared.events.Event.TheVariants.{Run, Tick, Int}
use Rattle.fmp_base.specs.declared.states.Caller.{Caller}
use Rattle.fmp_base.specs.declared.systems.InterruptConfig.{InterruptConfig}
use Rattle.fmp_base.specs.Calls.{called}
use Rattle.fmp_base.specs.declared.bodies.Held.{Held}
use Rattle.fmp_base.specs.declared.bodies.Held.TheVariants.{Goes, Awaits}
use Rattle.fmp_base.specs.Meanings.{Meaning, Contexts, World, caller_body, context_of}
use Rattle.fmp_base.specs.States.{KernelState, Progress, processor_at}
use Rattle.fmp_base.specs.Steps.{Nothing, actor_of, answered, stretched, run_in, run_by, interrupted, interrupted_by}
use Rattle.fmp_base.specs.Steps.{step}
use Rattle.fmp_base.specs.Stretches.{Ending, is_over}
use Rattle.fmp_base.specs.Stretches as ends
use Rattle.fmp_base.specs.Systems.{SystemTables, interrupt_config}
use Rattle.fmp_base.specs.Ticks.{is_pending}
use Rattle.fmp_base.specs.TieLaws.{caller_body-tied, context_of-tied}
use Rattle.fmp_base.specs.Ties.{StretchTied, over, kept, call, end_, fault, Any, OptionTied, HeldTied, ContextsTied}
use Rattle.fmp_base.specs.Ties.{WorldTied}

abbrev pub Never : {C : Type 0} → C → Type 0
Never c = ⊥

abbrev pub hands_over : {C : Type 0} → Ending C → Bool
hands_over (ends.Over (Some c)) = true
hands_over (ends.Over None) = false
hands_over (ends.Call c made) = false
hands_over (ends.End c) = false
hands_over (ends.Fault c f) = false

module _ {C D : Type 0} (sys : SystemTables) (A R : ℕ → C → D → Type 0) (N : Meaning C) (n : ℕ) (M : Meaning D) (s : ℕ)
    (text : (body : ℕ) (k : C) (d : D) → R body k d → hands_over (N.stretch body n k) ≡ false →
    StretchTied Any Any Never (M.stretch body s d) (N.stretch body n k)) where
  answered-nothing : (answer : Answer) (a : Contexts (Held C)) (b : Contexts (Held D)) (p : ℕ) (who : Caller)
      (c : Call) (g : Progress)
      → answered answer sys N a p who c g ≡ Nothing → answered answer sys M b p who c g ≡ Nothing
  answered-nothing (Replies reply) a b p who c g h = absurd (cc h)
  answered-nothing Waits a b p who c g h = absurd (cc h)
  answered-nothing Ends a b p who c g h = absurd (cc h)
  answered-nothing Spins a b p who c g h = refl

  hands_nothing : (w : World C) (p : ℕ) (who : Caller) (x : Ending C) → stretched sys N w p who x ≡ Nothing
      → hands_over x ≡ false
  hands_nothing w p who (ends.Over None) h = refl
  hands_nothing w p who (ends.Over (Some c)) h = absurd (cc h)
  hands_nothing w p who (ends.Call c made) h = refl
  hands_nothing w p who (ends.End c) h = refl
  hands_nothing w p who (ends.Fault c f) h = refl

  stretched-nothing : (k : KernelState) (a : Contexts (Held C)) (b : Contexts (Held D)) (p : ℕ) (who : Caller)
      (y : Ending D) (x : Ending C)
      → StretchTied Any Any Never y x → stretched sys N (record { state = k; contexts = a }) p who x ≡ Nothing
      → stretched sys M (record { state = k; contexts = b }) p who y ≡ Nothing
  stretched-nothing k a b p who _ _ (over x) h = refl
  stretched-nothing k a b p who _ _ (kept d x e) h = absurd e
  stretched-nothing k a b p who _ _ (call d c made e) h =
      answered-nothing (called sys k p who made).answer _ _ p who made (called sys k p who made).progress h
  stretched-nothing k a b p who _ _ (end_ d c e) h = absurd (cc h)
  stretched-nothing k a b p who _ _ (fault d c f e) h = absurd (cc h)

  run_in-nothing : (k : KernelState) (a : Contexts (Held C)) (b : Contexts (Held D)) (p : ℕ) (who : Caller)
      (c : Option (Held C)) (d : Option (Held D))
      → ContextsTied sys (HeldTied A R) a b → OptionTied (HeldTied A R (caller_body sys a p who)) c d
      → run_in sys N n (record { state = k; contexts = a }) p who c ≡ Nothing
      → run_in sys M s (record { state = k; contexts = b }) p who d ≡ Nothing
  run_in-nothing k a b p who None None t e h = refl
  run_in-nothing k a b p who None (Some d) t e h = absurd e
  run_in-nothing k a b p who (Some c) None t e h = absurd e
  run_in-nothing k a b p who (Some (Awaits c)) (Some (Awaits d)) t e h = refl
  run_in-nothing k a b p who (Some (Awaits c)) (Some (Goes d)) t e h = absurd e
  run_in-nothing k a b p who (Some (Goes c)) (Some (Awaits d)) t e h = absurd e
  run_in-nothing k a b p who (Some (Goes c)) (Some (Goes d)) t e h =
      let x = N.stretch (caller_body sys a p who) n c in
      stretched-nothing k a b p who _ x
      (subst (λ (body : ℕ). StretchTied Any Any Never (M.stretch body s d) x)
      (caller_body-tied sys (HeldTied A R) a b p who t)
      (text (caller_body sys a p who) c d e (hands_nothing (record { state = k; contexts = a }) p who x h))) h

  run_by-nothing : (k : KernelState) (a : Contexts (Held C)) (b : Contexts (Held D)) (p : ℕ) (who : Option Caller)
      → ContextsTied sys (HeldTied A R) a b → run_by sys N n (record { state = k; contexts = a }) p who ≡ Nothing
      → run_by sys M s (record { state = k; contexts = b }) p who ≡ Nothing
  run_by-nothing k a b p None t h = refl
  run_by-nothing k a b p (Some who) t h =
      run_in-nothing k a b p who (context_of a p who) (context_of b p who) t
      (context_of-tied sys (HeldTied A R) a b p who t) h

  interrupted_by-nothing : (pending : Bool) (v : World C) (w : World D) (i : ℕ)
      → interrupted_by pending sys N v i ≡ Nothing → interrupted_by pending sys M w i ≡ Nothing
  interrupted_by-nothing true v w i h = refl
  interrupted_by-nothing false v w i h = absurd (cc h)

  interrupted-nothing : (o : Option InterruptConfig) (k : KernelState) (a : Contexts (Held C)) (b : Contexts (Held D))
      (i : ℕ)
      → interrupted o sys N (record { state = k; contexts = a }) i ≡ Nothing
      → interrupted o sys M (record { state = k; contexts = b }) i ≡ Nothing
  interrupted-nothing None k a b i h = refl
  interrupted-nothing (Some c) k a b i h =
      interrupted_by-nothing (is_pending k.pending_interrupts i) (record { state = k; contexts = a })
      (record { state = k; contexts = b }) i h

  step-nothing_in : (k : KernelState) (a : Contexts (Held C)) (b : Contexts (Held D)) (e : Event)
      → ContextsTied sys (HeldTied A R) a b
      → step sys N n (record { state = k; contexts = a }) e ≡ Nothing
      → step sys M s (record { state = k; contexts = b }) e ≡ Nothing
  step-nothing_in k a b (Run zero) t h = refl
  step-nothing_in k a b (Run (suc p)) t h = run_by-nothing k a b p (actor_of (processor_at k p)) t h
  step-nothing_in k a b Tick t h = absurd (cc h)
  step-nothing_in k a b (Int zero) t h = refl
  step-nothing_in k a b (Int (suc i)) t h = interrupted-nothing (interrupt_config sys i) k a b i h

  -- what does nothing to the one does nothing to the other
  pub step-nothing : (v : World C) (w : World D) (e : Event) → WorldTied sys A R v w → step sys N n v e ≡ Nothing
      → step sys M s w e ≡ Nothing
  step-nothing v w e t h =
      subst (λ (k : KernelState). step sys M s (record { state = k; contexts = w.contexts }) e ≡ Nothing) t.states
      (step-nothing_in v.state v.contexts w.contexts e t.contexts h)
