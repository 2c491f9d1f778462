-- An event that keeps a place changes nothing of the state.
use Rattle.std.proofs.Common.{◌≡◌, ℕ, zero, suc, ◌+◌, [], ◌∷◌, Option, Some, None, Bool, true, false, refl, subst}
use Rattle.fmp_base.specs.declared.bodies.Held.{Held}
use Rattle.fmp_base.specs.declared.bodies.Held.TheVariants.{Goes, Awaits}
use Rattle.fmp_base.specs.declared.calls.Answer.{Answer}
use Rattle.fmp_base.specs.declared.calls.Answer.TheVariants.{Replies, Waits, Ends, Spins}
use Rattle.fmp_base.specs.declared.calls.Call.{Call}
use Rattle.fmp_base.specs.declared.events.Event.{Event}
use Rattle.fmp_base.specs.declared.events.Event.TheVariants.{Run, Tick, Int}
use Rattle.fmp_base.specs.declared.states.Caller.{Caller}
use Rattle.fmp_base.specs.declared.systems.InterruptConfig.{InterruptConfig}
use Rattle.fmp_base.specs.Calls.{called}
use Rattle.fmp_base.specs.Meanings.{Meaning, Contexts, World, context_of}
use Rattle.fmp_base.specs.States.{KernelState, Progress, processor_at}
use Rattle.fmp_base.specs.Steps.{Reaction, Nothing, Did, Kept, actor_of, answered, stretched, run_in, run_by}
use Rattle.fmp_base.specs.Steps.{interrupted, interrupted_by, step}
use Rattle.fmp_base.specs.Stretches.{Ending}
use Rattle.fmp_base.specs.Stretches as ends
use Rattle.fmp_base.specs.Systems.{SystemTables, interrupt_config}
use Rattle.fmp_base.specs.Ticks.{is_pending}
use Rattle.fmp_worlds.specs.Stamps.{applied_by, applied_in}

-- what is kept has this state
abbrev pub KeptIn : {C : Type 0} → KernelState → Reaction C → Type 0
KeptIn s Nothing = Unit {0}
KeptIn s (Did d) = Unit {0}
KeptIn s (Kept p v) = v.state ≡ s

module _ {C : Type 0} (sys : SystemTables) (M : Meaning C) where
  answered-in : (s : KernelState) (answer : Answer) (cs : Contexts (Held C)) (p : ℕ) (who : Caller) (c : Call)
      (g : Progress) → KeptIn s (answered answer sys M cs p who c g)
  answered-in s (Replies reply) cs p who c g = tt
  answered-in s Waits cs p who c g = tt
  answered-in s Ends cs p who c g = tt
  answered-in s Spins cs p who c g = tt

  stretched-in : (w : World C) (p : ℕ) (who : Caller) (x : Ending C) → KeptIn w.state (stretched sys M w p who x)
  stretched-in w p who (ends.Call c made) =
      answered-in w.state (called sys w.state p who made).answer _ p who made (called sys w.state p who made).progress
  stretched-in w p who (ends.End c) = tt
  stretched-in w p who (ends.Fault c fault) = tt
  stretched-in w p who (ends.Over None) = tt
  stretched-in w p who (ends.Over (Some c)) = refl

  run_in-in : (n : ℕ) (w : World C) (p : ℕ) (who : Caller) (o : Option (Held C))
      → KeptIn w.state (run_in sys M n w p who o)
  run_in-in n w p who None = tt
  run_in-in n w p who (Some (Awaits c)) = tt
  run_in-in n w p who (Some (Goes c)) = stretched-in w p who _

  run_by-in : (n : ℕ) (w : World C) (p : ℕ) (o : Option Caller) → KeptIn w.state (run_by sys M n w p o)
  run_by-in n w p None = tt
  run_by-in n w p (Some who) = run_in-in n w p who (context_of w.contexts p who)

  applied_in-in : (w : World C) (p : ℕ) (who : Caller) (o : Option (Held C)) (x : Ending C)
      → KeptIn w.state (applied_in sys M w p who o x)
  applied_in-in w p who None x = tt
  applied_in-in w p who (Some (Awaits c)) x = tt
  applied_in-in w p who (Some (Goes c)) x = stretched-in w p who x

  pub applied_by-in : (w : World C) (p : ℕ) (o : Option Caller) (x : Ending C)
      → KeptIn w.state (applied_by sys M w p o x)
  applied_by-in w p None x = tt
  applied_by-in w p (Some who) x = applied_in-in w p who (context_of w.contexts p who) x

  interrupted-in : (o : Option InterruptConfig) (w : World C) (i : ℕ) → KeptIn w.state (interrupted o sys M w i)
  interrupted-in None w i = tt
  interrupted-in (Some config) w i = by_pending (is_pending w.state.pending_interrupts i) where
    by_pending : (pending : Bool) → KeptIn w.state (interrupted_by pending sys M w i)
    by_pending true = tt
    by_pending false = tt

  pub step-in : (n : ℕ) (w : World C) (e : Event) → KeptIn w.state (step sys M n w e)
  step-in n w (Run zero) = tt
  step-in n w (Run (suc p)) = run_by-in n w p (actor_of (processor_at w.state p))
  step-in n w Tick = tt
  step-in n w (Int zero) = tt
  step-in n w (Int (suc i)) = interrupted-in (interrupt_config sys i) w i

  pub kept-state : (n : ℕ) (w v : World C) (e : Event) (p : ℕ) → step sys M n w e ≡ Kept p v → v.state ≡ w.state
  kept-state n w v e p k = subst (λ (r : Reaction C). KeptIn w.state r) k (step-in n w e)
