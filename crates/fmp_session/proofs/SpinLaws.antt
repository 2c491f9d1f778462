-- A run that makes a call and does nothing.
use Rattle.std.proofs.Common.{ℕ, ◌≡◌, ◌+◌, List, Option, Some, None, IsSomeAnd, arith, get_or, refl, suc, subst}
use Rattle.fmp_base.specs.declared.bodies.Held.{Held}
use Rattle.fmp_base.specs.declared.bodies.Held.TheVariants.{Goes, Awaits}
use Rattle.fmp_base.specs.declared.calls.Answer.{Answer}
use Rattle.fmp_base.specs.declared.calls.Answer.TheVariants.{Replies, Waits, Ends, Spins}
use Rattle.fmp_base.specs.declared.calls.Call.{Call}
use Rattle.fmp_base.specs.declared.events.Event.TheVariants.{Run}
use Rattle.fmp_base.specs.declared.states.Caller.{Caller}
use Rattle.fmp_base.specs.Calls.{called}
use Rattle.fmp_base.specs.Meanings.{Contexts, Meaning, World, caller_body, context_of}
use Rattle.fmp_base.specs.States.{Progress, processor_at}
use Rattle.fmp_base.specs.Steps.{Nothing, actor_of, answered, run_by, run_in, step, stretched}
use Rattle.fmp_base.specs.Stretches.{Ending}
use Rattle.fmp_base.specs.Stretches as ends
use Rattle.fmp_base.specs.Systems.{SystemTables}
use Rattle.fmp_drive.specs.NextRuns.{next_of, next_run, told_by}
use Rattle.fmp_drive.specs.declared.next.NextRun.TheVariants as next
use Rattle.fmp_instructions.specs.Instructions.{BodyTables}
use Rattle.fmp_instructions.specs.Machine.{code_meaning}
use Rattle.fmp_instructions.specs.declared.instructions.MachineContext.{MachineContext}
use Rattle.fmp_kernel.specs.KernelViews.{KernelView, with_stamp}
use Rattle.fmp_worlds.specs.Stamps.{going_by, going_from}

module _ {C : Type 0} (sys : SystemTables) (M : Meaning C) (bound : ℕ) (w : World C) (p : ℕ) where
  spins : (a : Answer) (cs : Contexts (Held C)) (who : Caller) (c : Call) (g : Progress)
      → answered a sys M cs p who c g ≡ Nothing → a ≡ Spins
  spins (Replies reply) cs who c g none = absurd (cc)
  spins Waits cs who c g none = absurd (cc)
  spins Ends cs who c g none = absurd (cc)
  spins Spins cs who c g none = refl

  stretch_spins : (who : Caller) (call : Call) (x : Ending C) → told_by x ≡ next.Calls call
      → stretched sys M w p who x ≡ Nothing → (called sys w.state p who call).answer ≡ Spins
  stretch_spins who call (ends.Call c made) told none =
      subst (λ (k : Call). (called sys w.state p who k).answer ≡ Spins) (same made call told)
      (spins (called sys w.state p who made).answer _ who made _ none)
    where
      same : (a b : Call) → next.Calls a ≡ next.Calls b → a ≡ b
      same a b e = cc
  stretch_spins who call (ends.End c) told none = absurd (cc)
  stretch_spins who call (ends.Fault c fault) told none = absurd (cc)
  stretch_spins who call (ends.Over kept) told none = absurd (cc)

module _ (k : KernelView (List BodyTables) MachineContext) (p : ℕ) (call : Call) where
  abbrev meaning : Meaning MachineContext
  meaning = code_meaning k.body

  abbrev IsSpinning : Caller → Type 0
  IsSpinning who = (called k.system k.world.state p who call).answer ≡ Spins

  held_spins : (who : Caller) (held : Option (Held MachineContext))
      → next_of code_meaning k (with_stamp (get_or k.stamps p 0) (going_from (caller_body k.system k.world.contexts p
      who) held)) ≡ next.Calls call
      → run_in k.system meaning k.bound k.world p who held ≡ Nothing → IsSpinning who
  held_spins who None told none = absurd (cc)
  held_spins who (Some (Awaits c)) told none = absurd (cc)
  held_spins who (Some (Goes c)) told none =
      stretch_spins k.system meaning k.bound k.world p who call _ told none

  caller_spins : (o : Option Caller)
      → next_of code_meaning k (with_stamp (get_or k.stamps p 0) (going_by k.system k.world.contexts p o))
      ≡ next.Calls call
      → run_by k.system meaning k.bound k.world p o ≡ Nothing → IsSomeAnd o IsSpinning
  caller_spins None told none = absurd (cc)
  caller_spins (Some who) told none = held_spins who (context_of k.world.contexts p who) told none

  pub only_spins : next_run code_meaning k (p + 1) ≡ next.Calls call
      → step k.system meaning k.bound k.world (Run (p + 1)) ≡ Nothing
      → IsSomeAnd (actor_of (processor_at k.world.state p)) IsSpinning
  only_spins told none =
      let after : p + 1 ≡ suc p = omega arith in
      caller_spins (actor_of (processor_at k.world.state p))
      (subst (λ (n : ℕ). next_run code_meaning k n ≡ next.Calls call) after told)
      (subst (λ (n : ℕ). step k.system meaning k.bound k.world (Run n) ≡ Nothing) after none)
